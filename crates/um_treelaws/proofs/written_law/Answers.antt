use Rattle.std.proofs.Common.{◌≡◌, ◌∙◌, ap, List, ℕ}
use Rattle.um_model.specs.Values.{DeckValue}
use Rattle.um_model.specs.AnswerValues.{AnswerValue}
use Rattle.um_treetext.specs.Reading.{TreeText, tree_read}
use Rattle.um_treetext.specs.TreeText.{tree_text}
use Rattle.um_treetext.specs.Writable.{IsWritable}
use Rattle.um_treelaws.proofs.ReadText.{read_written}
use Rattle.um_treelaws.proofs.WrittenText.{written_read}
use Rattle.um_treelaws.proofs.written_law.Goals as goal

back : (d : DeckValue) (bytes : List ℕ) (a : AnswerValue) → IsWritable d a × (bytes ≡ tree_text d a) → TreeText d bytes a
back d bytes a (writable, is) = ap (tree_read d) is ∙ written_read d a writable

pub returns : goal.returns
returns c = λ d bytes a. (read_written d bytes a, back d bytes a)
