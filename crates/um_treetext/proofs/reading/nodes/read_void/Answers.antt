use Rattle.std.proofs.Common.{refl}
use Rattle.um_treetext.specs.NodeLines.{column_said}
use Rattle.um_treetext.specs.Words.{taking}
use Rattle.um_treetext.proofs.Takes.{fails, takes_next}
use Rattle.um_treetext.proofs.reading.nodes.read_void.Goals as goal

pub returns-in_err-word : goal.returns-in_err-word
unfolding taking
returns-in_err-word c = fails _ c.in_err-word.field-0.0 _ _ c.from_residual.ensures.1 (rw c.in_err-word.ensures refl)

pub returns : goal.returns
returns c = takes_next c.column_of.result (column_said c.args.columns) c.args.words.now c.in_ok-word.field-0.now c.word.new.self c.in_ok-word.ensures c.column_of.ensures
