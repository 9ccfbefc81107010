-- The file of a tree: what it says of a deck, and why else it is not taken.
use Rattle.std.specs.Prelude.{◌≡◌, ℕ, ◌≤◌, ◌⊎◌, List, length}
use Rattle.um_outside.specs.Scenes.{Scene}
use Rattle.um_outside.specs.WholeFiles.{ReadWhole, ReadTooMuch}
use Rattle.um_model.specs.Values.{DeckValue}
use Rattle.um_model.specs.AnswerValues.{AnswerValue}
use Rattle.um_model.specs.declared.limits.TheConstants.{MOST_TREE_BYTES}
use Rattle.um_treetext.specs.declared.fault.TreeFault.{TreeFault}
use Rattle.um_treetext.specs.declared.fault.TreeWord.TheVariants as tree
use Rattle.um_treetext.specs.Reading.{TreeText, TreeFaultAt}
use Rattle.umpire.specs.DeckFiles.{HasOther}

-- the refusal of a file that is longer than any tree: it names no line
abbrev pub long_tree : TreeFault
long_tree = record { line = 0; fault = tree.TooMany }

-- the file of this name was read to its end, has no more bytes than a tree may have, and is the text of this answer
-- for the deck
pub record HasTree
    (d : DeckValue) (name : List ℕ) (a : AnswerValue) (s t : Scene) : Type 0 where
  pub bytes : List ℕ
  pub read : ReadWhole name bytes s t
  pub size : length bytes ≤ MOST_TREE_BYTES
  pub text : TreeText d bytes a

-- why the file of this name is not taken as a tree for the deck: this is the first rule that its
-- bytes break, or it has more bytes than a tree may have
abbrev pub HasNoTree : DeckValue → List ℕ → TreeFault → Scene → Scene → Type 0
HasNoTree d name f s t =
    HasOther (λ bytes. TreeFaultAt d bytes f.line f.fault) name s t
    ⊎ ((f ≡ long_tree) × ReadTooMuch name MOST_TREE_BYTES s t)
