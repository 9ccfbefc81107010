-- What the command `check DECK TREE` does: it says whether the tree proves its answer to the deck.
use Rattle.std.specs.Prelude.{◌≡◌, ℕ, ◌⊎◌, List, [], ◌∷◌}
use Rattle.um_outside.specs.Scenes.{Scene, Asked, to_open}
use Rattle.um_outside.specs.Desks.{WentWell}
use Rattle.um_outside.specs.Sinks.{SinkScene}
use Rattle.um_outside.specs.WholeFiles.{ReadFaulted}
use Rattle.um_model.specs.Values.{DeckValue}
use Rattle.um_model.specs.AnswerValues.{AnswerValue}
use Rattle.um_model.specs.declared.verdict.Verdict.{Verdict}
use Rattle.umpire.specs.Calls.{ComesTo, MakesNoFile, AsksInOrder}
use Rattle.um_treetext.specs.declared.fault.TreeFault.{TreeFault}
use Rattle.umpire.specs.DeckFiles.{HasDeck, HasNoDeck}
use Rattle.umpire.specs.TreeFiles.{HasTree, HasNoTree}
use Rattle.umpire.specs.Findings.{IsFinding}
use Rattle.umpire.specs.Refusals.{refusal_text}
use Rattle.um_report.specs.Verdicts.{verdict_text}
use Rattle.umpire.specs.declared.ending.Ending.{Ending}
use Rattle.umpire.specs.declared.ending.Ending.TheVariants.{Answered, Judged, Printed, Refused}
use Rattle.umpire.specs.declared.ending.Ending.TheVariants.{Faulted, WithoutMemory}
use Rattle.umpire.specs.declared.outcome.Refusal.{Refusal}
use Rattle.umpire.specs.declared.outcome.Refusal.TheVariants.{Words, LowTolerance, Deck, Tree}
use Rattle.umpire.specs.declared.reading.Stop.{Stop}
use Rattle.umpire.specs.declared.reading.Stop.TheVariants as stop

-- ---- the files

-- the names of the two files
pub record CheckNames : Type 0 where
  pub deck : List ℕ
  pub tree : List ℕ

-- the files that are asked for: the deck, then the tree
abbrev pub check_files : CheckNames → List Asked
check_files names = to_open names.deck ∷ to_open names.tree ∷ []

-- ---- what is due

-- the deck was read from its file, then the tree from its own, and this is the verdict on them
pub record Judges (names : CheckNames) (v : Verdict) (s t : Scene) : Type 0 where
  pub between : Scene
  pub deck : DeckValue
  pub answer : AnswerValue
  pub deck_read : HasDeck names.deck deck s between
  pub tree_read : HasTree deck names.tree answer between t
  pub finding : IsFinding deck answer v

-- the deck was read from its file, and then the tree's file, which is not taken for this fault
pub record RefusesTree (names : CheckNames) (f : TreeFault) (s t : Scene) : Type 0 where
  pub between : Scene
  pub deck : DeckValue
  pub deck_read : HasDeck names.deck deck s between
  pub refused : HasNoTree deck names.tree f between t

-- what was read before this refusal
abbrev pub CheckRefuses : CheckNames → Refusal → Scene → Scene → Type 0
CheckRefuses names (Deck fault) s t = HasNoDeck names.deck fault s t
CheckRefuses names (Tree fault) s t = RefusesTree names fault s t
CheckRefuses names (Words fault) s t = ⊥
CheckRefuses names (LowTolerance least) s t = ⊥

-- the line of the verdict on the files, or that of a refusal
abbrev pub CheckDue : CheckNames → Scene → Scene → Ending → List ℕ → Type 0
CheckDue names s t (Judged v) text = (text ≡ verdict_text v) × Judges names v s t
CheckDue names s t (Refused r) text = (text ≡ refusal_text r) × CheckRefuses names r s t
CheckDue names s t (Answered a) text = ⊥
CheckDue names s t Printed text = ⊥
CheckDue names s t Faulted text = ⊥
CheckDue names s t WithoutMemory text = ⊥

-- ---- how the desk fails

-- at the tree, when the deck had been read
pub record FailsAtTree (names : CheckNames) (s t : Scene) : Type 0 where
  pub between : Scene
  pub deck : DeckValue
  pub deck_read : HasDeck names.deck deck s between
  pub fault : ReadFaulted names.tree between t

-- at the deck, and then the tree is not asked for, or at the tree
abbrev pub CheckFails : CheckNames → Scene → Scene → Type 0
CheckFails names s t = ReadFaulted names.deck s t ⊎ FailsAtTree names s t

-- ---- the whole command

-- the text that is due was said, or the desk or the output failed, or no memory was found; no file
-- was made, and of the two files a front was asked for, in this order
pub record CheckRan
    (names : CheckNames) (ending : Ending) (before after : Scene) (s t : SinkScene) : Type 0 where
  pub comes :
      ComesTo (CheckDue names before after) (CheckFails names before after) ending before after s t
  pub files : MakesNoFile before after
  pub asked : AsksInOrder (check_files names) before after

-- ---- the parts of the command, for private functions

-- the desk has not failed, no file was made, and a front of these was asked for
pub record CheckKeeps (names : CheckNames) (s t : Scene) : Type 0 where
  pub well : WentWell s t
  pub files : MakesNoFile s t
  pub asked : AsksInOrder (check_files names) s t

-- the desk failed at one of the files, no file was made, and a front of these was asked for
pub record CheckFaulted (names : CheckNames) (s t : Scene) : Type 0 where
  pub fails : CheckFails names s t
  pub files : MakesNoFile s t
  pub asked : AsksInOrder (check_files names) s t

-- both files were read and judged
pub record HasJudged (names : CheckNames) (v : Verdict) (s t : Scene) : Type 0 where
  pub judges : Judges names v s t
  pub keeps : CheckKeeps names s t

-- why there is no verdict
abbrev pub CheckStopped : CheckNames → Stop → Scene → Scene → Type 0
CheckStopped names (stop.Refused r) s t = CheckRefuses names r s t × CheckKeeps names s t
CheckStopped names stop.Fault s t = CheckFaulted names s t
CheckStopped names stop.Memory s t = CheckKeeps names s t
