-- What the command `solve DECK [--nodes N] [--pivots N] [--tree FILE]` does: it solves the deck
-- within the budget that is asked for, writes the tree that proves the answer to the file, if one
-- is asked for, and reports the answer.
use Rattle.std.specs.Prelude.{◌≡◌, ℕ, ◌⊎◌, List, [], ◌∷◌, pos, Option, Some, None}
use Rattle.um_outside.specs.Scenes.{Scene, Asked, to_open, to_create}
use Rattle.um_outside.specs.Desks.{WentWell, ChangesOnly}
use Rattle.um_outside.specs.Sinks.{SinkScene}
use Rattle.um_outside.specs.WholeFiles.{ReadFaulted, WroteWhole, WriteFaulted}
use Rattle.um_model.specs.Values.{DeckValue}
use Rattle.um_model.specs.AnswerValues.{AnswerValue, plain_answer}
use Rattle.um_model.specs.declared.answer.Answer.{Answer}
use Rattle.um_search.specs.Conditions.{IsSearched}
use Rattle.um_search.specs.declared.budget.Budget.{Budget}
use Rattle.umpire.specs.Calls.{CallPromise, ComesTo, MakesNoFile, AsksInOrder}
use Rattle.umpire.specs.DeckFiles.{HasNoDeckOf}
use Rattle.umpire.specs.Solutions.{HasSearchedDeck, Answers}
use Rattle.umpire.specs.Refusals.{refusal_text}
use Rattle.um_report.specs.Reports.{report_text}
use Rattle.um_treetext.specs.TreeText.{tree_text}
use Rattle.um_words.specs.declared.job.SolveWords.{SolveWords}
use Rattle.umpire.specs.declared.ending.Ending.{Ending}
use Rattle.umpire.specs.declared.ending.Ending.TheVariants.{Answered, Judged, Printed, Refused}
use Rattle.umpire.specs.declared.ending.Ending.TheVariants.{Faulted, WithoutMemory}
use Rattle.umpire.specs.declared.outcome.Refusal.{Refusal}
use Rattle.umpire.specs.declared.outcome.Refusal.TheVariants.{Words, LowTolerance, Deck, Tree}
use Rattle.umpire.specs.declared.reading.Stop.{Stop}
use Rattle.umpire.specs.declared.reading.Stop.TheVariants as stop

-- ---- what is asked for

-- the budget of a search: the nodes and the pivots that are asked for; it has no tolerance
abbrev pub budget_of : SolveWords → Budget
budget_of line = record { nodes = line.nodes; pivots = line.pivots; tolerance = pos 0 }

-- the tree's file, where one is asked for
abbrev pub tree_file : Option (List ℕ) → List Asked
tree_file None = []
tree_file (Some name) = to_create name ∷ []

-- the files that are asked for: the deck, and then, once, the tree's
abbrev pub solve_files : SolveWords → List Asked
solve_files line = to_open line.deck ∷ tree_file line.tree

-- ---- what is due

-- the text was written to the file that was asked for, if one was
abbrev pub WritesTree : Option (List ℕ) → List ℕ → Scene → Scene → Type 0
WritesTree None text s t = t ≡ s
WritesTree (Some name) text s t = WroteWhole name text s t

-- the answer to the deck of this file, which was read; its tree was written whole to the file that
-- was asked for; and the text is its report
pub record Solves
    (line : SolveWords) (budget : Budget) (a : Answer) (text : List ℕ) (s t : Scene) : Type 0 where
  pub between : Scene
  pub deck : DeckValue
  pub deck_read : HasSearchedDeck line.deck deck s between
  pub answers : Answers deck budget (plain_answer a)
  pub tree : WritesTree line.tree (tree_text deck (plain_answer a)) between t
  pub report : text ≡ report_text deck (plain_answer a)

-- what was read before this refusal
abbrev pub SolveRefuses : SolveWords → Refusal → Scene → Scene → Type 0
SolveRefuses line (Deck fault) s t = HasNoDeckOf IsSearched line.deck fault s t
SolveRefuses line (Tree fault) s t = ⊥
SolveRefuses line (Words fault) s t = ⊥
SolveRefuses line (LowTolerance least) s t = ⊥

-- the report of the answer, or the line of a refusal
abbrev pub SolveDue : SolveWords → Budget → Scene → Scene → Ending → List ℕ → Type 0
SolveDue line budget s t (Answered a) text = Solves line budget a text s t
SolveDue line budget s t (Refused r) text = (text ≡ refusal_text r) × SolveRefuses line r s t
SolveDue line budget s t (Judged v) text = ⊥
SolveDue line budget s t Printed text = ⊥
SolveDue line budget s t Faulted text = ⊥
SolveDue line budget s t WithoutMemory text = ⊥

-- ---- how the desk fails

-- at the tree's file, when the deck had been read and solved
pub record FailsAtTreeFile (line : SolveWords) (budget : Budget) (s t : Scene) : Type 0 where
  pub between : Scene
  pub deck : DeckValue
  pub answer : AnswerValue
  pub file : List ℕ
  pub named : line.tree ≡ Some file
  pub deck_read : HasSearchedDeck line.deck deck s between
  pub answers : Answers deck budget answer
  pub fault : WriteFaulted file between t

-- at the deck, and then the tree's file is not asked for, or at the tree's file
abbrev pub SolveFails : SolveWords → Budget → Scene → Scene → Type 0
SolveFails line budget s t = ReadFaulted line.deck s t ⊎ FailsAtTreeFile line budget s t

-- ---- the whole command

-- at most the file that a tree is asked for is made or changed
abbrev pub MakesTree : Option (List ℕ) → Scene → Scene → Type 0
MakesTree None s t = MakesNoFile s t
MakesTree (Some name) s t = ChangesOnly name s.holds t.holds

-- the search within this budget: the text that is due was said, or the desk or the output failed,
-- or no memory was found; at most the tree's file was made, and of the files a front was asked for,
-- in this order
pub record SearchRan
    (line : SolveWords) (budget : Budget) (ending : Ending)
    (before after : Scene) (s t : SinkScene) : Type 0 where
  pub comes :
      ComesTo (SolveDue line budget before after) (SolveFails line budget before after)
      ending before after s t
  pub files : MakesTree line.tree before after
  -- where no memory is found no file is made
  pub alone : ending ≡ WithoutMemory → MakesNoFile before after
  pub asked : AsksInOrder (solve_files line) before after

-- the search within the budget that is asked for
abbrev pub SolveRan : SolveWords → CallPromise
SolveRan line = SearchRan line (budget_of line)

-- ---- the parts of the command, for private functions

-- the desk has not failed, no file was made, and a front of these was asked for
pub record SolveKeeps (line : SolveWords) (s t : Scene) : Type 0 where
  pub well : WentWell s t
  pub files : MakesNoFile s t
  pub asked : AsksInOrder (solve_files line) s t

-- the desk failed at one of the files, at most the tree's file was made, and a front of these was
-- asked for
pub record SolveFaulted (line : SolveWords) (budget : Budget) (s t : Scene) : Type 0 where
  pub fails : SolveFails line budget s t
  pub files : MakesTree line.tree s t
  pub asked : AsksInOrder (solve_files line) s t

-- the deck was solved, its tree written where that was asked for, and this is the report
pub record HasSolved
    (line : SolveWords) (budget : Budget) (a : Answer) (report : List ℕ)
    (s t : Scene) : Type 0 where
  pub solves : Solves line budget a report s t
  pub well : WentWell s t
  pub files : MakesTree line.tree s t
  pub asked : AsksInOrder (solve_files line) s t

-- why there is no answer
abbrev pub SolveStopped : SolveWords → Budget → Stop → Scene → Scene → Type 0
SolveStopped line budget (stop.Refused r) s t = SolveRefuses line r s t × SolveKeeps line s t
SolveStopped line budget stop.Fault s t = SolveFaulted line budget s t
SolveStopped line budget stop.Memory s t = SolveKeeps line s t
