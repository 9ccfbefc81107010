-- The lines of refusals.
use Rattle.std.specs.Prelude.{ℕ, List, [], ◌∷◌, ◌++◌, codes, decimal}
use Rattle.um_statements.specs.FaultWords.{fault_word}
use Rattle.um_treetext.specs.FaultWords.{tree_fault_word}
use Rattle.um_words.specs.Faults.{words_fault_word}
use Rattle.umpire.specs.declared.outcome.Refusal.{Refusal}
use Rattle.umpire.specs.declared.outcome.Refusal.TheVariants.{Words, LowTolerance, Deck, Tree}

-- a text and its line end
abbrev pub line : List ℕ → List ℕ
line text = text ++ 10 ∷ []

-- what was refused, why, and for a file at which line
abbrev pub refusal_text : Refusal → List ℕ
refusal_text (Words fault) = line (codes "words refused: " ++ words_fault_word fault)
refusal_text (LowTolerance least) = line (codes "words refused: LowTolerance")
refusal_text (Deck fault) = line (codes "deck refused: " ++ fault_word fault.fault ++ codes " at line " ++ decimal fault.line)
refusal_text (Tree fault) = line (codes "tree refused: " ++ tree_fault_word fault.fault ++ codes " at line " ++ decimal fault.line)
