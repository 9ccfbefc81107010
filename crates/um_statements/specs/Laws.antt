-- Laws on what is said of a deck: one statement more changes what is collected as a call changes a maker.
use Rattle.std.specs.Prelude.{◌≡◌, ℕ, false, Bool, List, [], ◌∷◌, ◌++◌, All, Option, None}
use Rattle.um_num.specs.declared.decimal.Decimal.{Decimal}
use Rattle.um_model.specs.Values.{DeckValue}
use Rattle.um_model.specs.declared.deck.Arc.{Arc}
use Rattle.um_model.specs.WellFormed.{IsRow, IsDeck}
use Rattle.um_statements.specs.declared.parts.BoundKind.{BoundKind}
use Rattle.um_statements.specs.Statements.{Statement}
use Rattle.um_statements.specs.Said.{Said, RowSaid, ends_of, collected, nothing_said}
use Rattle.um_statements.specs.Made.{row_made, deck_value}
use Rattle.um_statements.specs.DeckRules.{row_rules, deck_fault}
use Rattle.um_statements.specs.WellSaid.{IsSaid, HasNumbers}
use Rattle.um_statements.specs.CallRules.{is_n, first_fault, fault_of, faults_in, with_bound, with_statement, with_all}

-- what the last bounds set is what each bound in turn sets
abbrev pub EndsLaw : Type 0
EndsLaw = (in_block : Bool) (bounds : List (BoundKind × Option Decimal)) (kind : BoundKind) (value : Option Decimal)
    → ends_of in_block (bounds ++ (kind, value) ∷ []) ≡ with_bound kind value (ends_of in_block bounds)

-- what is collected is what a maker knows that was told one statement after the other, none of which breaks a rule
abbrev pub CollectedLaw : Type 0
CollectedLaw = (told : List Statement) → faults_in nothing_said told ≡ None → collected told ≡ with_all told nothing_said

-- the same for a maker that goes on: behind what was told without a fault, more statements without a fault
pub record TakesMore (before more : List Statement) : Type 0 where
  pub same : collected (before ++ more) ≡ with_all more (collected before)
  pub unbroken : faults_in nothing_said (before ++ more) ≡ None

abbrev pub MoreLaw : Type 0
MoreLaw = (before more : List Statement) → faults_in nothing_said before ≡ None → faults_in (collected before) more ≡ None → TakesMore before more

-- a row that breaks no rule is a row of a deck
abbrev pub MadeRowLaw : Type 0
MadeRowLaw = (said : Said) (p : ℕ × RowSaid) → is_n p.1.kind ≡ false → first_fault (row_rules said p) ≡ None → IsRow (row_made said p)

-- ---- what is made is well formed

-- a well-formed deck whose arcs are all in the objective
pub record IsDeckOfObjective (d : DeckValue) : Type 0 where
  pub formed : IsDeck d
  pub objective_arcs : All (λ (a : Arc). a.row ≡ None) d.arcs

-- what is said keeps its form: of nothing it holds, and each statement without a fault keeps it
pub record SaidLaw : Type 0 where
  pub first : IsSaid nothing_said
  pub next : (said : Said) (s : Statement) → HasNumbers s → fault_of said s ≡ None → IsSaid said → IsSaid (with_statement s said)

-- so it holds of all that is told without a fault
abbrev pub SaidAllLaw : Type 0
SaidAllLaw = (told : List Statement) → All HasNumbers told → faults_in nothing_said told ≡ None → IsSaid (collected told)

-- what breaks no rule as a whole is a well-formed deck
abbrev pub MadeDeckLaw : Type 0
MadeDeckLaw = (said : Said) → IsSaid said → deck_fault said ≡ None → IsDeckOfObjective (deck_value said)
