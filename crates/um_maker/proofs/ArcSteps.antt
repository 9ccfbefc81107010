-- Arcs that are told to a maker.
use Rattle.std.proofs.Common.{◌≡◌, ℕ, ◌+◌, true, false, List, [], ◌∷◌, ◌++◌, None, Some, refl}
use Rattle.um_num.specs.declared.decimal.Decimal.{Decimal}
use Rattle.um_statements.specs.declared.fault.Fault.TheVariants.{UnknownRow, UnknownColumn}
use Rattle.um_statements.specs.declared.parts.ArcPart.{ArcPart}
use Rattle.um_statements.specs.Statements.{Name, ArcTold}
use Rattle.um_statements.specs.Said.{Said, row_place, column_place}
use Rattle.um_statements.specs.CallRules.{first_fault, fault_of, rules_of, with_statement}
use Rattle.um_maker.specs.Makers.{arc_rules, adds_column}
use Rattle.um_maker.proofs.MakerKept.{arcs_more, one_more, no_more}

pub unknown_row : (said : Said) (row column : Name) (value : Decimal) → row_place said.rows row ≡ None → fault_of said (ArcTold row column value) ≡ Some UnknownRow
unfolding rules_of
unknown_row said row column value none = rw none

pub unknown_arc_column : (said : Said) (row column : Name) (value : Decimal) (i : ℕ) → row_place said.rows row ≡ Some i → column_place said.columns column ≡ None → fault_of said (ArcTold row column value) ≡ Some UnknownColumn
unfolding rules_of
unknown_arc_column said row column value i at none = rw (at, none)

-- the other rules of an arc in a known row and at a known column
pub known_rules : (said : Said) (row column : Name) (value : Decimal) (i j : ℕ) → row_place said.rows row ≡ Some i → column_place said.columns column ≡ Some j
    → fault_of said (ArcTold row column value) ≡ first_fault (arc_rules said i j value)
unfolding rules_of
known_rules said row column value i j at there = rw (at, there) refl

pub arc_pushed : (said : Said) (row column : Name) (value : Decimal) (i j : ℕ) (arcs : List ArcPart) → row_place said.rows row ≡ Some i → column_place said.columns column ≡ Some j
    → arcs ≡ said.arcs ++ record { row = i; column = j; value = value } ∷ [] → record said { arcs = arcs } ≡ with_statement (ArcTold row column value) said
unfolding with_statement
arc_pushed said row column value i j arcs at there pushed = rw (at, there, pushed) refl

-- ---- how many columns have an arc

pub one_column : (said : Said) (row column : Name) (value : Decimal) (j n : ℕ) → column_place said.columns column ≡ Some j → adds_column said j value ≡ true → n + 1 ≡ n + arcs_more said (ArcTold row column value)
one_column said row column value j n at adds = rw at (one_more n (adds_column said j value) adds)

pub no_column : (said : Said) (row column : Name) (value : Decimal) (j n : ℕ) → column_place said.columns column ≡ Some j → adds_column said j value ≡ false → n ≡ n + arcs_more said (ArcTold row column value)
no_column said row column value j n at adds = rw at (no_more n (adds_column said j value) adds)
