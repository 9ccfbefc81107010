-- What a maker keeps, and the rules of its calls on parts that were found.
use Rattle.std.specs.Prelude.{◌≡◌, ℕ, Bool, ◌&&◌, not, false, nat_eq, nat_le, List, [], ◌∷◌, Option, count_by}
use Rattle.std.specs.List.{list_any}
use Rattle.std.specs.Option.{option_map_or}
use Rattle.um_num.specs.declared.decimal.Decimal.{Decimal}
use Rattle.um_statements.specs.declared.fault.Fault.TheVariants.{TwiceEntry, ArcRow, TooMany, TooFine, TooLarge}
use Rattle.um_statements.specs.declared.parts.BoundKind.{BoundKind}
use Rattle.um_statements.specs.declared.parts.ArcPart.{ArcPart}
use Rattle.um_statements.specs.Scaled.{is_whole_at, is_within_at}
use Rattle.um_statements.specs.Said.{Said, RowSaid}
use Rattle.um_statements.specs.CallRules.{Rule, is_n, is_at, is_zero, is_large_bound, objective_place, has_kept_arc, said_arc_columns}
use Rattle.um_statements.specs.WellSaid.{IsSaid}
use Rattle.um_model.specs.declared.limits.TheConstants.{MOST_ARC_COLUMNS, MOST_WEIGHT}

-- What was said is well said. Beside it a maker keeps the place of the objective, how many rows are not N, and
-- how many columns have an arc that is not 0.
pub record IsMaker (said : Said) (objective : Option ℕ) (sided_rows arc_columns : ℕ) : Type 0 where
  pub well : IsSaid said
  pub first_n : objective ≡ objective_place said.rows
  pub sided : sided_rows ≡ count_by (λ (r : RowSaid). not (is_n r.kind)) said.rows
  pub curved : arc_columns ≡ said_arc_columns said

-- the rules on a bound's value
abbrev pub value_rules : BoundKind → Option Decimal → List Rule
value_rules kind value =
    (option_map_or (λ v. not (is_whole_at 3 v)) value false, TooFine)
    ∷ (option_map_or (is_large_bound kind) value false, TooLarge) ∷ []

-- the rules on a member's weight
abbrev pub weight_rules : Option Decimal → List Rule
weight_rules weight =
    (option_map_or (λ v. not (is_whole_at 6 v)) weight false, TooFine)
    ∷ (option_map_or (λ v. not (is_within_at MOST_WEIGHT 6 v)) weight false, TooLarge) ∷ []

-- an arc stands in this row and at this column
abbrev pub has_arc : List ArcPart → ℕ → ℕ → Bool
has_arc arcs row column = list_any (λ (a : ArcPart). nat_eq row a.row && nat_eq column a.column) arcs

-- an arc with this value gives its column the first arc that is not 0
abbrev pub adds_column : Said → ℕ → Decimal → Bool
adds_column said column value = not (is_zero value) && not (has_kept_arc said column)

-- the rules on an arc in this row and at this column
abbrev pub arc_rules : Said → ℕ → ℕ → Decimal → List Rule
arc_rules said row column value =
    (not (is_at (objective_place said.rows) row), ArcRow)
    ∷ (has_arc said.arcs row column, TwiceEntry)
    ∷ (adds_column said column value && nat_le MOST_ARC_COLUMNS (said_arc_columns said), TooMany) ∷ []
