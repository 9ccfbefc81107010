-- What is known of each row, column and set that was told.
use Rattle.std.proofs.Common.{◌≡◌, ℕ, ℤ, pos, neg_ℤ, [], ◌<◌, List, length, get_or, All, Option, sym, ap, ◌∙◌, subst}
use Rattle.std.specs.List.{Contains}
use Rattle.std.proofs.lemmas.List.{length-map, get_or-map}
use Rattle.um_num.specs.declared.decimal.Decimal.{Decimal}
use Rattle.um_statements.specs.Said.{Said, RowSaid}
use Rattle.um_statements.specs.Statements.{Name}
use Rattle.um_statements.specs.Scaled.{IsShortDecimal}
use Rattle.um_statements.specs.Made.{coefficients, arcs_in, of_objective, objective_scale, for_minimising, side_at}
use Rattle.um_made.specs.declared.rows.Objective.{Objective}
use Rattle.um_statements.specs.WellSaid.{IsSaid, IsRowSaid, IsColumnSaid, IsSetSaid}
use Rattle.um_statements.proofs.ListFacts.{unmapped}
use Rattle.um_made.specs.declared.parts.RowPart.{RowPart}
use Rattle.um_made.specs.declared.parts.ColumnPart.{ColumnPart}
use Rattle.um_made.specs.declared.parts.SetPart.{SetPart}
use Rattle.um_made.specs.declared.told.Told.{Told}
use Rattle.um_made.specs.Views.{row_said, column_said, set_said}
use Rattle.um_made.specs.declared.numbers.RowNumbers.{RowNumbers}
use Rattle.um_made.specs.Parts.{said}
use Rattle.um_statements.specs.declared.parts.EntryPart.{EntryPart}
use Rattle.um_made.specs.ColumnWords.{AreSlots}
use Rattle.um_made.specs.RowWords.{AreNumbers, IsObjective}
use Rattle.um_made.proofs.NumbersFit.{coefficients_small, arcs_small, objective_within, objective_row}

pub row_count : (t : Told) → length (said t).rows ≡ length t.rows.items
row_count t = length-map t.rows.items row_said

pub column_count : (t : Told) → length (said t).columns ≡ length t.columns.items
column_count t = length-map t.columns.items column_said

pub row_at : (t : Told) → IsSaid (said t) → (i : ℕ) (x : Name × RowPart) → i < length t.rows.items → x ≡ get_or t.rows.items i x → IsRowSaid (row_said x)
row_at t well i x within is = subst (λ (y : Name × RowPart). IsRowSaid (row_said y)) (sym is) (unmapped IsRowSaid row_said t.rows.items well.row_part.each i x within)

pub column_at : (t : Told) → IsSaid (said t) → (i : ℕ) (x : Name × ColumnPart) → i < length t.columns.items → x ≡ get_or t.columns.items i x → IsColumnSaid (length t.rows.items) (column_said x)
column_at t well i x within is =
    subst (λ (y : Name × ColumnPart). IsColumnSaid (length t.rows.items) (column_said y)) (sym is)
    (subst (λ n. IsColumnSaid n (column_said (get_or t.columns.items i x))) (row_count t) (unmapped (IsColumnSaid (length (said t).rows)) column_said t.columns.items well.column_part.each i x within))

pub set_at : (t : Told) → IsSaid (said t) → (i : ℕ) (x : Name × SetPart) → i < length t.sets.items → x ≡ get_or t.sets.items i x → IsSetSaid (length t.rows.items) (length t.columns.items) (set_said x)
set_at t well i x within is =
    subst (λ (y : Name × SetPart). IsSetSaid (length t.rows.items) (length t.columns.items) (set_said y)) (sym is)
    (subst (λ n. IsSetSaid (length t.rows.items) n (set_said (get_or t.sets.items i x))) (column_count t)
    (subst (λ n. IsSetSaid n (length (said t).columns) (set_said (get_or t.sets.items i x))) (row_count t) (unmapped (IsSetSaid (length (said t).rows) (length (said t).columns)) set_said t.sets.items well.set_part.each i x within)))

pub has_column : (t : Told) (i : ℕ) (x : Name × ColumnPart) → i < length t.columns.items → x ≡ get_or t.columns.items i x → Contains (said t).columns (column_said x)
has_column t i x within is =
    (i, rw (column_count t) within, get_or-map column_said t.columns.items i x (column_said x) within ∙ ap column_said (sym is))

module _ (t : Told) (rows : List RowNumbers) (are : AreNumbers (said t) rows) (i : ℕ) (r : RowNumbers) (within : i < length t.rows.items) (is : r ≡ get_or rows i r) where
  inside : i < length rows
  inside = rw are.count (rw (row_count t) within)

  pub coefficients_at : r.coefficients.items ≡ coefficients (said t) i
  coefficients_at = ap (λ (x : RowNumbers). x.coefficients.items) is ∙ are.coefficients_there i r inside

  pub arcs_at : r.arcs.items ≡ arcs_in (said t) i
  arcs_at = ap (λ (x : RowNumbers). x.arcs.items) is ∙ are.arcs_there i r inside

  pub small_coefficients : IsSaid (said t) → All IsShortDecimal r.coefficients.items
  small_coefficients well = subst (All IsShortDecimal) (sym coefficients_at) (coefficients_small (said t) well i)

  pub small_arcs : IsSaid (said t) → All IsShortDecimal r.arcs.items
  small_arcs well = subst (All IsShortDecimal) (sym arcs_at) (arcs_small (said t) well i)

pub slots_are : (t : Told) (es fs : List EntryPart) (n : ℕ) (slots : List (Option Decimal)) → AreSlots es n slots → es ≡ fs → n ≡ length t.rows.items → AreSlots fs (length (said t).rows) slots
slots_are t es fs n slots are same count =
    subst (λ (gs : List EntryPart). AreSlots gs (length (said t).rows) slots) same (subst (λ (m : ℕ). AreSlots es m slots) (count ∙ sym (row_count t)) are)

pub objective_name_at : (t : Told) (o : Objective) → IsObjective (said t) o → (x : Name × RowPart) → x ≡ get_or t.rows.items o.place x → x.0 ≡ of_objective (said t) (λ place r. r.name) []
objective_name_at t o h x is =
    let inside : o.place < length t.rows.items = rw (← row_count t) (objective_within (said t) (o.place, h.row) h.is) in
    let same : row_said x ≡ h.row = ap row_said is ∙ (sym (get_or-map row_said t.rows.items o.place x (row_said x) inside) ∙ objective_row (said t) (o.place, h.row) h.is (row_said x)) in
    rw h.is (ap (λ (r : RowSaid). r.name) same)

pub constant_made : (said : Said) (o : Objective) → IsObjective said o → (w : ℤ) → w ≡ for_minimising said.maximise (neg_ℤ o.side) → w ≡ for_minimising said.maximise (neg_ℤ (of_objective said (λ place r. side_at r (objective_scale said)) (pos 0)))
constant_made said o h w same = rw h.is (same ∙ ap (λ (z : ℤ). for_minimising said.maximise (neg_ℤ z)) (h.side_is ∙ ap (side_at h.row) h.scale_is))
