-- The entries of a column by rising row, and its cost.
use Rattle.std.proofs.Common.{◌≡◌, ℕ, ◌+◌, ◌<◌, ◌≤◌, ◌^◌, ℤ, List, [], ◌∷◌, map, length, get_or, filter_map, Option, None, All, refl, sym, ap, ◌∙◌, subst, arith, unwrap_or}
use Rattle.std.specs.Option.{ForSome}
use Rattle.std.specs.List.{Contains, enumerate_from, cons_option}
use Rattle.std.proofs.lemmas.List.Elements.{All-head, All-tail, All-map}
use Rattle.um_num.specs.declared.decimal.Decimal.{Decimal}
use Rattle.um_statements.specs.Said.{Said, RowSaid, ColumnSaid}
use Rattle.um_statements.specs.Scaled.{times_ten}
use Rattle.um_statements.specs.Made.{nothing, for_minimising, entry_in, entry_made, row_scale, sided_rows, column_made}
use Rattle.um_made.specs.declared.rows.Objective.{Objective}
use Rattle.um_statements.specs.WellSaid.{IsSaid}
use Rattle.um_statements.specs.Made.{deck_value, row_made}
use Rattle.um_statements.proofs.MadeColumns.{row_facts}
use Rattle.um_statements.proofs.MadeNames.{made_row_count}
use Rattle.std.proofs.lemmas.List.{length-map}
use Rattle.um_made.specs.declared.rows.SidedRow.{SidedRow}
use Rattle.um_made.specs.RowWords.{sided_row, HaveNoFault, IsObjective}
use Rattle.um_made.specs.ColumnWords.{AreSlots, Fits, entry_of}
use Rattle.um_made.proofs.NumbersFit.{sided_within, rows_fine, coefficient_fits}

entries_from : (said : Said) (c : ColumnSaid) (slots : List (Option Decimal)) (ps : List (ℕ × RowSaid)) (n : ℕ) → All (λ (p : ℕ × RowSaid). get_or slots p.0 None ≡ entry_in p.0 c) ps
    → filter_map (entry_of slots) (enumerate_from n (map (sided_row said) ps)) ≡ filter_map (entry_made said c) (enumerate_from n ps)
entries_from said c slots [] n all = refl
entries_from said c slots (p ∷ ps) n all =
    rw (All-head (λ (q : ℕ × RowSaid). get_or slots q.0 None ≡ entry_in q.0 c) p ps all)
    (ap (cons_option (entry_made said c (n, p))) (entries_from said c slots ps (n + 1) (All-tail (λ (q : ℕ × RowSaid). get_or slots q.0 None ≡ entry_in q.0 c) p ps all)))

slots_hold : (said : Said) (c : ColumnSaid) (slots : List (Option Decimal)) → AreSlots c.entries (length said.rows) slots → All (λ (p : ℕ × RowSaid). get_or slots p.0 None ≡ entry_in p.0 c) (sided_rows said)
slots_hold said c slots are = λ k d within. are.each (get_or (sided_rows said) k d).0 (sided_within said k d within)

pub entries_made : (said : Said) (c : ColumnSaid) (slots : List (Option Decimal)) → AreSlots c.entries (length said.rows) slots
    → filter_map (entry_of slots) (enumerate_from 0 (map (sided_row said) (sided_rows said))) ≡ filter_map (entry_made said c) (enumerate_from 0 (sided_rows said))
entries_made said c slots are = entries_from said c slots (sided_rows said) 0 (slots_hold said c slots are)

pub places_within : (said : Said) (c : ColumnSaid) (slots : List (Option Decimal)) → AreSlots c.entries (length said.rows) slots → All (λ (r : SidedRow). r.place < length slots) (map (sided_row said) (sided_rows said))
places_within said c slots are = rw are.length_is (All-map (λ (r : SidedRow). r.place < length said.rows) (sided_row said) (sided_rows said) (sided_within said))

pub scales_low : (said : Said) → HaveNoFault said → All (λ (r : SidedRow). r.scale ≤ 6) (map (sided_row said) (sided_rows said))
scales_low said fine =
    All-map (λ (r : SidedRow). r.scale ≤ 6) (sided_row said) (sided_rows said) (λ k d within. (row_facts said (get_or (sided_rows said) k d) (rows_fine said fine k d within)).scale)

pub slots_fit : (said : Said) → IsSaid said → HaveNoFault said → (c : ColumnSaid) (slots : List (Option Decimal)) → Contains said.columns c → AreSlots c.entries (length said.rows) slots
    → All (λ (r : SidedRow). ForSome (get_or slots r.place None) (Fits (2 ^ 31) r.scale)) (map (sided_row said) (sided_rows said))
slots_fit said well fine c slots inside are =
    All-map (λ (r : SidedRow). ForSome (get_or slots r.place None) (Fits (2 ^ 31) r.scale)) (sided_row said) (sided_rows said)
    (λ k d within.
    let p : ℕ × RowSaid = get_or (sided_rows said) k d in
    subst (λ o. ForSome o (Fits (2 ^ 31) (row_scale said p.0 p.1))) (sym (slots_hold said c slots are k d within)) (coefficient_fits said well p (rows_fine said fine k d within) c inside))

pub cost_made : (said : Said) (o : Objective) → IsObjective said o → (c : ColumnSaid) (slot : Option Decimal) (z w : ℤ) → slot ≡ entry_in o.place c → z ≡ times_ten (unwrap_or slot nothing) o.scale → w ≡ for_minimising said.maximise z → w ≡ (column_made said c).cost
cost_made said o h c slot z w there scaled same =
    rw h.is
    (same ∙ ap (for_minimising said.maximise) (scaled ∙ (ap (λ (v : Option Decimal). times_ten (unwrap_or v nothing) o.scale) there ∙ ap (times_ten (unwrap_or (entry_in o.place c) nothing)) h.scale_is)))

pub sided_count : (said : Said) → IsSaid said → length (map (sided_row said) (sided_rows said)) ≤ 1024
unfolding deck_value
sided_count said well =
    let few = made_row_count said well in
    omega (arith, few, length-map (sided_rows said) (sided_row said), length-map (sided_rows said) (row_made said))
