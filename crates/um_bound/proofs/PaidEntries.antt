-- What rows pay for a unit of a column: the sum over the rows is that over the column's entries.
use Rattle.std.proofs.Common.{◌≡◌, ◌≢◌, ◌∙◌, ℕ, ◌^◌, ◌<◌, ◌≤◌, ℤ, pos, ◌+ℤ◌, ◌*ℤ◌, List, [], ◌∷◌, length, get_or, refl, sym, ap, arith, inl, inr}
use Rattle.std.specs.Prelude.{◌==◌, if◌then◌else◌, All}
use Rattle.std.proofs.lemmas.Bool.{eq-eqb, ne_eqb}
use Rattle.std.proofs.lemmas.Int.{ints}
use Rattle.um_laws.specs.Sums.{sum_of}
use Rattle.um_laws.proofs.SumLaws.{sum_of-same, sum_of-same_in, sum_of-swap, sum_of-*ℤ}
use Rattle.um_laws.proofs.WholeLaws.{*ℤ-+ℤ, *ℤ_comm}
use Rattle.um_model.specs.Feasible.{part}
use Rattle.um_model.specs.Values.{ColumnValue}
use Rattle.um_model.specs.WellFormed.{IsColumn, IsWithin}
use Rattle.um_model.specs.declared.deck.Entry.{Entry}
use Rattle.um_multipliers.specs.declared.multipliers.Price.{Price}
use Rattle.um_bound.specs.RowPrices.{AreRowPrices, price_of}
use Rattle.um_bound.proofs.PricesByRow.{price_in, price_same, price_other, same_or_not}
use Rattle.um_bound.proofs.RisingRows.{few_items}

-- what an entry gives to a row
abbrev entry_in : ℕ → Entry → ℤ
entry_in row e = if e.row == row then e.value else pos 0

entry_same : (row : ℕ) (e : Entry) → row ≡ e.row → entry_in row e ≡ e.value
entry_same row e h = rw (eq-eqb e.row row (sym h)) refl

entry_other : (row : ℕ) (e : Entry) → row ≢ e.row → entry_in row e ≡ pos 0
entry_other row e h = rw (ne_eqb e.row row (λ s. h (sym s))) refl

times_sum : (a b f : ℤ) → (a +ℤ b) *ℤ f ≡ a *ℤ f +ℤ b *ℤ f
times_sum a b f = omega (arith, ints, *ℤ-+ℤ f a b, *ℤ_comm f (a +ℤ b), *ℤ_comm f a, *ℤ_comm f b)

-- a row pays for an entry where the entry is the row's
row_pays : (p : Price) (e : Entry) → p.value *ℤ entry_in p.row e ≡ price_in e.row p *ℤ e.value
row_pays p e = elim (same_or_not p.row e.row) [
  | inl same ↦ rw (entry_same p.row e same, price_same e.row p (sym same)) refl
  | inr other ↦ rw (entry_other p.row e other, price_other e.row p (λ s. other (sym s))) (omega (arith, ints))
]

-- what all rows pay for an entry
entry_paid : (ps : List Price) (e : Entry) → sum_of (λ (p : Price). p.value *ℤ entry_in p.row e) ps ≡ price_of ps e.row *ℤ e.value
entry_paid [] e = omega (arith, ints)
entry_paid (p ∷ ps) e = omega (arith, ints, row_pays p e, entry_paid ps e, times_sum (price_in e.row p) (price_of ps e.row) e.value)

-- over the rows, and over the entries
exchanged : (ps : List Price) (es : List Entry) → sum_of (λ (p : Price). p.value *ℤ sum_of (entry_in p.row) es) ps ≡ sum_of (λ (e : Entry). price_of ps e.row *ℤ e.value) es
exchanged ps es =
    sum_of-same (λ (p : Price). p.value *ℤ sum_of (entry_in p.row) es) (λ (p : Price). sum_of (λ (e : Entry). p.value *ℤ entry_in p.row e) es) ps (λ p. sym (sum_of-*ℤ p.value (entry_in p.row) es))
    ∙ sum_of-swap (λ (p : Price) (e : Entry). p.value *ℤ entry_in p.row e) ps es
    ∙ sum_of-same (λ (e : Entry). sum_of (λ (p : Price). p.value *ℤ entry_in p.row e) ps) (λ (e : Entry). price_of ps e.row *ℤ e.value) es (entry_paid ps)

-- over the entries, at multipliers laid out by row
pub paid_by_entries : (ps : List Price) (by_row : List ℤ) (es : List Entry) → AreRowPrices ps by_row → All (λ (e : Entry). e.row < 512) es
    → sum_of (λ (e : Entry). part by_row e.row *ℤ e.value) es ≡ sum_of (λ (p : Price). p.value *ℤ sum_of (entry_in p.row) es) ps
paid_by_entries ps by_row es h inside =
    sum_of-same_in (λ (e : Entry). part by_row e.row *ℤ e.value) (λ (e : Entry). price_of ps e.row *ℤ e.value) es
    (λ k d l. ap (λ (z : ℤ). z *ℤ (get_or es k d).value) (h.each (get_or es k d).row (inside k d l)))
    ∙ sym (exchanged ps es)

-- ---- the entries of a column

module _ (rows : ℕ) (c : ColumnValue) (few : rows ≤ 512) (h : IsColumn rows c) where
  pub few_entries : length c.entries ≤ 512
  few_entries = omega (arith, few, few_items (λ (e : Entry). e.row) c.entries rows h.rise (λ k d l. (h.entries k d l).row))

  pub entries_inside : All (λ (e : Entry). e.row < 512) c.entries
  entries_inside = λ k d l. omega (arith, few, (h.entries k d l).row)

pub entries_within : (rows : ℕ) (c : ColumnValue) → IsColumn rows c → All (λ (e : Entry). IsWithin (2 ^ 31) e.value) c.entries
entries_within rows c h = λ k d l. (h.entries k d l).size
