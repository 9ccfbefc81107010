-- Multipliers that are laid out by row, one after the other.
use Rattle.std.proofs.Common.{◌≡◌, ◌≢◌, ◌∙◌, ℕ, zero, suc, ◌+◌, ◌^◌, ◌<◌, ◌≤◌, ℤ, pos, List, [], ◌∷◌, length, get_or, take, slice_set, refl, sym, arith, unsigned_abs, ◌⊎◌, inl, inr}
use Rattle.std.specs.Prelude.{◌==◌, if◌then◌else◌, All, AllPairs}
use Rattle.std.proofs.lemmas.Bool.{eq-eqb, ne_eqb}
use Rattle.std.proofs.lemmas.Int.{ints}
use Rattle.std.proofs.lemmas.List.{length-set, get_or-set_same, get_or-set_other}
use Rattle.std.proofs.lemmas.List.Elements.{All-set}
use Rattle.um_laws.proofs.SumLaws.{sum_of_more}
use Rattle.um_model.specs.Feasible.{part}
use Rattle.um_multipliers.specs.declared.multipliers.Price.{Price}
use Rattle.um_bound.specs.RowPrices.{AreRowPrices, price_of}

-- what a multiplier gives to a row
abbrev pub price_in : ℕ → Price → ℤ
price_in row p = if p.row == row then p.value else pos 0

pub price_same : (row : ℕ) (p : Price) → row ≡ p.row → price_in row p ≡ p.value
price_same row p e = rw (eq-eqb p.row row (sym e)) refl

pub price_other : (row : ℕ) (p : Price) → row ≢ p.row → price_in row p ≡ pos 0
price_other row p h = rw (ne_eqb p.row row (λ s. h (sym s))) refl

pub same_or_not : (m n : ℕ) → (m ≡ n) ⊎ (m ≢ n)
same_or_not m n = grind arith

-- none of the first multipliers is of this row
none_yet : (row : ℕ) (ps : List Price) (d : Price) (n : ℕ) → n ≤ length ps → ((k : ℕ) → k < n → row ≢ (get_or ps k d).row) → price_of (take n ps) row ≡ pos 0
none_yet row ps d zero l h = refl
none_yet row [] d (suc n) l h = absurd (omega arith)
none_yet row (p ∷ ps) d (suc n) l h =
    omega (arith, ints, price_other row p (h 0 (omega arith)), none_yet row ps d n (omega arith) (λ k m. h (suc k) (omega arith)))

-- one multiplier more
module _ (ps : List Price) (i : ℕ) (d : Price) (by_row : List ℤ) (l : i < length ps) (sizes : All (λ (p : Price). unsigned_abs p.value < 2 ^ 40) ps) (inside : All (λ (p : Price). p.row < 512) ps)
    (rise : AllPairs (λ (a : Price) (b : Price). a.row < b.row) ps) (h : AreRowPrices (take i ps) by_row) where
  here : price_of (take (i + 1) ps) (get_or ps i d).row ≡ (get_or ps i d).value
  here =
      let row : ℕ = (get_or ps i d).row in
      let none : price_of (take i ps) row ≡ pos 0 = none_yet row ps d i (omega arith) (λ k below e. let earlier : (get_or ps k d).row < row = rise k i d below l in omega (arith, earlier, e)) in
      omega (arith, ints, sum_of_more (price_in row) ps i d l, none, price_same row (get_or ps i d) refl)

  there : (row : ℕ) → row ≢ (get_or ps i d).row → price_of (take (i + 1) ps) row ≡ price_of (take i ps) row
  there row other = omega (arith, ints, sum_of_more (price_in row) ps i d l, price_other row (get_or ps i d) other)

  pub laid_out : AreRowPrices (take (i + 1) ps) (slice_set by_row (get_or ps i d).row (get_or ps i d).value)
  laid_out =
      let place : ℕ = (get_or ps i d).row in
      let value : ℤ = (get_or ps i d).value in
      let within : place < length by_row = omega (arith, inside i d l, h.long) in
      let at_place : part (slice_set by_row place value) place ≡ price_of (take (i + 1) ps) place = get_or-set_same by_row place value (pos 0) within ∙ sym here in record {
        long = length-set by_row place value ∙ h.long;
        each = λ row below. elim (same_or_not row place) [
          | inl same ↦ rw same at_place
          | inr other ↦ get_or-set_other by_row place row value (pos 0) other ∙ h.each row below ∙ sym (there row other)
        ];
        sizes = All-set (λ z. unsigned_abs z < 2 ^ 40) by_row place value (sizes i d l) h.sizes;
      }
