-- Multipliers that are read from whole numbers, one for each row, are in normal form.
use Rattle.std.proofs.Common.{◌≡◌, ◌≢◌, ℕ, ◌+◌, ◌<◌, ◌≤◌, zero, suc, nat_eq, Bool, true, false, List, [], ◌∷◌, length, refl, subst, arith}
use Rattle.std.specs.Prelude.{ℤ, pos, unsigned_abs, All, AllPairs, slice_index_or, if◌then◌else◌}
use Rattle.std.proofs.lemmas.List.Kept.{AllPairs-cons}
use Rattle.um_multipliers.specs.NormalForm.{HasRisingRows}
use Rattle.um_multipliers.specs.declared.multipliers.Price.{Price}
use Rattle.um_duality.specs.WholeMultiples.{prices_from}

-- each is of a row from this one on, and below this many
pub record AreOfRows (from below : ℕ) (ps : List Price) : Type 0 where
  pub low : All (λ (p : Price). from ≤ p.row) ps
  pub high : All (λ (p : Price). p.row < below) ps
  pub rise : AllPairs (λ (a : Price) (b : Price). a.row < b.row) ps
  pub nonzero : All (λ (p : Price). p.value ≢ pos 0) ps

pub none_of : (P : Price → Type 0) → All P []
none_of P k d inside = absurd (omega arith)

also : (P : Price → Type 0) (x : Price) (xs : List Price) → P x → All P xs → All P (x ∷ xs)
also P x xs h all zero d inside = h
also P x xs h all (suc k) d inside = all k d (omega arith)

weaker : (P Q : Price → Type 0) (xs : List Price) → ((x : Price) → P x → Q x) → All P xs → All Q xs
weaker P Q xs h all k d inside = h (slice_index_or xs k d) (all k d inside)

pub no_pairs : AllPairs (λ (a : Price) (b : Price). a.row < b.row) []
no_pairs i j d before inside = absurd (omega arith)

not_zero : (z : ℤ) → nat_eq (unsigned_abs z) 0 ≡ false → z ≢ pos 0
not_zero z e is =
    let none : nat_eq (unsigned_abs (pos 0)) 0 ≡ false = subst (λ (x : ℤ). nat_eq (unsigned_abs x) 0 ≡ false) is e in
    cc

module _ (from : ℕ) (z : ℤ) (n : ℕ) (ps : List Price) (rest : AreOfRows (from + 1) (from + 1 + n) ps) where
  below : from + 1 + n ≡ from + suc n
  below = omega arith

  high : All (λ (p : Price). p.row < from + suc n) ps
  high = weaker (λ (p : Price). p.row < from + 1 + n) (λ (p : Price). p.row < from + suc n) ps (λ p h. omega arith) rest.high

  without : AreOfRows from (from + suc n) ps
  without = record { low = weaker (λ (p : Price). from + 1 ≤ p.row) (λ (p : Price). from ≤ p.row) ps (λ p h. omega arith) rest.low; high = high; rise = rest.rise; nonzero = rest.nonzero }

  abbrev first : Price
  first = record { row = from; value = z }

  withfirst : z ≢ pos 0 → AreOfRows from (from + suc n) (first ∷ ps)
  withfirst h = record {
    low = also (λ (p : Price). from ≤ p.row) first ps (omega arith) without.low;
    high = also (λ (p : Price). p.row < from + suc n) first ps (omega arith) high;
    rise = AllPairs-cons (λ (a : Price) (b : Price). a.row < b.row) first ps (weaker (λ (p : Price). from + 1 ≤ p.row) (λ (p : Price). from < p.row) ps (λ p k. omega arith) rest.low) rest.rise;
    nonzero = also (λ (p : Price). p.value ≢ pos 0) first ps h rest.nonzero;
  }

  by_zero : (b : Bool) → nat_eq (unsigned_abs z) 0 ≡ b → AreOfRows from (from + suc n) (if b then ps else first ∷ ps)
  by_zero true e = without
  by_zero false e = withfirst (not_zero z e)

pub prices_of_rows : (from : ℕ) (zs : List ℤ) → AreOfRows from (from + length zs) (prices_from from zs)
prices_of_rows from [] = record { low = none_of _; high = none_of _; rise = no_pairs; nonzero = none_of _ }
prices_of_rows from (z ∷ zs) = by_zero from z (length zs) (prices_from (from + 1) zs) (prices_of_rows (from + 1) zs) (nat_eq (unsigned_abs z) 0) refl

-- those from the first row on are a list of multipliers for so many rows
pub rising_prices : (rows : ℕ) (zs : List ℤ) → length zs ≡ rows → HasRisingRows rows (prices_from 0 zs)
rising_prices rows zs e =
    let h = prices_of_rows 0 zs in
    record { within = weaker (λ (p : Price). p.row < 0 + length zs) (λ (p : Price). p.row < rows) (prices_from 0 zs) (λ p l. omega arith) h.high; rise = h.rise }
