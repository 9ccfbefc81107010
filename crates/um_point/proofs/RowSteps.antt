-- Sums of rows that grow, term by term.
use Rattle.std.proofs.Common.{[], ◌∷◌, ◌≡◌, ◌≢◌, ℕ, zero, suc, ◌*◌, ◌<◌, ◌≤◌, ℤ, pos, ◌+ℤ◌, ◌*ℤ◌, List, length, take, refl, ◌∙◌, arith, unsigned_abs, ◌⊎◌, inl, inr, slice_set, ◌^◌, FitsSigned, to_z, of_z}
use Rattle.std.specs.Prelude.{All, Bool, true, false, if◌then◌else◌}
use Rattle.std.specs.Int.{w128}
use Rattle.std.proofs.lemmas.Int.{ints, to_z-of_z}
use Rattle.std.proofs.lemmas.List.{length-set, get_or-set_same, get_or-set_other, get_or_default}
use Rattle.std.proofs.lemmas.List.Elements.{All-head, All-tail}
use Rattle.um_laws.specs.Sums.{sum_of, dot}
use Rattle.um_model.specs.Feasible.{part}
use Rattle.um_model.specs.WellFormed.{IsWithin}
use Rattle.um_deck.proofs.BoundedSums.{abs_product, fits_128}
use Rattle.um_point.specs.RowSums.{AreSums, HaveGrown}

-- ---- sizes

-- the size of a sum of the first items
pub sum_size : {A : Type 0} (f : A → ℤ) (xs : List A) (n most : ℕ) → n ≤ length xs → All (λ x. unsigned_abs (f x) ≤ most) xs → unsigned_abs (sum_of f (take n xs)) ≤ n * most
sum_size f xs zero most l h = omega arith
sum_size f [] (suc n) most l h = absurd (omega arith)
sum_size f (x ∷ xs) (suc n) most l h =
    omega (arith, ints, All-head (λ y. unsigned_abs (f y) ≤ most) x xs h, sum_size f xs n most (omega arith) (All-tail (λ y. unsigned_abs (f y) ≤ most) x xs h))

-- the size of a sum over parts of the first items
pub dot_size : {A : Type 0} (f : A → ℤ) (xs : List A) (ps : List ℤ) (n most each : ℕ) → n ≤ length xs → All (λ x. unsigned_abs (f x) ≤ most) xs → All (λ p. unsigned_abs p ≤ each) ps
    → unsigned_abs (dot f (take n xs) ps) ≤ n * (most * each)
dot_size f xs ps zero most each l h k = omega arith
dot_size f [] ps (suc n) most each l h k = absurd (omega arith)
dot_size f (x ∷ xs) [] (suc n) most each l h k = omega arith
dot_size f (x ∷ xs) (p ∷ ps) (suc n) most each l h k =
    let first : unsigned_abs (f x *ℤ p) ≤ most * each = abs_product (f x) p most each (All-head (λ y. unsigned_abs (f y) ≤ most) x xs h) (All-head (λ q. unsigned_abs q ≤ each) p ps k) in
    let rest = dot_size f xs ps n most each (omega arith) (All-tail (λ y. unsigned_abs (f y) ≤ most) x xs h) (All-tail (λ q. unsigned_abs q ≤ each) p ps k) in
    omega (arith, ints, first, rest)

-- the size of a number that is there or not
pub chosen_size : (b : Bool) (z : ℤ) (most : ℕ) → unsigned_abs z ≤ most → unsigned_abs (if b then z else pos 0) ≤ most
chosen_size true z most h = h
chosen_size false z most h = omega arith

-- ---- one term more

pub same_or_not : (m n : ℕ) → (m ≡ n) ⊎ (m ≢ n)
same_or_not m n = grind arith

-- one term grows at one row, and the others stay
pub grown_at : (t u : ℕ → ℤ) (before now : List ℤ) (place : ℕ) (z v : ℤ) → place < length before → HaveGrown t before now
    → u place ≡ t place +ℤ z → ((row : ℕ) → row ≢ place → u row ≡ t row) → v ≡ part now place +ℤ z → HaveGrown u before (slice_set now place v)
grown_at t u before now place z v inside h here there e =
    let within : place < length now = omega (arith, inside, h.long) in
    let at_place : part (slice_set now place v) place ≡ part before place +ℤ u place =
    omega (arith, ints, get_or-set_same now place v (pos 0) within, e, h.each place inside, here) in record {
      long = length-set now place v ∙ h.long;
      each = λ row l. elim (same_or_not row place) [
        | inl same ↦ rw same at_place
        | inr other ↦ omega (arith, ints, get_or-set_other now place row v (pos 0) other, h.each row l, there row other)
      ];
    }

-- no term grows
pub grown_none : (t u : ℕ → ℤ) (before now : List ℤ) → HaveGrown t before now → ((row : ℕ) → u row ≡ t row) → HaveGrown u before now
grown_none t u before now h same = record { long = h.long; each = λ row l. omega (arith, ints, h.each row l, same row) }

-- ---- in 128 bits

-- the machine's sum of two numbers that are well inside its range
module _ (a b : ℤ) (left : unsigned_abs a < 2 ^ 126) (right : unsigned_abs b < 2 ^ 126) where
  pub sum_fits : FitsSigned w128 (to_z w128 (of_z w128 a) +ℤ to_z w128 (of_z w128 b))
  sum_fits =
      let fa : FitsSigned w128 a = fits_128 a (omega arith) in
      let fb : FitsSigned w128 b = fits_128 b (omega arith) in
      let fs : FitsSigned w128 (a +ℤ b) = fits_128 (a +ℤ b) (omega (arith, ints)) in
      simp to_z-of_z fs

  pub sum_is : to_z w128 (of_z w128 (to_z w128 (of_z w128 a) +ℤ to_z w128 (of_z w128 b))) ≡ a +ℤ b
  sum_is =
      let fa : FitsSigned w128 a = fits_128 a (omega arith) in
      let fb : FitsSigned w128 b = fits_128 b (omega arith) in
      let fs : FitsSigned w128 (a +ℤ b) = fits_128 (a +ℤ b) (omega (arith, ints)) in
      simp to_z-of_z refl

-- a row's sum that has grown is well inside the range
pub grown_size : (t : ℕ → ℤ) (before now : List ℤ) (place : ℕ) → place < length before → HaveGrown t before now → All (IsWithin (2 ^ 124)) before → unsigned_abs (t place) ≤ 2 ^ 125
    → unsigned_abs (part now place) < 2 ^ 126
grown_size t before now place inside h sizes term = omega (arith, ints, h.each place inside, sizes place (pos 0) inside, term)

-- sums are as large as their values
pub sums_size : (value : ℕ → ℤ) (sums : List ℤ) → AreSums value sums → ((row : ℕ) → unsigned_abs (value row) ≤ 2 ^ 124) → All (IsWithin (2 ^ 124)) sums
sums_size value sums h size k d within = omega (arith, ints, get_or_default sums k d (pos 0) within, h.each k (omega (arith, within, h.long)), size k)

-- sums that have grown
pub sums_grown : (value term after : ℕ → ℤ) (sums grown : List ℤ) → AreSums value sums → HaveGrown term sums grown → ((row : ℕ) → after row ≡ value row +ℤ term row) → AreSums after grown
sums_grown value term after sums grown h more e = record {
  long = more.long ∙ h.long;
  each = λ row within. omega (arith, ints, more.each row (omega (arith, within, h.long)), h.each row within, e row);
}
