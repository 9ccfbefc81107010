-- Sums over lists as sums over the numbers below a bound.
use Rattle.std.proofs.Common.{◌≡◌, ℕ, ◌+◌, ◌<◌, arith, ap, sym, subst, ◌∙◌, refl, List, [], ◌∷◌, length, Bool, true, false, cond, nat_eq, Some, None}
use Rattle.std.specs.Prelude.{ℤ, pos, ◌*ℤ◌, zero, suc, unsigned_abs, slice_index_or, find}
use Rattle.std.specs.List.{enumerate_from}
use Rattle.std.proofs.lemmas.Int.{ints}
use lib.Dec.{T, eqb→eq}
use Rattle.um_laws.specs.Rational.{Rational, whole, add, mul}
use Rattle.um_laws.specs.Sums.{sum_of, dot}
use Rattle.um_laws.proofs.Ring.{var, nought, ◌⊕◌}
use Rattle.um_multipliers.specs.declared.multipliers.Price.{Price}
use Rattle.um_lp.specs.Basis.{sum_below}
use Rattle.um_laws.proofs.RationalEquations.{by_ring}
use Rattle.um_lp.proofs.Sums.{sum-cong}
use Rattle.um_duality.specs.WholeMultiples.{prices_from}
use Rattle.um_duality.proofs.Wholes.{whole-add, whole-mul}

-- ---- sums below a bound

-- the first part apart
pub sum-first : (m : ℕ) (f : ℕ → Rational) → sum_below (suc m) f ≡ add (f 0) (sum_below m (λ i. f (suc i)))
sum-first zero f = by_ring (f 0 ∷ []) (nought ⊕ var 0) (var 0 ⊕ nought) refl
sum-first (suc m) f =
    ap (λ (x : Rational). add x (f (suc m))) (sum-first m f)
    ∙ by_ring (f 0 ∷ sum_below m (λ i. f (suc i)) ∷ f (suc m) ∷ []) ((var 0 ⊕ var 1) ⊕ var 2) (var 0 ⊕ (var 1 ⊕ var 2)) refl

-- two bounds in a row
pub sum-split : (n m : ℕ) (f : ℕ → Rational) → sum_below (n + m) f ≡ add (sum_below n f) (sum_below m (λ i. f (n + i)))
sum-split n zero f = let e : n + 0 ≡ n = omega arith in ap (λ (k : ℕ). sum_below k f) e ∙ by_ring (sum_below n f ∷ []) (var 0) (var 0 ⊕ nought) refl
sum-split n (suc m) f =
    let e : n + suc m ≡ suc (n + m) = omega arith in
    ap (λ (k : ℕ). sum_below k f) e
    ∙ ap (λ (x : Rational). add x (f (n + m))) (sum-split n m f)
    ∙ by_ring (sum_below n f ∷ sum_below m (λ i. f (n + i)) ∷ f (n + m) ∷ []) ((var 0 ⊕ var 1) ⊕ var 2) (var 0 ⊕ (var 1 ⊕ var 2)) refl

-- ---- lists

pub whole-sum_of : {A : Type 0} (f : A → ℤ) (xs : List A) (default : A) → whole (sum_of f xs) ≡ sum_below (length xs) (λ j. whole (f (slice_index_or xs j default)))
whole-sum_of f [] default = refl
whole-sum_of f (x ∷ xs) default =
    whole-add (f x) (sum_of f xs) ∙ ap (add (whole (f x))) (whole-sum_of f xs default)
    ∙ sym (sum-first (length xs) (λ j. whole (f (slice_index_or (x ∷ xs) j default))))

pub whole-dot : {A : Type 0} (f : A → ℤ) (xs : List A) (ps : List ℤ) (default : A) → length ps ≡ length xs
    → whole (dot f xs ps) ≡ sum_below (length xs) (λ j. mul (whole (f (slice_index_or xs j default))) (whole (slice_index_or ps j (pos 0))))
whole-dot f [] ps default h = refl
whole-dot f (x ∷ xs) [] default h = absurd (omega arith)
whole-dot f (x ∷ xs) (p ∷ ps) default h =
    whole-add (f x *ℤ p) (dot f xs ps) ∙ ap (λ (z : Rational). add z (whole (dot f xs ps))) (whole-mul (f x) p)
    ∙ ap (add (mul (whole (f x)) (whole p))) (whole-dot f xs ps default (omega arith))
    ∙ sym (sum-first (length xs) (λ j. mul (whole (f (slice_index_or (x ∷ xs) j default))) (whole (slice_index_or (p ∷ ps) j (pos 0)))))

pub whole-enumerated : {A : Type 0} (f : ℕ × A → ℤ) (from : ℕ) (xs : List A) (default : A)
    → whole (sum_of f (enumerate_from from xs)) ≡ sum_below (length xs) (λ j. whole (f (from + j, slice_index_or xs j default)))
whole-enumerated f from [] default = refl
whole-enumerated f from (x ∷ xs) default =
    let here : from ≡ from + 0 = omega arith in
    whole-add (f (from, x)) (sum_of f (enumerate_from (from + 1) xs))
    ∙ ap (λ (k : ℕ). add (whole (f (k, x))) (whole (sum_of f (enumerate_from (from + 1) xs)))) here
    ∙ ap (add (whole (f (from + 0, x)))) (whole-enumerated f (from + 1) xs default
    ∙ sum-cong (length xs) _ _ (λ j l. (let e : from + 1 + j ≡ from + suc j = omega arith in ap (λ (k : ℕ). whole (f (k, slice_index_or xs j default))) e)))
    ∙ sym (sum-first (length xs) (λ j. whole (f (from + j, slice_index_or (x ∷ xs) j default))))

-- none is found where none passes
pub none_enumerated : {A : Type 0} (test : ℕ × A → Bool) (from : ℕ) (xs : List A) (default : A)
    → ((j : ℕ) → j < length xs → test (from + j, slice_index_or xs j default) ≡ false) → find test (enumerate_from from xs) ≡ None
none_enumerated test from [] default h = refl
none_enumerated test from (x ∷ xs) default h =
    let here : from + 0 ≡ from = omega arith in
    let first : test (from, x) ≡ false = ap (λ (k : ℕ). test (k, x)) (sym here) ∙ h 0 (omega arith) in
    ap (λ (t : Bool). cond t (Some (from, x)) (find test (enumerate_from (from + 1) xs))) first
    ∙ none_enumerated test (from + 1) xs default (λ j l. (let e : from + 1 + j ≡ from + suc j = omega arith in ap (λ (k : ℕ). test (k, slice_index_or xs j default)) e ∙ h (suc j) (omega arith)))

-- ---- multipliers

zero_of : (z : ℤ) → nat_eq (unsigned_abs z) 0 ≡ true → z ≡ pos 0
zero_of z e = let f : unsigned_abs z ≡ 0 = eqb→eq (unsigned_abs z) 0 (subst T (sym e) tt) in omega (arith, ints)

module _ (g : ℕ → ℤ → ℤ) (nil : (row : ℕ) → g row (pos 0) ≡ pos 0) where
  abbrev priced : List Price → ℤ
  priced ps = sum_of (λ (p : Price). g p.row p.value) ps

  first_price : (from : ℕ) (z : ℤ) (rest : List Price) (t : Bool) → nat_eq (unsigned_abs z) 0 ≡ t → whole (priced (cond t rest (record { row = from; value = z } ∷ rest))) ≡ add (whole (g from z)) (whole (priced rest))
  first_price from z rest true e =
      by_ring (whole (priced rest) ∷ []) (var 0) (nought ⊕ var 0) refl
      ∙ ap (λ (x : ℤ). add (whole x) (whole (priced rest))) (sym (ap (g from) (zero_of z e) ∙ nil from))
  first_price from z rest false e = whole-add (g from z) (priced rest)

  -- a sum over multipliers, of a number that is 0 for a multiplier of 0, is one over all rows
  pub whole-prices : (from : ℕ) (zs : List ℤ) → whole (sum_of (λ (p : Price). g p.row p.value) (prices_from from zs)) ≡ sum_below (length zs) (λ i. whole (g (from + i) (slice_index_or zs i (pos 0))))
  whole-prices from [] = refl
  whole-prices from (z ∷ zs) =
      let here : from ≡ from + 0 = omega arith in
      first_price from z (prices_from (from + 1) zs) (nat_eq (unsigned_abs z) 0) refl
      ∙ ap (add (whole (g from z))) (whole-prices (from + 1) zs
      ∙ sum-cong (length zs) _ (λ i. whole (g (from + suc i) (slice_index_or zs i (pos 0)))) (λ i l. (let e : from + 1 + i ≡ from + suc i = omega arith in ap (λ (k : ℕ). whole (g k (slice_index_or zs i (pos 0)))) e)))
      ∙ ap (λ (k : ℕ). add (whole (g k z)) (sum_below (length zs) (λ i. whole (g (from + suc i) (slice_index_or zs i (pos 0)))))) here
      ∙ sym (sum-first (length zs) (λ i. whole (g (from + i) (slice_index_or (z ∷ zs) i (pos 0)))))

none_first : (test : Price → Bool) (p : Price) (rest : List Price) (t : Bool) → test p ≡ false → find test rest ≡ None → find test (cond t rest (p ∷ rest)) ≡ None
none_first test p rest true e h = h
none_first test p rest false e h = ap (λ (t : Bool). cond t (Some p) (find test rest)) e ∙ h

pub none_priced : (test : Price → Bool) (from : ℕ) (zs : List ℤ) → ((i : ℕ) → i < length zs → test (record { row = from + i; value = slice_index_or zs i (pos 0) }) ≡ false) → find test (prices_from from zs) ≡ None
none_priced test from [] h = refl
none_priced test from (z ∷ zs) h =
    let here : from ≡ from + 0 = omega arith in
    none_first test (record { row = from; value = z }) (prices_from (from + 1) zs) (nat_eq (unsigned_abs z) 0)
    (ap (λ (k : ℕ). test (record { row = k; value = z })) here ∙ h 0 (omega arith))
    (none_priced test (from + 1) zs (λ i l. (let e : from + 1 + i ≡ from + suc i = omega arith in ap (λ (k : ℕ). test (record { row = k; value = slice_index_or zs i (pos 0) })) e ∙ h (suc i) (omega arith))))
