-- Sums in 128 bits, one term at a time, where no term is above a bound.
use Rattle.std.proofs.Common.{[], ◌∷◌, refl, ◌≡◌, ℕ, zero, suc, ◌+◌, ◌*◌, ◌^◌, ◌<◌, ◌≤◌, ℤ, ◌+ℤ◌, ◌*ℤ◌, List, length, map, get_or, take, arith, unsigned_abs, FitsSigned, to_z, of_z, add-one, ap, ◌∙◌}
use Rattle.std.specs.Int.{w128}
use Rattle.std.proofs.lemmas.Int.{ints, to_z-of_z, fits_signed_from_abs, unsigned_abs-mul}
use Rattle.std.proofs.Math.Nat.{mul-le-mul, mul-le-mul_right}
use Rattle.um_laws.specs.Sums.{sum_of, dot}
use Rattle.um_laws.proofs.SumLaws.{sum_of_more}

-- ---- sizes

-- the size of a product
pub abs_product : (a b : ℤ) (m n : ℕ) → unsigned_abs a ≤ m → unsigned_abs b ≤ n → unsigned_abs (a *ℤ b) ≤ m * n
abs_product a b m n h k = omega (arith, unsigned_abs-mul a b, mul-le-mul h k)

-- a number below 2^127 in size is what its 128 bits say
pub fits_128 : (z : ℤ) → unsigned_abs z < 2 ^ 127 → FitsSigned w128 z
fits_128 z h = fits_signed_from_abs w128 z h

-- ---- a sum so far

-- s is the sum of n terms, none of them above `most` in size
pub record SoFar (sum : ℤ) (n most : ℕ) (s : ℤ) : Type 0 where
  pub value : s ≡ sum
  pub size : unsigned_abs s ≤ n * most

one_more_exact : (before after : ℤ) (n most : ℕ) (s t : ℤ) → SoFar before n most s → after ≡ before +ℤ t → unsigned_abs t ≤ most → SoFar after (n + 1) most (s +ℤ t)
one_more_exact before after n most s t b e h = record { value = omega (arith, ints, b.value, e); size = omega (arith, ints, b.size, h) }

-- the size of such a sum of at most `total` terms
pub so_far_size : (sum : ℤ) (n total most : ℕ) (s : ℤ) → SoFar sum n most s → n ≤ total → unsigned_abs s ≤ total * most
so_far_size sum n total most s b l = omega (arith, b.size, mul-le-mul_right most l)

-- one term more, where `total` terms fit
module _ (total most : ℕ) (fit : total * most < 2 ^ 127) where
  pub fits_more : (before after : ℤ) (n : ℕ) (s t : ℤ) → n < total → SoFar before n most s → after ≡ before +ℤ t → unsigned_abs t ≤ most → FitsSigned w128 (s +ℤ t)
  fits_more before after n s t l b e h =
      let m = one_more_exact before after n most s t b e h in
      fits_128 (s +ℤ t) (omega (arith, so_far_size after (n + 1) total most (s +ℤ t) m (omega arith)))

  pub one_more : (before after : ℤ) (n : ℕ) (s t : ℤ) → n < total → SoFar before n most s → after ≡ before +ℤ t → unsigned_abs t ≤ most
      → SoFar after (n + 1) most (to_z w128 (of_z w128 (s +ℤ to_z w128 (of_z w128 t))))
  one_more before after n s t l b e h =
      let r = one_more_exact before after n most s t b e h in
      let one : 1 * most ≤ total * most = mul-le-mul_right most (omega arith) in
      let ft : FitsSigned w128 t = fits_128 t (omega (arith, one)) in
      let fs : FitsSigned w128 (s +ℤ t) = fits_more before after n s t l b e h in
      simp to_z-of_z r

-- ---- sums over parts

dot_next : {A : Type 0} (f : A → ℤ) (xs : List A) (ps : List ℤ) (i : ℕ) (d : A) (p : ℤ) → i < length xs → i < length ps
    → dot f (take (suc i) xs) ps ≡ dot f (take i xs) ps +ℤ f (get_or xs i d) *ℤ get_or ps i p
dot_next f [] ps i d p h k = absurd (omega arith)
dot_next f (x ∷ xs) [] i d p h k = absurd (omega arith)
dot_next f (x ∷ xs) (q ∷ ps) zero d p h k = omega (arith, ints)
dot_next f (x ∷ xs) (q ∷ ps) (suc i) d p h k = omega (arith, ints, dot_next f xs ps i d p (omega arith) (omega arith))

-- one place more, as a loop takes it
pub dot_more : {A : Type 0} (f : A → ℤ) (xs : List A) (ps : List ℤ) (i : ℕ) (d : A) (p : ℤ) → i < length xs → i < length ps
    → dot f (take (i + 1) xs) ps ≡ dot f (take i xs) ps +ℤ f (get_or xs i d) *ℤ get_or ps i p
dot_more f xs ps i d p h k = rw (add-one i) (dot_next f xs ps i d p h k)

-- a sum over mapped items
pub dot-map : {A B : Type 0} (f : B → ℤ) (g : A → B) (xs : List A) (ps : List ℤ) → dot f (map g xs) ps ≡ dot (λ x. f (g x)) xs ps
dot-map f g [] ps = refl
dot-map f g (x ∷ xs) [] = refl
dot-map f g (x ∷ xs) (p ∷ ps) = omega (arith, ints, dot-map f g xs ps)

-- ---- a loop's next term

-- of a sum over a list
pub sum_step : {A : Type 0} (f : A → ℤ) (xs : List A) (total most : ℕ) → total * most < 2 ^ 127 → length xs ≤ total
    → (i : ℕ) (d : A) (s t : ℤ) → i < length xs → SoFar (sum_of f (take i xs)) i most s → t ≡ f (get_or xs i d) → unsigned_abs t ≤ most
    → SoFar (sum_of f (take (i + 1) xs)) (i + 1) most (to_z w128 (of_z w128 (s +ℤ to_z w128 (of_z w128 t))))
sum_step f xs total most fit few i d s t l b e h =
    one_more total most fit (sum_of f (take i xs)) (sum_of f (take (i + 1) xs)) i s t (omega arith) b (omega (arith, ints, sum_of_more f xs i d l, e)) h

-- of a sum over a list with parts beside it
pub dot_step : {A : Type 0} (f : A → ℤ) (xs : List A) (ps : List ℤ) (total most : ℕ) → total * most < 2 ^ 127 → length xs ≤ total → length ps ≡ length xs
    → (i : ℕ) (x : A) (p s t : ℤ) → i < length xs → x ≡ get_or xs i x → SoFar (dot f (take i xs) ps) i most s → t ≡ f x *ℤ get_or ps i p → unsigned_abs t ≤ most
    → SoFar (dot f (take (i + 1) xs) ps) (i + 1) most (to_z w128 (of_z w128 (s +ℤ to_z w128 (of_z w128 t))))
dot_step f xs ps total most fit few beside i x p s t l item b e h =
    let next : t ≡ f (get_or xs i x) *ℤ get_or ps i p = e ∙ ap (λ z. f z *ℤ get_or ps i p) item in
    one_more total most fit (dot f (take i xs) ps) (dot f (take (i + 1) xs) ps) i s t (omega arith) b (omega (arith, ints, dot_more f xs ps i x p l (omega arith), next)) h
