-- The sizes of a curve's parts, and what the machine's steps give of them.
use Rattle.std.proofs.Common.{◌≡◌, ◌∙◌, ap, sym, ℕ, ◌+◌, ◌*◌, ◌^◌, ◌<◌, ◌≤◌, ℤ, pos, neg_ℤ, ◌+ℤ◌, ◌-ℤ◌, ◌*ℤ◌, unsigned_abs, arith, FitsSigned}
use Rattle.std.specs.Int.{w128}
use Rattle.std.proofs.lemmas.Int.{ints, fits_signed_from_abs}
use Rattle.um_model.specs.LeafValue as LeafValue
use Rattle.um_bound.proofs.LeastValues.{abs_product}
use Rattle.um_bound.proofs.MachineSteps.{held, held_is, product_is, sum_is, sum_size}

-- ---- a literal number times two more

times_size : (k : ℕ) (a : ℤ) (m : ℕ) → unsigned_abs a ≤ m → unsigned_abs (pos k *ℤ a) ≤ k * m
times_size k a m h = abs_product (pos k) a k m (omega arith) h

pub times_is : (k : ℕ) (a : ℤ) (m : ℕ) → unsigned_abs a ≤ m → m < 2 ^ 127 → k * m < 2 ^ 127 → held (pos k *ℤ held a) ≡ pos k *ℤ a
times_is k a m h l f = ap (λ (z : ℤ). held (pos k *ℤ z)) (held_is a (omega (arith, h, l))) ∙ held_is (pos k *ℤ a) (omega (arith, times_size k a m h, f))

pub times_product_is : (k : ℕ) (a b : ℤ) (m n : ℕ) → unsigned_abs a ≤ m → unsigned_abs b ≤ n → m < 2 ^ 127 → n < 2 ^ 127 → k * m < 2 ^ 127 → k * m * n < 2 ^ 127
    → held (held (pos k *ℤ held a) *ℤ held b) ≡ pos k *ℤ a *ℤ b
times_product_is k a b m n ha hb lm ln f g =
    ap (λ (z : ℤ). held (z *ℤ held b)) (times_is k a m ha lm f ∙ sym (held_is (pos k *ℤ a) (omega (arith, times_size k a m ha, f))))
    ∙ product_is (pos k *ℤ a) b (k * m) n (times_size k a m ha) hb f ln g

pub times_product_size : (k : ℕ) (a b : ℤ) (m n : ℕ) → unsigned_abs a ≤ m → unsigned_abs b ≤ n → unsigned_abs (pos k *ℤ a *ℤ b) ≤ k * m * n
times_product_size k a b m n ha hb = abs_product (pos k *ℤ a) b (k * m) n (times_size k a m ha) hb

-- ---- a number times a square

pub square_size : (x : ℤ) (n : ℕ) → unsigned_abs x ≤ n → unsigned_abs (x *ℤ x) ≤ n * n
square_size x n h = abs_product x x n n h h

pub times_square_is : (a x : ℤ) (m n : ℕ) → unsigned_abs a ≤ m → unsigned_abs x ≤ n → m < 2 ^ 127 → n < 2 ^ 127 → n * n < 2 ^ 127 → m * (n * n) < 2 ^ 127
    → held (held a *ℤ held (held x *ℤ held x)) ≡ a *ℤ (x *ℤ x)
times_square_is a x m n ha hx lm ln f g =
    ap (λ (z : ℤ). held (held a *ℤ z)) (product_is x x n n hx hx ln ln f ∙ sym (held_is (x *ℤ x) (omega (arith, square_size x n hx, f))))
    ∙ product_is a (x *ℤ x) m (n * n) ha (square_size x n hx) lm f g

pub times_square_fits : (a x : ℤ) (m n : ℕ) → unsigned_abs a ≤ m → unsigned_abs x ≤ n → m < 2 ^ 127 → n < 2 ^ 127 → n * n < 2 ^ 127 → m * (n * n) < 2 ^ 127 → FitsSigned w128 (held a *ℤ held (held x *ℤ held x))
times_square_fits a x m n ha hx lm ln f g =
    let square = product_is x x n n hx hx ln ln f in
    let here = held_is a (omega (arith, ha, lm)) in
    let fits : FitsSigned w128 (a *ℤ (x *ℤ x)) = fits_signed_from_abs w128 (a *ℤ (x *ℤ x)) (omega (arith, abs_product a (x *ℤ x) m (n * n) ha (square_size x n hx), g)) in
    rw (here, square) fits

-- ---- half of the slope

abbrev pub slope_size : ℕ
slope_size = 500 * (513 * (2 ^ 40 * 2 ^ 31)) + 2 ^ 40 * 2 ^ 24 * 8000000

pub half_slope_is : (l s x : ℤ) → unsigned_abs l ≤ 513 * (2 ^ 40 * 2 ^ 31) → unsigned_abs s ≤ 2 ^ 40 * 2 ^ 24 → unsigned_abs x ≤ 8000000
    → held (held (pos 500 *ℤ held l) +ℤ held (held s *ℤ held x)) ≡ LeafValue.half_slope l s x
half_slope_is l s x hl hs hx =
    let a = times_size 500 l (513 * (2 ^ 40 * 2 ^ 31)) hl in
    let b = abs_product s x (2 ^ 40 * 2 ^ 24) 8000000 hs hx in
    ap (λ (z : ℤ). held (z +ℤ held (held s *ℤ held x))) (times_is 500 l (513 * (2 ^ 40 * 2 ^ 31)) hl (omega arith) (omega arith) ∙ sym (held_is (pos 500 *ℤ l) (omega (arith, a))))
    ∙ ap (λ (z : ℤ). held (held (pos 500 *ℤ l) +ℤ z)) (product_is s x (2 ^ 40 * 2 ^ 24) 8000000 hs hx (omega arith) (omega arith) (omega arith) ∙ sym (held_is (s *ℤ x) (omega (arith, b))))
    ∙ sum_is (pos 500 *ℤ l) (s *ℤ x) (500 * (513 * (2 ^ 40 * 2 ^ 31))) (2 ^ 40 * 2 ^ 24 * 8000000) a b (omega arith)

pub half_slope_size : (l s x : ℤ) → unsigned_abs l ≤ 513 * (2 ^ 40 * 2 ^ 31) → unsigned_abs s ≤ 2 ^ 40 * 2 ^ 24 → unsigned_abs x ≤ 8000000 → unsigned_abs (LeafValue.half_slope l s x) ≤ slope_size
half_slope_size l s x hl hs hx =
    sum_size (pos 500 *ℤ l) (s *ℤ x) (500 * (513 * (2 ^ 40 * 2 ^ 31))) (2 ^ 40 * 2 ^ 24 * 8000000) (times_size 500 l (513 * (2 ^ 40 * 2 ^ 31)) hl) (abs_product s x (2 ^ 40 * 2 ^ 24) 8000000 hs hx)

-- ---- the quotient at the vertex

module _ (l s : ℤ) (hl : unsigned_abs l ≤ 513 * (2 ^ 40 * 2 ^ 31)) (hs : unsigned_abs s ≤ 2 ^ 40 * 2 ^ 24) where
  pub dividend_is : held (held (pos 1000 *ℤ held l) +ℤ held s) ≡ pos 1000 *ℤ l +ℤ s
  dividend_is =
      let a = times_size 1000 l (513 * (2 ^ 40 * 2 ^ 31)) hl in
      ap (λ (z : ℤ). held (z +ℤ held s)) (times_is 1000 l (513 * (2 ^ 40 * 2 ^ 31)) hl (omega arith) (omega arith) ∙ sym (held_is (pos 1000 *ℤ l) (omega (arith, a))))
      ∙ sum_is (pos 1000 *ℤ l) s (1000 * (513 * (2 ^ 40 * 2 ^ 31))) (2 ^ 40 * 2 ^ 24) a hs (omega arith)

  pub divisor_is : held (pos 2 *ℤ held s) ≡ pos 2 *ℤ s
  divisor_is = times_is 2 s (2 ^ 40 * 2 ^ 24) hs (omega arith) (omega arith)

-- a small number, turned
pub turned_is : (q : ℤ) → unsigned_abs q ≤ 8000000 → held (pos 0 -ℤ held q) ≡ neg_ℤ q
turned_is q h =
    let turned : pos 0 -ℤ q ≡ neg_ℤ q = omega (arith, ints) in
    let small : unsigned_abs (neg_ℤ q) ≤ 8000000 = omega (arith, ints, h) in
    ap (λ (z : ℤ). held (pos 0 -ℤ z)) (held_is q (omega (arith, h))) ∙ ap held turned ∙ held_is (neg_ℤ q) (omega (arith, small))
