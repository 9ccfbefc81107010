-- Floors of fractions.
use Rattle.std.proofs.Common.{◌≡◌, ℕ, ◌*◌, ◌<◌, ◌≤◌, ℤ, pos, ◌+ℤ◌, ◌-ℤ◌, ◌*ℤ◌, ◌≤ℤ◌, ◌<ℤ◌, unsigned_abs, sym, ◌∙◌, arith}
use Rattle.std.proofs.lemmas.Int.{ints, by_lt_z}
use Rattle.um_laws.proofs.WholeLaws.{*ℤ_comm, *ℤ-mono}
use Rattle.um_laws.proofs.Polynomials.{term, number, ◌⊕◌, ◌⊖◌, ◌⊗◌, at_most, at_most_of, below, below_of}
use Rattle.um_model.specs.Feasible.{IsMultipleOf}
use Rattle.um_split.specs.Branchings.{IsFloor}

-- ---- a factor above 0

cancel_lt : (k a b : ℤ) → pos 1 ≤ℤ k → (k *ℤ a) <ℤ (k *ℤ b) → a <ℤ b
cancel_lt k a b h l = by_lt_z a b (λ (g : a <ℤ b). g) (λ (g : b ≤ℤ a). absurd (let m = *ℤ-mono k b a (omega (arith, ints)) g in omega (arith, ints, m)))

-- ---- a number x over q, and its floor f

module _ (q x f : ℤ) (positive : pos 1 ≤ℤ q) (floor : IsFloor q x f) where
  -- the floor is below a quotient that is not whole
  pub strictly : ¬ IsMultipleOf q x → (f *ℤ q) <ℤ x
  strictly broken = by_lt_z (f *ℤ q) x (λ (g : (f *ℤ q) <ℤ x). g) (λ (g : x ≤ℤ (f *ℤ q)). absurd (
      let low = floor.low in
      let same : x ≡ f *ℤ q = omega (arith, ints, g, low) in
      broken (f, same ∙ *ℤ_comm f q)))

  -- a whole quotient is its floor
  pub whole_floor : IsMultipleOf q x → f *ℤ q ≡ x
  whole_floor (n, e) =
      let low : (q *ℤ f) <ℤ (q *ℤ (n +ℤ pos 1)) =
      below (term q ⊗ term f) (term q ⊗ (term n ⊕ number 1)) (omega (arith, at_most_of (term f ⊗ term q) (term q ⊗ term n) (rw (← e) floor.low), at_most_of (number 1) (term q) positive)) in
      let high : (q *ℤ n) <ℤ (q *ℤ (f +ℤ pos 1)) =
      below (term q ⊗ term n) (term q ⊗ (term f ⊕ number 1)) (omega (arith, below_of (term q ⊗ term n) ((term f ⊕ number 1) ⊗ term q) (rw (← e) floor.high))) in
      let above : f <ℤ (n +ℤ pos 1) = cancel_lt q f (n +ℤ pos 1) positive low in
      let under : n <ℤ (f +ℤ pos 1) = cancel_lt q n (f +ℤ pos 1) positive high in
      let same : f ≡ n = omega (arith, ints, above, under) in
      rw same (*ℤ_comm n q ∙ sym e)

  -- the floor and its product are hardly larger than the numbers
  pub floor_size : (most : ℕ) → unsigned_abs x < most → unsigned_abs f ≤ most
  floor_size most size = by_lt_z f (pos 0)
      (λ (g : f <ℤ pos 0).
      let n = pos 0 -ℤ (f +ℤ pos 1) in
      let m : (n *ℤ pos 1) ≤ℤ (n *ℤ q) = *ℤ-mono n (pos 1) q (omega (arith, ints)) positive in
      let up : x <ℤ (f +ℤ pos 1) = below (term x) (term f ⊕ number 1) (omega (
        arith,
        below_of (term x) ((term f ⊕ number 1) ⊗ term q) floor.high,
        at_most_of ((number 0 ⊖ (term f ⊕ number 1)) ⊗ number 1) ((number 0 ⊖ (term f ⊕ number 1)) ⊗ term q) m,
      )) in
      omega (arith, ints, up, g, size))
      (λ (g : pos 0 ≤ℤ f).
      let m : (f *ℤ pos 1) ≤ℤ (f *ℤ q) = *ℤ-mono f (pos 1) q g positive in
      let down : f ≤ℤ x = at_most (term f) (term x) (omega (arith, at_most_of (term f ⊗ number 1) (term f ⊗ term q) m, at_most_of (term f ⊗ term q) (term x) floor.low)) in
      omega (arith, ints, down, g, size))

  pub product_size : (most : ℕ) → unsigned_abs x < most → unsigned_abs q < most → unsigned_abs (f *ℤ q) < 2 * most
  product_size most size width =
      let low = floor.low in
      let high : (x -ℤ q) <ℤ (f *ℤ q) = below (term x ⊖ term q) (term f ⊗ term q) (omega (arith, below_of (term x) ((term f ⊕ number 1) ⊗ term q) floor.high)) in
      omega (arith, ints, low, high, size, width, positive)

  -- ---- a number of thousandths between ends

  -- a low end that x / q has is below 1000 times the whole number above the floor
  pub low_below : (l : ℤ) → (l *ℤ q) ≤ℤ (pos 1000 *ℤ x) → l <ℤ (pos 1000 *ℤ (f +ℤ pos 1))
  low_below l h = cancel_lt q l (pos 1000 *ℤ (f +ℤ pos 1)) positive (below (term q ⊗ term l) (term q ⊗ (number 1000 ⊗ (term f ⊕ number 1))) (omega (
    arith,
    at_most_of (term l ⊗ term q) (number 1000 ⊗ term x) h,
    below_of (term x) ((term f ⊕ number 1) ⊗ term q) floor.high,
  )))

  -- a high end that x / q has is above 1000 times the floor, where the quotient is not whole
  pub high_above : ¬ IsMultipleOf q x → (h : ℤ) → (pos 1000 *ℤ x) ≤ℤ (h *ℤ q) → (pos 1000 *ℤ f) <ℤ h
  high_above broken h e = cancel_lt q (pos 1000 *ℤ f) h positive (below (term q ⊗ (number 1000 ⊗ term f)) (term q ⊗ term h) (omega (
    arith,
    at_most_of (number 1000 ⊗ term x) (term h ⊗ term q) e,
    below_of (term f ⊗ term q) (term x) (strictly broken),
  )))

  -- a quotient that is not whole is above its floor
  pub not_below : ¬ IsMultipleOf q x → ¬ ((pos 1000 *ℤ x) ≤ℤ ((pos 1000 *ℤ f) *ℤ q))
  not_below broken h = omega (
    arith,
    at_most_of (number 1000 ⊗ term x) ((number 1000 ⊗ term f) ⊗ term q) h,
    below_of (term f ⊗ term q) (term x) (strictly broken),
  )

  -- and each quotient is below the next whole number
  pub not_above : ¬ (((pos 1000 *ℤ (f +ℤ pos 1)) *ℤ q) ≤ℤ (pos 1000 *ℤ x))
  not_above h = omega (
    arith,
    at_most_of ((number 1000 ⊗ (term f ⊕ number 1)) ⊗ term q) (number 1000 ⊗ term x) h,
    below_of (term x) ((term f ⊕ number 1) ⊗ term q) floor.high,
  )
