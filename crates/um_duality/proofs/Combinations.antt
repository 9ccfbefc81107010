-- Sums of the rows of a tableau, and what they are at the slacks.
use Rattle.std.proofs.Common.{◌≡◌, ℕ, ◌+◌, ◌<◌, ap, sym, ◌∙◌, refl, [], ◌∷◌}
use Rattle.std.specs.Prelude.{pos}
use Rattle.um_laws.specs.Rational.{Rational, whole, add, mul, neg}
use Rattle.um_laws.proofs.Ring.{var, nought, unit, ◌⊕◌, ◌⊗◌, opp}
use Rattle.um_lp.specs.Basis.{sum_below, Solves, TableauOf}
use Rattle.um_laws.proofs.RationalEquations.{by_ring}
use Rattle.um_lp.proofs.Sums.{sum-cong, sum-add, sum-mul, sum-neg, sum-none, sum-one, sum-swap}

module _ (m w n : ℕ) (row : ℕ → ℕ → Rational) (basic : ℕ → ℕ) (e : ℕ → ℕ → Rational) (tableau : TableauOf m w n row basic e) where
  -- the sum of the rows of entries, each times a number
  abbrev pub combined : (ℕ → Rational) → ℕ → Rational
  combined c j = sum_below m (λ r. mul (c r) (e r j))

  -- it is the sum of the given rows, each times minus what the sum has at its slack
  pub combined-within : (c : ℕ → Rational) (j : ℕ) → j < w → combined c j ≡ neg (sum_below m (λ i. mul (combined c (n + i)) (row i j)))
  combined-within c j l =
      sum-cong m _ (λ r. neg (sum_below m (λ i. mul (mul (c r) (e r (n + i))) (row i j)))) (λ r q.
      ap (mul (c r)) (tableau.within r j q l)
      ∙ by_ring (c r ∷ sum_below m (λ i. mul (e r (n + i)) (row i j)) ∷ []) (var 0 ⊗ opp (var 1)) (opp (var 0 ⊗ var 1)) refl
      ∙ ap neg (sym (sum-mul m (c r) (λ i. mul (e r (n + i)) (row i j)))
      ∙ sum-cong m _ _ (λ i p. by_ring (c r ∷ e r (n + i) ∷ row i j ∷ []) (var 0 ⊗ (var 1 ⊗ var 2)) ((var 0 ⊗ var 1) ⊗ var 2) refl)))
      ∙ sum-neg m _
      ∙ ap neg (sum-swap m m (λ r i. mul (mul (c r) (e r (n + i))) (row i j))
      ∙ sum-cong m _ _ (λ i p.
      sum-cong m _ (λ r. mul (row i j) (mul (c r) (e r (n + i)))) (λ r q. by_ring (mul (c r) (e r (n + i)) ∷ row i j ∷ []) (var 0 ⊗ var 1) (var 1 ⊗ var 0) refl)
      ∙ sum-mul m (row i j) (λ r. mul (c r) (e r (n + i)))
      ∙ by_ring (row i j ∷ combined c (n + i) ∷ []) (var 0 ⊗ var 1) (var 1 ⊗ var 0) refl))

  -- at a basic column it is minus the number of that column's row
  pub combined-basic : (c : ℕ → Rational) (r : ℕ) → r < m → combined c (basic r) ≡ neg (c r)
  combined-basic c r l =
      sum-one m r (λ q. mul (c q) (e q (basic r))) l (λ q p d. ap (mul (c q)) (tableau.others q r p l d) ∙ by_ring (c q ∷ []) (var 0 ⊗ nought) nought refl)
      ∙ ap (mul (c r)) (tableau.own r l) ∙ by_ring (c r ∷ []) (var 0 ⊗ opp unit) (opp (var 0)) refl

  -- it is 0 at what solves the rows
  pub combined-solved : (c v : ℕ → Rational) → Solves m w e v → sum_below w (λ j. mul (combined c j) (v j)) ≡ whole (pos 0)
  combined-solved c v h =
      sum-cong w _ (λ j. sum_below m (λ r. mul (c r) (mul (e r j) (v j)))) (λ j l.
      by_ring (combined c j ∷ v j ∷ []) (var 0 ⊗ var 1) (var 1 ⊗ var 0) refl
      ∙ sym (sum-mul m (v j) (λ r. mul (c r) (e r j)))
      ∙ sum-cong m _ _ (λ r q. by_ring (v j ∷ c r ∷ e r j ∷ []) (var 0 ⊗ (var 1 ⊗ var 2)) (var 1 ⊗ (var 2 ⊗ var 0)) refl))
      ∙ sum-swap w m (λ j r. mul (c r) (mul (e r j) (v j)))
      ∙ sum-none m _ (λ r q. sum-mul w (c r) (λ j. mul (e r j) (v j)) ∙ ap (mul (c r)) (h r q) ∙ by_ring (c r ∷ []) (var 0 ⊗ nought) nought refl)

  -- ---- reduced costs
  module _ (cost reduced : ℕ → Rational) (is : (j : ℕ) → j < w → reduced j ≡ add (cost j) (combined (λ r. cost (basic r)) j)) where
    -- where the slacks cost nothing
    pub reduced-within : ((i : ℕ) → i < m → n + i < w) → ((i : ℕ) → i < m → cost (n + i) ≡ whole (pos 0)) → (j : ℕ) → j < w → reduced j ≡ add (cost j) (neg (sum_below m (λ i. mul (reduced (n + i)) (row i j))))
    reduced-within inside free j l =
        is j l ∙ ap (add (cost j)) (combined-within (λ r. cost (basic r)) j l
        ∙ ap neg (sum-cong m _ _ (λ i q. ap (λ (x : Rational). mul x (row i j))
        (by_ring (combined (λ r. cost (basic r)) (n + i) ∷ []) (var 0) (nought ⊕ var 0) refl
        ∙ ap (λ (x : Rational). add x (combined (λ r. cost (basic r)) (n + i))) (sym (free i q)) ∙ sym (is (n + i) (inside i q))))))

    pub reduced-basic : (r : ℕ) → r < m → reduced (basic r) ≡ whole (pos 0)
    reduced-basic r l = is (basic r) (tableau.in_range r l) ∙ ap (add (cost (basic r))) (combined-basic (λ q. cost (basic q)) r l) ∙ by_ring (cost (basic r) ∷ []) (var 0 ⊕ opp (var 0)) nought refl

    pub reduced-solved : (v : ℕ → Rational) → Solves m w e v → sum_below w (λ j. mul (reduced j) (v j)) ≡ sum_below w (λ j. mul (cost j) (v j))
    reduced-solved v h =
        sum-cong w _ (λ j. add (mul (cost j) (v j)) (mul (combined (λ r. cost (basic r)) j) (v j))) (λ j l.
        ap (λ (x : Rational). mul x (v j)) (is j l) ∙ by_ring (cost j ∷ combined (λ r. cost (basic r)) j ∷ v j ∷ []) ((var 0 ⊕ var 1) ⊗ var 2) (var 0 ⊗ var 2 ⊕ var 1 ⊗ var 2) refl)
        ∙ sum-add w (λ j. mul (cost j) (v j)) (λ j. mul (combined (λ r. cost (basic r)) j) (v j))
        ∙ ap (add (sum_below w (λ j. mul (cost j) (v j)))) (combined-solved (λ r. cost (basic r)) v h)
        ∙ by_ring (sum_below w (λ j. mul (cost j) (v j)) ∷ []) (var 0 ⊕ nought) (var 0) refl
