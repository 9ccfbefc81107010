-- The values of the columns after a change of one nonbasic column.
use Rattle.std.proofs.Common.{◌≡◌, ◌≢◌, ℕ, ◌<◌, ap, sym, ◌∙◌, refl, ◌⊎◌, inl, inr, [], ◌∷◌}
use Rattle.std.specs.Prelude.{pos}
use Rattle.um_laws.proofs.Ring.{var, nought, unit, ◌⊕◌, ◌⊗◌, opp}
use Rattle.um_laws.specs.Rational.{Rational, whole, add, mul, neg}
use Rattle.um_lp.specs.Basis.{sum_below, TableauOf, Solves, pivot_entry}
use Rattle.um_laws.proofs.RationalEquations.{by_ring, difference_zero}
use Rattle.um_lp.proofs.Rows.{row_with}
use Rattle.um_lp.proofs.Solutions.{solves_after}
use Rattle.um_lp.proofs.Sums.{sum-cong, sum-add, sum-two}

-- from the values v to the values v', column k rises by t, each basic column by its entry times that, and nothing else moves
pub record IsMoved (m w : ℕ) (basic : ℕ → ℕ) (e : ℕ → ℕ → Rational) (k : ℕ) (t : Rational) (v v' : ℕ → Rational) : Type 0 where
  pub own : v' k ≡ add (v k) t
  pub rows : (i : ℕ) → i < m → v' (basic i) ≡ add (v (basic i)) (mul (e i k) t)
  pub rest : (j : ℕ) → j < w → j ≢ k → ((i : ℕ) → i < m → basic i ≢ j) → v' j ≡ v j

-- a rise that is added and taken off again
rise_is : (x y t : Rational) → y ≡ add x t → add y (neg x) ≡ t
rise_is x y t h = ap (λ (z : Rational). add z (neg x)) h ∙ by_ring (x ∷ t ∷ []) ((var 0 ⊕ var 1) ⊕ opp (var 0)) (var 1) refl

-- a nonbasic column moves
module _ (m w n : ℕ) (row : ℕ → ℕ → Rational) (basic : ℕ → ℕ) (e : ℕ → ℕ → Rational) (k : ℕ) (t : Rational) (v v' : ℕ → Rational)
    (tableau : TableauOf m w n row basic e) (lk : k < w) (free : (i : ℕ) → i < m → basic i ≢ k) (moved : IsMoved m w basic e k t v v') where
  -- by how much a part of a row's sum rises
  abbrev rise : ℕ → ℕ → Rational
  rise r j = mul (e r j) (add (v' j) (neg (v j)))

  still : (r j : ℕ) → r < m → j < w → j ≢ k → j ≢ basic r → rise r j ≡ whole (pos 0)
  still r j lr l not_k not_r = go (row_with m basic j)
    where
      go : ((i : ℕ) × (i < m) × (basic i ≡ j)) ⊎ ((i : ℕ) → i < m → basic i ≢ j) → rise r j ≡ whole (pos 0)
      go (inl i) =
          ap (λ (x : Rational). mul x (add (v' j) (neg (v j)))) (sym (ap (e r) i.2) ∙ tableau.others r i.0 lr i.1 (λ q. not_r (sym i.2 ∙ ap basic (sym q))))
          ∙ by_ring (v' j ∷ v j ∷ []) (nought ⊗ (var 0 ⊕ opp (var 1))) nought refl
      go (inr none) = ap (mul (e r j)) (difference_zero (v' j) (v j) (moved.rest j l not_k none)) ∙ by_ring (e r j ∷ []) (var 0 ⊗ nought) nought refl

  pub values-rebox : Solves m w e v → Solves m w e v'
  values-rebox h r lr =
      sum-cong w _ (λ j. add (mul (e r j) (v j)) (rise r j)) (λ j l. by_ring (e r j ∷ v' j ∷ v j ∷ []) (var 0 ⊗ var 1) (var 0 ⊗ var 2 ⊕ var 0 ⊗ (var 1 ⊕ opp (var 2))) refl)
      ∙ sum-add w (λ j. mul (e r j) (v j)) (rise r)
      ∙ ap (λ (x : Rational). add x (sum_below w (rise r))) (h r lr)
      ∙ ap (add (whole (pos 0))) (sum-two w k (basic r) (rise r) lk (tableau.in_range r lr) (λ q. free r lr (sym q)) (λ j l p q. still r j lr l p q))
      ∙ ap (λ (x : Rational). add (whole (pos 0)) (add (mul (e r k) x) (rise r (basic r)))) (rise_is (v k) (v' k) t moved.own)
      ∙ ap (λ (x : Rational). add (whole (pos 0)) (add (mul (e r k) t) (mul (e r (basic r)) x))) (rise_is (v (basic r)) (v' (basic r)) (mul (e r k) t) (moved.rows r lr))
      ∙ ap (λ (x : Rational). add (whole (pos 0)) (add (mul (e r k) t) (mul x (mul (e r k) t)))) (tableau.own r lr)
      ∙ by_ring (e r k ∷ t ∷ []) (nought ⊕ (var 0 ⊗ var 1 ⊕ opp unit ⊗ (var 0 ⊗ var 1))) nought refl

-- a nonbasic column moves, and enters the basis
pub values-pivot : (m w n : ℕ) (row : ℕ → ℕ → Rational) (basic : ℕ → ℕ) (e : ℕ → ℕ → Rational) (r k : ℕ) (t : Rational) (v v' : ℕ → Rational)
    → TableauOf m w n row basic e → r < m → k < w → e r k ≢ whole (pos 0) → ((i : ℕ) → i < m → basic i ≢ k) → IsMoved m w basic e k t v v' → Solves m w e v → Solves m w (pivot_entry e r k) v'
values-pivot m w n row basic e r k t v v' tableau lr lk ne free moved h = solves_after m w e r k v' lr ne (values-rebox m w n row basic e k t v v' tableau lk free moved h)
