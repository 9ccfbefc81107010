-- A basis has one table of entries, and one solution for given nonbasic values.
use Rattle.std.proofs.Common.{◌≡◌, ◌≢◌, ℕ, ◌+◌, ◌<◌, ap, sym, ◌∙◌, subst, refl, ◌⊎◌, inl, inr, [], ◌∷◌}
use Rattle.std.specs.Prelude.{pos}
use Rattle.um_laws.proofs.Ring.{var, nought, unit, ◌⊕◌, ◌⊗◌, opp}
use Rattle.um_laws.specs.Divisors.{gcd}
use Rattle.um_laws.specs.Rational.{Rational, reduce, whole, add, mul, neg}
use Rattle.um_lp.specs.Basis.{sum_below, TableauOf, Solves}
use Rattle.um_lp.specs.Laws.{OneTableauLaw}
use Rattle.um_laws.proofs.RationalEquations.{by_ring, difference_zero, equal_from_difference}
use Rattle.um_lp.proofs.Rows.{row_with, same_or_not}
use Rattle.um_lp.proofs.Sums.{sum-cong, sum-add, sum-mul, sum-neg, sum-one, sum-swap}

-- ---- the entries

pub entries_unique : OneTableauLaw
entries_unique m w n row basic e d te td r j lr lj =
    td.within r j lr lj
    ∙ ap neg (sum-cong m _ _ (λ i l. ap (mul (d r (n + i))) (te.spans i j l lj) ∙ opened i)
    ∙ sum-swap m m (λ i s. mul (neg (e s j)) (mul (d r (n + i)) (row i (basic s))))
    ∙ sum-cong m _ (λ s. mul (e s j) (d r (basic s))) (λ s l.
    sum-mul m (neg (e s j)) (λ i. mul (d r (n + i)) (row i (basic s)))
    ∙ by_ring (e s j ∷ sum_below m (λ i. mul (d r (n + i)) (row i (basic s))) ∷ []) (opp (var 0) ⊗ var 1) (var 0 ⊗ opp (var 1)) refl
    ∙ ap (mul (e s j)) (sym (td.within r (basic s) lr (td.in_range s l))))
    ∙ sum-one m r (λ s. mul (e s j) (d r (basic s))) lr (λ s l ne. ap (mul (e s j)) (td.others r s lr l (λ q. ne (sym q))) ∙ by_ring (e s j ∷ []) (var 0 ⊗ nought) nought refl)
    ∙ ap (mul (e r j)) (td.own r lr))
    ∙ by_ring (e r j ∷ []) (opp (var 0 ⊗ opp unit)) (var 0) refl
  where
    -- a multiple of what a row of the system is, part by part
    opened : (i : ℕ) → mul (d r (n + i)) (neg (sum_below m (λ s. mul (row i (basic s)) (e s j)))) ≡ sum_below m (λ s. mul (neg (e s j)) (mul (d r (n + i)) (row i (basic s))))
    opened i =
        by_ring (d r (n + i) ∷ sum_below m (λ s. mul (row i (basic s)) (e s j)) ∷ []) (var 0 ⊗ opp (var 1)) (opp (var 0) ⊗ var 1) refl
        ∙ sym (sum-mul m (neg (d r (n + i))) (λ s. mul (row i (basic s)) (e s j)))
        ∙ sum-cong m _ _ (λ s l. by_ring (d r (n + i) ∷ row i (basic s) ∷ e s j ∷ []) (opp (var 0) ⊗ (var 1 ⊗ var 2)) (opp (var 2) ⊗ (var 0 ⊗ var 1)) refl)

-- ---- the basic columns

pub minus_one_not_zero : neg (whole (pos 1)) ≢ whole (pos 0)
unfolding neg whole reduce gcd
minus_one_not_zero h = let q = ap (λ (x : Rational). x.num) h in absurd (cc)

-- different rows have different basic columns
pub same_row : (m w n : ℕ) (row : ℕ → ℕ → Rational) (basic : ℕ → ℕ) (e : ℕ → ℕ → Rational) → TableauOf m w n row basic e → (r s : ℕ) → r < m → s < m → basic r ≡ basic s → r ≡ s
same_row m w n row basic e t r s lr ls q = go (same_or_not r s)
  where
    go : (r ≡ s) ⊎ (r ≢ s) → r ≡ s
    go (inl same) = same
    go (inr other) = absurd (minus_one_not_zero (sym (t.own r lr) ∙ ap (e r) q ∙ t.others r s lr ls other))

-- ---- the values

-- two solutions that agree at the nonbasic columns agree
module _ (m w n : ℕ) (row : ℕ → ℕ → Rational) (basic : ℕ → ℕ) (e : ℕ → ℕ → Rational) (x y : ℕ → Rational) (t : TableauOf m w n row basic e) (hx : Solves m w e x) (hy : Solves m w e y)
    (same : (j : ℕ) → j < w → ((i : ℕ) → i < m → basic i ≢ j) → x j ≡ y j) where
  -- the parts by which a row's sum differs at the two
  abbrev part : ℕ → ℕ → Rational
  part r j = mul (e r j) (add (x j) (neg (y j)))

  part_zero : (r j : ℕ) → r < m → j < w → j ≢ basic r → part r j ≡ whole (pos 0)
  part_zero r j lr lj not_r = go (row_with m basic j)
    where
      go : ((i : ℕ) × (i < m) × (basic i ≡ j)) ⊎ ((i : ℕ) → i < m → basic i ≢ j) → part r j ≡ whole (pos 0)
      go (inl i) =
          ap (λ (z : Rational). mul z (add (x j) (neg (y j)))) (sym (ap (e r) i.2) ∙ t.others r i.0 lr i.1 (λ q. not_r (sym i.2 ∙ ap basic (sym q))))
          ∙ by_ring (x j ∷ y j ∷ []) (nought ⊗ (var 0 ⊕ opp (var 1))) nought refl
      go (inr none) = ap (mul (e r j)) (difference_zero (x j) (y j) (same j lj none)) ∙ by_ring (e r j ∷ []) (var 0 ⊗ nought) nought refl

  -- the differing parts of a row sum to 0
  parts_sum : (r : ℕ) → r < m → sum_below w (part r) ≡ whole (pos 0)
  parts_sum r lr =
      sum-cong w _ (λ j. add (mul (e r j) (x j)) (neg (mul (e r j) (y j)))) (λ j l. by_ring (e r j ∷ x j ∷ y j ∷ []) (var 0 ⊗ (var 1 ⊕ opp (var 2))) (var 0 ⊗ var 1 ⊕ opp (var 0 ⊗ var 2)) refl)
      ∙ sum-add w _ _ ∙ ap (add _) (sum-neg w (λ j. mul (e r j) (y j)))
      ∙ difference_zero _ _ (hx r lr ∙ sym (hy r lr))

  same_basic : (r : ℕ) → r < m → x (basic r) ≡ y (basic r)
  same_basic r lr =
      let b : ℕ = basic r in
      equal_from_difference (x b) (y b)
      (by_ring (x b ∷ y b ∷ []) (var 0 ⊕ opp (var 1)) (opp (opp unit ⊗ (var 0 ⊕ opp (var 1)))) refl
      ∙ ap (λ (z : Rational). neg (mul z (add (x b) (neg (y b))))) (sym (t.own r lr))
      ∙ ap neg (sym (sum-one w b (part r) (t.in_range r lr) (λ j l d. part_zero r j lr l d)) ∙ parts_sum r lr)
      ∙ by_ring [] (opp nought) nought refl)

  pub values_unique : (j : ℕ) → j < w → x j ≡ y j
  values_unique j lj = go (row_with m basic j)
    where
      go : ((i : ℕ) × (i < m) × (basic i ≡ j)) ⊎ ((i : ℕ) → i < m → basic i ≢ j) → x j ≡ y j
      go (inl i) = subst (λ (k : ℕ). x k ≡ y k) i.2 (same_basic i.0 i.1)
      go (inr none) = same j lj none
