-- A pivot leads from the tableau of a basis to that of the next.
use Rattle.std.proofs.Common.{◌≡◌, ◌≢◌, ℕ, ◌+◌, ◌<◌, ◌≤◌, arith, ap, sym, ◌∙◌, refl, cond, List, [], ◌∷◌, length, slice_set, slice_index}
use Rattle.std.specs.Prelude.{pos}
use Rattle.std.proofs.lemmas.List.{get_or-set_same, get_or-set_other}
use Rattle.um_laws.proofs.Ring.{var, nought, unit, ◌⊕◌, ◌⊗◌, opp}
use Rattle.um_laws.specs.Rational.{Rational, whole, add, mul, neg, inverse}
use Rattle.um_lp.specs.Basis.{sum_below, TableauOf, pivot_line, pivot_entry, pivot_basic}
use Rattle.um_lp.specs.Laws.{PivotLaw}
use Rattle.um_laws.proofs.RationalEquations.{by_ring, equal_from_difference, factor_is}
use Rattle.um_lp.proofs.ReducedCosts.{reduced-pivot}
use Rattle.um_lp.proofs.Rows.{by_row}
use Rattle.um_lp.proofs.Sums.{sum-cong, sum-add, sum-mul}

-- ---- sums of the system's rows

-- v is a sum of the system's rows, each times minus what v has at its slack
abbrev pub IsWithin : ℕ → ℕ → ℕ → (ℕ → ℕ → Rational) → (ℕ → Rational) → Type 0
IsWithin m w n row v = (j : ℕ) → j < w → v j ≡ neg (sum_below m (λ i. mul (v (n + i)) (row i j)))

IsWithin-mul : (m w n : ℕ) (row : ℕ → ℕ → Rational) (c : Rational) (v : ℕ → Rational) → IsWithin m w n row v → IsWithin m w n row (λ j. mul c (v j))
IsWithin-mul m w n row c v h j l =
    ap (mul c) (h j l)
    ∙ by_ring (c ∷ sum_below m (λ i. mul (v (n + i)) (row i j)) ∷ []) (var 0 ⊗ opp (var 1)) (opp (var 0 ⊗ var 1)) refl
    ∙ ap neg (sym (sum-mul m c (λ i. mul (v (n + i)) (row i j))) ∙ sum-cong m _ _ (λ i p. by_ring (c ∷ v (n + i) ∷ row i j ∷ []) (var 0 ⊗ (var 1 ⊗ var 2)) ((var 0 ⊗ var 1) ⊗ var 2) refl))

IsWithin-add : (m w n : ℕ) (row : ℕ → ℕ → Rational) (u v : ℕ → Rational) → IsWithin m w n row u → IsWithin m w n row v → IsWithin m w n row (λ j. add (u j) (v j))
IsWithin-add m w n row u v h k j l =
    ap (λ (x : Rational). add x (v j)) (h j l) ∙ ap (add _) (k j l)
    ∙ by_ring (sum_below m (λ i. mul (u (n + i)) (row i j)) ∷ sum_below m (λ i. mul (v (n + i)) (row i j)) ∷ []) (opp (var 0) ⊕ opp (var 1)) (opp (var 0 ⊕ var 1)) refl
    ∙ ap neg (sym (sum-add m _ _) ∙ sum-cong m _ _ (λ i p. by_ring (u (n + i) ∷ v (n + i) ∷ row i j ∷ []) (var 0 ⊗ var 2 ⊕ var 1 ⊗ var 2) ((var 0 ⊕ var 1) ⊗ var 2) refl))

-- ---- the pivot
module _ (m w n : ℕ) (row : ℕ → ℕ → Rational) (basic : ℕ → ℕ) (e : ℕ → ℕ → Rational) (r k : ℕ) (t : TableauOf m w n row basic e) (lr : r < m) (ne : e r k ≢ whole (pos 0)) where
  abbrev c : Rational
  c = neg (inverse (e r k))

  own_new : (s : ℕ) → s < m → pivot_entry e r k s (pivot_basic basic r k s) ≡ neg (whole (pos 1))
  own_new s l = by_row (λ b. cond b (mul c (e r (cond b k (basic s)))) (add (e s (cond b k (basic s))) (mul (e s k) (mul c (e r (cond b k (basic s)))))) ≡ neg (whole (pos 1))) s r
      (λ same. factor_is (e r k) ne)
      (λ other. ap (λ (x : Rational). add x (mul (e s k) (mul c (e r (basic s))))) (t.own s l)
      ∙ ap (λ (x : Rational). add (neg (whole (pos 1))) (mul (e s k) (mul c x))) (t.others r s lr l (λ x. other (sym x)))
      ∙ by_ring (e s k ∷ c ∷ []) (opp unit ⊕ var 0 ⊗ (var 1 ⊗ nought)) (opp unit) refl)

  others_new : (s u : ℕ) → s < m → u < m → s ≢ u → pivot_entry e r k s (pivot_basic basic r k u) ≡ whole (pos 0)
  others_new s u l p d = by_row (λ b. pivot_entry e r k s (cond b k (basic u)) ≡ whole (pos 0)) u r
      (λ same. by_row (λ b. cond b (mul c (e r k)) (add (e s k) (mul (e s k) (mul c (e r k)))) ≡ whole (pos 0)) s r
      (λ is. absurd (d (is ∙ sym same)))
      (λ other. ap (λ (x : Rational). add (e s k) (mul (e s k) x)) (factor_is (e r k) ne) ∙ by_ring (e s k ∷ []) (var 0 ⊕ var 0 ⊗ opp unit) nought refl))
      (λ u_other. by_row (λ b. cond b (mul c (e r (basic u))) (add (e s (basic u)) (mul (e s k) (mul c (e r (basic u))))) ≡ whole (pos 0)) s r
      (λ is. ap (mul c) (t.others r u lr p (λ x. u_other (sym x))) ∙ by_ring (c ∷ []) (var 0 ⊗ nought) nought refl)
      (λ other. ap (λ (x : Rational). add x (mul (e s k) (mul c (e r (basic u))))) (t.others s u l p d)
      ∙ ap (λ (x : Rational). add (whole (pos 0)) (mul (e s k) (mul c x))) (t.others r u lr p (λ x. u_other (sym x)))
      ∙ by_ring (e s k ∷ c ∷ []) (nought ⊕ var 0 ⊗ (var 1 ⊗ nought)) nought refl))

  line_within : IsWithin m w n row (λ j. mul c (e r j))
  line_within = IsWithin-mul m w n row c (λ j. e r j) (λ j l. t.within r j lr l)

  within_new : (s : ℕ) → s < m → IsWithin m w n row (λ j. pivot_entry e r k s j)
  within_new s l = by_row (λ b. IsWithin m w n row (λ j. cond b (mul c (e r j)) (add (e s j) (mul (e s k) (mul c (e r j)))))) s r
      (λ same. line_within)
      (λ other. IsWithin-add m w n row (λ j. e s j) (λ j. mul (e s k) (mul c (e r j))) (λ j q. t.within s j l q) (IsWithin-mul m w n row (e s k) (λ j. mul c (e r j)) line_within))

  in_range_new : k < w → (s : ℕ) → s < m → pivot_basic basic r k s < w
  in_range_new lk s l = by_row (λ b. cond b k (basic s) < w) s r (λ same. lk) (λ other. t.in_range s l)

  -- for the costs that the system's row is, the entries' rows give it where all reduced costs are 0
  spans_new : k < w → (i j : ℕ) → i < m → j < w → row i j ≡ neg (sum_below m (λ s. mul (row i (pivot_basic basic r k s)) (pivot_entry e r k s j)))
  spans_new lk i j li lj =
      let zero_at : (q : ℕ) → q < w → add (row i q) (sum_below m (λ s. mul (row i (basic s)) (e s q))) ≡ whole (pos 0) = λ q lq.
      ap (λ (x : Rational). add x (sum_below m (λ s. mul (row i (basic s)) (e s q)))) (t.spans i q li lq)
      ∙ by_ring (sum_below m (λ s. mul (row i (basic s)) (e s q)) ∷ []) (opp (var 0) ⊕ var 0) nought refl in
      let total : Rational = sum_below m (λ s. mul (row i (pivot_basic basic r k s)) (pivot_entry e r k s j)) in
      equal_from_difference (row i j) (neg total)
      (by_ring (row i j ∷ total ∷ []) (var 0 ⊕ opp (opp (var 1))) (var 0 ⊕ var 1) refl
      ∙ reduced-pivot m (row i) basic e r k j lr ne
      ∙ ap (λ (x : Rational). add x (mul (add (row i k) (sum_below m (λ s. mul (row i (basic s)) (e s k)))) (pivot_line e r k j))) (zero_at j lj)
      ∙ ap (λ (x : Rational). add (whole (pos 0)) (mul x (pivot_line e r k j))) (zero_at k lk)
      ∙ by_ring (pivot_line e r k j ∷ []) (nought ⊕ nought ⊗ var 0) nought refl)

  -- the law of pivots
  pub TableauOf-pivot : k < w → TableauOf m w n row (pivot_basic basic r k) (pivot_entry e r k)
  TableauOf-pivot lk = record { in_range = in_range_new lk; own = own_new; others = others_new; within = λ s j l q. within_new s l j q; spans = spans_new lk }

pub pivot-law : PivotLaw
pivot-law m w n row basic e r k t lr lk ne = TableauOf-pivot m w n row basic e r k t lr ne lk

-- ---- tableaus that agree

-- bases, entries and systems that agree in range are tableaus alike
pub TableauOf-same : (m w n : ℕ) (row row' : ℕ → ℕ → Rational) (b b' : ℕ → ℕ) (e e' : ℕ → ℕ → Rational) → n + m ≤ w
    → ((i j : ℕ) → i < m → j < w → row' i j ≡ row i j) → ((r : ℕ) → r < m → b' r ≡ b r) → ((r j : ℕ) → r < m → j < w → e' r j ≡ e r j)
    → TableauOf m w n row b e → TableauOf m w n row' b' e'
TableauOf-same m w n row row' b b' e e' fits hrow hb he t = record {
  in_range = λ r l. (let x = t.in_range r l in let y = hb r l in omega arith);
  own = λ r l. ap (e' r) (hb r l) ∙ he r (b r) l (t.in_range r l) ∙ t.own r l;
  others = λ r s l p d. ap (e' r) (hb s p) ∙ he r (b s) l (t.in_range s p) ∙ t.others r s l p d;
  within = λ r j l q. he r j l q ∙ t.within r j l q
      ∙ ap neg (sum-cong m _ _ (λ i p. ap (λ (x : Rational). mul x (row i j)) (sym (he r (n + i) l (omega arith))) ∙ ap (mul (e' r (n + i))) (sym (hrow i j p q))));
  spans = λ i j l q. hrow i j l q ∙ t.spans i j l q
      ∙ ap neg (sum-cong m _ _ (λ r p. ap (mul (row i (b r))) (sym (he r j p q)) ∙ ap (λ (x : Rational). mul x (e' r j)) (sym (ap (row' i) (hb r p) ∙ hrow i (b r) l (t.in_range r p)))));
}

-- the basic columns after a pivot, as a list
pub basic-set : (b : List ℕ) (r k s : ℕ) → r < length b → slice_index (slice_set b r k) s ≡ pivot_basic (slice_index b) r k s
basic-set b r k s l = by_row (λ t. slice_index (slice_set b r k) s ≡ cond t k (slice_index b s)) s r
    (λ same. ap (slice_index (slice_set b r k)) same ∙ get_or-set_same b r k 0 l)
    (λ other. get_or-set_other b r s k 0 other)
