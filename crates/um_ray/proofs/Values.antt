-- The value of the start problem: no column adds to it, and none takes from it exactly where each end that a reduced cost wants is finite.
use Rattle.std.proofs.Common.{◌≡◌, ℕ, ◌+◌, ◌-◌, ◌<◌, arith, ap, sym, subst, ◌∙◌, refl, ◌⊎◌, inl, inr, [], ◌∷◌, length, Option, Some}
use Rattle.std.specs.Prelude.{ℤ, pos, negsuc, zero, suc, ◌<ℤ◌, ◌≤ℤ◌, IsSome, slice_index_or}
use Rattle.std.proofs.lemmas.Int.{ints}
use Rattle.um_laws.specs.Rational.{Rational, whole, add, mul, neg}
use Rattle.um_laws.proofs.RationalOrder.{IsNonNegative, IsPositive, nonneg-mul, positive-add, positive-mul, sign_of, nonneg_of_positive}
use Rattle.um_laws.proofs.RationalEquations.{by_ring}
use Rattle.um_laws.proofs.Ring.{var, nought, ◌⊕◌, ◌⊗◌, opp}
use Rattle.um_model.specs.Values.{DeckValue}
use Rattle.um_model.specs.Boxes.{root}
use Rattle.um_lp.specs.Basis.{sum_below}
use Rattle.um_lp.specs.States.{State, width, at_of, state_ends_of, reduced_of, value_of}
use Rattle.um_lp.specs.declared.board.Costs.TheVariants.{Given}
use Rattle.um_lp.proofs.Orders.{whole_num}
use Rattle.um_lp.proofs.Sums.{sum-none, sum-neg}
use Rattle.um_dual.proofs.Gains.{at_basic_reduced, reduced_times}
use Rattle.um_dual.proofs.Sided.{sum_nonneg, all_zero}
use Rattle.um_dual.proofs.Signs.{nonneg_zero}
use Rattle.um_dual.proofs.Turns.{zero_not_positive}
use Rattle.um_duality.specs.Laws.{IsOnBox}
use Rattle.um_duality.specs.Boxed.{ends_on}
use Rattle.um_duality.proofs.LeafBridge.{Takes}
use Rattle.um_duality.proofs.PricedBoards.{takes-none, takes-end, basic-or-not}
use Rattle.um_duality.proofs.Wholes.{Sign, Above, Nil, Under, signs, num-under, whole-same, whole-positive, whole-negative}
use Rattle.um_duality.proofs.DeckBoards.{width-is}
use Rattle.um_laws.proofs.Places.{below_or, item_at}
use Rattle.um_duality.specs.Relaxed.{side_end}
use Rattle.um_ray.specs.Directions.{still, directions}
use Rattle.um_ray.specs.Rays.{slope}
use Rattle.um_ray.specs.Starts.{WantsOwnEnds}
use Rattle.um_ray.specs.Laws.{LeastLaw, LevelLaw}
use Rattle.um_ray.proofs.MovingEnds.{AreMoving, moving, stands_on_deck, start_slack, still_is}
use Rattle.um_ray.proofs.Slopes.{slope-is, scale, scale-above}

-- ---- one column, over numbers

-- a whole number that is not above 0
pub under_nought : (l : ℤ) → l ≤ℤ pos 0 → IsNonNegative (neg (whole l))
under_nought (pos zero) le = nonneg_zero (neg (whole (pos 0))) (by_ring [] (opp nought) nought refl)
under_nought (pos (suc n)) le = absurd (omega (arith, ints))
under_nought (negsuc n) le = nonneg_of_positive (neg (whole (negsuc n))) (whole-negative (negsuc n) (omega (arith, ints)))

pub not_above : (z : ℤ) → IsNonNegative (neg (whole z)) → z ≤ℤ pos 0
not_above (pos zero) h = omega (arith, ints)
not_above (pos (suc n)) h =
    absurd (zero_not_positive (add (neg (whole (pos (suc n)))) (whole (pos (suc n))))
    (by_ring (whole (pos (suc n)) ∷ []) (opp (var 0) ⊕ var 0) nought refl)
    (positive-add (neg (whole (pos (suc n)))) (whole (pos (suc n))) h (whole-positive (pos (suc n)) (omega (arith, ints)))))
not_above (negsuc n) h = omega (arith, ints)

-- an end that a factor takes is 0 or adds to the sum below 0
taken_low : (d v : Rational) (l : ℤ) → IsPositive d → v ≡ whole l → l ≤ℤ pos 0 → IsNonNegative (neg (mul d v))
taken_low d v l p e le =
    subst IsNonNegative (ap (λ (x : Rational). mul d (neg x)) (sym e) ∙ by_ring (d ∷ v ∷ []) (var 0 ⊗ opp (var 1)) (opp (var 0 ⊗ var 1)) refl)
    (nonneg-mul d (neg (whole l)) (nonneg_of_positive d p) (under_nought l le))

taken_high : (d v : Rational) (h : ℤ) → IsPositive (neg d) → v ≡ whole h → pos 0 ≤ℤ h → IsNonNegative (neg (mul d v))
taken_high d v h p e le =
    subst IsNonNegative (ap (mul (neg d)) (sym e) ∙ by_ring (d ∷ v ∷ []) (opp (var 0) ⊗ var 1) (opp (var 0 ⊗ var 1)) refl)
    (nonneg-mul (neg d) (whole h) (nonneg_of_positive (neg d) p) (let f = whole_num h in omega (arith, ints)))

no_part : (d v : Rational) → d ≡ whole (pos 0) → mul d v ≡ whole (pos 0)
no_part d v e = ap (λ (x : Rational). mul x v) e ∙ by_ring (v ∷ []) (nought ⊗ var 0) nought refl

no_value : (d v : Rational) → v ≡ whole (pos 0) → mul d v ≡ whole (pos 0)
no_value d v e = ap (mul d) e ∙ by_ring (d ∷ []) (var 0 ⊗ nought) nought refl

pub minus_nothing : (x : Rational) → x ≡ whole (pos 0) → neg x ≡ whole (pos 0)
minus_nothing x e = ap neg e ∙ by_ring [] (opp nought) nought refl

nothing_minus : (x : Rational) → neg x ≡ whole (pos 0) → x ≡ whole (pos 0)
nothing_minus x e = by_ring (x ∷ []) (var 0) (opp (opp (var 0))) refl ∙ minus_nothing (neg x) e

-- a number below 0
under : (x : Rational) → x.num <ℤ pos 0 → IsPositive (neg x)
under x h = elim (sign_of x) [ inl p ↦ absurd (omega (arith, ints)) | inr p ↦ p ]

-- a product with a number above 0 is 0 only where the other factor is
cancel : (k x : Rational) → IsPositive k → mul k x ≡ whole (pos 0) → x ≡ whole (pos 0)
cancel k x h e = go (signs x)
  where
    go : Sign x → x ≡ whole (pos 0)
    go (Above p) = absurd (zero_not_positive (mul k x) e (positive-mul k x h p))
    go (Nil f) = f
    go (Under p) = absurd (zero_not_positive (mul k (neg x)) (by_ring (k ∷ x ∷ []) (var 0 ⊗ opp (var 1)) (opp (var 0 ⊗ var 1)) refl ∙ minus_nothing (mul k x) e) (positive-mul k (neg x) h p))

-- a column whose ends are 0 takes nothing
taken_nothing : (d v : Rational) (low high : Option ℤ) → ((l : ℤ) → low ≡ Some l → l ≡ pos 0) → ((h : ℤ) → high ≡ Some h → h ≡ pos 0) → Takes d (low, high) v → mul d v ≡ whole (pos 0)
taken_nothing d v low high zero_low zero_high t = go (signs d)
  where
    go : Sign d → mul d v ≡ whole (pos 0)
    go (Above p) = let l = t.above p in no_value d v (l.2 ∙ ap whole (zero_low l.0 l.1))
    go (Nil e) = no_part d v e
    go (Under p) = let h = t.under p in no_value d v (h.2 ∙ ap whole (zero_high h.0 h.1))

module _ (d v : Rational) (own start : Option ℤ × Option ℤ) (m : AreMoving own start) (t : Takes d start v) where
  -- what a column takes is at most 0
  pub loses : IsNonNegative (neg (mul d v))
  loses = go (signs d)
    where
      go : Sign d → IsNonNegative (neg (mul d v))
      go (Above p) = let l = t.above p in taken_low d v l.0 p l.2 (m.low l.0 l.1)
      go (Nil e) = nonneg_zero (neg (mul d v)) (minus_nothing (mul d v) (no_part d v e))
      go (Under p) = let h = t.under p in taken_high d v h.0 p h.2 (m.high h.0 h.1)

  -- where that is 0, the deck has the end
  pub holds_low : mul d v ≡ whole (pos 0) → IsPositive d → IsSome own.0
  holds_low e p = let l = t.above p in m.held_low (by_end l.0 l.1 l.2 (m.low l.0 l.1))
    where
      by_end : (l : ℤ) → start.0 ≡ Some l → v ≡ whole l → l ≤ℤ pos 0 → start.0 ≡ Some (pos 0)
      by_end (pos zero) is at le = is
      by_end (pos (suc n)) is at le = absurd (omega (arith, ints))
      by_end (negsuc n) is at le =
          absurd (zero_not_positive (mul d (neg v))
          (by_ring (d ∷ v ∷ []) (var 0 ⊗ opp (var 1)) (opp (var 0 ⊗ var 1)) refl ∙ minus_nothing (mul d v) e)
          (positive-mul d (neg v) p (subst (λ (x : Rational). IsPositive (neg x)) (sym at) (whole-negative (negsuc n) (omega (arith, ints))))))

  pub holds_high : mul d v ≡ whole (pos 0) → IsPositive (neg d) → IsSome own.1
  holds_high e p = let h = t.under p in m.held_high (by_end h.0 h.1 h.2 (m.high h.0 h.1))
    where
      by_end : (h : ℤ) → start.1 ≡ Some h → v ≡ whole h → pos 0 ≤ℤ h → start.1 ≡ Some (pos 0)
      by_end (pos zero) is at le = is
      by_end (pos (suc n)) is at le =
          absurd (zero_not_positive (mul (neg d) v)
          (by_ring (d ∷ v ∷ []) (opp (var 0) ⊗ var 1) (opp (var 0 ⊗ var 1)) refl ∙ minus_nothing (mul d v) e)
          (positive-mul (neg d) v p (subst IsPositive (sym at) (whole-positive (pos (suc n)) (omega (arith, ints))))))
      by_end (negsuc n) is at le = absurd (omega (arith, ints))

  -- where the deck has each end that the factor wants, that is 0
  pub nothing_lost : (IsPositive d → IsSome own.0) → (IsPositive (neg d) → IsSome own.1) → mul d v ≡ whole (pos 0)
  nothing_lost low high = go (signs d)
    where
      same_end : (o : Option ℤ) (x : ℤ) → o ≡ Some x → o ≡ Some (pos 0) → x ≡ pos 0
      same_end o x e f = cc

      go : Sign d → mul d v ≡ whole (pos 0)
      go (Above p) = let l = t.above p in no_value d v (l.2 ∙ ap whole (same_end start.0 l.0 l.1 (m.own_low (low p))))
      go (Nil e) = no_part d v e
      go (Under p) = let h = t.under p in no_value d v (h.2 ∙ ap whole (same_end start.1 h.0 h.1 (m.own_high (high p))))

  -- where a column takes something, its value is 1 in size
  pub unit_value : (mul d v ≡ whole (pos 0)) ⊎ ((v ≡ whole (pos 1)) ⊎ (v ≡ whole (negsuc 0)))
  unit_value = go (signs d)
    where
      go : Sign d → (mul d v ≡ whole (pos 0)) ⊎ ((v ≡ whole (pos 1)) ⊎ (v ≡ whole (negsuc 0)))
      go (Above p) = let l = t.above p in elim (m.one_low l.0 l.1) [ inl e ↦ inl (no_value d v (l.2 ∙ ap whole e)) | inr e ↦ inr (inr (l.2 ∙ ap whole e)) ]
      go (Nil e) = inl (no_part d v e)
      go (Under p) = let h = t.under p in elim (m.one_high h.0 h.1) [ inl e ↦ inl (no_value d v (h.2 ∙ ap whole e)) | inr e ↦ inr (inl (h.2 ∙ ap whole e)) ]

-- a number below the bound has the second, or all have the first
pub some_or_all : (P Q : ℕ → Type 0) (n : ℕ) → ((j : ℕ) → j < n → P j ⊎ Q j) → ((j : ℕ) → j < n → P j) ⊎ ((j : ℕ) × (j < n) × Q j)
some_or_all P Q zero h = inl (λ j l. absurd (omega arith))
some_or_all P Q (suc n) h = elim (h n (omega arith)) [
  | inr q ↦ inr (n, omega arith, q)
  | inl p ↦ elim (some_or_all P Q n (λ j l. h j (omega arith))) [
    | inr found ↦ inr (found.0, (let l = found.1 in omega arith), found.2)
    | inl all ↦ inl (λ j l. elim (last_or j n l) [ inl e ↦ subst P (sym e) p | inr k ↦ all j k ])
  ]
]
  where
    last_or : (j n : ℕ) → j < suc n → (j ≡ n) ⊎ (j < n)
    last_or j n l = grind arith

-- ---- all columns
module _ (d : DeckValue) (t : State) (on : IsOnBox (directions d) (root (directions d)) t) (given : t.costs ≡ Given) where
  abbrev w : ℕ
  w = width t.frame

  abbrev lost : ℕ → Rational
  lost j = mul (reduced_of t j) (value_of t j)

  moves : (j : ℕ) → j < w → AreMoving (ends_on d (root d) j) (state_ends_of t j)
  moves j l =
      subst (λ (e : Option ℤ × Option ℤ). AreMoving (ends_on d (root d) j) e) (sym (on.boxed j l))
      (moving d j (omega (arith, width-is d t (stands_on_deck d t on.stands))))

  takes : (j : ℕ) → j < w → Takes (reduced_of t j) (state_ends_of t j) (value_of t j)
  takes j l = elim (basic-or-not (at_of t j)) [
    | inl e ↦ takes-none (reduced_of t j) (value_of t j) (state_ends_of t j) (at_basic_reduced t on.board j l e)
    | inr ne ↦ takes-end t j (reduced_of t j) l on.board.values (on.feasible j l) ne ((on.feasible j l).positive ne) (λ p. (on.feasible j l).negative ne (num-under (reduced_of t j) p))
  ]

  -- the value of the problem is the sum of what the columns take
  value-is : whole (slope d t) ≡ mul (scale t) (sum_below w lost)
  value-is = slope-is d t on given ∙ ap (mul (scale t)) (sym (reduced_times t on.board (value_of t) on.board.values.basic))

  all_lose : (j : ℕ) → j < w → IsNonNegative (neg (lost j))
  all_lose j l = loses (reduced_of t j) (value_of t j) (ends_on d (root d) j) (state_ends_of t j) (moves j l) (takes j l)

  sum_loses : IsNonNegative (neg (sum_below w lost))
  sum_loses = subst IsNonNegative (sum-neg w lost) (sum_nonneg w (λ j. neg (lost j)) all_lose)

  least : slope d t ≤ℤ pos 0
  least =
      let h : IsNonNegative (neg (whole (slope d t))) =
      subst IsNonNegative (by_ring (scale t ∷ sum_below w lost ∷ []) (var 0 ⊗ opp (var 1)) (opp (var 0 ⊗ var 1)) refl ∙ ap neg (sym value-is))
      (nonneg-mul (scale t) (neg (sum_below w lost)) (nonneg_of_positive (scale t) (scale-above t)) sum_loses) in
      not_above (slope d t) h

  -- nothing is lost at a value of 0
  none_lost : slope d t ≡ pos 0 → (j : ℕ) → j < w → lost j ≡ whole (pos 0)
  none_lost e j l = nothing_minus (lost j) (all_zero w (λ i. neg (lost i)) all_lose (sum-neg w lost ∙ minus_nothing (sum_below w lost) level) j l)
    where
      level : sum_below w lost ≡ whole (pos 0)
      level = cancel (scale t) (sum_below w lost) (scale-above t) (sym value-is ∙ ap whole e)

  wants : slope d t ≡ pos 0 → WantsOwnEnds d t
  wants e j l = record {
    low = λ ne p. holds_low (reduced_of t j) (value_of t j) (ends_on d (root d) j) (state_ends_of t j) (moves j l) (takes j l) (none_lost e j l) p;
    high = λ ne p. holds_high (reduced_of t j) (value_of t j) (ends_on d (root d) j) (state_ends_of t j) (moves j l) (takes j l) (none_lost e j l) (under (reduced_of t j) p);
  }

  wanted : WantsOwnEnds d t → (j : ℕ) → j < w → lost j ≡ whole (pos 0)
  wanted h j l = elim (basic-or-not (at_of t j)) [
    | inl e ↦ no_part (reduced_of t j) (value_of t j) (at_basic_reduced t on.board j l e)
    | inr ne ↦ nothing_lost (reduced_of t j) (value_of t j) (ends_on d (root d) j) (state_ends_of t j) (moves j l) (takes j l) ((h j l).low ne) (λ p. (h j l).high ne (num-under (reduced_of t j) p))
  ]

  level-at : WantsOwnEnds d t → slope d t ≡ pos 0
  level-at h = whole-same (slope d t) (pos 0) (value-is ∙ no_value (scale t) (sum_below w lost) (sum-none w lost (wanted h)))

  -- nothing is lost at a slack, whose ends are 0
  slack_lost : (i : ℕ) → i < length d.rows → lost (length d.columns + i) ≡ whole (pos 0)
  slack_lost i l =
      let j : ℕ = length d.columns + i in
      let r = item_at d.rows i l in
      let inside : j < w = omega (arith, l, width-is d t (stands_on_deck d t on.stands)) in
      let ends : state_ends_of t j ≡ (side_end (still (slice_index_or d.rows i r.0).low), side_end (still (slice_index_or d.rows i r.0).high)) = on.boxed j inside ∙ start_slack d i r.0 l in
      taken_nothing (reduced_of t j) (value_of t j) (side_end (still (slice_index_or d.rows i r.0).low)) (side_end (still (slice_index_or d.rows i r.0).high)) (still_is (slice_index_or d.rows i r.0).low) (still_is (slice_index_or d.rows i r.0).high)
      (subst (λ (e : Option ℤ × Option ℤ). Takes (reduced_of t j) e (value_of t j)) ends (takes j inside))

  abbrev IsUnit : ℕ → Type 0
  IsUnit j = (value_of t j ≡ whole (pos 1)) ⊎ (value_of t j ≡ whole (negsuc 0))

  -- what a column of the deck or a slack takes: nothing, or its value is 1 in size
  unit_or_not : (j : ℕ) → j < w → (lost j ≡ whole (pos 0)) ⊎ ((j < length d.columns) × IsUnit j)
  unit_or_not j l = elim (below_or j (length d.columns)) [
    | inl c ↦ elim (unit_value (reduced_of t j) (value_of t j) (ends_on d (root d) j) (state_ends_of t j) (moves j l) (takes j l)) [ inl e ↦ inl e | inr u ↦ inr (c, u) ]
    | inr r ↦
        let i : ℕ = j - length d.columns in
        let e : length d.columns + i ≡ j = omega arith in
        inl (subst (λ (k : ℕ). lost k ≡ whole (pos 0)) e (slack_lost i (omega (arith, l, r, width-is d t (stands_on_deck d t on.stands)))))
  ]

  -- where the value is not 0, that of some column of the deck is 1 in size
  pub some_unit : ¬ (slope d t ≡ pos 0) → (j : ℕ) × (j < length d.columns) × IsUnit j
  some_unit ne =
      elim (some_or_all (λ j. lost j ≡ whole (pos 0)) (λ j. (j < length d.columns) × IsUnit j) w unit_or_not) [
        | inl all ↦ absurd (ne (whole-same (slope d t) (pos 0) (value-is ∙ no_value (scale t) (sum_below w lost) (sum-none w lost all))))
        | inr found ↦ (found.0, found.2.0, found.2.1)
      ]

pub least-law : LeastLaw
least-law d t on given = least d t on given

pub level-law : LevelLaw
level-law d t on given = (wants d t on given, level-at d t on given)
