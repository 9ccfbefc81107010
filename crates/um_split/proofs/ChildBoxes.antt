-- The branch that a point of a box asks for fits the box and cuts the point off.
use Rattle.std.proofs.Common.{◌≡◌, ◌≢◌, ℕ, ◌<◌, ℤ, pos, ◌+ℤ◌, ◌*ℤ◌, ◌≤ℤ◌, ◌<ℤ◌, Bool, true, false, List, length, Option, Some, None, IsSomeAnd, option_map, refl, sym, ap, ◌∙◌, subst, inl, inr, arith}
use Rattle.std.specs.Prelude.{IsSome, slice_get, slice_index_or, slice_set, if◌then◌else◌, ◌⊎◌}
use Rattle.std.specs.Option.{ForSome}
use Rattle.std.proofs.lemmas.Bool.{false≢true}
use Rattle.std.proofs.lemmas.Int.{ints, by_lt_z}
use Rattle.std.proofs.lemmas.List.{get_or_past, get_or-set_same}
use Rattle.um_laws.proofs.Places.{item_at, item_of, below_or}
use Rattle.um_laws.proofs.WholeLaws.{*ℤ-mono, *ℤ_comm}
use Rattle.um_model.specs.Values.{DeckValue, ColumnValue, PointValue}
use Rattle.um_model.specs.WellFormed.{IsDeck, HasTwoEnds}
use Rattle.um_model.specs.Feasible.{part, Between, IsMultipleOf}
use Rattle.um_model.specs.Boxes.{BoxValue, Ends, InBox, ends_at, ends_of, is_shut_out, free}
use Rattle.um_model.specs.Branches.{FitsInt, FitsSemi, child, kind_of, threshold_in, threshold_of}
use Rattle.um_model.specs.declared.branch.Branch.{Branch}
use Rattle.um_model.specs.declared.branch.Branch.TheVariants.{Int, Cut, Semi as OnSemi, One, Two}
use Rattle.um_model.specs.declared.branch.Side.{Side}
use Rattle.um_model.specs.declared.branch.Side.TheVariants.{Left, Right}
use Rattle.um_model.specs.declared.deck.Kind.{Kind}
use Rattle.um_model.specs.declared.deck.Kind.TheVariants.{Continuous, Integer, Semi}
use Rattle.um_split.specs.Branchings.{IsFirstPart, IsFirstSemi, IsFirstSet}
use Rattle.um_split.specs.Laws.{IsPointOf, CutsOff, BranchingLaw}
use Rattle.um_split.proofs.Cuts.{split-law}
use Rattle.um_split.proofs.Floors.{low_below, high_above, not_below, not_above}
use Rattle.um_split.proofs.Reached.{above, from_one}

-- ---- the kind of a column whose rule fails

is_integer : (k : Kind) (P : Type 0) → ¬ (k ≡ Integer → P) → k ≡ Integer
is_integer Continuous P h = absurd (h (λ e. absurd (cc)))
is_integer Integer P h = refl
is_integer (Semi threshold) P h = absurd (h (λ e. absurd (cc)))

-- a value x / q other than 0 and below the threshold
record IsBroken (k : Kind) (q x : ℤ) : Type 0 where
  threshold : ℤ
  kind : k ≡ Semi threshold
  nonzero : x ≢ pos 0
  below : (pos 1000 *ℤ x) <ℤ (threshold *ℤ q)

integer_differs : (k : Kind) → k ≡ Integer → k ≢ Continuous
integer_differs k is continuous = absurd (cc)

semi_differs : (k : Kind) (threshold : ℤ) → k ≡ Semi threshold → k ≢ Continuous
semi_differs k threshold is continuous = absurd (cc)

same_threshold : (s t : ℤ) → Semi s ≡ Semi t → s ≡ t
same_threshold s t e = cc

broken_semi : (k : Kind) (q x : ℤ) → ¬ ((t : ℤ) → k ≡ Semi t → (x ≡ pos 0) ⊎ ((t *ℤ q) ≤ℤ (pos 1000 *ℤ x))) → IsBroken k q x
broken_semi Continuous q x h = absurd (h (λ t e. absurd (cc)))
broken_semi Integer q x h = absurd (h (λ t e. absurd (cc)))
broken_semi (Semi s) q x h = record {
  threshold = s;
  kind = refl;
  nonzero = λ zero. h (λ t e. inl zero);
  below = above (s *ℤ q) (pos 1000 *ℤ x) (λ le. h (λ t e. inr (subst (λ (u : ℤ). (u *ℤ q) ≤ℤ (pos 1000 *ℤ x)) (same_threshold s t e) le)));
}

-- ---- ends that are there

end_and : {P Q : ℤ → Type 0} (end : Option ℤ) → IsSome end → ForSome end P → ((z : ℤ) → P z → Q z) → IsSomeAnd end Q
end_and None some all step = absurd (false≢true some)
end_and (Some z) some all step = step z (all z refl)

low_kept : (out : Bool) (e : Ends) → (if out then record { low = e.low; high = Some (pos 0) } else e).low ≡ e.low
low_kept true e = refl
low_kept false e = refl

-- a column with a low end is one of the box
in_box : (ends : List Ends) (column : ℕ) → IsSome (slice_index_or ends column free).low → column < length ends
in_box ends column some = elim (below_or column (length ends)) [
  | inl inside ↦ inside
  | inr past ↦ absurd (false≢true (subst (λ (e : Ends). IsSome e.low) (get_or_past ends column free past) some))
]

-- ---- products with a denominator

-- an end that a value above 0 does not pass is above 0
above_zero : (q x t : ℤ) → pos 1 ≤ℤ q → pos 1 ≤ℤ x → (pos 1000 *ℤ x) ≤ℤ (t *ℤ q) → pos 0 <ℤ t
above_zero q x t den up le = by_lt_z (pos 0) t (λ (g : pos 0 <ℤ t). g) (λ (g : t ≤ℤ pos 0). absurd (
    let m = *ℤ-mono q t (pos 0) (omega (arith, ints)) g in
    omega (arith, ints, m, le, up, *ℤ_comm t q)))

at_least_zero : (q x : ℤ) → (pos 0 *ℤ q) ≤ℤ (pos 1000 *ℤ x) → pos 0 ≤ℤ x
at_least_zero q x h = omega (arith, ints, h)

less_is_most : (a b : ℤ) → a <ℤ b → a ≤ℤ b
less_is_most a b h = omega (arith, ints, h)

not_both : (a b : ℤ) → a <ℤ b → ¬ (b ≤ℤ a)
not_both a b h le = omega (arith, ints, h, le)

-- ---- a column of the box

module _ (d : DeckValue) (b : BoxValue) (p : PointValue) (point : IsPointOf d b p) (column : ℕ) (inside : column < length d.columns) where
  value : ℤ
  value = part p.parts column

  between : Between (ends_of d b column).low (ends_of d b column).high p.den (pos 1000 *ℤ part p.parts column)
  between = point.holds.ends column inside

  there : HasTwoEnds (ends_of d b column).low (ends_of d b column).high → column < length b.ends
  there two = in_box b.ends column (subst (λ (o : Option ℤ). IsSome o) (low_kept (is_shut_out d b column) (ends_at b column)) two.low)

  -- where a box has these ends for a column with two ends, a point of it has its value between them
  within : HasTwoEnds (ends_of d b column).low (ends_of d b column).high → (e : Ends) → InBox d (record b { ends = slice_set b.ends column e }) p → Between e.low e.high p.den (pos 1000 *ℤ part p.parts column)
  within two e box = subst (λ (x : Ends). Between x.low x.high p.den (pos 1000 *ℤ part p.parts column)) (get_or-set_same b.ends column e free (there two)) (box.ends column inside)

-- ---- an integer column

module _ (d : DeckValue) (b : BoxValue) (p : PointValue) (point : IsPointOf d b p) (column : ℕ) (f : ℤ) (is : IsFirstPart d p column f) where
  item : (c : ColumnValue) × (slice_get d.columns column ≡ Some c)
  item = item_at d.columns column is.first.inside

  fails : ¬ (item.0.kind ≡ Integer → IsMultipleOf p.den (part p.parts column))
  fails = subst (λ (c : ColumnValue). ¬ (c.kind ≡ Integer → IsMultipleOf p.den (part p.parts column))) ((item_of d.columns column item.0 item.1).is item.0) (is.first.fails item.0)

  broken : ¬ IsMultipleOf p.den (part p.parts column)
  broken m = fails (λ _. m)

  own_integer : item.0.kind ≡ Integer
  own_integer = is_integer item.0.kind (IsMultipleOf p.den (part p.parts column)) fails

  kind : kind_of d column ≡ Some Integer
  kind = ap (option_map (λ (c : ColumnValue). c.kind)) item.1 ∙ ap (λ (k : Kind). Some k) own_integer

  two_ends : HasTwoEnds (ends_of d b column).low (ends_of d b column).high
  two_ends = point.ends column item.0 item.1 (integer_differs item.0.kind own_integer)

  fits_integer : FitsInt d b column f
  fits_integer =
      let lies = between d b p point column is.first.inside in record {
        kind = kind;
        low = end_and (ends_of d b column).low two_ends.low lies.above (low_below p.den (part p.parts column) f point.holds.den is.floor);
        high = end_and (ends_of d b column).high two_ends.high lies.below (high_above p.den (part p.parts column) f point.holds.den is.floor broken);
      }

  outside_integer : (side : Side) → ¬ InBox d (child d b (Int column f) side) p
  outside_integer Left box =
      let cut = within d b p point column is.first.inside two_ends (record { low = (ends_at b column).low; high = Some (pos 1000 *ℤ f) }) box in
      not_below p.den (part p.parts column) f point.holds.den is.floor broken (cut.below (pos 1000 *ℤ f) refl)
  outside_integer Right box =
      let cut = within d b p point column is.first.inside two_ends (record { low = Some (pos 1000 *ℤ (f +ℤ pos 1)); high = (ends_at b column).high }) box in
      not_above p.den (part p.parts column) f point.holds.den is.floor (cut.above (pos 1000 *ℤ (f +ℤ pos 1)) refl)

-- ---- a semicontinuous column

module _ (d : DeckValue) (b : BoxValue) (p : PointValue) (point : IsPointOf d b p) (column : ℕ) (is : IsFirstSemi d p column) where
  semi_item : (c : ColumnValue) × (slice_get d.columns column ≡ Some c)
  semi_item = item_at d.columns column is.first.inside

  semi_fails : ¬ ((t : ℤ) → semi_item.0.kind ≡ Semi t → (part p.parts column ≡ pos 0) ⊎ ((t *ℤ p.den) ≤ℤ (pos 1000 *ℤ part p.parts column)))
  semi_fails =
      subst (λ (c : ColumnValue). ¬ ((t : ℤ) → c.kind ≡ Semi t → (part p.parts column ≡ pos 0) ⊎ ((t *ℤ p.den) ≤ℤ (pos 1000 *ℤ part p.parts column))))
      ((item_of d.columns column semi_item.0 semi_item.1).is semi_item.0) (is.first.fails semi_item.0)

  semi_broken : IsBroken semi_item.0.kind p.den (part p.parts column)
  semi_broken = broken_semi semi_item.0.kind p.den (part p.parts column) semi_fails

  own_kind : kind_of d column ≡ Some (Semi semi_broken.threshold)
  own_kind = ap (option_map (λ (c : ColumnValue). c.kind)) semi_item.1 ∙ ap (λ (k : Kind). Some k) semi_broken.kind

  semi_ends : HasTwoEnds (ends_of d b column).low (ends_of d b column).high
  semi_ends = point.ends column semi_item.0 semi_item.1 (semi_differs semi_item.0.kind semi_broken.threshold semi_broken.kind)

  own_threshold : threshold_of d column ≡ semi_broken.threshold
  own_threshold = ap threshold_in own_kind

  lies : Between (ends_of d b column).low (ends_of d b column).high p.den (pos 1000 *ℤ part p.parts column)
  lies = between d b p point column is.first.inside

  -- a low end at the threshold would be above the value
  low_is : (ends_of d b column).low ≡ Some (pos 0)
  low_is = elim (point.lows column semi_broken.threshold own_kind) [
    | inl zero ↦ low_kept (is_shut_out d b column) (ends_at b column) ∙ zero
    | inr same ↦ absurd (not_both (pos 1000 *ℤ part p.parts column) (semi_broken.threshold *ℤ p.den) semi_broken.below (lies.above semi_broken.threshold (low_kept (is_shut_out d b column) (ends_at b column) ∙ same)))
  ]

  up : pos 1 ≤ℤ part p.parts column
  up = from_one (part p.parts column) (at_least_zero p.den (part p.parts column) (lies.above (pos 0) low_is)) semi_broken.nonzero

  less : (pos 1000 *ℤ part p.parts column) <ℤ (threshold_of d column *ℤ p.den)
  less = subst (λ (t : ℤ). (pos 1000 *ℤ part p.parts column) <ℤ (t *ℤ p.den)) (sym own_threshold) semi_broken.below

  fits_semi : FitsSemi d b column
  fits_semi = record {
    kind = own_kind ∙ ap (λ (t : ℤ). Some (Semi t)) (sym own_threshold);
    threshold = above_zero p.den (part p.parts column) (threshold_of d column) point.holds.den up (less_is_most (pos 1000 *ℤ part p.parts column) (threshold_of d column *ℤ p.den) less);
    low = low_is;
    high = end_and (ends_of d b column).high semi_ends.high lies.below (λ h le. above_zero p.den (part p.parts column) h point.holds.den up le);
  }

  outside_semi : (side : Side) → ¬ InBox d (child d b (OnSemi column) side) p
  outside_semi Left box =
      let cut = within d b p point column is.first.inside semi_ends (record { low = Some (pos 0); high = Some (pos 0) }) box in
      let zero = cut.below (pos 0) refl in
      let one = up in
      omega (arith, ints, zero, one)
  outside_semi Right box =
      let cut = within d b p point column is.first.inside semi_ends (record { low = Some (threshold_of d column); high = (ends_at b column).high }) box in
      not_both (pos 1000 *ℤ part p.parts column) (threshold_of d column *ℤ p.den) less (cut.above (threshold_of d column) refl)

-- ---- a set

of_set : (d : DeckValue) (b : BoxValue) (p : PointValue) (branch : Branch) → IsDeck d → IsPointOf d b p → IsFirstSet d p branch → CutsOff d b p branch
of_set d b p branch formed point is = split-law d b is.split.set p branch formed (point.intervals is.split.set) is.split.split

-- ---- the law

pub branching-law : BranchingLaw
branching-law d b p (Int column below) formed point is = record { fits = fits_integer d b p point column below is; outside = outside_integer d b p point column below is }
branching-law d b p (Cut column at) formed point is = absurd is
branching-law d b p (OnSemi column) formed point is = record { fits = fits_semi d b p point column is; outside = outside_semi d b p point column is }
branching-law d b p (One set at) formed point is = of_set d b p (One set at) formed point is
branching-law d b p (Two set at) formed point is = of_set d b p (Two set at) formed point is
