-- The average split of a set fits the box, and leaves the point that breaks the set's rule out of both children.
use Rattle.std.proofs.Common.{◌≡◌, ◌≢◌, ℕ, ◌+◌, ◌<◌, ◌≤◌, ◌==◌, zero, suc, ℤ, pos, negsuc, ◌+ℤ◌, ◌*ℤ◌, ◌≤ℤ◌, ◌<ℤ◌, Bool, true, false, cond, eqb, inl, inr, List, [], ◌∷◌, length, map, slice_index_or, Some, refl, sym, ap, subst, arith, if◌then◌else◌}
use Rattle.std.proofs.lemmas.Int.{ints}
use Rattle.std.proofs.lemmas.Bool.Decides.{nat_tests}
use Rattle.um_laws.specs.Sums.{dot}
use Rattle.um_laws.proofs.WholeLaws.{*ℤ-mono}
use Rattle.um_laws.proofs.Polynomials.{term, number, ◌⊕◌, ◌⊗◌, at_most, at_most_of, below, below_of}
use Rattle.um_model.specs.Values.{DeckValue, SetValue, PointValue}
use Rattle.um_model.specs.WellFormed.{AtPlace, IsSet}
use Rattle.um_model.specs.Feasible.{part, SetRule, IsNonzeroAt, member_parts}
use Rattle.um_model.specs.Boxes.{BoxValue, Span, InBox, IsOutside, ZeroOutside, span_at, with_span}
use Rattle.um_model.specs.Branches.{set_kind_of, Fits, left, right}
use Rattle.um_model.specs.AverageSplit.{IsFirstNonzero, IsLastNonzero, weights, part_sum, IsAveragePosition, split_at}
use Rattle.um_soundness.specs.Laws.{ExclusionLaw}
use Rattle.um_model.specs.declared.deck.Member.{Member}
use Rattle.um_model.specs.declared.deck.SetKind.{SetKind}
use Rattle.um_model.specs.declared.deck.SetKind.TheVariants.{S1, S2}
use Rattle.um_model.specs.declared.branch.Branch.{Branch}
use Rattle.um_laws.proofs.Places.{item_of, item_at, past_end, at_set, at_map, length-map, zero_or_not, below_or}

-- ---- sums over the members
abbrev weights_of : List Member → List ℤ
weights_of ms = map (λ (m : Member). m.weight) ms

abbrev weighted : List Member → List ℤ → ℤ
weighted ms xs = dot (λ (m : Member). m.weight) ms xs

-- each part is at least 0
abbrev NonNegative : List ℤ → Type 0
NonNegative xs = (i : ℕ) → pos 0 ≤ℤ part xs i

sum_up : (xs : List ℤ) → NonNegative xs → pos 0 ≤ℤ part_sum xs
sum_up [] h = omega (arith, ints)
sum_up (x ∷ xs) h = let a = h 0 in let b = sum_up xs (λ i. h (suc i)) in omega (arith, ints)

-- where a part is not 0, its weight is at least c, or at most c
abbrev AtLeast : ℤ → List Member → List ℤ → Type 0
AtLeast c ms xs = (i : ℕ) → IsNonzeroAt xs i → c ≤ℤ part (weights_of ms) i

abbrev AtMost : ℤ → List Member → List ℤ → Type 0
AtMost c ms xs = (i : ℕ) → IsNonzeroAt xs i → part (weights_of ms) i ≤ℤ c

one_low : (c w x : ℤ) → pos 0 ≤ℤ x → (x ≢ pos 0 → c ≤ℤ w) → (c *ℤ x) ≤ℤ (w *ℤ x)
one_low c w x h le = elim (zero_or_not x) [
  | inl e ↦ rw e (omega (arith, ints))
  | inr n ↦ let m = *ℤ-mono x c w h (le n) in omega (arith, ints, m)
]

low_sum : (c : ℤ) (ms : List Member) (xs : List ℤ) → length xs ≡ length ms → NonNegative xs → AtLeast c ms xs → (c *ℤ part_sum xs) ≤ℤ weighted ms xs
low_sum c [] [] n up le = omega (arith, ints)
low_sum c [] (x ∷ xs) n up le = absurd (omega arith)
low_sum c (m ∷ ms) [] n up le = absurd (omega arith)
low_sum c (m ∷ ms) (x ∷ xs) n up le =
    let here = one_low c m.weight x (up 0) (le 0) in
    let rest = low_sum c ms xs (omega arith) (λ i. up (suc i)) (λ i. le (suc i)) in
    at_most (term c ⊗ (term x ⊕ term (part_sum xs))) (term m.weight ⊗ term x ⊕ term (weighted ms xs))
    (omega (arith, at_most_of (term c ⊗ term x) (term m.weight ⊗ term x) here, at_most_of (term c ⊗ term (part_sum xs)) (term (weighted ms xs)) rest))

high_sum : (c : ℤ) (ms : List Member) (xs : List ℤ) → length xs ≡ length ms → NonNegative xs → AtMost c ms xs → weighted ms xs ≤ℤ (c *ℤ part_sum xs)
high_sum c [] [] n up le = omega (arith, ints)
high_sum c [] (x ∷ xs) n up le = absurd (omega arith)
high_sum c (m ∷ ms) [] n up le = absurd (omega arith)
high_sum c (m ∷ ms) (x ∷ xs) n up le =
    let here = one_low m.weight c x (up 0) (le 0) in
    let rest = high_sum c ms xs (omega arith) (λ i. up (suc i)) (λ i. le (suc i)) in
    at_most (term m.weight ⊗ term x ⊕ term (weighted ms xs)) (term c ⊗ (term x ⊕ term (part_sum xs)))
    (omega (arith, at_most_of (term m.weight ⊗ term x) (term c ⊗ term x) here, at_most_of (term (weighted ms xs)) (term c ⊗ term (part_sum xs)) rest))

above_zero : (x : ℤ) → pos 0 ≤ℤ x → x ≢ pos 0 → pos 1 ≤ℤ x
above_zero (pos zero) h n = absurd (n refl)
above_zero (pos (suc x)) h n = omega (arith, ints)
above_zero (negsuc x) h n = absurd (omega (arith, ints))

-- one part that is not 0 has a weight below c
high_sum_below : (c : ℤ) (ms : List Member) (xs : List ℤ) (a : ℕ) → length xs ≡ length ms → NonNegative xs → AtMost c ms xs → IsNonzeroAt xs a → part (weights_of ms) a <ℤ c → weighted ms xs <ℤ (c *ℤ part_sum xs)
high_sum_below c [] [] a n up le some lt = absurd (some refl)
high_sum_below c [] (x ∷ xs) a n up le some lt = absurd (omega arith)
high_sum_below c (m ∷ ms) [] a n up le some lt = absurd (omega arith)
high_sum_below c (m ∷ ms) (x ∷ xs) zero n up le some lt =
    let one = above_zero x (up 0) some in
    let here = *ℤ-mono x (m.weight +ℤ pos 1) c (up 0) (omega (arith, ints)) in
    let rest = high_sum c ms xs (omega arith) (λ i. up (suc i)) (λ i. le (suc i)) in
    below (term m.weight ⊗ term x ⊕ term (weighted ms xs)) (term c ⊗ (term x ⊕ term (part_sum xs)))
    (omega (arith, at_most_of (number 1) (term x) one, at_most_of (term x ⊗ (term m.weight ⊕ number 1)) (term x ⊗ term c) here, at_most_of (term (weighted ms xs)) (term c ⊗ term (part_sum xs)) rest))
high_sum_below c (m ∷ ms) (x ∷ xs) (suc a) n up le some lt =
    let here = one_low m.weight c x (up 0) (le 0) in
    let rest = high_sum_below c ms xs a (omega arith) (λ i. up (suc i)) (λ i. le (suc i)) some lt in
    below (term m.weight ⊗ term x ⊕ term (weighted ms xs)) (term c ⊗ (term x ⊕ term (part_sum xs)))
    (omega (arith, at_most_of (term m.weight ⊗ term x) (term c ⊗ term x) here, below_of (term (weighted ms xs)) (term c ⊗ term (part_sum xs)) rest))

-- ---- one set at the point
module _ (d : DeckValue) (p : PointValue) (s : SetValue) (set : IsSet d s) (up : NonNegative (member_parts p s)) (first last : ℕ) (first_is : IsFirstNonzero (member_parts p s) first) (last_is : IsLastNonzero (member_parts p s) last)
  where
    abbrev xs : List ℤ
    xs = member_parts p s

    as_long : length xs ≡ length s.members
    as_long = length-map (λ (m : Member). part p.parts m.column) s.members

    -- a position with a part other than 0 is there, and lies between the first and the last
    is_there : (i : ℕ) → IsNonzeroAt xs i → i < length s.members
    is_there i n = elim (below_or i (length s.members)) [ inl l ↦ l | inr g ↦ absurd (n (past_end xs i (pos 0) (omega (arith, as_long)))) ]

    not_before : (i : ℕ) → IsNonzeroAt xs i → first ≤ i
    not_before i n = elim (below_or i first) [ inl l ↦ absurd (n (first_is.before i l)) | inr g ↦ g ]

    not_behind : (i : ℕ) → IsNonzeroAt xs i → i ≤ last
    not_behind i n = elim (below_or last i) [ inl l ↦ absurd (n (last_is.behind i l)) | inr g ↦ g ]

    rise : (i j : ℕ) → i < j → j < length s.members → part (weights s) i <ℤ part (weights s) j
    rise i j l h =
        let m = (item_at s.members j h).0 in
        rw (at_map (λ (m : Member). m.weight) s.members i m (pos 0) (omega arith)) (rw (at_map (λ (m : Member). m.weight) s.members j m (pos 0) h) (set.weights i j m l h))

    rise_to : (i j : ℕ) → i ≤ j → j < length s.members → part (weights s) i ≤ℤ part (weights s) j
    rise_to i j l h = elim (below_or i j) [ inl b ↦ let r = rise i j b h in omega (arith, ints) | inr g ↦ let e : i ≡ j = omega arith in rw e (omega (arith, ints)) ]

    -- S1: two are nonzero. S2: two that are no neighbours
    apart_one : ¬ SetRule S1 xs → first < last
    apart_one broken = elim (below_or first last) [ inl l ↦ l | inr g ↦ absurd (broken (λ i j b a c. absurd (let u = not_before i a in let v = not_behind j c in omega arith))) ]

    apart_two : ¬ SetRule S2 xs → first + 1 < last
    apart_two broken = elim (below_or (first + 1) last) [ inl l ↦ l | inr g ↦ absurd (broken (λ i j b a c. let u = not_before i a in let v = not_behind j c in omega arith)) ]

    module _ (average : ℕ) (average_is : IsAveragePosition s xs average) (two : first < last) where
      not_early : first ≤ average
      not_early = elim (below_or average first) [
        | inl l ↦ absurd (let h = is_there first first_is.nonzero in let b = average_is.behind first l h in
            let low = low_sum (part (weights s) first) s.members xs as_long up (λ i n. rise_to first i (not_before i n) (is_there i n)) in omega (arith, ints))
        | inr g ↦ g
      ]

      not_late : average < last
      not_late = elim (below_or average last) [
        | inl l ↦ l
        | inr g ↦ absurd (let h = is_there last last_is.nonzero in
            let high = high_sum_below (part (weights s) last) s.members xs first as_long up (λ i n. rise_to i last (not_behind i n) h) first_is.nonzero (rise first last two h) in
            let m = *ℤ-mono (part_sum xs) (part (weights s) last) (part (weights s) average) (sum_up xs up) (rise_to last average g average_is.inside) in
            let a = average_is.at_most in omega (arith, ints, m))
      ]

-- ---- the boxes
-- a child's interval that leaves out a position with a part other than 0 leaves out the point
not_in : (d : DeckValue) (b : BoxValue) (p : PointValue) (set : ℕ) (s : SetValue) (span : Span) (position : ℕ) → AtPlace d.sets set s → set < length b.spans → IsNonzeroAt (member_parts p s) position → IsOutside span position
    → ¬ InBox d (with_span b set span) p
not_in d b p set s span position at inside n out h =
    let i = item_of d.sets set s at in
    let z = h.spans set s i.inside in
    n (subst (λ (x : SetValue). ZeroOutside p span x) (i.is s) (subst (λ (x : Span). ZeroOutside p x (slice_index_or d.sets set s)) (at_set b.spans set span (record { first = 0; last = 0 }) inside) z) position out)

-- an interval with a last position above 0 is there
span_there : (b : BoxValue) (set n : ℕ) → n < (span_at b set).last → set < length b.spans
span_there b set n h = elim (below_or set (length b.spans)) [ inl l ↦ l | inr g ↦ absurd (let e = ap (λ (x : Span). x.last) (past_end b.spans set (record { first = 0; last = 0 }) g) in omega (arith, e)) ]

within_first : (span : Span) (position : ℕ) → ¬ IsOutside span position → span.first ≤ position
within_first span position h = elim (below_or position span.first) [ inl l ↦ absurd (h (inl l)) | inr g ↦ g ]

within_last : (span : Span) (position : ℕ) → ¬ IsOutside span position → position ≤ span.last
within_last span position h = elim (below_or span.last position) [ inl l ↦ absurd (h (inr l)) | inr g ↦ g ]

kind_at : (d : DeckValue) (set : ℕ) (s : SetValue) (kind : SetKind) → AtPlace d.sets set s → s.kind ≡ kind → set_kind_of d set ≡ Some kind
kind_at d set s kind at e = rw at (ap Some e)

abbrev Excludes : DeckValue → BoxValue → PointValue → Branch → Type 0
Excludes d b p branch = Fits d b branch × ¬ InBox d (left d b branch) p × ¬ InBox d (right d b branch) p

-- the position of S2's cut
behind_first : (first average last : ℕ) (same : Bool) → eqb average first ≡ same → first ≤ average → average < last → first + 1 < last → (first < cond same (first + 1) average) × (cond same (first + 1) average < last)
behind_first first average last true e f l two = (omega arith, two)
behind_first first average last false e f l two = (elim (below_or first average) [ inl b ↦ b | inr g ↦ absurd (let h : average ≡ first = omega arith in let k : eqb average first ≡ true = grind (arith, nat_tests) in cc) ], l)

pub exclusion-law : ExclusionLaw
exclusion-law d b set s p branch deck at up_s zero_s split = subst (Excludes d b p) (sym split.branch_is) (go split.chosen.kind refl)
  where
    same_set : s ≡ split.chosen
    same_set = let h = split.place in cc

    at_c : AtPlace d.sets set split.chosen
    at_c = split.place

    up : NonNegative (member_parts p split.chosen)
    up = subst (λ (x : SetValue). NonNegative (member_parts p x)) same_set up_s

    zero_out : ZeroOutside p (span_at b set) split.chosen
    zero_out = subst (ZeroOutside p (span_at b set)) same_set zero_s

    is_set : IsSet d split.chosen
    is_set = let i = item_of d.sets set split.chosen split.place in subst (IsSet d) (i.is split.chosen) (deck.sets set split.chosen i.inside)

    low : (span_at b set).first ≤ split.first
    low = within_first (span_at b set) split.first (λ out. split.first_is.nonzero (zero_out split.first out))

    high : split.last ≤ (span_at b set).last
    high = within_last (span_at b set) split.last (λ out. split.last_is.nonzero (zero_out split.last out))

    early : split.first < split.last → split.first ≤ split.average
    early two = not_early d p split.chosen is_set up split.first split.last split.first_is split.last_is split.average split.average_is two

    late : split.first < split.last → split.average < split.last
    late two = not_late d p split.chosen is_set up split.first split.last split.first_is split.last_is split.average split.average_is two

    go : (kind : SetKind) → split.chosen.kind ≡ kind → Excludes d b p (split_at kind set split.first split.average)
    go S1 e =
        let two = apart_one d p split.chosen is_set up split.first split.last split.first_is split.last_is (subst (λ (k : SetKind). ¬ SetRule k (member_parts p split.chosen)) e split.broken) in
        let f = early two in
        let l = late two in
        let there : set < length b.spans = span_there b set split.average (omega (arith, high)) in (
          record { kind = kind_at d set split.chosen S1 at_c e; first = omega (arith, low); last = omega (arith, high) },
          not_in d b p set split.chosen (record { first = (span_at b set).first; last = split.average }) split.last at_c there split.last_is.nonzero (inr l),
          not_in d b p set split.chosen (record { first = split.average + 1; last = (span_at b set).last }) split.first at_c there split.first_is.nonzero (inl (omega arith)),
        )
    go S2 e =
        let two = apart_two d p split.chosen is_set up split.first split.last split.first_is split.last_is (subst (λ (k : SetKind). ¬ SetRule k (member_parts p split.chosen)) e split.broken) in
        let k = behind_first split.first split.average split.last (split.average == split.first) refl (early (omega arith)) (late (omega arith)) two in
        let cut : ℕ = if split.average == split.first then split.first + 1 else split.average in
        let there : set < length b.spans = span_there b set cut (omega (arith, high, k.1)) in (
          record { kind = kind_at d set split.chosen S2 at_c e; first = omega (arith, low, k.0); last = omega (arith, high, k.1) },
          not_in d b p set split.chosen (record { first = (span_at b set).first; last = cut }) split.last at_c there split.last_is.nonzero (inr k.1),
          not_in d b p set split.chosen (record { first = cut; last = (span_at b set).last }) split.first at_c there split.first_is.nonzero (inl k.0),
        )
