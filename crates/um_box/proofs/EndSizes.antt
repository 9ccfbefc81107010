-- The ends that a branch that fits gives are within the limit of size.
use Rattle.std.proofs.Common.{◌≡◌, ◌∙◌, ap, sym, subst, refl, ℕ, ◌^◌, ◌<◌, ◌≤◌, ℤ, pos, ◌+ℤ◌, ◌*ℤ◌, ◌<ℤ◌, unsigned_abs, List, length, get_or, arith, Bool, true, false, cond, Option, Some, None, IsSomeAnd, FitsSigned, to_z, of_z, w64, option_map, inl, inr}
use Rattle.std.specs.Prelude.{slice_get}
use Rattle.std.specs.Option.{ForSome}
use Rattle.std.proofs.lemmas.Bool.{false≢true}
use Rattle.std.proofs.lemmas.Int.{ints, to_z-of_z, fits_signed_from_abs}
use Rattle.std.proofs.lemmas.Option.{slice_get_cases, same_Some, none-some}
use Rattle.um_model.specs.Values.{DeckValue, ColumnValue}
use Rattle.um_model.specs.WellFormed.{IsDeck, IsWithin, KindFits}
use Rattle.um_model.specs.Boxes.{Ends, ends_at, ends_of, is_shut_out}
use Rattle.um_model.specs.Branches.{kind_of, FitsInt, FitsCut}
use Rattle.um_model.specs.declared.deck.Kind.{Kind}
use Rattle.um_model.specs.declared.deck.Kind.TheVariants.{Semi}
use Rattle.um_box.specs.NodeBoxes.{NodeBoxValue, IsNodeBox}

-- ---- a column that has a kind is in the deck

pub kind_at : (cs : List ColumnValue) (column : ℕ) (k : Kind) → option_map (λ (c : ColumnValue). c.kind) (slice_get cs column) ≡ Some k → (c : ColumnValue) × (column < length cs) × (get_or cs column c ≡ c) × (c.kind ≡ k)
kind_at cs column k e = elim (slice_get_cases cs column).1 [
  | inl there ↦ (there.0, there.1, there.3, same_Some there.0.kind k (ap (option_map (λ (c : ColumnValue). c.kind)) (sym there.2) ∙ e))
  | inr past ↦ absurd (none-some k (ap (option_map (λ (c : ColumnValue). c.kind)) (sym past.1) ∙ e))
]

pub kind_inside : (d : DeckValue) (column : ℕ) (k : Kind) → kind_of d column ≡ Some k → column < length d.columns
kind_inside d column k e = (kind_at d.columns column k e).1

-- ---- thresholds

semi_small : (low high : Option ℤ) (t : ℤ) → KindFits (Semi t) low high → ForSome high (IsWithin (10 ^ 10)) → unsigned_abs t ≤ 10000000000
semi_small low None t fits within = absurd (false≢true fits.1)
semi_small low (Some h) t fits within = let below = fits.3 h refl in let least = fits.2 in let most = within h refl in omega (arith, ints, below, least, most)

pub threshold_small : (d : DeckValue) (column : ℕ) (t : ℤ) → IsDeck d → kind_of d column ≡ Some (Semi t) → unsigned_abs t ≤ 10000000000
threshold_small d column t formed e =
    let found = kind_at d.columns column (Semi t) e in
    let is = formed.columns column found.0 found.1 in
    let c = get_or d.columns column found.0 in
    let kind : c.kind ≡ Semi t = ap (λ (x : ColumnValue). x.kind) found.2 ∙ found.3 in
    semi_small c.low c.high t (subst (λ (k : Kind). KindFits k c.low c.high) kind is.kind) is.high

-- ---- numbers between the ends of a box

record EndsWithin (e : Ends) : Type 0 where
  low : ForSome e.low (IsWithin (10 ^ 10))
  high : ForSome e.high (IsWithin (10 ^ 10))

zero_within : ForSome (Some (pos 0)) (IsWithin (10 ^ 10))
zero_within x e = let z : pos 0 ≡ x = same_Some (pos 0) x e in omega (arith, ints)

chosen_within : (t : Bool) (e : Ends) → EndsWithin e → EndsWithin (cond t (record { low = e.low; high = Some (pos 0) }) e)
chosen_within true e h = record { low = h.low; high = zero_within }
chosen_within false e h = h

ends_within : (b : NodeBoxValue) (column : ℕ) → IsNodeBox b → column < length b.deck.columns → EndsWithin (ends_of b.deck b.limits column)
ends_within b column node inside =
    let each = node.ends in
    let there : column < length b.limits.ends = omega arith in
    chosen_within (is_shut_out b.deck b.limits column) (ends_at b.limits column) (record { low = node.low column _ there; high = node.high column _ there })

above_low : (o : Option ℤ) (z : ℤ) → ForSome o (IsWithin (10 ^ 10)) → IsSomeAnd o (λ l. l <ℤ z) → pos 0 <ℤ (z +ℤ pos 10000000000)
above_low None z within above = absurd above
above_low (Some l) z within above = let size = within l refl in omega (arith, ints, size, above)

below_high : (o : Option ℤ) (z : ℤ) → ForSome o (IsWithin (10 ^ 10)) → IsSomeAnd o (λ h. z <ℤ h) → z <ℤ pos 10000000000
below_high None z within below = absurd below
below_high (Some h) z within below = let size = within h refl in omega (arith, ints, size, below)

pub cut_size : (b : NodeBoxValue) (column : ℕ) (at : ℤ) → IsNodeBox b → FitsCut b.deck b.limits column at → unsigned_abs at ≤ 10000000000
cut_size b column at node fits =
    let e = ends_within b column node fits.inside in
    let low = above_low (ends_of b.deck b.limits column).low at e.low fits.low in
    let high = below_high (ends_of b.deck b.limits column).high at e.high fits.high in
    omega (arith, ints, low, high)

pub record IntSizes (below : ℤ) : Type 0 where
  pub here : unsigned_abs below ≤ 10000000
  pub next : unsigned_abs (below +ℤ pos 1) ≤ 10000000

pub int_sizes : (b : NodeBoxValue) (column : ℕ) (below : ℤ) → IsNodeBox b → FitsInt b.deck b.limits column below → IntSizes below
int_sizes b column below node fits =
    let e = ends_within b column node (kind_inside b.deck column _ fits.kind) in
    let low = above_low (ends_of b.deck b.limits column).low (pos 1000 *ℤ (below +ℤ pos 1)) e.low fits.low in
    let high = below_high (ends_of b.deck b.limits column).high (pos 1000 *ℤ below) e.high fits.high in
    record { here = omega (arith, ints, low, high); next = omega (arith, ints, low, high) }

-- ---- as the machine holds them

abbrev pub held : ℤ → ℤ
held z = to_z w64 (of_z w64 z)

pub held_is : (z : ℤ) → unsigned_abs z ≤ 10000000000 → held z ≡ z
held_is z size = to_z-of_z w64 z (fits_signed_from_abs w64 z (omega (arith, size)))

pub thousand_fits : (z : ℤ) → unsigned_abs z ≤ 10000000 → FitsSigned w64 (pos 1000 *ℤ held z)
thousand_fits z size = subst (λ (x : ℤ). FitsSigned w64 (pos 1000 *ℤ x)) (sym (held_is z (omega (arith, size)))) (let big : unsigned_abs (pos 1000 *ℤ z) ≤ 10000000000 = omega (arith, ints, size) in fits_signed_from_abs w64 (pos 1000 *ℤ z) (omega (arith, big)))

pub thousand_is : (z : ℤ) → unsigned_abs z ≤ 10000000 → held (pos 1000 *ℤ held z) ≡ pos 1000 *ℤ z
thousand_is z size =
    let big : unsigned_abs (pos 1000 *ℤ z) ≤ 10000000000 = omega (arith, ints, size) in
    ap (λ (x : ℤ). held (pos 1000 *ℤ x)) (held_is z (omega (arith, size))) ∙ held_is (pos 1000 *ℤ z) big

pub thousand_within : (z : ℤ) → unsigned_abs z ≤ 10000000 → unsigned_abs (held (pos 1000 *ℤ held z)) ≤ 10000000000
thousand_within z size = let is = thousand_is z size in let big : unsigned_abs (pos 1000 *ℤ z) ≤ 10000000000 = omega (arith, ints, size) in subst (λ (x : ℤ). unsigned_abs x ≤ 10000000000) (sym is) big
