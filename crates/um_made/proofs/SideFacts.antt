-- The sides of a row, scaled.
use Rattle.std.proofs.Common.{◌≡◌, ℕ, ◌<◌, ◌≤◌, ◌^◌, Bool, true, false, not, ◌||◌, nat_le, ℤ, pos, negsuc, ◌+ℤ◌, ◌-ℤ◌, unsigned_abs, int_lt, Option, None, Some, refl, sym, ap, ◌∙◌, true≢false, arith, if◌then◌else◌}
use Rattle.std.proofs.lemmas.Int.{ints}
use Rattle.std.proofs.lemmas.Bool.Decides.{nat_tests}
use Rattle.um_statements.specs.declared.parts.RowKind.{RowKind}
use Rattle.um_statements.specs.declared.parts.RowKind.TheVariants.{N, L, G, E}
use Rattle.um_statements.specs.CallRules.{is_n}
use Rattle.um_statements.specs.Said.{RowSaid}
use Rattle.um_statements.specs.Made.{low_side, high_side, size, side_at, range_at}
use Rattle.um_made.specs.RowWords.{has_large_side, range_taken}
use Rattle.um_statements.specs.DeckRules.{is_above}

-- ---- a range that is too large makes a side so

above : (most : ℕ) (z : ℤ) → most < unsigned_abs z → is_above most (Some z) ≡ true
above most z h = grind (arith, nat_tests)

low_far : (b : ℤ) (n : ℕ) → unsigned_abs b ≤ 2 ^ 53 → 2 ^ 54 < n → 2 ^ 53 < unsigned_abs (b -ℤ pos n)
low_far (pos b) n x y = omega (arith, ints, x, y)
low_far (negsuc b) n x y = omega (arith, ints, x, y)

high_far : (b : ℤ) (n : ℕ) → unsigned_abs b ≤ 2 ^ 53 → 2 ^ 54 < n → 2 ^ 53 < unsigned_abs (b +ℤ pos n)
high_far (pos b) n x y = omega (arith, ints, x, y)
high_far (negsuc b) n x y = omega (arith, ints, x, y)

fall_far : (b : ℤ) (n : ℕ) → unsigned_abs b ≤ 2 ^ 53 → 2 ^ 54 < unsigned_abs (negsuc n) → 2 ^ 53 < unsigned_abs (b +ℤ negsuc n)
fall_far (pos b) n x y = omega (arith, ints, x, y)
fall_far (negsuc b) n x y = omega (arith, ints, x, y)

or_second : (a b : Bool) → b ≡ true → (a || b) ≡ true
or_second true b h = refl
or_second false b h = h

or_first : (a b : Bool) → a ≡ true → (a || b) ≡ true
or_first a b h = rw h refl

pub range_far : (kind : RowKind) (b r : ℤ) → is_n kind ≡ false → unsigned_abs b ≤ 2 ^ 53 → 2 ^ 54 < unsigned_abs r → (is_above (2 ^ 53) (low_side kind b (Some r)) || is_above (2 ^ 53) (high_side kind b (Some r))) ≡ true
range_far N b r sided small far = absurd (true≢false sided)
range_far L b r sided small far = or_first (is_above (2 ^ 53) (Some (b -ℤ size r))) (is_above (2 ^ 53) (Some b)) (above (2 ^ 53) (b -ℤ size r) (low_far b (unsigned_abs r) small far))
range_far G b r sided small far = or_second (is_above (2 ^ 53) (Some b)) (is_above (2 ^ 53) (Some (b +ℤ size r))) (above (2 ^ 53) (b +ℤ size r) (high_far b (unsigned_abs r) small far))
range_far E b (pos n) sided small far =
    let up : int_lt (pos n) (pos 0) ≡ false = grind (arith, nat_tests) in
    rw up (or_second (is_above (2 ^ 53) (Some b)) (is_above (2 ^ 53) (Some (b +ℤ pos n))) (above (2 ^ 53) (b +ℤ pos n) (high_far b n small far)))
range_far E b (negsuc n) sided small far = or_first (is_above (2 ^ 53) (Some (b +ℤ negsuc n))) (is_above (2 ^ 53) (Some b)) (above (2 ^ 53) (b +ℤ negsuc n) (fall_far b n small far))

-- ---- the sides of a row

taken_low : (r : RowSaid) (b : ℤ) (o : Option ℤ) → low_side r.kind b (if is_n r.kind then None else o) ≡ low_side r.kind b o
taken_low r b o = by r.kind
  where
    by : (k : RowKind) → low_side k b (if is_n k then None else o) ≡ low_side k b o
    by N = refl
    by L = refl
    by G = refl
    by E = refl

taken_high : (r : RowSaid) (b : ℤ) (o : Option ℤ) → high_side r.kind b (if is_n r.kind then None else o) ≡ high_side r.kind b o
taken_high r b o = by r.kind
  where
    by : (k : RowKind) → high_side k b (if is_n k then None else o) ≡ high_side k b o
    by N = refl
    by L = refl
    by G = refl
    by E = refl

abbrev low_above : RowSaid → ℕ → Option ℤ → Bool
low_above r scale range = is_above (2 ^ 53) (low_side r.kind (side_at r scale) range)

abbrev high_above : RowSaid → ℕ → Option ℤ → Bool
high_above r scale range = is_above (2 ^ 53) (high_side r.kind (side_at r scale) range)

same_above : (r : RowSaid) (scale : ℕ) → (low_above r scale (range_taken r scale) || high_above r scale (range_taken r scale)) ≡ (low_above r scale (range_at r scale) || high_above r scale (range_at r scale))
same_above r scale =
    ap (λ (o : Option ℤ). is_above (2 ^ 53) o || high_above r scale (range_taken r scale)) (taken_low r (side_at r scale) (range_at r scale))
    ∙ ap (λ (o : Option ℤ). low_above r scale (range_at r scale) || is_above (2 ^ 53) o) (taken_high r (side_at r scale) (range_at r scale))

pub side_large : (r : RowSaid) (scale : ℕ) → is_above (2 ^ 53) (Some (side_at r scale)) ≡ true → has_large_side r scale ≡ true
side_large r scale h = or_first (is_above (2 ^ 53) (Some (side_at r scale))) (low_above r scale (range_at r scale) || high_above r scale (range_at r scale)) h

pub sides_large : (r : RowSaid) (scale : ℕ) → (is_above (2 ^ 53) (low_side r.kind (side_at r scale) (range_taken r scale)) || is_above (2 ^ 53) (high_side r.kind (side_at r scale) (range_taken r scale))) ≡ true → has_large_side r scale ≡ true
sides_large r scale h =
    or_second (is_above (2 ^ 53) (Some (side_at r scale))) (low_above r scale (range_at r scale) || high_above r scale (range_at r scale)) (sym (same_above r scale) ∙ h)

pub sides_fine : (r : RowSaid) (scale : ℕ) → is_above (2 ^ 53) (Some (side_at r scale)) ≡ false
    → (is_above (2 ^ 53) (low_side r.kind (side_at r scale) (range_taken r scale)) || is_above (2 ^ 53) (high_side r.kind (side_at r scale) (range_taken r scale))) ≡ false → has_large_side r scale ≡ false
sides_fine r scale side h = ap (λ b. b || (low_above r scale (range_at r scale) || high_above r scale (range_at r scale))) side ∙ (sym (same_above r scale) ∙ h)

pub same_low : (r : RowSaid) (scale : ℕ) → low_side r.kind (side_at r scale) (range_taken r scale) ≡ low_side r.kind (side_at r scale) (range_at r scale)
same_low r scale = taken_low r (side_at r scale) (range_at r scale)

pub same_high : (r : RowSaid) (scale : ℕ) → high_side r.kind (side_at r scale) (range_taken r scale) ≡ high_side r.kind (side_at r scale) (range_at r scale)
same_high r scale = taken_high r (side_at r scale) (range_at r scale)

below : (most : ℕ) (z : ℤ) → is_above most (Some z) ≡ false → unsigned_abs z ≤ most
below most z h = grind (arith, nat_tests)

beyond : (most : ℕ) (z : ℤ) → is_above most (Some z) ≡ true → most < unsigned_abs z
beyond most z h = grind (arith, nat_tests)

pub far_large : (r : RowSaid) (scale : ℕ) → is_above (2 ^ 53) (Some (side_at r scale)) ≡ false → is_above (2 ^ 54) (range_taken r scale) ≡ true → has_large_side r scale ≡ true
far_large r scale side far = sides_large r scale (by r.kind refl (range_at r scale) far)
  where
    by : (k : RowKind) → r.kind ≡ k → (o : Option ℤ) → is_above (2 ^ 54) (if is_n k then None else o) ≡ true
        → (is_above (2 ^ 53) (low_side k (side_at r scale) (if is_n k then None else o)) || is_above (2 ^ 53) (high_side k (side_at r scale) (if is_n k then None else o))) ≡ true
    by N is o far = absurd (true≢false (sym far))
    by L is None far = absurd (true≢false (sym far))
    by G is None far = absurd (true≢false (sym far))
    by E is None far = absurd (true≢false (sym far))
    by L is (Some z) far = range_far L (side_at r scale) z refl (below (2 ^ 53) (side_at r scale) side) (beyond (2 ^ 54) z far)
    by G is (Some z) far = range_far G (side_at r scale) z refl (below (2 ^ 53) (side_at r scale) side) (beyond (2 ^ 54) z far)
    by E is (Some z) far = range_far E (side_at r scale) z refl (below (2 ^ 53) (side_at r scale) side) (beyond (2 ^ 54) z far)

-- what a test of size says of a number at a scale
pub tested : (most : ℕ) (z w : ℤ) (b : Bool) → b ≡ nat_le (unsigned_abs z) most → (if b then Some z else None) ≡ Some w → (is_above most (Some z) ≡ false) × (w ≡ z)
tested most z w true is e = (ap not (sym is), cc)
tested most z w false is e = cc

pub untested : (most : ℕ) (z : ℤ) (b : Bool) → b ≡ nat_le (unsigned_abs z) most → (if b then Some z else None) ≡ None → is_above most (Some z) ≡ true
untested most z true is e = cc
untested most z false is e = ap not (sym is)
