-- A scale that is the least one makes some number no multiple of ten.
use Rattle.std.proofs.Common.{◌≡◌, ◌⊎◌, inl, inr, ℕ, zero, suc, ◌*◌, ◌%◌, ◌^◌, ◌≤◌, max, Bool, true, false, ℤ, pos, negsuc, neg_ℤ, ◌+ℤ◌, ◌-ℤ◌, unsigned_abs, int_lt, List, [], ◌∷◌, All, Option, None, Some, refl, sym, ap, subst, ◌∙◌, true≢false, arith}
use Rattle.std.specs.Option.{ForSome}
use Rattle.std.proofs.lemmas.Int.{ints}
use Rattle.std.proofs.lemmas.Bool.Decides.{nat_tests}
use Rattle.std.proofs.lemmas.List.Elements.{All-head, All-tail}
use Rattle.um_num.specs.declared.decimal.Decimal.{Decimal}
use Rattle.um_text.specs.Decimals.{IsNormal}
use Rattle.um_model.specs.WellFormed.{IsMultipleOfTen}
use Rattle.um_statements.specs.declared.parts.RowKind.{RowKind}
use Rattle.um_statements.specs.declared.parts.RowKind.TheVariants.{N, L, G, E}
use Rattle.um_statements.specs.Scaled.{times_ten, at_least_zero, decimals, least_scale}
use Rattle.um_statements.specs.CallRules.{is_n, is_zero}
use Rattle.um_statements.specs.Made.{nothing, for_minimising, low_side, high_side, size}
use Rattle.um_statements.proofs.Tests.{same_number, neg_size, scaled_size}

-- ---- numbers in normal form

-- the number has as many decimals as the scale, and isn't a multiple of ten there
abbrev pub GoesDown : ℕ → Decimal → Type 0
GoesDown scale v = IsNormal v × IsMultipleOfTen (times_ten v scale)

at_zero : (power : ℤ) (scale : ℕ) → 1 ≤ scale → at_least_zero (neg_ℤ power) ≡ scale → at_least_zero (power +ℤ pos scale) ≡ 0
at_zero (pos zero) scale some is = absurd (omega (arith, some, is))
at_zero (pos (suc n)) scale some is = absurd (omega (arith, some, is))
at_zero (negsuc n) scale some is =
    let same : suc n ≡ scale = is in
    let none : negsuc n +ℤ pos scale ≡ pos 0 = omega (arith, ints, same) in
    ap at_least_zero none

not_down : (v : Decimal) (scale : ℕ) → 1 ≤ scale → decimals v ≡ scale → GoesDown scale v → ⊥
not_down v scale some is (inl ends, tens) =
    let power : at_least_zero (v.power +ℤ pos scale) ≡ 0 = at_zero v.power scale some is in
    let size_is : unsigned_abs (times_ten v scale) ≡ unsigned_abs v.digits * 10 ^ 0 = scaled_size v scale ∙ ap (λ n. unsigned_abs v.digits * 10 ^ n) power in
    let same : unsigned_abs v.digits * 10 ^ 0 ≡ unsigned_abs v.digits = omega arith in
    ends (sym (ap (λ n. n % 10) (size_is ∙ same)) ∙ tens)
not_down v scale some is (inr zero_is, tens) =
    let none : decimals v ≡ 0 = ap decimals zero_is in
    omega (arith, some, is, none)

-- the greatest number of decimals is that of one of them
some_worst : (scale : ℕ) → 1 ≤ scale → (vs : List Decimal) → All (GoesDown scale) vs → least_scale vs ≡ scale → ⊥
some_worst scale some [] all is = omega (arith, some, is)
some_worst scale some (v ∷ vs) all is =
    by (which (decimals v) (least_scale vs))
    (λ first. not_down v scale some (sym first ∙ is) (All-head (GoesDown scale) v vs all)) (λ rest. some_worst scale some vs (All-tail (GoesDown scale) v vs all) (sym rest ∙ is))
  where
    which : (a b : ℕ) → (max a b ≡ a) ⊎ (max a b ≡ b)
    which a b = grind arith

    by : (max (decimals v) (least_scale vs) ≡ decimals v) ⊎ (max (decimals v) (least_scale vs) ≡ least_scale vs) → (max (decimals v) (least_scale vs) ≡ decimals v → ⊥) → (max (decimals v) (least_scale vs) ≡ least_scale vs → ⊥) → ⊥
    by (inl first) x y = x first
    by (inr rest) x y = y rest

pub least-scale : (vs : List Decimal) → 1 ≤ least_scale vs → All (GoesDown (least_scale vs)) vs → ⊥
least-scale vs some all = some_worst (least_scale vs) some vs all refl

-- ---- zeros

zero_tens : (n : ℕ) → IsMultipleOfTen (pos 0)
zero_tens n = refl

pub zero_multiple : (v : Decimal) (scale : ℕ) → is_zero v ≡ true → IsMultipleOfTen (times_ten v scale)
zero_multiple v scale h =
    let none : unsigned_abs v.digits ≡ 0 = same_number _ 0 h in
    let all : unsigned_abs (times_ten v scale) ≡ 0 * 10 ^ at_least_zero (v.power +ℤ pos scale) = scaled_size v scale ∙ ap (λ n. n * 10 ^ at_least_zero (v.power +ℤ pos scale)) none in
    let nil : 0 * 10 ^ at_least_zero (v.power +ℤ pos scale) ≡ 0 = omega arith in
    ap (λ n. n % 10) (all ∙ nil)

pub minimised_multiple : (maximise : Bool) (z : ℤ) → IsMultipleOfTen (for_minimising maximise z) → IsMultipleOfTen z
minimised_multiple true z h = ap (λ n. n % 10) (sym (neg_size z)) ∙ h
minimised_multiple false z h = h

pub negated_multiple : (z : ℤ) → IsMultipleOfTen (neg_ℤ z) → IsMultipleOfTen z
negated_multiple z h = ap (λ n. n % 10) (sym (neg_size z)) ∙ h

pub none_goes_down : (scale : ℕ) → GoesDown scale nothing
none_goes_down scale = (inr refl, zero_multiple nothing scale refl)

-- ---- sides

minus_tens : (b : ℤ) (n : ℕ) → unsigned_abs b % 10 ≡ 0 → unsigned_abs (b -ℤ pos n) % 10 ≡ 0 → n % 10 ≡ 0
minus_tens (pos b) n x y = omega (arith, ints, x, y)
minus_tens (negsuc b) n x y = omega (arith, ints, x, y)

plus_tens : (b : ℤ) (n : ℕ) → unsigned_abs b % 10 ≡ 0 → unsigned_abs (b +ℤ pos n) % 10 ≡ 0 → n % 10 ≡ 0
plus_tens (pos b) n x y = omega (arith, ints, x, y)
plus_tens (negsuc b) n x y = omega (arith, ints, x, y)

-- where the sides of a row are multiples of ten, so are its right-hand side and its range
pub sides_multiple : (kind : RowKind) (b : ℤ) (range : Option ℤ) → is_n kind ≡ false → ForSome (low_side kind b range) IsMultipleOfTen → ForSome (high_side kind b range) IsMultipleOfTen
    → IsMultipleOfTen b × ForSome range IsMultipleOfTen
sides_multiple N b range sided low high = absurd (true≢false sided)
sides_multiple L b None sided low high = (high b refl, λ r e. cc)
sides_multiple L b (Some r) sided low high =
    (high b refl, λ x e. let same : r ≡ x = cc in subst IsMultipleOfTen same (minus_tens b (unsigned_abs r) (high b refl) (low (b -ℤ size r) refl)))
sides_multiple G b None sided low high = (low b refl, λ r e. cc)
sides_multiple G b (Some r) sided low high =
    (low b refl, λ x e. let same : r ≡ x = cc in subst IsMultipleOfTen same (plus_tens b (unsigned_abs r) (low b refl) (high (b +ℤ size r) refl)))
sides_multiple E b None sided low high = (low b refl, λ r e. cc)
sides_multiple E b (Some (pos n)) sided low high =
    let up : int_lt (pos n) (pos 0) ≡ false = grind (arith, nat_tests) in
    let first : IsMultipleOfTen b = low b (rw up refl) in
    let second : IsMultipleOfTen (b +ℤ pos n) = high (b +ℤ pos n) (rw up refl) in
    (first, λ x e. let same : pos n ≡ x = cc in subst IsMultipleOfTen same (plus_tens b n first second))
sides_multiple E b (Some (negsuc n)) sided low high =
    let first : IsMultipleOfTen b = high b refl in
    let second : IsMultipleOfTen (b +ℤ negsuc n) = low (b +ℤ negsuc n) refl in
    let turned : b +ℤ negsuc n ≡ b -ℤ pos (suc n) = omega (arith, ints) in
    (first, λ x e. let same : negsuc n ≡ x = cc in subst IsMultipleOfTen same (minus_tens b (suc n) first (subst IsMultipleOfTen turned second)))
