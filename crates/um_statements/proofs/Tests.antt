-- What tests say of numbers and ends.
use Rattle.std.proofs.Common.{◌≡◌, ◌≢◌, ℕ, zero, suc, ◌+ℤ◌, ◌≤◌, ◌<◌, ◌*◌, ◌^◌, Bool, true, false, not, ◌&&◌, ◌||◌, nat_le, nat_eq, ℤ, pos, negsuc, neg_ℤ, ◌≤ℤ◌, unsigned_abs, int_lt, Option, None, Some, IsSome, is_none, refl, sym, ap, subst, ◌∙◌, true≢false, arith, pow-suc}
use Rattle.std.proofs.lemmas.Int.{ints, unsigned_abs-mul}
use Rattle.std.proofs.lemmas.Bool.Decides.{nat_tests}
use Rattle.std.specs.Option.{ForSome}
use Rattle.um_num.specs.declared.decimal.Decimal.{Decimal}
use Rattle.um_model.specs.WellFormed.{IsWithin, InOrder}
use Rattle.um_statements.specs.Scaled.{times_ten, at_least_zero}
use Rattle.um_statements.specs.CallRules.{is_zero}
use Rattle.um_statements.specs.Made.{for_minimising}
use Rattle.um_statements.specs.DeckRules.{is_above, are_crossed, is_below_zero_or_none}

-- ---- Bools

pub or_false : (a b : Bool) → (a || b) ≡ false → (a ≡ false) × (b ≡ false)
or_false true b h = absurd (true≢false h)
or_false false b h = (refl, h)

pub and_false : (a b : Bool) → (a && b) ≡ false → a ≡ true → b ≡ false
and_false true b h e = h
and_false false b h e = absurd (true≢false (sym e))

pub not_true : (b : Bool) → not b ≡ false → b ≡ true
not_true true h = refl
not_true false h = absurd (true≢false h)

-- ---- sizes

pub is_most : (a b : ℕ) → nat_le a b ≡ true → a ≤ b
is_most a b h = grind (arith, nat_tests)

is_most_not : (a b : ℕ) → not (nat_le a b) ≡ false → a ≤ b
is_most_not a b h = grind (arith, nat_tests)

pub same_number : (a b : ℕ) → nat_eq a b ≡ true → a ≡ b
same_number a b h = grind (arith, nat_tests)

pub other_number : (a b : ℕ) → nat_eq a b ≡ false → a ≢ b
other_number a b h = grind (arith, nat_tests)

pub within_most : (most : ℕ) (z : ℤ) → is_above most (Some z) ≡ false → IsWithin most z
within_most most z h = is_most_not (unsigned_abs z) most h

pub all_within : (most : ℕ) (o : Option ℤ) → is_above most o ≡ false → ForSome o (IsWithin most)
all_within most None h x e = cc
all_within most (Some z) h x e = let same : z ≡ x = cc in subst (IsWithin most) same (within_most most z h)

-- 0 at most in size is 0
pub size_zero : (z : ℤ) → IsWithin 0 z → z ≡ pos 0
size_zero (pos n) h = let none : n ≡ 0 = omega (arith, h) in ap pos none
size_zero (negsuc n) h = absurd (omega (arith, h))

pub neg_size : (z : ℤ) → unsigned_abs (neg_ℤ z) ≡ unsigned_abs z
neg_size (pos zero) = refl
neg_size (pos (suc n)) = refl
neg_size (negsuc n) = refl

pub minimised_size : (maximise : Bool) (most : ℕ) (z : ℤ) → IsWithin most z → IsWithin most (for_minimising maximise z)
minimised_size true most z h = subst (λ n. n ≤ most) (sym (neg_size z)) h
minimised_size false most z h = h

pub negated_size : (most : ℕ) (z : ℤ) → IsWithin most z → IsWithin most (neg_ℤ z)
negated_size most z h = subst (λ n. n ≤ most) (sym (neg_size z)) h

-- ---- decimals

pub scaled_size : (v : Decimal) (scale : ℕ) → unsigned_abs (times_ten v scale) ≡ unsigned_abs v.digits * 10 ^ at_least_zero (v.power +ℤ pos scale)
scaled_size v scale = unsigned_abs-mul v.digits (pos (10 ^ at_least_zero (v.power +ℤ pos scale)))

no_product : (a b : ℕ) → 0 < a → 0 < b → a * b ≡ 0 → ⊥
no_product zero b x y e = absurd (omega (arith, x))
no_product (suc a) zero x y e = absurd (omega (arith, y))
no_product (suc a) (suc b) x y e = absurd (omega (arith, e))

ten_above : (n : ℕ) → 0 < 10 ^ n
ten_above zero = omega arith
ten_above (suc n) = rw (pow-suc 10 n) (let more = ten_above n in omega (arith, more))

-- a number that isn't 0 isn't at any scale
pub scaled_not_zero : (v : Decimal) (scale : ℕ) → is_zero v ≡ false → times_ten v scale ≢ pos 0
scaled_not_zero v scale h zero_is =
    let some : unsigned_abs v.digits ≢ 0 = other_number _ _ h in
    let above : 0 < unsigned_abs v.digits = omega (arith, some) in
    no_product (unsigned_abs v.digits) (10 ^ at_least_zero (v.power +ℤ pos scale)) above (ten_above (at_least_zero (v.power +ℤ pos scale))) (sym (scaled_size v scale) ∙ ap unsigned_abs zero_is)

pub scaled_zero : (scale : ℕ) → times_ten (record { digits = pos 0; power = pos 0 }) scale ≡ pos 0
scaled_zero scale =
    let none : 0 * 10 ^ at_least_zero (pos 0 +ℤ pos scale) ≡ 0 = omega arith in
    size_zero _ (subst (λ n. n ≤ 0) (sym (scaled_size (record { digits = pos 0; power = pos 0 }) scale)) (omega (arith, none)))

-- ---- ends

less_not : (a b : ℤ) → int_lt a b ≡ false → b ≤ℤ a
less_not a b h = grind (arith, ints, nat_tests)

pub not_crossed : (low high : Option ℤ) → are_crossed low high ≡ false → InOrder low high
not_crossed None high h = λ l e m f. cc
not_crossed (Some low) None h = λ l e m f. cc
not_crossed (Some low) (Some high) h = λ l e m f.
    let same : low ≡ l = cc in
    let same2 : high ≡ m = cc in
    subst (λ z. z ≤ℤ m) same (subst (λ z. low ≤ℤ z) same2 (less_not high low h))

pub some_of : {A : Type 0} (o : Option A) → is_none o ≡ false → IsSome o
some_of None h = absurd (true≢false h)
some_of (Some x) h = refl

pub above_zero : (o : Option ℤ) → is_below_zero_or_none o ≡ false → (z : ℤ) × (o ≡ Some z) × (pos 0 ≤ℤ z)
above_zero None h = absurd (true≢false h)
above_zero (Some z) h = (z, refl, less_not z (pos 0) h)

pub minimised_not_zero : (maximise : Bool) (z : ℤ) → z ≢ pos 0 → for_minimising maximise z ≢ pos 0
minimised_not_zero true z some is = let none : unsigned_abs z ≡ 0 = sym (neg_size z) ∙ ap unsigned_abs is in some (size_zero z (omega (arith, none)))
minimised_not_zero false z some is = some is
