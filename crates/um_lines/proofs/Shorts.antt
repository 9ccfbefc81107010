-- Steps on short numbers are in range.
use Rattle.std.proofs.Common.{◌≡◌, ◌*◌, ◌<◌, ◌≤◌, ◌^◌, ℤ, pos, ◌+ℤ◌, ◌*ℤ◌, ◌≤ℤ◌, arith, unsigned_abs, sym, ◌∙◌, ap, subst, refl, Result, Ok, Err, IfOk, true, false}
use Rattle.std.specs.Result.{IsOk}
use Rattle.std.proofs.lemmas.Int.{ints, unsigned_abs-mul}
use Rattle.std.proofs.lemmas.Nat.{mul-lt}
use Rattle.std.proofs.Math.Nat.{mul-le-mul_left}
use Rattle.um_num.specs.Numbers.{IsInRange, exact, stepped}
use Rattle.um_num.specs.declared.exact.Op.{Op}
use Rattle.um_num.specs.declared.exact.Wide.{Wide}
use Rattle.um_num.specs.Sizes.{IsShort}
use Rattle.um_num.proofs.TakenSteps.{stepped_in}

-- a step in range is taken
pub step_taken : (op : Op) (a b : ℤ) (r : Result ℤ Wide) → r ≡ stepped op a b → IsInRange (exact op a b) → IsOk r
step_taken op a b r e h = rw (e ∙ stepped_in op a b h) refl

-- what is refused is not taken
pub never : {G : Type 0} → false ≡ true → G
never h = cc

pub not_taken : {A E G : Type 0} (e : E) (r : Result A E) → r ≡ Err e → IsOk r → G
not_taken e (Ok x) same h = cc
not_taken e (Err w) same h = cc

short_product : (a b : ℤ) → IsShort a → IsShort b → unsigned_abs (a *ℤ b) < 2 ^ 124
short_product a b h k = let p = mul-lt (unsigned_abs a) (unsigned_abs b) (2 ^ 62) (2 ^ 62) h k in rw (unsigned_abs-mul a b) (omega arith)

pub product_in : (a b : ℤ) → IsShort a → IsShort b → IsInRange (a *ℤ b)
product_in a b h k = let p = short_product a b h k in omega arith

pub sum_in : (a f b h : ℤ) → IsShort a → IsShort f → IsShort b → IsShort h → IsInRange ((a *ℤ f) +ℤ (b *ℤ h))
sum_in a f b h ka kf kb kh =
    let p = short_product a f ka kf in
    let q = short_product b h kb kh in
    by (a *ℤ f) (b *ℤ h) p q
  where
    by : (x y : ℤ) → unsigned_abs x < 2 ^ 124 → unsigned_abs y < 2 ^ 124 → unsigned_abs (x +ℤ y) < 2 ^ 127
    by x y p q = grind (arith, ints)

pub if_ok_same : {E : Type 0} (r : Result ℤ E) (a b : ℤ) → a ≡ b → IfOk r (λ v. v ≡ a) → IfOk r (λ v. v ≡ b)
if_ok_same r a b e h = subst (λ (z : ℤ). IfOk r (λ v. v ≡ z)) e h

pub quotient_short : (a d q : ℤ) → pos 1 ≤ℤ d → q *ℤ d ≡ a → IsShort a → IsShort q
quotient_short a d q up e h =
    let size : unsigned_abs q * unsigned_abs d ≡ unsigned_abs a = sym (unsigned_abs-mul q d) ∙ ap unsigned_abs e in
    let one : 1 ≤ unsigned_abs d = omega (arith, ints) in
    omega (arith, mul-le-mul_left (unsigned_abs q) one)
