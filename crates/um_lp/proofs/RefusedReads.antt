-- Quotients of numbers of a state that is not wide are in range, so that one is refused only where the state is wide.
use Rattle.std.proofs.Common.{◌≡◌, ℕ, zero, suc, ◌*◌, ◌<◌, ◌^◌, ℤ, pos, negsuc, ◌*ℤ◌, [], length, slice_index_or, arith, ap, refl, inl, inr, Result, Ok, Err, IfErr, true, false}
use Rattle.std.specs.Result.{IsOk}
use Rattle.std.proofs.lemmas.Bool.{cases_Bool}
use Rattle.std.proofs.lemmas.Int.{unsigned_abs-mul}
use Rattle.std.proofs.lemmas.Nat.{mul-lt}
use lib.IntN.{neg_ℤ, nat_abs}
use Rattle.um_laws.specs.Rational.{Rational, reduce, mul, neg, inverse, inverse_of, whole}
use Rattle.um_laws.proofs.WholeLaws.{times_pos}
use Rattle.um_laws.proofs.RationalParts.{is_reduce}
use Rattle.um_laws.proofs.RationalField.{is_mul, is_whole}
use Rattle.um_laws.proofs.RationalBounds.{Below, num_le, den_le}
use Rattle.um_num.specs.declared.exact.Wide.{Wide}
use Rattle.um_lp.specs.Boards.{IsBoard}
use Rattle.um_num.specs.Numbers.{IsOutOfRange}
use Rattle.um_lp.specs.Refusals.{IsRefusedAt}
use Rattle.um_lp.specs.States.{State, width, entry_of, reduced_of, value_of}
use Rattle.um_lp.specs.WideStates.{is_wide, numbers_of, AreNarrow}
use Rattle.um_num.specs.Sizes.{IsSmall, Fits}
use Rattle.um_lp.proofs.NarrowNumbers.{narrow_below}
use Rattle.um_lp.proofs.NarrowParts.{state_rows, state_reduced, state_value}

pub not_wide : (s : State) → is_wide s ≡ false → AreNarrow (numbers_of s)
unfolding is_wide
not_wide s h = h

pub never : {G : Type 0} → false ≡ true → G
never h = cc

below_reduced : (n : ℤ) (d bound : ℕ) → 0 < d → nat_abs n < bound → d < bound → Below bound (reduce n d)
below_reduced n d bound u hn hd =
    let is = is_reduce n d u in
    record { num = (let l = num_le (reduce n d) n d u is in omega arith); den = (let l = den_le (reduce n d) n d u is in omega arith) }

abs_neg : (d : ℕ) → nat_abs (neg_ℤ (pos d)) ≡ d
abs_neg zero = refl
abs_neg (suc d) = refl

inverse_small : (y : Rational) → IsSmall y → IsSmall (inverse y)
unfolding inverse
inverse_small y h = by y.num refl
  where
    by : (n : ℤ) → n ≡ y.num → IsSmall (inverse_of n y.den)
    by (pos zero) e = below_reduced (pos 0) 1 (2 ^ 62) (omega arith) (omega arith) (omega arith)
    by (pos (suc n)) e = below_reduced (pos y.den) (suc n) (2 ^ 62) (omega arith) h.den (let l = h.num in let f : nat_abs (pos (suc n)) ≡ nat_abs y.num = ap nat_abs e in omega arith)
    by (negsuc n) e = below_reduced (neg_ℤ (pos y.den)) (suc n) (2 ^ 62) (omega arith) (rw (abs_neg y.den) h.den) (let l = h.num in let f : nat_abs (negsuc n) ≡ nat_abs y.num = ap nat_abs e in omega arith)

pub product_small : (x y : Rational) → IsSmall x → IsSmall y → Fits (mul x y)
product_small x y hx hy =
    let is = is_mul x y x.num y.num x.den y.den refl refl in
    let up = times_pos x.den y.den x.positive y.positive in
    let n = num_le (mul x y) (x.num *ℤ y.num) (x.den * y.den) up is in
    let d = den_le (mul x y) (x.num *ℤ y.num) (x.den * y.den) up is in
    let s = unsigned_abs-mul x.num y.num in
    let a = mul-lt (nat_abs x.num) (nat_abs y.num) (2 ^ 62) (2 ^ 62) hx.num hy.num in
    let b = mul-lt x.den y.den (2 ^ 62) (2 ^ 62) hx.den hy.den in
    record { num = omega (arith, s); den = omega arith }

-- a quotient of small numbers is in range
pub quotient_fits : (x y : Rational) → IsSmall x → IsSmall y → Fits (mul x (inverse y))
quotient_fits x y hx hy = product_small x (inverse y) hx (inverse_small y hy)

pub whole_small : (n : ℤ) → nat_abs n < 2 ^ 62 → IsSmall (whole n)
whole_small n h =
    let is = is_whole n in
    record { num = (let l = num_le (whole n) n 1 (omega arith) is in omega arith); den = (let l = den_le (whole n) n 1 (omega arith) is in omega arith) }

-- ---- the numbers of a board
pub entry_small : (s : State) (row column : ℕ) → IsBoard s → row < s.frame.rows → column < width s.frame → AreNarrow (numbers_of s) → IsSmall (entry_of s row column)
entry_small s row column b lr lk h =
    let l : row < length s.entries = (let e = b.shape.entries in omega arith) in
    let long : length (slice_index_or s.entries row []) ≡ width s.frame = b.shape.long row [] l in
    narrow_below (slice_index_or s.entries row []) column (omega arith) (state_rows s row l h)

pub cost_small : (s : State) (column : ℕ) → IsBoard s → column < width s.frame → AreNarrow (numbers_of s) → IsSmall (reduced_of s column)
cost_small s column b lk h = narrow_below s.reduced column (let e = b.shape.reduced in omega arith) (state_reduced s h)

pub value_small : (s : State) (column : ℕ) → IsBoard s → column < width s.frame → AreNarrow (numbers_of s) → IsSmall (value_of s column)
value_small s column b lk h = state_value s column (let e = b.shape.values in omega arith) h

-- a call that is done where the state is not wide is refused only where it is
pub refused_at : {A : Type 0} (s : State) (r : Result A Wide) → IfErr r IsOutOfRange → (AreNarrow (numbers_of s) → IsOk r) → IfErr r (IsRefusedAt s)
refused_at s (Ok x) out done = tt
refused_at s (Err w) out done = record {
  operation = out;
  wide = elim (cases_Bool (is_wide s)) [ inl t ↦ t | inr f ↦ never (done (not_wide s f)) ];
}

-- the negative of a small number is small
pub neg_small : (x : Rational) → IsSmall x → IsSmall (neg x)
unfolding neg
neg_small x h = below_reduced (neg_ℤ x.num) x.den (2 ^ 62) x.positive (rw (abs_neg_of x.num) h.num) h.den
  where
    abs_neg_of : (n : ℤ) → nat_abs (neg_ℤ n) ≡ nat_abs n
    abs_neg_of (pos zero) = refl
    abs_neg_of (pos (suc n)) = refl
    abs_neg_of (negsuc n) = refl
