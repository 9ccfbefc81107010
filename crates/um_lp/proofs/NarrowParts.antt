-- Parts of numbers that are not wide.
use Rattle.std.proofs.Common.{◌≡◌, ℕ, zero, suc, ◌+◌, ◌*◌, ◌/◌, ◌<◌, ◌≤◌, ◌^◌, pos, List, [], ◌∷◌, ◌++◌, length, slice_index_or, arith, ◌∙◌, subst}
use Rattle.std.specs.Int.{◌∣◌}
use Rattle.std.proofs.lemmas.Nat.{mul-le}
use Rattle.std.proofs.lemmas.List.{get_or_default, get_or_append_left, get_or-append-add, length-append}
use Rattle.std.proofs.Math.Nat.{div-mul_cancel, le_of_mul-le-mul_right}
use lib.IntN.{nat_abs}
use Rattle.um_laws.specs.Rational.{Rational, whole}
use Rattle.um_laws.proofs.RationalBounds.{Below}
use Rattle.um_num.specs.NumberLists.{number_at}
use Rattle.um_lp.specs.States.{State}
use Rattle.um_lp.specs.WideStates.{common_denominator, joined, numbers_of, AreNarrow}
use Rattle.um_lp.proofs.Denominators.{quotient_of, den_divides, denominator_positive, denominator_divides}
use Rattle.um_lp.proofs.NarrowNumbers.{narrow_den, narrow_num, narrow_from, narrow_below}

-- the first numbers are among the second
abbrev pub AreAmong : List Rational → List Rational → Type 0
AreAmong xs ys = (i : ℕ) → i < length xs → (j : ℕ) × (j < length ys) × (number_at ys j ≡ number_at xs i)

multiple_le : (c C k : ℕ) → C ≡ c * k → 0 < C → c ≤ C
multiple_le c C zero e u = absurd (omega arith)
multiple_le c C (suc k) e u = omega arith

quotient_grows : (d q r c C k : ℕ) → 0 < d → q * d ≡ c → r * d ≡ C → C ≡ c * k → 0 < C → q ≤ r
quotient_grows d q r c C k ud e f h u =
    let t = multiple_le c C k h u in
    let s : q * d ≤ r * d = omega arith in
    le_of_mul-le-mul_right s ud

-- numbers among narrow numbers are narrow
pub narrow_among : (xs ys : List Rational) → AreAmong xs ys → AreNarrow ys → AreNarrow xs
narrow_among xs ys among h =
    let c : ℕ = common_denominator xs in
    let C : ℕ = common_denominator ys in
    let part : c ∣ C = denominator_divides xs C (λ i x l.
    let p = among i l in
    subst (λ (y : Rational). y.den ∣ C) (p.2 ∙ get_or_default xs i (whole (pos 0)) x l) (den_divides ys p.0 (whole (pos 0)) p.1)) in
    let k = quotient_of c C part in
    let small = narrow_den ys h in
    narrow_from xs (let m = multiple_le c C k.0 k.1 (denominator_positive ys) in omega arith)
    (λ i l.
    let x : Rational = number_at xs i in
    let p = among i l in
    let e : c / x.den * x.den ≡ c = div-mul_cancel x.den (den_divides xs i (whole (pos 0)) l) in
    let xd : x.den ∣ C = subst (λ (y : Rational). y.den ∣ C) p.2 (den_divides ys p.0 (whole (pos 0)) p.1) in
    let f : C / x.den * x.den ≡ C = div-mul_cancel x.den xd in
    let grows = quotient_grows x.den (c / x.den) (C / x.den) c C k.0 x.positive e f k.1 (denominator_positive ys) in
    let m = mul-le (nat_abs x.num) (c / x.den) (nat_abs x.num) (C / x.den) (omega arith) grows in
    let b : nat_abs x.num * (C / x.den) < 2 ^ 62 = subst (λ (y : Rational). nat_abs y.num * (C / y.den) < 2 ^ 62) p.2 (narrow_num ys p.0 p.1 h) in
    omega arith)

pub narrow_left : (xs ys : List Rational) → AreNarrow (xs ++ ys) → AreNarrow xs
narrow_left xs ys h = narrow_among xs (xs ++ ys) (λ i l. (i, let e : length (xs ++ ys) ≡ length xs + length ys = length-append xs ys in omega arith, get_or_append_left xs ys (whole (pos 0)) i l)) h

pub narrow_right : (xs ys : List Rational) → AreNarrow (xs ++ ys) → AreNarrow ys
narrow_right xs ys h = narrow_among ys (xs ++ ys) (λ i l. (length xs + i, let e : length (xs ++ ys) ≡ length xs + length ys = length-append xs ys in omega arith, get_or-append-add xs ys i (whole (pos 0)))) h

-- each row of narrow rows is narrow
pub narrow_row : (rows : List (List Rational)) (i : ℕ) → i < length rows → AreNarrow (joined rows) → AreNarrow (slice_index_or rows i [])
narrow_row [] i l h = absurd (omega arith)
narrow_row (row ∷ rows) zero l h = narrow_left row (joined rows) h
narrow_row (row ∷ rows) (suc i) l h = narrow_row rows i (omega arith) (narrow_right row (joined rows) h)

-- ---- the numbers of a state
pub state_rows : (s : State) (i : ℕ) → i < length s.entries → AreNarrow (numbers_of s) → AreNarrow (slice_index_or s.entries i [])
state_rows s i l h = narrow_row s.entries i l (narrow_left (joined s.entries) s.reduced (narrow_left (joined s.entries ++ s.reduced) s.values h))

pub state_reduced : (s : State) → AreNarrow (numbers_of s) → AreNarrow s.reduced
state_reduced s h = narrow_right (joined s.entries) s.reduced (narrow_left (joined s.entries ++ s.reduced) s.values h)

pub state_value : (s : State) (j : ℕ) → j < length s.values → AreNarrow (numbers_of s) → Below (2 ^ 62) (number_at s.values j)
state_value s j l h = narrow_below s.values j l (narrow_right (joined s.entries ++ s.reduced) s.values h)
