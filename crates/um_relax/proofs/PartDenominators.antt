-- Least common denominators of the last numbers of a list.
use Rattle.std.proofs.Common.{◌≡◌, ℕ, zero, suc, ◌-◌, ◌<◌, ◌≤◌, List, [], ◌∷◌, length, drop, get_or, arith, sym, ap, ◌∙◌, subst, drop-cons, Option, None}
use Rattle.std.specs.Prelude.{ℤ, pos, unsigned_abs}
use Rattle.std.specs.Option.{MatchOption}
use Rattle.um_laws.specs.Rational.{Rational}
use Rattle.um_lp.specs.WideStates.{common, common_denominator}
use Rattle.um_lp.proofs.Denominators.{common_least}
use Rattle.um_relax.specs.Parts.{IsLeastDenominator}

-- the denominator of a part is at most that of the whole
pub denominator_grows : (i : ℕ) (xs : List Rational) → common_denominator (drop i xs) ≤ common_denominator xs
denominator_grows zero xs = omega arith
denominator_grows (suc i) [] = omega arith
denominator_grows (suc i) (x ∷ xs) =
    let l = denominator_grows i xs in
    let m = common_least x.den (common_denominator xs) x.positive in
    omega arith

-- one number more, from the end
pub one_before : (xs : List Rational) (i : ℕ) (x : Rational) → 0 < i → i ≤ length xs → x ≡ get_or xs (i - 1) x → common_denominator (drop (i - 1) xs) ≡ common x.den (common_denominator (drop i xs))
one_before xs zero x p l e = absurd (omega arith)
one_before xs (suc i) x p l e =
    let same : suc i - 1 ≡ i = omega arith in
    let f : get_or xs i x ≡ x = ap (λ (k : ℕ). get_or xs k x) (sym same) ∙ sym e in
    ap (λ (k : ℕ). common_denominator (drop k xs)) same ∙ ap common_denominator (drop-cons xs i x (omega arith)) ∙ ap (λ (y : Rational). common y.den (common_denominator (drop (suc i) xs))) f

-- where the denominator of a part is too large, that of the whole is
pub part_too_large : (xs : List Rational) (i limit : ℕ) (x : Rational) → 0 < i → i ≤ length xs → x ≡ get_or xs (i - 1) x → ¬ common x.den (common_denominator (drop i xs)) < limit → ¬ common_denominator xs < limit
part_too_large xs i limit x p l e h k = h (let q = one_before xs i x p l e in let r = denominator_grows (i - 1) xs in omega arith)

-- the same, where the sizes come as whole numbers
pub none_before : (xs : List Rational) (i limit : ℕ) (x : Rational) (d e : ℤ) (r : Option ℤ) → 0 < i → i ≤ length xs → x ≡ get_or xs (i - 1) x → d ≡ pos x.den → e ≡ pos (common_denominator (drop i xs))
    → ¬ common (unsigned_abs d) (unsigned_abs e) < limit → r ≡ None → MatchOption r (¬ common_denominator xs < limit) (IsLeastDenominator xs limit)
none_before xs i limit x d e r p l is f h out none =
    rw none (part_too_large xs i limit x p l is (subst (λ (n : ℕ). ¬ common n (common_denominator (drop i xs)) < limit) (ap unsigned_abs f) (subst (λ (n : ℕ). ¬ common (unsigned_abs d) n < limit) (ap unsigned_abs h) out)))
