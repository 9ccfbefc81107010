-- The sign of a number is that of what stands above its denominator.
use Rattle.std.proofs.Common.{◌≡◌, ℕ, zero, suc, ◌*◌, ◌<◌, ℤ, pos, negsuc, ◌*ℤ◌, ◌≤ℤ◌, arith, sym, ◌∙◌, refl}
use Rattle.std.specs.Ordering.{int_cmp}
use Rattle.std.proofs.lemmas.Int.{ints}
use Rattle.um_laws.proofs.WholeLaws.{times_pos}
use Rattle.um_laws.specs.Rational.{Rational, reduce}
use Rattle.um_laws.proofs.RationalParts.{is_reduce}
use Rattle.um_num.specs.Views.{rational}
use Rattle.um_num.proofs.Division.{cmp_less, cmp_greater}

same_sign : (a n : ℤ) (d e : ℕ) → 0 < d → 0 < e → a *ℤ pos d ≡ n *ℤ pos e → int_cmp a (pos 0) ≡ int_cmp n (pos 0)
same_sign (pos (suc a)) (pos (suc n)) d e ud ue h = cmp_greater (pos (suc a)) (pos 0) (omega (arith, ints)) ∙ sym (cmp_greater (pos (suc n)) (pos 0) (omega (arith, ints)))
same_sign (pos zero) (pos zero) d e ud ue h = refl
same_sign (negsuc a) (negsuc n) d e ud ue h = cmp_less (negsuc a) (pos 0) (omega (arith, ints)) ∙ sym (cmp_less (negsuc n) (pos 0) (omega (arith, ints)))
same_sign (pos (suc a)) (pos zero) d e ud ue h = let p : 0 < suc a * d = times_pos (suc a) d (omega arith) ud in absurd (omega (arith, ints, h, p))
same_sign (pos zero) (pos (suc n)) d e ud ue h = let p : 0 < suc n * e = times_pos (suc n) e (omega arith) ue in absurd (omega (arith, ints, h, p))
same_sign (pos a) (negsuc n) d e ud ue h = let p : 0 < suc n * e = times_pos (suc n) e (omega arith) ue in absurd (omega (arith, ints, h, p))
same_sign (negsuc a) (pos n) d e ud ue h = let p : 0 < suc a * d = times_pos (suc a) d (omega arith) ud in absurd (omega (arith, ints, h, p))

pub sign_above : (n d : ℤ) → pos 1 ≤ℤ d → int_cmp n (pos 0) ≡ int_cmp (rational n d).num (pos 0)
sign_above n (negsuc d) up = absurd (omega (arith, ints))
sign_above n (pos d) up =
    let u : 0 < d = omega (arith, ints) in
    let x : Rational = reduce n d in
    sym (same_sign x.num n d x.den u x.positive (is_reduce n d u))
