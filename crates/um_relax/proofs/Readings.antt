-- Lists of numbers that are read from a board, one after the other.
use Rattle.std.proofs.Common.{◌≡◌, ◌≢◌, subst, Result, Ok, Err, IfOk, ℕ, ◌+◌, ◌<◌, List, [], ◌∷◌, ◌++◌, length, take, drop, arith, sym, ap, ◌∙◌}
use Rattle.std.proofs.lemmas.List.{take_more, length-drop, get_or-drop}
use Rattle.um_laws.specs.Rational.{Rational, whole}
use Rattle.std.specs.Prelude.{pos}
use Rattle.um_laws.specs.Rational.{Is, mul, inverse}
use Rattle.um_laws.proofs.RationalField.{is_whole}
use Rattle.um_num.proofs.Parts.{zero_parts}
use Rattle.um_num.specs.Views.{rational}
use Rattle.um_num.specs.declared.exact.Wide.{Wide}
use Rattle.um_duality.specs.Readings.{natural}
use Rattle.std.proofs.lemmas.Int.{ints}
use Rattle.um_num.specs.NumberLists.{number_at}

-- one number more, of those that stand from place n on
pub read_next : (xs numbers : List Rational) (n i : ℕ) (x : Rational) → n + i < length xs → x ≡ number_at xs (n + i) → numbers ≡ take i (drop n xs) → numbers ++ x ∷ [] ≡ take (i + 1) (drop n xs)
read_next xs numbers n i x l e are =
    ap (λ (ys : List Rational). ys ++ x ∷ []) are ∙ ap (λ (y : Rational). take i (drop n xs) ++ y ∷ []) (e ∙ sym (get_or-drop n xs i (whole (pos 0))))
    ∙ sym (take_more (drop n xs) i (whole (pos 0)) (rw length-drop (omega arith)))

-- ---- numbers in natural size
pub is_thousand : (f : Rational) → f ≡ rational (pos 1000) (pos 1) → f ≡ whole (pos 1000)
unfolding whole
is_thousand f e = e

-- 1000 is not 0
pub not_zero_thousand : (f : Rational) → f ≡ rational (pos 1000) (pos 1) → f ≢ whole (pos 0)
not_zero_thousand f e z =
    let p = zero_parts f z in
    let h : Is f (pos 1000) 1 = subst (λ (x : Rational). Is x (pos 1000) 1) (sym (is_thousand f e)) (is_whole (pos 1000)) in
    let q = f.positive in
    omega (arith, ints)

-- the value over 1000, where it is not refused, is in natural size
pub natural_is : (r : Result Rational Wide) (x y f : Rational) → f ≡ rational (pos 1000) (pos 1) → x ≡ y → IfOk r (λ q. q ≡ mul x (inverse f)) → IfOk r (λ q. q ≡ natural y)
natural_is (Ok q) x y f e same h = h ∙ ap (λ (z : Rational). mul z (inverse f)) same ∙ ap (λ (z : Rational). mul y (inverse z)) (is_thousand f e)
natural_is (Err w) x y f e same h = tt
