-- A step that is refused names an operation that is out of range.
use Rattle.std.proofs.Common.{◌≡◌, ℤ, arith, sym, ◌∙◌, subst, inl, inr, Result, Ok, Err, IfErr}
use Rattle.std.proofs.lemmas.Bool.{cases_Bool, ltb-false, cond-true, cond-false}
use Rattle.um_num.specs.Numbers.{IsInRange, IsOutOfRange, exact, in_range, stepped}
use Rattle.um_num.specs.declared.exact.Op.{Op}
use Rattle.um_num.specs.declared.exact.Wide.{Wide}

abbrev err_wide : Wide → Result ℤ Wide
err_wide w = Err w

stepped_out : (op : Op) (a b : ℤ) (w : Wide) → IsInRange a → IsInRange b → Err w ≡ stepped op a b → IsOutOfRange w
unfolding stepped
stepped_out op a b w ha hb e =
    elim (cases_Bool (in_range (exact op a b))) [
      | inl t ↦ let apart : err_wide w ≡ Ok (exact op a b) = e ∙ cond-true _ _ _ t in cc
      | inr t ↦
          let same : err_wide w ≡ Err (record { op = op; left = a; right = b }) = e ∙ cond-false _ _ _ t in
          let is : w ≡ record { op = op; left = a; right = b } = cc in
          subst IsOutOfRange (sym is) (record { left = ha; right = hb; result = λ h. let q = ltb-false _ _ t in omega arith })
    ]

pub step_refused : (op : Op) (a b : ℤ) (r : Result ℤ Wide) → r ≡ stepped op a b → IsInRange a → IsInRange b → IfErr r IsOutOfRange
step_refused op a b (Ok z) e ha hb = tt
step_refused op a b (Err w) e ha hb = stepped_out op a b w ha hb e
