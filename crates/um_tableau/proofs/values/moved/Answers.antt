use Rattle.um_laws.specs.Rational.{Rational, mul}
use Rattle.um_num.specs.Sizes.{Fits}
use Rattle.std.proofs.Common.{sym, subst}
use Rattle.um_num.proofs.TakenSteps.{change_fits}
use Rattle.um_lines.proofs.Shorts.{never}
use Rattle.std.proofs.Common.{refl}
use Rattle.um_num.specs.NumberLists.{number_at}
use Rattle.um_tableau.proofs.ValueSteps.{unmoved, at_rest}
use Rattle.um_tableau.proofs.values.moved.Goals as goal
use Rattle.um_tableau.proofs.values.moved.Goals.{then-is_zero-via-then-is_zero, then-is_zero-via-else-is_zero+then-is_zero_at}

pub returns-then-is_zero-clause-value : goal.returns-then-is_zero-clause-value
returns-then-is_zero-clause-value c =
    elim c.then-is_zero.branch [
      | then-is_zero-via-then-is_zero w ↦ at_rest c.args.value.now (number_at c.args.line.now c.args.column) c.args.change.now (w.if-is_zero.ensures.0 refl)
      | then-is_zero-via-else-is_zero+then-is_zero_at w ↦ unmoved c.args.value.now (number_at c.args.line.now c.args.column) c.args.change.now (w.if-is_zero_at.ensures.0 refl)
    ]

pub returns-in_err-rise-clause-narrow : goal.returns-in_err-rise-clause-narrow
returns-in_err-rise-clause-narrow c h k =
    never (c.in_err-rise.ensures.taken (subst (λ (x : Rational). Fits (mul x c.args.change.now)) (sym c.get.ensures) (change_fits c.args.value.now (mul (number_at c.args.line.now c.args.column) c.args.change.now) h k)))
