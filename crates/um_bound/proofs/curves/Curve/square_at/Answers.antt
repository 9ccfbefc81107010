use Rattle.std.proofs.Common.{◌*◌, ◌^◌, ◌≤◌, ℤ, sym, subst, unsigned_abs, arith}
use Rattle.um_bound.proofs.LeastValues.{abs_product}
use Rattle.um_bound.proofs.CurveSteps.{square_size, times_square_is, times_square_fits}
use Rattle.um_bound.proofs.curves.Curve.square_at.Goals as goal

pub overflow_mul-result-2 : goal.overflow_mul-result-2
overflow_mul-result-2 c = times_square_fits c.args.self.now.square c.args.x (2 ^ 40 * 2 ^ 24) 8000000 c.requires.small.square c.requires.value (omega arith) (omega arith) (omega arith) (omega arith)

pub returns-clause-value : goal.returns-clause-value
returns-clause-value c = times_square_is c.args.self.now.square c.args.x (2 ^ 40 * 2 ^ 24) 8000000 c.requires.small.square c.requires.value (omega arith) (omega arith) (omega arith) (omega arith)

pub returns-clause-size : goal.returns-clause-size
returns-clause-size c =
    subst (λ (z : ℤ). unsigned_abs z ≤ 2 ^ 40 * 2 ^ 24 * (8000000 * 8000000))
    (sym (times_square_is c.args.self.now.square c.args.x (2 ^ 40 * 2 ^ 24) 8000000 c.requires.small.square c.requires.value (omega arith) (omega arith) (omega arith) (omega arith)))
    (abs_product c.args.self.now.square _ (2 ^ 40 * 2 ^ 24) (8000000 * 8000000) c.requires.small.square (square_size c.args.x 8000000 c.requires.value))
