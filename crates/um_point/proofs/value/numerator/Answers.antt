use Rattle.std.proofs.Common.{arith}
use Rattle.std.proofs.lemmas.Int.{ints}
use Rattle.um_point.proofs.value.numerator.Goals as goal

pub returns-clause-value : goal.returns-clause-value
returns-clause-value c =
    omega (arith, ints, c.costs.ensures.value, c.costs.ensures.size, c.squares.ensures.value, c.squares.ensures.size, c.constant.ensures.value, c.constant.ensures.size)

pub returns-clause-range : goal.returns-clause-range
returns-clause-range c = omega (arith, ints, c.costs.ensures.size, c.squares.ensures.size, c.constant.ensures.size)
