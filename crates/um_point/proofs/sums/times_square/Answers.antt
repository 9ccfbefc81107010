use Rattle.std.proofs.Common.{◌∙◌, w64}
use Rattle.std.proofs.lemmas.Int.{to_z-of_z}
use Rattle.um_point.proofs.ObjectiveParts.{square_fits, times_square_fits, times_square_value, times_square_size}
use Rattle.um_point.proofs.sums.times_square.Goals as goal

pub overflow_mul-result : goal.overflow_mul-result
overflow_mul-result c = square_fits c.args.part.now c.requires.part

pub overflow_mul-result-2 : goal.overflow_mul-result-2
overflow_mul-result-2 c =
    times_square_fits c.args.part.now c.args.number c.from.result (c.from.ensures ∙ to_z-of_z w64 c.args.number c.ranges.number) c.requires.part c.requires.number

pub returns-clause-value : goal.returns-clause-value
returns-clause-value c =
    times_square_value c.args.part.now c.args.number c.from.result (c.from.ensures ∙ to_z-of_z w64 c.args.number c.ranges.number) c.requires.part c.requires.number

pub returns-clause-size : goal.returns-clause-size
returns-clause-size c =
    times_square_size c.args.part.now c.args.number c.from.result (c.from.ensures ∙ to_z-of_z w64 c.args.number c.ranges.number) c.requires.part c.requires.number
