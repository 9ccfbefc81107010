use Rattle.std.proofs.Common.{◌^◌, ◌∙◌, arith, refl, w64}
use Rattle.std.proofs.lemmas.Int.{to_z-of_z}
use Rattle.um_point.proofs.Quotients.{product_is}
use Rattle.um_split.proofs.columns.times.Goals as goal

pub returns : goal.returns
returns c =
    product_is c.args.threshold c.args.den c.from.result c.args.den (10 ^ 10) (2 ^ 36) (c.from.ensures ∙ to_z-of_z w64 c.args.threshold c.ranges.threshold) refl c.requires.threshold (omega (arith, c.requires.den)) (omega arith) (omega arith) (omega arith)
