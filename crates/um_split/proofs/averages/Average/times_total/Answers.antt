use Rattle.std.proofs.Common.{◌*◌, ◌^◌, ◌∙◌, arith, refl, w64}
use Rattle.std.proofs.lemmas.Int.{to_z-of_z}
use Rattle.um_point.proofs.Quotients.{product_is}
use Rattle.um_split.proofs.averages.Average.times_total.Goals as goal

pub returns : goal.returns
returns c =
    product_is c.args.weight c.args.self.now.total c.from.result c.args.self.now.total (2 ^ 31 * 10 ^ 6) (2 ^ 48) (c.from.ensures ∙ to_z-of_z w64 c.args.weight c.ranges.weight) refl c.requires.weight c.requires.total (omega arith) (omega arith) (omega arith)
