use Rattle.std.proofs.Common.{◌^◌, ◌∙◌, arith, refl, w64}
use Rattle.std.proofs.lemmas.Int.{to_z-of_z}
use Rattle.um_point.proofs.Quotients.{product_is}
use Rattle.um_point.proofs.quotient.Quotient.scaled.Goals as goal

pub returns : goal.returns
returns c =
    product_is c.args.number c.args.self.now.den c.from.result c.args.self.now.den (2 ^ 53) (2 ^ 72) (c.from.ensures ∙ to_z-of_z w64 c.args.number c.ranges.number) refl c.requires.number c.requires.den (omega arith) (omega arith) (omega arith)
