use Rattle.std.proofs.Common.{◌*◌, ◌^◌, ◌∙◌, arith, refl, w64, FitsSigned}
use Rattle.std.proofs.lemmas.Int.{to_z-of_z, fits_signed_from_abs}
use Rattle.um_deck.proofs.BoundedSums.{abs_product}
use Rattle.um_point.proofs.Quotients.{product_is}
use Rattle.um_split.proofs.averages.weighted_part.Goals as goal

pub returns-clause-size : goal.returns-clause-size
returns-clause-size c =
    let weight = c.args.member.now.weight in
    let fits : FitsSigned w64 weight = fits_signed_from_abs w64 weight (omega (arith, c.requires.weight)) in
    let size = abs_product weight c.part_of.result (2 ^ 31 * 10 ^ 6) (2 ^ 36) c.requires.weight c.part_of.ensures.size in
    rw (product_is weight c.part_of.result c.from.result c.part_of.result (2 ^ 31 * 10 ^ 6) (2 ^ 36) (c.from.ensures ∙ to_z-of_z w64 weight fits) refl c.requires.weight c.part_of.ensures.size (omega arith) (omega arith) (omega arith))
    (omega (arith, size))
