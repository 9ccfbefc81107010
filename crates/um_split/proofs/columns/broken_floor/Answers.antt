use Rattle.std.proofs.Common.{◌≡◌, ◌^◌, ◌≤◌, ◌*ℤ◌, unsigned_abs, sym, ap, arith, FitsSigned, of_z, w64}
use Rattle.std.specs.Int.{w128}
use Rattle.std.proofs.lemmas.Bool.{false≢true}
use Rattle.std.proofs.lemmas.Int.{to_z-of_z, fits_signed_from_abs}
use Rattle.um_split.specs.Branchings.{IsFloor}
use Rattle.um_split.proofs.PassedNumbers.{floor_read}
use Rattle.um_split.proofs.Floors.{whole_floor, floor_size}
use Rattle.um_split.proofs.columns.broken_floor.Goals as goal

floor : (c : goal.Else-below-den) → IsFloor c.args.den c.args.part c.floor_div-below.result
floor c = floor_read c.args.den c.args.part c.floor_div-below.result c.ranges.den c.ranges.part c.floor_div-below.ensures.low c.floor_div-below.ensures.high

size : (c : goal.Else-below-den) → unsigned_abs c.floor_div-below.result ≤ 2 ^ 36
size c = floor_size c.args.den c.args.part c.floor_div-below.result c.requires.den (floor c) (2 ^ 36) c.requires.part_size

long : (c : goal.Else-below-den) → FitsSigned w128 c.floor_div-below.result
long c = fits_signed_from_abs w128 c.floor_div-below.result (omega (arith, size c))

short : (c : goal.Else-below-den) → FitsSigned w64 c.floor_div-below.result
short c = fits_signed_from_abs w64 c.floor_div-below.result (omega (arith, size c))

pub returns-else-below-den-clause-whole : goal.returns-else-below-den-clause-whole
returns-else-below-den-clause-whole c =
    let fits = long c in
    let den_fits = c.ranges.den in
    let product : c.floor_div-below.result *ℤ c.args.den ≡ c.args.part → ⊥ = λ e. (simp to_z-of_z at c.if-below-den.false) (ap (of_z w128) e) in (
      λ h. absurd (false≢true (sym h)),
      λ m. absurd (product (whole_floor c.args.den c.args.part c.floor_div-below.result c.requires.den (floor c) m)),
    )

pub returns-else-below-den-clause-floor : goal.returns-else-below-den-clause-floor
returns-else-below-den-clause-floor c =
    let fits = long c in
    let short_fits = short c in
    simp to_z-of_z (floor c)
