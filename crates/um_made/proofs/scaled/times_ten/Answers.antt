use Rattle.std.proofs.Common.{arith, ◌≤◌, unsigned_abs}
use Rattle.std.proofs.lemmas.Int.{ints}
use Rattle.um_made.proofs.Scales.{power_fits, large_product, zeros_are}
use Rattle.um_made.proofs.scaled.times_ten.Goals as goal

pub pow-requires : goal.pow-requires
pow-requires c = power_fits c.zeros-places.result (omega arith)

pub returns-then-places-gt38 : goal.returns-then-places-gt38
returns-then-places-gt38 c =
    let some : 1 ≤ unsigned_abs c.args.value.now.digits = omega (arith, ints, c.if-value-eq0.false) in
    rw (zeros_are c.args.value.now c.args.scale c.zeros-places.result c.zeros-places.ensures) (large_product c.args.value.now.digits c.zeros-places.result some (omega arith))
