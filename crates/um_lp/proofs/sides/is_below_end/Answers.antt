use Rattle.um_lp.proofs.ValueEnds.{below_end, end_over_one}
use Rattle.um_lp.proofs.sides.is_below_end.Goals as goal

pub returns-in-Some : goal.returns-in-Some
returns-in-Some c = below_end c.args.low c.in-Some.end c.new.result c.args.value.now _ c.in-Some.is (end_over_one c.args.low c.in-Some.end c.new.result c.requires c.in-Some.is c.new.ensures) c.is_below.ensures
