use Rattle.std.proofs.Common.{rules, ◌≡◌, to_z, of_z}
use Rattle.std.specs.Int.{w128, int_div_euclid}
use Rattle.um_num.proofs.Division.{floor_low, floor_high}
use Rattle.um_num.proofs.divisions.floor_div.Goals as goal

short : (c : goal.After-from) → to_z w128 (of_z w128 c.from.result) ≡ int_div_euclid c.args.a c.args.b
short c = search rules

long : (c : goal.After-long_floor) → to_z w128 (of_z w128 c.long_floor.result) ≡ int_div_euclid c.args.a c.args.b
long c = search rules

pub returns-in-Ok-Ok-clause-low : goal.returns-in-Ok-Ok-clause-low
returns-in-Ok-Ok-clause-low c = rw (short c) (floor_low c.args.a c.args.b c.requires.positive)

pub returns-in-Ok-Ok-clause-high : goal.returns-in-Ok-Ok-clause-high
returns-in-Ok-Ok-clause-high c = rw (short c) (floor_high c.args.a c.args.b c.requires.positive)

pub returns-in_default-clause-low : goal.returns-in_default-clause-low
returns-in_default-clause-low c = rw (long c) (floor_low c.args.a c.args.b c.requires.positive)

pub returns-in_default-clause-high : goal.returns-in_default-clause-high
returns-in_default-clause-high c = rw (long c) (floor_high c.args.a c.args.b c.requires.positive)
