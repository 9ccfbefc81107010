use Rattle.std.proofs.Common.{rules, ◌≡◌, to_z, of_z, int_div}
use Rattle.std.specs.Int.{w128}
use Rattle.um_num.proofs.Quotients.{quot_of}
use Rattle.um_num.proofs.divisions.part.Goals as goal

short : (c : goal.After-from) → to_z w128 (of_z w128 c.from.result) ≡ int_div c.args.a c.args.divisor
short c = search rules

long : (c : goal.After-long_quotient) → to_z w128 (of_z w128 c.long_quotient.result) ≡ int_div c.args.a c.args.divisor
long c = search rules

pub returns-in-Ok-Ok-clause-value : goal.returns-in-Ok-Ok-clause-value
returns-in-Ok-Ok-clause-value c = rw (short c) (quot_of c.args.a c.args.divisor c.requires.positive c.requires.divides)

pub returns-in_default-clause-value : goal.returns-in_default-clause-value
returns-in_default-clause-value c = rw (long c) (quot_of c.args.a c.args.divisor c.requires.positive c.requires.divides)
