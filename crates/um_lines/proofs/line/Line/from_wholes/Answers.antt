use Rattle.um_lines.specs.Nums.{nums_of}
use Rattle.std.proofs.Common.{arith}
use Rattle.std.proofs.lemmas.Int.{ints}
use Rattle.um_lines.proofs.Lowests.{lowest_over_one}
use Rattle.um_lines.proofs.LineValues.{over_one_same}
use Rattle.um_lines.proofs.line.Line.from_wholes.Goals as goal

pub returns : goal.returns
returns c = over_one_same c.args.nums.items (nums_of c.from_long.result) c.from_long.ensures.long c.from_long.ensures.same

pub invariant_of-result : goal.invariant_of-result
invariant_of-result c = record { line = record { positive = omega (arith, ints); den_in = omega (arith, ints); held = c.from_long.ensures.nums }; lowest = lowest_over_one (nums_of c.from_long.result) }
