use Rattle.um_bound.proofs.ColumnValues.{end_fits, part_is}
use Rattle.um_bound.proofs.columns.linear_part.Goals as goal

pub least-requires-clause-low : goal.least-requires-clause-low
least-requires-clause-low c = end_fits c.args.cost c.requires.cost c.args.low c.requires.low

pub least-requires-clause-high : goal.least-requires-clause-high
least-requires-clause-high c = end_fits c.args.cost c.requires.cost c.args.high c.requires.high

pub returns-in-Some : goal.returns-in-Some
returns-in-Some c = part_is c.args.cost c.requires.cost c.args.low c.args.high c.requires.low c.requires.high c.least.result c.least.ensures c.in-Some.value c.in-Some.is
