use Rattle.um_tableau.proofs.NarrowLines.{short_of_narrow}
use Rattle.um_tableau.proofs.rows.next_line.Goals as goal

pub returns-else-is_zero_at-clause-narrow : goal.returns-else-is_zero_at-clause-narrow
returns-else-is_zero_at-clause-narrow c h k = c.add_multiple.ensures.short (short_of_narrow c.args.own.now h) (short_of_narrow c.args.line.now k)
