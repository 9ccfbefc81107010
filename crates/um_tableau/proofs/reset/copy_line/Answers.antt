use Rattle.um_lines.proofs.LineValues.{on_ok}
use Rattle.um_tableau.proofs.Copies.{copied}
use Rattle.um_tableau.proofs.NarrowLines.{short_of_narrow}
use Rattle.um_tableau.proofs.reset.copy_line.Goals as goal

pub returns-else-len-eq0-clause-same : goal.returns-else-len-eq0-clause-same
returns-else-len-eq0-clause-same c = on_ok c.add_multiple.result c.add_multiple.ensures.value (λ v. copied c.args.own.now c.args.zeros.now c.add_multiple.new.out c.add_multiple.ensures.long c.requires.zeros v)

pub returns-else-len-eq0-clause-narrow : goal.returns-else-len-eq0-clause-narrow
returns-else-len-eq0-clause-narrow c h k = c.add_multiple.ensures.short (short_of_narrow c.args.own.now h) (short_of_narrow c.args.zeros.now k)
