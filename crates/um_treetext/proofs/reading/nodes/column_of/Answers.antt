use Rattle.std.proofs.Common.{refl, arith}
use Rattle.std.proofs.lemmas.Bool.{le-leb, lt-leb}
use Rattle.um_treetext.specs.NodeLines.{column_said}
use Rattle.um_treetext.proofs.Takes.{fails_with}
use Rattle.um_treetext.proofs.reading.nodes.column_of.Goals as goal

pub returns-in_err-column : goal.returns-in_err-column
unfolding column_said
returns-in_err-column c = fails_with _ c.in_err-column.field-0.0 _ c.from_residual.ensures.1 (rw (← c.in_err-column.ensures) refl)

pub returns-then-column-columns : goal.returns-then-column-columns
unfolding column_said
returns-then-column-columns c = let h = c.if-column-columns.true in rw (← c.in_ok-column.ensures, le-leb c.args.columns c.in_ok-column.column (omega (arith, h))) refl

pub returns : goal.returns
unfolding column_said
returns c = let h = c.if-column-columns.false in rw (← c.in_ok-column.ensures, lt-leb c.args.columns c.in_ok-column.column (omega (arith, h))) refl
