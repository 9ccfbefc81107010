use Rattle.std.proofs.Common.{◌∙◌, arith}
use Rattle.um_make.proofs.Places.{name_at}
use Rattle.um_make.proofs.sets.column_name.Goals as goal

pub returns : goal.returns
returns c = c.as_bytes.ensures ∙ name_at c.args.columns.now c.args.column c.index-columns-column.result (omega (arith, c.requires))
