use Rattle.um_text.proofs.Puts.{refused, stays}
use Rattle.um_text.proofs.text.Text.count.Goals as goal

pub returns-in_err-numeral-clause-kept : goal.returns-in_err-numeral-clause-kept
returns-in_err-numeral-clause-kept c = refused c.from_residual.result stays
