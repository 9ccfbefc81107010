use Rattle.std.proofs.Common.{◌∙◌, ap}
use Rattle.um_text.proofs.Puts.{refused, some_put}
use Rattle.um_text.proofs.text.Text.put.Goals as goal

pub returns-in_err-push-clause-kept : goal.returns-in_err-push-clause-kept
returns-in_err-push-clause-kept c = refused c.from_residual.result (some_put _ _ _ c.loop-byte.byte-index (ap (λ l. l.items) c.in_err-push.ensures.err ∙ c.loop-byte.invariant))
