use Rattle.std.proofs.Common.{◌∷◌, []}
use Rattle.std.proofs.lemmas.Result.{on_err_weaker}
use Rattle.um_text.proofs.Puts.{refused, stops_early, stops_later}
use Rattle.um_text.proofs.text.Text.word.Goals as goal

pub returns-in_err-put-clause-kept : goal.returns-in_err-put-clause-kept
returns-in_err-put-clause-kept c = refused c.from_residual.result (stops_early _ c.in_err-put.ensures.kept)

pub returns-clause-kept : goal.returns-clause-kept
returns-clause-kept c = on_err_weaker c.put-2.result (stops_later (32 ∷ []) c.in_ok-put.ensures.ok) c.put-2.ensures.kept
