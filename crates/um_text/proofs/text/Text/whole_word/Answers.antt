use Rattle.std.proofs.Common.{rules, ◌∷◌, [], FitsSigned}
use Rattle.std.specs.Int.{w128}
use Rattle.std.proofs.lemmas.Int.{to_z-of_z}
use Rattle.std.proofs.lemmas.Result.{on_err_weaker}
use Rattle.um_text.proofs.Puts.{refused, stops_early, stops_later}
use Rattle.um_text.proofs.text.Text.whole_word.Goals as goal

pub returns-in_err-put-clause-kept : goal.returns-in_err-put-clause-kept
returns-in_err-put-clause-kept c = refused c.from_residual.result (stops_early _ c.in_err-put.ensures.kept)

pub returns-clause-kept : goal.returns-clause-kept
returns-clause-kept c =
    let fits : FitsSigned w128 c.args.number = search rules in
    on_err_weaker c.whole.result (stops_later (32 ∷ []) c.in_ok-put.ensures.ok) (simp to_z-of_z at c.whole.ensures.kept)
