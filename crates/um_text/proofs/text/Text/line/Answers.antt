use Rattle.std.proofs.Common.{sym}
use Rattle.std.proofs.lemmas.Result.{on_err_weaker}
use Rattle.um_text.proofs.Puts.{on_ok, whole_line, line_rest_is, refused, due_is, stops_early, stops_later}
use Rattle.um_text.proofs.text.Text.line.Goals as goal

pub returns-in_err-put-clause-kept : goal.returns-in_err-put-clause-kept
returns-in_err-put-clause-kept c = refused c.from_residual.result (stops_early _ c.in_err-put.ensures.kept)

pub returns-in_err-words-clause-kept : goal.returns-in_err-words-clause-kept
returns-in_err-words-clause-kept c =
    refused c.from_residual-in_err-words.result
    (stops_later c.args.first.now c.in_ok-put.ensures.ok (due_is (sym (line_rest_is _)) (stops_early _ c.in_err-words.ensures.kept)))

pub returns-clause-ok : goal.returns-clause-ok
returns-clause-ok c = on_ok c.end_line.result c.end_line.ensures.ok (λ e. whole_line _ _ _ _ _ _ c.in_ok-put.ensures.ok c.in_ok-words.ensures.ok e)

pub returns-clause-kept : goal.returns-clause-kept
returns-clause-kept c =
    on_err_weaker c.end_line.result
    (λ g. stops_later c.args.first.now c.in_ok-put.ensures.ok (due_is (sym (line_rest_is _)) (stops_later _ c.in_ok-words.ensures.ok g)))
    c.end_line.ensures.kept
