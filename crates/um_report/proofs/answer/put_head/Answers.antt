use Rattle.um_model.specs.AnswerValues.{plain_answer}
use Rattle.um_text.proofs.Puts.{on_ok}
use Rattle.um_report.proofs.ReportLines.{head_put}
use Rattle.um_report.proofs.answer.put_head.Goals as goal

pub returns : goal.returns
returns c = on_ok c.put_work.result c.put_work.ensures (λ e. head_put c.args.deck.now (plain_answer c.args.answer.now) _ _ _ _ _ _ c.in_ok-put_heading.ensures c.in_ok-put_stated.ensures c.in_ok-put_stated-2.ensures c.in_ok-put_tolerance.ensures e)
