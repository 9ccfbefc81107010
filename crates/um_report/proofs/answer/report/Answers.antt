use Rattle.std.proofs.Common.{◌∙◌}
use Rattle.um_model.specs.AnswerValues.{plain_answer}
use Rattle.um_report.proofs.ReportLines.{whole_report}
use Rattle.um_report.proofs.answer.report.Goals as goal

pub returns : goal.returns
returns c =
    c.into_bytes.ensures
    ∙ whole_report c.args.deck.now (plain_answer c.args.answer.now) c.new-text.result _ _ _ c.new-text.ensures c.in_ok-put_head.ensures c.in_ok-put_point.ensures c.in_ok-put_ray.ensures
