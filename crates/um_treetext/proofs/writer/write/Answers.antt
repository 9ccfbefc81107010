use Rattle.std.proofs.Common.{◌∙◌}
use Rattle.um_model.specs.AnswerValues.{plain_answer}
use Rattle.um_treetext.proofs.Written.{whole_text}
use Rattle.um_treetext.proofs.writer.write.Goals as goal

pub returns : goal.returns
returns c =
    c.into_bytes.ensures
    ∙ whole_text c.args.deck.now (plain_answer c.args.answer.now) c.new-text.result _ _ _ _ c.new-text.ensures c.in_ok-put_front.ensures c.in_ok-put_values.ensures (rw (c.nodes.ensures) at c.in_ok-put_nodes.ensures) c.in_ok-put.ensures.ok
