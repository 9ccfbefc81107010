use Rattle.um_model.specs.AnswerValues.{plain_answer}
use Rattle.um_text.proofs.Puts.{on_ok}
use Rattle.um_treetext.proofs.Written.{front_put}
use Rattle.um_treetext.proofs.writer.put_front.Goals as goal

pub returns : goal.returns
returns c = on_ok c.put_why.result c.put_why.ensures (λ e. front_put c.args.deck.now (plain_answer c.args.answer.now) _ _ _ _ _ _ c.in_ok-put.ensures.ok c.in_ok-put_deck.ensures c.in_ok-put_tolerance.ensures (rw c.kind_word.ensures at c.in_ok-line.ensures.ok) e)
