use Rattle.um_model.specs.AnswerValues.{plain_answer}
use Rattle.um_text.proofs.Puts.{on_ok}
use Rattle.um_treetext.proofs.Written.{values_put, count_is}
use Rattle.um_treetext.proofs.writer.put_values.Goals as goal

pub returns : goal.returns
returns c = on_ok c.put_count.result c.put_count.ensures (λ e. values_put (plain_answer c.args.answer.now) _ _ _ _ _ _ c.in_ok-put_fraction.ensures c.in_ok-put_fraction-2.ensures c.in_ok-put_point.ensures c.in_ok-put_ray.ensures (rw (c.nodes.ensures, ← count_is c.args.answer.now.tree) at e))
