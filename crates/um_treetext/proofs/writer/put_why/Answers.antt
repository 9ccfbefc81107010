use Rattle.std.proofs.Common.{codes}
use Rattle.um_text.proofs.Puts.{on_ok, whole_line}
use Rattle.um_treetext.specs.TreeText.{why_words}
use Rattle.um_treetext.proofs.writer.put_why.Goals as goal

pub returns : goal.returns
returns c = on_ok c.end_line.result c.end_line.ensures.ok (λ e. whole_line _ _ _ _ (codes "WHY") (why_words c.args.why) c.in_ok-put.ensures.ok c.in_ok-put_cause.ensures e)
