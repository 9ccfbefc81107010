use Rattle.std.proofs.Common.{◌∙◌, sym, cond, ap}
use Rattle.std.specs.Prelude.{is_some, count_by}
use Rattle.um_model.specs.declared.tree.Node.{Node}
use Rattle.um_model.specs.AnswerValues.{NodeValue, plain_node}
use Rattle.um_report.specs.Reports.{is_solved}
use Rattle.um_report.proofs.ReportLines.{sum_by_map}
use Rattle.um_report.proofs.work.solved_in.Goals as goal

pub returns : goal.returns
returns c = c.solved_nodes.ensures ∙ ap (count_by (λ (n : Node). is_some n.solved)) c.nodes.ensures ∙ sym (sum_by_map (λ (n : NodeValue). cond (is_solved n) 1 0) plain_node c.args.tree.now)
