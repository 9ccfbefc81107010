use Rattle.std.proofs.Common.{◌∙◌, sym, ap, sum_by}
use Rattle.um_model.specs.declared.tree.Node.{Node}
use Rattle.um_model.specs.AnswerValues.{plain_node}
use Rattle.um_report.specs.Reports.{pivots_in, pivots_of}
use Rattle.um_report.proofs.ReportLines.{sum_by_map}
use Rattle.um_report.proofs.work.pivots_of.Goals as goal

pub returns : goal.returns
returns c = c.pivots.ensures ∙ ap (sum_by (λ (n : Node). pivots_in n.solved)) c.nodes.ensures ∙ sym (sum_by_map pivots_of plain_node c.args.tree.now)
