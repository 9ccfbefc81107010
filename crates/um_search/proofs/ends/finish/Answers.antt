use Rattle.std.proofs.Common.{map, option_map}
use Rattle.um_model.specs.AnswerValues.{plain_node}
use Rattle.um_model.specs.Values.{plain_point}
use Rattle.um_search.proofs.FinalAnswers.{over_answered}
use Rattle.um_search.proofs.ends.finish.Goals as goal

pub returns-clause-accepted : goal.returns-clause-accepted
returns-clause-accepted g c =
    let s = c.args.search in
    (over_answered g.task.deck c.requires.0 c.requires.1.0 g.task.budget s c.requires.1.1.0 c.requires.1.1.1.0 c.requires.1.1.1.1 (map plain_node c.in_ok-tree.tree) c.in_ok-tree.ensures c.kind_of_over-kind.result c.parts-objective.result.0 (option_map plain_point c.parts-objective.result.1) c.kind_of_over-kind.ensures c.parts-objective.ensures.objective c.parts-objective.ensures.point).accepted

pub returns-clause-right : goal.returns-clause-right
returns-clause-right g c =
    let s = c.args.search in
    (over_answered g.task.deck c.requires.0 c.requires.1.0 g.task.budget s c.requires.1.1.0 c.requires.1.1.1.0 c.requires.1.1.1.1 (map plain_node c.in_ok-tree.tree) c.in_ok-tree.ensures c.kind_of_over-kind.result c.parts-objective.result.0 (option_map plain_point c.parts-objective.result.1) c.kind_of_over-kind.ensures c.parts-objective.ensures.objective c.parts-objective.ensures.point).right

pub returns-clause-checkable : goal.returns-clause-checkable
returns-clause-checkable g c =
    let s = c.args.search in
    (over_answered g.task.deck c.requires.0 c.requires.1.0 g.task.budget s c.requires.1.1.0 c.requires.1.1.1.0 c.requires.1.1.1.1 (map plain_node c.in_ok-tree.tree) c.in_ok-tree.ensures c.kind_of_over-kind.result c.parts-objective.result.0 (option_map plain_point c.parts-objective.result.1) c.kind_of_over-kind.ensures c.parts-objective.ensures.objective c.parts-objective.ensures.point).checkable

pub returns-clause-tells : goal.returns-clause-tells
returns-clause-tells g c =
    let s = c.args.search in
    (over_answered g.task.deck c.requires.0 c.requires.1.0 g.task.budget s c.requires.1.1.0 c.requires.1.1.1.0 c.requires.1.1.1.1 (map plain_node c.in_ok-tree.tree) c.in_ok-tree.ensures c.kind_of_over-kind.result c.parts-objective.result.0 (option_map plain_point c.parts-objective.result.1) c.kind_of_over-kind.ensures c.parts-objective.ensures.objective c.parts-objective.ensures.point).tells
