use Rattle.std.proofs.Common.{map, option_map, ap}
use Rattle.um_model.specs.AnswerValues.{plain_node, plain_ray}
use Rattle.um_model.specs.Values.{plain_point}
use Rattle.um_search.proofs.FinalAnswers.{found_answered}
use Rattle.um_search.proofs.ends.unbounded.Goals as goal

pub returns-clause-accepted : goal.returns-clause-accepted
returns-clause-accepted g c =
    (found_answered g.task.deck c.requires.0 c.requires.1.0 g.task.budget c.args.search (plain_point c.args.point) c.requires.1.1.0 c.requires.1.1.1 (option_map plain_ray c.args.search.ray) (map plain_node c.new.result) (ap (option_map plain_ray) c.requires.1.1.0.found.ray_is) (ap (map plain_node) c.new.ensures)).accepted

pub returns-clause-right : goal.returns-clause-right
returns-clause-right g c =
    (found_answered g.task.deck c.requires.0 c.requires.1.0 g.task.budget c.args.search (plain_point c.args.point) c.requires.1.1.0 c.requires.1.1.1 (option_map plain_ray c.args.search.ray) (map plain_node c.new.result) (ap (option_map plain_ray) c.requires.1.1.0.found.ray_is) (ap (map plain_node) c.new.ensures)).right

pub returns-clause-checkable : goal.returns-clause-checkable
returns-clause-checkable g c =
    (found_answered g.task.deck c.requires.0 c.requires.1.0 g.task.budget c.args.search (plain_point c.args.point) c.requires.1.1.0 c.requires.1.1.1 (option_map plain_ray c.args.search.ray) (map plain_node c.new.result) (ap (option_map plain_ray) c.requires.1.1.0.found.ray_is) (ap (map plain_node) c.new.ensures)).checkable

pub returns-clause-tells : goal.returns-clause-tells
returns-clause-tells g c =
    (found_answered g.task.deck c.requires.0 c.requires.1.0 g.task.budget c.args.search (plain_point c.args.point) c.requires.1.1.0 c.requires.1.1.1 (option_map plain_ray c.args.search.ray) (map plain_node c.new.result) (ap (option_map plain_ray) c.requires.1.1.0.found.ray_is) (ap (map plain_node) c.new.ensures)).tells
