use Rattle.std.proofs.Common.{rules}
use Rattle.um_nodes.proofs.FirstPlace.{new_first, still_first}
use Rattle.um_nodes.proofs.order.with_place.Goals as goal

pub returns-then-comes_before : goal.returns-then-comes_before
returns-then-comes_before c = new_first c.args.nodes.now c.requires.keys c.args.place c.args.first c.requires.inside c.requires.first c.index-nodes-place.result c.index-nodes-first.result c.index-nodes-place.is c.index-nodes-first.is (search rules)

pub returns-else-comes_before : goal.returns-else-comes_before
returns-else-comes_before c = still_first c.args.nodes.now c.requires.keys c.args.place c.args.first c.requires.inside c.requires.first c.index-nodes-place.result c.index-nodes-first.result c.index-nodes-place.is c.index-nodes-first.is (search rules)
