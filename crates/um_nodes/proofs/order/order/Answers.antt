use Rattle.std.proofs.Common.{rules}
use Rattle.um_nodes.proofs.KeyOrder.{stands_held}
use Rattle.um_nodes.proofs.order.order.Goals as goal

pub returns-in-false-false : goal.returns-in-false-false
returns-in-false-false c = stands_held c.args.a.now c.args.b.now c.requires.left c.requires.right (search rules) (search rules) c.compare.result c.compare.ensures
