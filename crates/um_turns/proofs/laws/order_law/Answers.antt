use Rattle.um_turns.proofs.Orders.{in_order}
use Rattle.um_turns.proofs.laws.order_law.Goals as goal

pub returns : goal.returns
returns c = in_order
