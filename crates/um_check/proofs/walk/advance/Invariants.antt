use Rattle.std.proofs.Common.{◌≡◌, ◌≤◌, length, vec_capacity}
use Rattle.um_box.specs.Paths.{root_box}
use Rattle.um_check.specs.Turns.{waiting, IsWay}
use Rattle.um_check.proofs.walk.advance.Given as goal

abbrev pub invariant-loop-turn : goal.invariant-loop-turn
invariant-loop-turn l = record {
  way : IsWay l.node l.turns.items;
  deck : l.node.deck ≡ l.fn.node.deck;
  boxes : waiting (root_box l.fn.node.deck) l.fn.turns.items ≡ waiting (root_box l.node.deck) l.turns.items;
  capacity : vec_capacity l.turns ≡ vec_capacity l.fn.turns;
  length : length l.turns.items ≤ length l.fn.turns.items;
}

abbrev pub decreases-loop-turn : goal.decreases-loop-turn
decreases-loop-turn l = l.turns.len
