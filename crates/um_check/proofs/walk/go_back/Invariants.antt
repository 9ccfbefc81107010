use Rattle.std.proofs.Common.{◌≡◌, vec_capacity}
use Rattle.um_check.specs.Turns.{IsWay}
use Rattle.um_check.proofs.walk.go_back.Given as goal

abbrev pub invariant-loop-turn : goal.invariant-loop-turn
invariant-loop-turn l = record {
  way : IsWay l.node l.turns.items;
  deck : l.node.deck ≡ l.fn.node.deck;
  capacity : vec_capacity l.turns ≡ vec_capacity l.fn.turns;
}

abbrev pub decreases-loop-turn : goal.decreases-loop-turn
decreases-loop-turn l = l.turns.len
