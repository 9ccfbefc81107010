use Rattle.std.proofs.Common.{◌∙◌}
use Rattle.um_check.proofs.TurnSteps.{last_belongs, last_undone}
use Rattle.um_check.proofs.walk.go_back.Goals as goal

pub leave-requires : goal.leave-requires
leave-requires c = last_belongs c.loop-turn.turns.items c.pop.new.self.items c.in-Some.turn c.loop-turn.node c.in-Some.ensures.items c.loop-turn.invariant.way

pub loop-turn-preserved : goal.loop-turn-preserved
loop-turn-preserved c =
    let back = last_undone c.loop-turn.turns.items c.pop.new.self.items c.in-Some.turn c.loop-turn.node c.in-Some.ensures.items c.loop-turn.invariant.way c.leave.new.self c.leave.ensures in
    record { way = back.way; deck = back.deck ∙ c.loop-turn.invariant.deck; capacity = c.pop.ensures.capacity ∙ c.loop-turn.invariant.capacity }
