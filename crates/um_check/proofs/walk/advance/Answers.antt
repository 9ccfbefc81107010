use Rattle.std.proofs.Common.{◌∙◌, ap, ◌++◌, rules}
use Rattle.um_box.specs.Paths.{root_box}
use Rattle.um_check.specs.Turns.{beside, waiting}
use Rattle.um_model.specs.declared.branch.Side.{Side}
use Rattle.um_check.proofs.TurnSteps.{last_belongs, last_undone, right_behind}
use Rattle.um_check.proofs.walk.advance.Goals as goal

pub leave-requires : goal.leave-requires
leave-requires c = last_belongs c.loop-turn.turns.items c.pop.new.self.items c.in-Some.turn c.loop-turn.node c.in-Some.ensures.items c.loop-turn.invariant.way

pub turn_to-right-requires : goal.turn_to-right-requires
turn_to-right-requires c = (last_undone c.loop-turn.turns.items c.pop.new.self.items c.in-Some.turn c.loop-turn.node c.in-Some.ensures.items c.loop-turn.invariant.way c.leave.new.self c.leave.ensures).turn.fits

pub returns-in-Left-clause-way : goal.returns-in-Left-clause-way
returns-in-Left-clause-way c =
    let back = last_undone c.loop-turn.turns.items c.pop.new.self.items c.in-Some.turn c.loop-turn.node c.in-Some.ensures.items c.loop-turn.invariant.way c.leave.new.self c.leave.ensures in
    (right_behind c.loop-turn.turns.items c.pop.new.self.items c.push_reserved.new.self.items c.in-Some.turn c.turn_to-right.result c.loop-turn.node c.leave.new.self c.turn_to-right.new.node back c.in-Left.is c.turn_to-right.ensures.branch
    c.turn_to-right.ensures.side c.turn_to-right.ensures.child c.turn_to-right.ensures.undo c.push_reserved.ensures.items).way

pub returns-in-Left-clause-boxes : goal.returns-in-Left-clause-boxes
returns-in-Left-clause-boxes c =
    let back = last_undone c.loop-turn.turns.items c.pop.new.self.items c.in-Some.turn c.loop-turn.node c.in-Some.ensures.items c.loop-turn.invariant.way c.leave.new.self c.leave.ensures in
    let on =
    right_behind c.loop-turn.turns.items c.pop.new.self.items c.push_reserved.new.self.items c.in-Some.turn c.turn_to-right.result c.loop-turn.node c.leave.new.self c.turn_to-right.new.node back c.in-Left.is c.turn_to-right.ensures.branch
    c.turn_to-right.ensures.side c.turn_to-right.ensures.child c.turn_to-right.ensures.undo c.push_reserved.ensures.items in
    c.loop-turn.invariant.boxes ∙ on.boxes

pub loop-turn-preserved : goal.loop-turn-preserved
loop-turn-preserved c =
    let back = last_undone c.loop-turn.turns.items c.pop.new.self.items c.in-Some.turn c.loop-turn.node c.in-Some.ensures.items c.loop-turn.invariant.way c.leave.new.self c.leave.ensures in
    record {
      way = back.way;
      deck = back.deck ∙ c.loop-turn.invariant.deck;
      boxes = c.loop-turn.invariant.boxes ∙ back.boxes ∙ ap (λ (s : Side). beside s c.leave.new.self c.in-Some.turn.branch ++ waiting (root_box c.leave.new.self.deck) c.pop.new.self.items) c.in-Right.is;
      capacity = c.pop.ensures.capacity ∙ c.loop-turn.invariant.capacity;
      length = search rules;
    }
