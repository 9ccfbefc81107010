use Rattle.um_check.proofs.TurnSteps.{descended}
use Rattle.um_check.proofs.walk.descend.Goals as goal

pub returns-clause-way : goal.returns-clause-way
returns-clause-way c =
    (descended c.push_reserved.new.self.items c.args.turns.now.items c.turn_to-turn.result c.args.branch.now c.args.node.now c.turn_to-turn.new.node c.push_reserved.ensures.items c.requires.way c.requires.fits c.turn_to-turn.ensures.branch
    c.turn_to-turn.ensures.side c.turn_to-turn.ensures.child c.turn_to-turn.ensures.undo).way

pub returns-clause-boxes : goal.returns-clause-boxes
returns-clause-boxes c =
    (descended c.push_reserved.new.self.items c.args.turns.now.items c.turn_to-turn.result c.args.branch.now c.args.node.now c.turn_to-turn.new.node c.push_reserved.ensures.items c.requires.way c.requires.fits c.turn_to-turn.ensures.branch
    c.turn_to-turn.ensures.side c.turn_to-turn.ensures.child c.turn_to-turn.ensures.undo).boxes
