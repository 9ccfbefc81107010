use Rattle.um_model.specs.AnswerValues.{plain_node}
use Rattle.um_children.specs.NewChildren.{IsChild, IsNewNode}
use Rattle.um_children.proofs.EnteredBoxes.{in_child}
use Rattle.um_children.proofs.children.make_child.Goals as goal

pub returns-clause-child : goal.returns-clause-child
returns-clause-child c =
    in_child (λ b. IsChild c.args.deck.now b c.args.id c.child_of-made.result) c.args.deck.now c.args.node.now c.enter-undo.new.self c.args.branch.now c.args.side
    c.requires.same_deck c.enter-undo.ensures.child c.child_of-made.ensures.child

pub returns-clause-node : goal.returns-clause-node
returns-clause-node c =
    in_child (λ b. IsNewNode c.args.deck.now b (plain_node c.child_of-made.result.node)) c.args.deck.now c.args.node.now c.enter-undo.new.self c.args.branch.now c.args.side
    c.requires.same_deck c.enter-undo.ensures.child c.child_of-made.ensures.node
