use Rattle.std.proofs.Common.{sym, subst}
use Rattle.um_model.specs.AnswerValues.{plain_answer, plain_what}
use Rattle.um_model.specs.declared.tree.What.{What}
use Rattle.um_check.specs.Judging.{OnLeaf}
use Rattle.um_check.proofs.leaf.on_leaf.Goals as goal

pub returns-in-Void-clause-leaf : goal.returns-in-Void-clause-leaf
returns-in-Void-clause-leaf c =
    subst (λ (w : What). OnLeaf c.args.node.now.deck (plain_answer c.args.answer.now) c.args.node.now.limits (plain_what w) c.on_void.result) (sym c.in-Void.is) (c.on_void.ensures.leaf (plain_answer c.args.answer.now))

pub returns-in-Bounded-clause-leaf : goal.returns-in-Bounded-clause-leaf
returns-in-Bounded-clause-leaf c = subst (λ (w : What). OnLeaf c.args.node.now.deck (plain_answer c.args.answer.now) c.args.node.now.limits (plain_what w) c.on_bounded.result) (sym c.in-Bounded.is) c.on_bounded.ensures.leaf

pub returns-in-Empty-clause-leaf : goal.returns-in-Empty-clause-leaf
returns-in-Empty-clause-leaf c =
    subst (λ (w : What). OnLeaf c.args.node.now.deck (plain_answer c.args.answer.now) c.args.node.now.limits (plain_what w) c.on_empty.result) (sym c.in-Empty.is) (c.on_empty.ensures.leaf (plain_answer c.args.answer.now))
