use Rattle.std.proofs.Common.{◌<◌, None, inl, sym, subst, arith}
use Rattle.um_multipliers.specs.PlainMultipliers.{plain_multipliers}
use Rattle.um_tree.specs.Growths.{origin_at}
use Rattle.um_nodes.specs.declared.open_nodes.OpenNode.{OpenNode}
use Rattle.um_progress.proofs.KeyBounds.{waits_key}
use Rattle.um_loop.specs.Goings.{HasTaken}
use Rattle.um_loop.specs.Steps.{IsNotClosing}
use Rattle.um_loop.proofs.Keepings.{closed_keeps}
use Rattle.um_loop.proofs.Rising.{Rises, handed_rises}
use Rattle.um_loop.proofs.Settled.{closed_goes}
use Rattle.um_loop.proofs.Takings.{takes_going, open_at, taken_below}
use Rattle.um_loop.proofs.search.Search.run.Given as given
use Rattle.um_loop.proofs.search.Search.run.Goals as goal
use Rattle.um_loop.proofs.search.Search.run.Goals.{In-Some}

-- What the call requires stands clause in clause, behind a clause on lifetimes: .1.0 is `plain`, .1.1.0 `relaxed`, and so on.

-- the node in hand was taken, and its multipliers are of rows of the deck in rising order
taken_next : (g : given.Over) (c : In-Some g) → HasTaken c.args.deck.now g.began.start g.began.most c.in-Some.taken (record c.nodes.self { «open» = c.take.new.self }) (g.B.Board.state c.nodes.board) c.nodes.left
taken_next g c = takes_going c.args.deck.now g.began.start g.began.most c.nodes.self (g.B.Board.state c.nodes.board) c.nodes.left c.in-Some.taken c.take.new.self c.in-Some.ensures.taken c.nodes.invariant.going

rises : (g : given.Over) (c : In-Some g) → Rises c.args.deck.now (plain_multipliers c.in-Some.taken.y)
rises g c =
    let t = taken_next g c in
    handed_rises c.args.deck.now c.requires.1.0 g.began.start g.began.most c.nodes.self.growth t.going.history t.going.told t.going.finished (origin_at c.nodes.self.growth c.in-Some.taken.node) (plain_multipliers c.in-Some.taken.y) t.handed

pub closing-requires-clause-key : goal.closing-requires-clause-key
closing-requires-clause-key g c = waits_key c.args.deck.now c.nodes.self.growth c.in-Some.taken (taken_next g (goal.at.closing-requires-clause-key g c).In-Some).waits

pub closing-requires-clause-y0 : goal.closing-requires-clause-y0
closing-requires-clause-y0 g c = taken_below c.args.deck.now c.nodes.self.growth c.in-Some.taken (taken_next g (goal.at.closing-requires-clause-y0 g c).In-Some).waits

pub closing-requires-clause-value : goal.closing-requires-clause-value
closing-requires-clause-value g c = (taken_next g (goal.at.closing-requires-clause-value g c).In-Some).waits.size

pub close-requires : goal.close-requires
close-requires g c = open_at c.nodes.self.growth c.in-Some.taken.node (taken_next g (goal.at.close-requires g c).In-Some).waits.fresh

pub nodes-preserved-in-Some-closing : goal.nodes-preserved-in-Some-closing
nodes-preserved-in-Some-closing g c =
    let at = (goal.at.nodes-preserved-in-Some-closing g c).In-Some in
    let old = c.nodes.invariant in
    let bound = c.in-Some-closing.bound in
    let after = c.close.new.self in
    let keeps = closed_keeps c.args.deck.now (record c.nodes.self { «open» = c.take.new.self }) c.in-Some.taken.node None (plain_multipliers c.in-Some.taken.y) bound after (rises g at) old.checkable c.close.ensures in
    record {
      relaxed = old.relaxed;
      frame = old.frame;
      going = closed_goes c.args.deck.now g.began.start g.began.most c.in-Some.taken (record c.nodes.self { «open» = c.take.new.self }) (g.B.Board.state c.nodes.board) c.nodes.left (taken_next g at) bound after c.in-Some-closing.ensures c.close.ensures;
      within = let same = keeps.1 in let few = old.within in omega (arith, same, few);
      checkable = keeps.0;
    }

pub returns-then-self-nodes-clause-run : goal.returns-then-self-nodes-clause-run
returns-then-self-nodes-clause-run g c =
    let out = c.out_of_nodes.ensures in
    inl (record {
      taken = subst (λ (w : OpenNode). HasTaken c.args.deck.now g.began.start g.began.most w (record c.nodes.self { «open» = c.take.new.self }) (g.B.Board.state c.nodes.board) c.nodes.left) (sym out.hand) (taken_next g (goal.at.returns-then-self-nodes-clause-run g c).In-Some);
      cause = out.cause;
      none = out.none;
      all = c.if-self-nodes.true;
      open_still = subst (λ (w : OpenNode). IsNotClosing c.args.deck.now c.nodes.self.incumbent w.key) (sym out.hand) c.in_default-closing.ensures;
    })

pub solve_next-requires : goal.solve_next-requires
solve_next-requires g c =
    let old = c.nodes.invariant in
    let within = old.within in
    let other = c.if-self-nodes.false in
    let budget = c.requires.1.1.1.1.1.0 in
    let few : c.nodes.self.solved < 100000 = omega (arith, within, other, budget) in
    λ lifetimes live. (live, (c.requires.1.0, (old.relaxed, (old.frame, ((taken_next g (goal.at.solve_next-requires g c).In-Some), (few, (old.checkable, c.in_default-closing.ensures)))))))
