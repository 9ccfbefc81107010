use Rattle.um_tableau.proofs.BoardResets.{sized_of, reset_is, stands_reset, ends_reset, reset_refused}
use Rattle.um_tableau.proofs.tableau.TableauBoard.reset.Goals as goal

pub reset-requires-clause-sized : goal.reset-requires-clause-sized
reset-requires-clause-sized c = let t = c.args.self.now in sized_of t.given t.sheet t.stands

pub invariant_of-self : goal.invariant_of-self
invariant_of-self c =
    let t = c.args.self.now in
    let after = c.reset.new.self in
    record {
      size = t.size;
      first_are = t.first_are;
      stands = stands_reset t.given t.sheet after c.reset.result c.reset.ensures.basis c.reset.ensures.kept t.stands;
      ends_in = ends_reset t.sheet after c.reset.result c.reset.ensures.ends c.reset.ensures.kept t.ends_in;
      room = c.reset.ensures.spare;
    }

pub returns-clause-ok : goal.returns-clause-ok
returns-clause-ok c = let t = c.args.self.now in reset_is c.args.costs t.given t.sheet c.reset.new.self c.reset.result c.reset.ensures.basis c.reset.ensures.costs

pub returns-clause-wide : goal.returns-clause-wide
returns-clause-wide c = let t = c.args.self.now in reset_refused c.args.costs t.given t.sheet t.first c.reset.result t.first_are c.reset.ensures.wide c.reset.ensures.narrow
