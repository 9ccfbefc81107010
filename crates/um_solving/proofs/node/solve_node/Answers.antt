use Rattle.std.proofs.Common.{◌≡◌, ◌-◌, arith, refl, inl}
use Rattle.um_lp.specs.States.{width}
use Rattle.um_relax.proofs.Runs.{reboxed_stands, ready_of}
use Rattle.um_solving.proofs.node.solve_node.Goals as goal

pub run_steps-requires-clause-stands : goal.run_steps-requires-clause-stands
run_steps-requires-clause-stands g c =
    reboxed_stands c.args.node.now.deck c.args.node.now.limits (width (g.B.Board.state c.args.board.now).frame) (g.B.Board.state c.args.board.now) (g.B.Board.state c.rebox.new.board) c.requires.stands c.in-Done.ensures.ends.done

pub run_steps-requires-clause-feasible : goal.run_steps-requires-clause-feasible
run_steps-requires-clause-feasible g c = c.in-Done.ensures.ends.feasible

pub returns-in-Done-clause-ending : goal.returns-in-Done-clause-ending
returns-in-Done-clause-ending g c = c.run_steps.ensures.ending (g.B.Board.state c.args.board.now) (ready_of c.args.node.now.deck c.args.node.now.limits (g.B.Board.state c.args.board.now) (g.B.Board.state c.rebox.new.board) c.in-Done.ensures.ends)

pub returns-in-Wide-clause-ending : goal.returns-in-Wide-clause-ending
returns-in-Wide-clause-ending g c =
    let unspent : c.args.left.now - c.args.left.now ≡ 0 = omega arith in
    inl (record {
      reached = g.B.Board.state c.rebox.new.board;
      stopped = c.in-Wide.ensures.ends;
      same = refl;
      at = refl;
      no_pivots = unspent;
      unread = refl;
    })
