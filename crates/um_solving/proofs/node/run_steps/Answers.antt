use Rattle.std.proofs.Common.{◌-◌, refl, arith}
use Rattle.um_relax.proofs.Runs.{run_of, steps_stand}
use Rattle.um_solving.proofs.EndedRuns.{ended_of}
use Rattle.um_solving.proofs.node.run_steps.Goals as goal

pub at_vertex-requires-clause-stands : goal.at_vertex-requires-clause-stands
at_vertex-requires-clause-stands g c = steps_stand c.args.node.now.deck (c.args.left.now - c.solve-ending.new.left) (g.B.Board.state c.args.board.now) (g.B.Board.state c.solve-ending.new.board) c.requires.stands c.solve-ending.ensures.steps

pub without_point-requires-clause-stands : goal.without_point-requires-clause-stands
without_point-requires-clause-stands g c = steps_stand c.args.node.now.deck (c.args.left.now - c.solve-ending.new.left) (g.B.Board.state c.args.board.now) (g.B.Board.state c.solve-ending.new.board) c.requires.stands c.solve-ending.ensures.steps

pub returns-in-Optimal-clause-ending : goal.returns-in-Optimal-clause-ending
returns-in-Optimal-clause-ending g c before ready =
    ended_of c.args.node.now.deck c.args.node.now.limits before c.args.early (c.args.left.now - c.solve-ending.new.left) c.args.left.now c.args.number (g.B.Board.state c.args.board.now) (g.B.Board.state c.solve-ending.new.board) c.at_vertex.result c.at_vertex.ensures ready
    c.solve-ending.ensures.steps (g.met.B.Board.belongs c.solve-ending.new.board) c.solve-ending.ensures.feasible

pub returns-in-NoPoint-clause-ending : goal.returns-in-NoPoint-clause-ending
returns-in-NoPoint-clause-ending g c before ready =
    ended_of c.args.node.now.deck c.args.node.now.limits before c.args.early (c.args.left.now - c.solve-ending.new.left) c.args.left.now c.args.number (g.B.Board.state c.args.board.now) (g.B.Board.state c.solve-ending.new.board) c.without_point.result c.without_point.ensures ready
    c.solve-ending.ensures.steps (g.met.B.Board.belongs c.solve-ending.new.board) c.solve-ending.ensures.feasible

pub returns-in-OutOfPivots-clause-ending : goal.returns-in-OutOfPivots-clause-ending
returns-in-OutOfPivots-clause-ending g c before ready = record {
  state = g.B.Board.state c.solve-ending.new.board;
  run = run_of c.args.node.now.deck c.args.node.now.limits before (c.args.left.now - c.solve-ending.new.left) (g.B.Board.state c.args.board.now) (g.B.Board.state c.solve-ending.new.board) ready c.solve-ending.ensures.steps (g.met.B.Board.belongs c.solve-ending.new.board) c.solve-ending.ensures.feasible;
  due = c.in-OutOfPivots.ensures.ended.0;
  all = (let none = c.in-OutOfPivots.ensures.ended.1 in omega arith);
  unread = refl;
}

pub returns-in-Wide-clause-ending : goal.returns-in-Wide-clause-ending
returns-in-Wide-clause-ending g c before ready = record {
  state = g.B.Board.state c.solve-ending.new.board;
  run = run_of c.args.node.now.deck c.args.node.now.limits before (c.args.left.now - c.solve-ending.new.left) (g.B.Board.state c.args.board.now) (g.B.Board.state c.solve-ending.new.board) ready c.solve-ending.ensures.steps (g.met.B.Board.belongs c.solve-ending.new.board) c.solve-ending.ensures.feasible;
  same = refl;
  at = refl;
  refused = c.in-Wide.ensures.ended;
  unread = refl;
}
