use Rattle.std.proofs.Common.{rules, ◌-◌, ℕ, inl, inr}
use Rattle.um_ray.proofs.MovingEnds.{may-start-law}
use Rattle.um_ray.proofs.Points.{point-law}
use Rattle.um_ray.proofs.StartRuns.{stands_first, on_is, given_is, run_is, started_of, enough_used, read_in_time, same_board}
use Rattle.um_ray.proofs.starting.solve_start.Goals as goal

pub put_start_ends-requires : goal.put_start_ends-requires
put_start_ends-requires g c κs within =
    let s = g.B.Board.state c.args.board.now in
    let start = c.requires.1.1.1.0 in
    (search rules, (c.requires.1.1.0, (stands_first g.d s start, may-start-law g.d s start (g.met.B.Board.belongs c.args.board.now))))

pub at_end-requires : goal.at_end-requires
at_end-requires g c κs within =
    let s = g.B.Board.state c.args.board.now in
    let m = g.B.Board.state c.put_start_ends.new.board in
    let t = g.B.Board.state c.solve.new.board in
    let pivots : ℕ = c.args.left.now - c.solve.new.left in
    let board = g.met.B.Board.belongs c.solve.new.board in (
      search rules,
      (
        c.requires.1.1.0,
        (
          on_is g.d s m pivots t c.requires.1.0 c.requires.1.1.1.0 c.in-Ok.ensures.done c.solve.ensures.steps board c.solve.ensures.feasible,
          given_is g.d s m pivots t c.requires.1.1.1.0 c.in-Ok.ensures.done c.solve.ensures.steps board c.solve.ensures.feasible,
        ),
      ),
    )

pub unreachable-requires : goal.unreachable-requires
unreachable-requires g c =
    let s = g.B.Board.state c.args.board.now in
    let m = g.B.Board.state c.put_start_ends.new.board in
    let t = g.B.Board.state c.solve.new.board in
    let pivots : ℕ = c.args.left.now - c.solve.new.left in
    point-law g.d t c.in-NoPoint.field-0 (on_is g.d s m pivots t c.requires.1.0 c.requires.1.1.1.0 c.in-Ok.ensures.done c.solve.ensures.steps (g.met.B.Board.belongs c.solve.new.board) c.solve.ensures.feasible) c.in-NoPoint.ensures.ended

pub returns-in-Optimal-clause-started : goal.returns-in-Optimal-clause-started
returns-in-Optimal-clause-started g c =
    let s = g.B.Board.state c.args.board.now in
    let m = g.B.Board.state c.put_start_ends.new.board in
    let t = g.B.Board.state c.solve.new.board in
    let pivots : ℕ = c.args.left.now - c.solve.new.left in
    started_of g.d s pivots c.solve.new.left t c.at_end.result c.requires.1.1.1.1 (run_is g.d s m pivots t c.in-Ok.ensures.done c.solve.ensures.steps (g.met.B.Board.belongs c.solve.new.board) c.solve.ensures.feasible) c.in-Optimal.ensures.ended c.at_end.ensures

pub returns-in-OutOfPivots-clause-started : goal.returns-in-OutOfPivots-clause-started
returns-in-OutOfPivots-clause-started g c =
    let s = g.B.Board.state c.args.board.now in
    let m = g.B.Board.state c.put_start_ends.new.board in
    let t = g.B.Board.state c.solve.new.board in
    let pivots : ℕ = c.args.left.now - c.solve.new.left in
    record {
      needed = c.requires.1.1.1.1;
      run = run_is g.d s m pivots t c.in-Ok.ensures.done c.solve.ensures.steps (g.met.B.Board.belongs c.solve.new.board) c.solve.ensures.feasible;
      due = c.in-OutOfPivots.ensures.ended.0;
      none_left = c.in-OutOfPivots.ensures.ended.1;
    }

pub returns-in-OutOfPivots-clause-keeps : goal.returns-in-OutOfPivots-clause-keeps
returns-in-OutOfPivots-clause-keeps g c = g.met.B.Board.keeps_trans c.args.board.now c.put_start_ends.new.board c.solve.new.board c.put_start_ends.ensures.keeps c.solve.ensures.keeps

pub returns-in-Wide-clause-started : goal.returns-in-Wide-clause-started
returns-in-Wide-clause-started g c =
    let s = g.B.Board.state c.args.board.now in
    let m = g.B.Board.state c.put_start_ends.new.board in
    let t = g.B.Board.state c.solve.new.board in
    let pivots : ℕ = c.args.left.now - c.solve.new.left in
    inr (inr (inl (record {
      needed = c.requires.1.1.1.1;
      run = run_is g.d s m pivots t c.in-Ok.ensures.done c.solve.ensures.steps (g.met.B.Board.belongs c.solve.new.board) c.solve.ensures.feasible;
      refused = c.in-Wide.ensures.ended;
    })))

pub returns-in-Optimal-clause-enough : goal.returns-in-Optimal-clause-enough
returns-in-Optimal-clause-enough g c enough = read_in_time g.d (g.B.Board.state c.solve.new.board) c.at_end.result c.at_end.ensures

pub returns-in-OutOfPivots-clause-enough : goal.returns-in-OutOfPivots-clause-enough
returns-in-OutOfPivots-clause-enough g c enough =
    let s = g.B.Board.state c.args.board.now in
    let m = g.B.Board.state c.put_start_ends.new.board in
    absurd (c.solve.ensures.enough (enough_used s m c.args.left.now (same_board g.d s m c.requires.1.1.1.0 c.in-Ok.ensures.done) enough) c.in-OutOfPivots.is)
