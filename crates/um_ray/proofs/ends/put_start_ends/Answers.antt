use Rattle.std.proofs.Common.{arith}
use Rattle.um_model.specs.Boxes.{root}
use Rattle.um_relax.proofs.Reboxing.{next_within, next_wanted, one_more, ordered_more, boxed_whole}
use Rattle.um_ray.specs.Directions.{directions}
use Rattle.um_ray.proofs.ends.put_start_ends.Goals as goal

pub rebox-requires-clause-column_in : goal.rebox-requires-clause-column_in
rebox-requires-clause-column_in g c =
    let s = g.B.Board.state c.args.board.now in
    next_within (directions g.d) (root (directions g.d)) c.loop-column.column s (g.B.Board.state c.loop-column.board) (g.met.B.Board.belongs c.args.board.now).shape (omega (arith, c.columns-count.ensures, c.loop-column-test.true, c.loop-column.auto.column-end)) c.loop-column.invariant.done

pub rebox-requires-clause-wanted : goal.rebox-requires-clause-wanted
rebox-requires-clause-wanted g c =
    let s = g.B.Board.state c.args.board.now in
    next_wanted (directions g.d) (root (directions g.d)) c.loop-column.column s (g.B.Board.state c.loop-column.board) c.start_ends-low.result (g.met.B.Board.belongs c.args.board.now).shape c.requires.1.1.1
    (omega (arith, c.columns-count.ensures, c.loop-column-test.true, c.loop-column.auto.column-end)) c.loop-column.invariant.done c.start_ends-low.ensures.ends

pub loop-column-preserved : goal.loop-column-preserved
loop-column-preserved g c =
    let s = g.B.Board.state c.args.board.now in
    let d = directions g.d in
    let b = root (directions g.d) in
    record {
      done = one_more d b c.loop-column.column s (g.B.Board.state c.loop-column.board) (g.B.Board.state c.rebox.new.self) c.start_ends-low.result c.start_ends-low.ensures.ends c.loop-column.invariant.done c.in_ok-rebox.ensures.ok;
      ordered = ordered_more d b c.loop-column.column c.start_ends-low.result c.start_ends-low.ensures.ends c.loop-column.invariant.ordered c.start_ends-low.ensures.ordered;
      keeps = g.met.B.Board.keeps_trans c.args.board.now c.loop-column.board c.rebox.new.self c.loop-column.invariant.keeps c.rebox.ensures.keeps;
    }

pub returns-clause-done : goal.returns-clause-done
returns-clause-done g c =
    let s = g.B.Board.state c.args.board.now in
    boxed_whole (directions g.d) (root (directions g.d)) c.loop-column.column s (g.B.Board.state c.loop-column.board) (g.met.B.Board.belongs c.args.board.now).shape c.requires.1.1.1
    (omega (arith, c.columns-count.ensures, c.loop-column-test.false, c.loop-column.auto.column-end)) c.loop-column.invariant.done c.loop-column.invariant.ordered
