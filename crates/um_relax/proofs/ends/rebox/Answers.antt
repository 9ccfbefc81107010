use Rattle.std.proofs.Common.{sym, subst, Option}
use Rattle.std.specs.Prelude.{ℤ}
use Rattle.um_lp.specs.States.{State}
use Rattle.um_lp.specs.Boards.{IsRebox}
use Rattle.um_lp.specs.Refusals.{IsRefusedAct}
use Rattle.um_relax.specs.Reboxings.{StoppedBefore}
use Rattle.std.proofs.Common.{arith}
use Rattle.um_relax.proofs.Reboxing.{next_within, next_wanted, one_more, ordered_more, boxed_whole}
use Rattle.um_relax.proofs.ends.rebox.Goals as goal

pub rebox-requires-clause-column_in : goal.rebox-requires-clause-column_in
rebox-requires-clause-column_in g c =
    let s = g.B.Board.state c.args.board.now in
    next_within c.args.node.now.deck c.args.node.now.limits c.loop-column.column s (g.B.Board.state c.loop-column.board) (g.met.B.Board.belongs c.args.board.now).shape (omega (arith, c.columns-count.ensures)) c.loop-column.invariant.done

pub rebox-requires-clause-wanted : goal.rebox-requires-clause-wanted
rebox-requires-clause-wanted g c =
    let s = g.B.Board.state c.args.board.now in
    next_wanted c.args.node.now.deck c.args.node.now.limits c.loop-column.column s (g.B.Board.state c.loop-column.board) c.ends_on-low.result (g.met.B.Board.belongs c.args.board.now).shape c.requires.wanted
    (omega (arith, c.columns-count.ensures)) c.loop-column.invariant.done c.ends_on-low.ensures.ends

pub loop-column-preserved : goal.loop-column-preserved
loop-column-preserved g c =
    let s = g.B.Board.state c.args.board.now in
    let d = c.args.node.now.deck in
    let b = c.args.node.now.limits in
    record {
      done = one_more d b c.loop-column.column s (g.B.Board.state c.loop-column.board) (g.B.Board.state c.rebox.new.self) c.ends_on-low.result c.ends_on-low.ensures.ends c.loop-column.invariant.done c.in_default.ensures.ok;
      ordered = ordered_more d b c.loop-column.column c.ends_on-low.result c.ends_on-low.ensures.ends c.loop-column.invariant.ordered c.ends_on-low.ensures.ordered;
      keeps = g.met.B.Board.keeps_trans c.args.board.now c.loop-column.board c.rebox.new.self c.loop-column.invariant.keeps c.rebox.ensures.keeps;
    }

pub returns-clause-ends : goal.returns-clause-ends
returns-clause-ends g c =
    let s = g.B.Board.state c.args.board.now in
    boxed_whole c.args.node.now.deck c.args.node.now.limits c.loop-column.column s (g.B.Board.state c.loop-column.board) (g.met.B.Board.belongs c.args.board.now).shape c.requires.wanted
    (omega (arith, c.columns-count.ensures, c.loop-column-test.false, c.loop-column.auto.column-end)) c.loop-column.invariant.done c.loop-column.invariant.ordered

pub returns-in-Err-clause-ends : goal.returns-in-Err-clause-ends
returns-in-Err-clause-ends g c =
    let s = g.B.Board.state c.args.board.now in
    let t = g.B.Board.state c.loop-column.board in
    let d = c.args.node.now.deck in
    let b = c.args.node.now.limits in
    subst (λ (u : State). StoppedBefore d b c.in-Err.wide s u) (sym c.in-Err.ensures.err)
    (record {
      count = c.loop-column.column;
      within = omega (arith, c.columns-count.ensures);
      done = c.loop-column.invariant.done;
      refused = subst (λ (ends : Option ℤ × Option ℤ). IsRefusedAct t (IsRebox c.loop-column.column ends t) c.in-Err.wide) c.ends_on-low.ensures.ends c.in-Err.ensures.wide;
    })
