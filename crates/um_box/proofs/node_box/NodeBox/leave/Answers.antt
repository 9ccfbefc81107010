use Rattle.std.proofs.Common.{subst}
use Rattle.um_model.specs.Boxes.{Ends, span_at}
use Rattle.um_box.specs.NodeBoxes.{IsNodeBox}
use Rattle.um_box.specs.Undos.{put_back, IsPlaceOf}
use Rattle.um_box.specs.declared.undo.Replaced.{Replaced}
use Rattle.um_box.proofs.Intervals.{between}
use Rattle.um_box.proofs.Changes.{low_put_back, high_put_back, curve_put_back, interval_put_back, order_put_back}
use Rattle.um_box.proofs.node_box.NodeBox.leave.Goals as goal

pub put_ends-requires-clause-low : goal.put_ends-requires-clause-low
put_ends-requires-clause-low c =
    let e : Ends = record { low = c.in-OldEnds.low; high = c.in-OldEnds.high } in
    low_put_back c.args.self.now c.in-OldEnds.column e (subst (IsPlaceOf c.args.self.now.deck) c.in-OldEnds.is c.requires.place) (subst (λ (r : Replaced). IsNodeBox (put_back c.args.self.now r)) c.in-OldEnds.is c.requires.node)

pub put_ends-requires-clause-high : goal.put_ends-requires-clause-high
put_ends-requires-clause-high c =
    let e : Ends = record { low = c.in-OldEnds.low; high = c.in-OldEnds.high } in
    high_put_back c.args.self.now c.in-OldEnds.column e (subst (IsPlaceOf c.args.self.now.deck) c.in-OldEnds.is c.requires.place) (subst (λ (r : Replaced). IsNodeBox (put_back c.args.self.now r)) c.in-OldEnds.is c.requires.node)

pub put_first-requires-clause-order : goal.put_first-requires-clause-order
put_first-requires-clause-order c =
    order_put_back c.args.self.now c.in-OldFirst.set (between c.in-OldFirst.position (span_at c.args.self.now.limits c.in-OldFirst.set).last)
    (subst (IsPlaceOf c.args.self.now.deck) c.in-OldFirst.is c.requires.place) (subst (λ (r : Replaced). IsNodeBox (put_back c.args.self.now r)) c.in-OldFirst.is c.requires.node)

pub put_last-requires-clause-order : goal.put_last-requires-clause-order
put_last-requires-clause-order c =
    order_put_back c.args.self.now c.in-OldLast.set (between (span_at c.args.self.now.limits c.in-OldLast.set).first c.in-OldLast.position)
    (subst (IsPlaceOf c.args.self.now.deck) c.in-OldLast.is c.requires.place) (subst (λ (r : Replaced). IsNodeBox (put_back c.args.self.now r)) c.in-OldLast.is c.requires.node)

pub put_last-requires-clause-last : goal.put_last-requires-clause-last
put_last-requires-clause-last c = λ s at.
    (interval_put_back c.args.self.now c.in-OldLast.set (between (span_at c.args.self.now.limits c.in-OldLast.set).first c.in-OldLast.position)
    (subst (IsPlaceOf c.args.self.now.deck) c.in-OldLast.is c.requires.place) (subst (λ (r : Replaced). IsNodeBox (put_back c.args.self.now r)) c.in-OldLast.is c.requires.node) s at).inside

pub put_ends-requires-clause-curve : goal.put_ends-requires-clause-curve
put_ends-requires-clause-curve c h =
    let e : Ends = record { low = c.in-OldEnds.low; high = c.in-OldEnds.high } in
    curve_put_back c.args.self.now c.in-OldEnds.column e (subst (IsPlaceOf c.args.self.now.deck) c.in-OldEnds.is c.requires.place) (subst (λ (r : Replaced). IsNodeBox (put_back c.args.self.now r)) c.in-OldEnds.is c.requires.node) h
