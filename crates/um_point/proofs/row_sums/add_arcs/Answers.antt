use Rattle.std.proofs.Common.{◌+◌, ◌^◌, ◌<◌, ◌+ℤ◌, ℕ, ℤ, pos, length, take, unsigned_abs, Some, None, ap, sym, ◌∙◌, arith}
use Rattle.um_laws.specs.Sums.{sum_of}
use Rattle.um_model.specs.Feasible.{part}
use Rattle.um_model.specs.declared.deck.Arc.{Arc}
use Rattle.um_point.specs.RowSums.{arc_term}
use Rattle.um_point.proofs.ArcSums.{arc_here, arc_there, arc_nowhere, arc_room}
use Rattle.um_point.proofs.RowSteps.{grown_at, grown_none, sum_fits, sum_is}
use Rattle.um_point.proofs.row_sums.add_arcs.Goals as goal

pub loop-arc-preserved-in_default : goal.loop-arc-preserved-in_default
loop-arc-preserved-in_default c =
    let none : Arc = record { row = None; column = 0; value = pos 0 } in
    grown_none (λ row. sum_of (arc_term (Some row) c.args.parts.now) (take c.loop-arc.arc-index c.args.arcs.now)) _ c.args.sums.now c.loop-arc.sums c.loop-arc.invariant
    (λ row. arc_nowhere c.args.arcs.now c.args.parts.now c.loop-arc.arc-index none c.loop-arc-test.true row c.in_default.is)

pub slice_copy_out-sums : goal.slice_copy_out-sums
slice_copy_out-sums c = omega (arith, c.loop-arc.invariant.long, c.requires.rows c.loop-arc.arc-index (record { row = None; column = 0; value = pos 0 }) c.loop-arc-test.true c.in-Some.row c.in-Some.is)

pub bounds-sums-row : goal.bounds-sums-row
bounds-sums-row c = omega (arith, c.loop-arc.invariant.long, c.requires.rows c.loop-arc.arc-index (record { row = None; column = 0; value = pos 0 }) c.loop-arc-test.true c.in-Some.row c.in-Some.is)

pub overflow_add-sums : goal.overflow_add-sums
overflow_add-sums c =
    let inside : c.in-Some.row < length c.args.sums.now = c.requires.rows c.loop-arc.arc-index (record { row = None; column = 0; value = pos 0 }) c.loop-arc-test.true c.in-Some.row c.in-Some.is in
    sum_fits (part c.loop-arc.sums c.in-Some.row) c.arc_square.result
    (arc_room c.args.arcs.now c.args.parts.now c.loop-arc.arc-index c.in-Some.row c.args.sums.now c.loop-arc.sums (omega (arith, c.loop-arc-test.true)) c.requires.few c.requires.values c.requires.inside c.requires.parts inside c.requires.sizes c.loop-arc.invariant)
    (omega (arith, c.arc_square.ensures.size))

pub loop-arc-preserved : goal.loop-arc-preserved
loop-arc-preserved c =
    let none : Arc = record { row = None; column = 0; value = pos 0 } in
    let i : ℕ = c.loop-arc.arc-index in
    let row : ℕ = c.in-Some.row in
    let inside : row < length c.args.sums.now = c.requires.rows i none c.loop-arc-test.true row c.in-Some.is in
    let room : unsigned_abs (part c.loop-arc.sums row) < 2 ^ 126 =
    arc_room c.args.arcs.now c.args.parts.now i row c.args.sums.now c.loop-arc.sums (omega (arith, c.loop-arc-test.true)) c.requires.few c.requires.values c.requires.inside c.requires.parts inside c.requires.sizes c.loop-arc.invariant in
    grown_at (λ r. sum_of (arc_term (Some r) c.args.parts.now) (take i c.args.arcs.now)) (λ r. sum_of (arc_term (Some r) c.args.parts.now) (take (i + 1) c.args.arcs.now)) c.args.sums.now c.loop-arc.sums row c.arc_square.result _ inside c.loop-arc.invariant
    (arc_here c.args.arcs.now c.args.parts.now i none c.loop-arc-test.true row c.in-Some.is ∙ ap (λ (z : ℤ). sum_of (arc_term (Some row) c.args.parts.now) (take i c.args.arcs.now) +ℤ z) (sym c.arc_square.ensures.value))
    (λ r other. arc_there c.args.arcs.now c.args.parts.now i none c.loop-arc-test.true row r c.in-Some.is other)
    (sum_is (part c.loop-arc.sums row) c.arc_square.result room (omega (arith, c.arc_square.ensures.size)))
