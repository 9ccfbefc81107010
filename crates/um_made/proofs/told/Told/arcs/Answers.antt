use Rattle.std.proofs.Common.{◌≡◌, FitsSigned, w64, rules, ℤ, ◌+◌, ◌^◌, ℕ, List, ◌++◌, get_or, drop, filter_map, None, sym, ap, subst, ◌∙◌}
use Rattle.um_num.specs.Listed.{Listed}
use Rattle.um_model.specs.declared.deck.Arc.{Arc}
use Rattle.um_statements.specs.declared.parts.ArcPart.{ArcPart}
use Rattle.um_statements.specs.Said.{Said}
use Rattle.std.proofs.lemmas.Int.{to_z-of_z}
use Rattle.um_statements.specs.Scaled.{times_ten}
use Rattle.um_statements.specs.Made.{arc_made, for_minimising}
use Rattle.um_made.specs.Parts.{said}
use Rattle.um_made.specs.ColumnWords.{Fits}
use Rattle.um_made.proofs.RowNumberFacts.{no_arc}
use Rattle.um_made.proofs.RowRules.{objective_scale_is}
use Rattle.um_made.proofs.NumbersFit.{arc_fits, objective_fine}
use Rattle.um_made.proofs.ArcSteps.{arc_kept, arc_dropped}
use Rattle.um_made.proofs.told.Told.arcs.Goals as goal

pub scaled-value-requires-clause-fits : goal.scaled-value-requires-clause-fits
scaled-value-requires-clause-fits c =
    let s : Said = said c.args.self.now in
    let o = c.requires.objective in
    let within = rw c.as_slice-arc-items.ensures at c.loop-arc-test.true in
    rw c.as_slice-arc-items.ensures
    (subst (λ (n : ℕ). Fits (2 ^ 24) n (get_or c.args.self.now.arcs.items c.loop-arc.arc-index no_arc).value) (sym o.scale_is)
    (arc_fits s c.requires.well (c.args.objective.now.place, o.row) o.is (objective_fine s (c.args.objective.now.place, o.row) c.requires.fine o.is) c.loop-arc.arc-index no_arc within))

pub loop-arc-preserved-then-is_zero : goal.loop-arc-preserved-then-is_zero
loop-arc-preserved-then-is_zero c =
    let s : Said = said c.args.self.now in
    let arcs : List ArcPart = c.args.self.now.arcs.items in
    let within = rw c.as_slice-arc-items.ensures at c.loop-arc-test.true in
    arc_dropped s arcs c.loop-arc.arc-index no_arc within c.loop-arc.arcs.items (filter_map (arc_made s) s.arcs) (rw c.as_slice-arc-items.ensures at (sym c.is_zero.ensures ∙ c.if-is_zero.true)) c.loop-arc.invariant

pub loop-arc-preserved : goal.loop-arc-preserved
loop-arc-preserved c =
    let s : Said = said c.args.self.now in
    let arcs : List ArcPart = c.args.self.now.arcs.items in
    let all : List Arc = filter_map (arc_made s) s.arcs in
    let within = rw c.as_slice-arc-items.ensures at c.loop-arc-test.true in
    let items = ap (λ (l : Listed Arc). l.items) c.in_ok-push.ensures.ok in
    let value = rw c.as_slice-arc-items.ensures at c.scaled-value.ensures.value in
    let fits : FitsSigned w64 c.scaled-value.result = search rules in
    let fits_turned : FitsSigned w64 c.for_minimising.result = search rules in
    let turned = simp to_z-of_z at c.for_minimising.ensures in
    let same : c.for_minimising.result ≡ for_minimising s.maximise (times_ten (get_or arcs c.loop-arc.arc-index no_arc).value c.args.objective.now.scale) = turned ∙ ap (for_minimising s.maximise) value in
    subst (λ (zs : List Arc). zs ++ filter_map (arc_made s) (drop (c.loop-arc.arc-index + 1) arcs) ≡ all) (sym items)
    (arc_kept s arcs c.loop-arc.arc-index no_arc within c.loop-arc.arcs.items all _ c.args.objective.now.scale (rw c.as_slice-arc-items.ensures at (sym c.is_zero.ensures ∙ c.if-is_zero.false)) (objective_scale_is s c.args.objective.now c.requires.objective) (rw c.as_slice-arc-items.ensures (simp to_z-of_z (ap (λ (z : ℤ). record { row = None; column = (get_or arcs c.loop-arc.arc-index no_arc).column; value = z }) same))) c.loop-arc.invariant)
