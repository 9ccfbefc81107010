-- The arcs that are known behind a deck's normal text are those of the deck.
use Rattle.std.proofs.Common.{◌≡◌, ℕ, zero, suc, true, false, Bool, List, [], ◌∷◌, map, filter_map, Some, None, ℤ, pos, negsuc, neg_ℤ, refl, sym, ap, ◌∙◌}
use Rattle.std.specs.List.{cons_option}
use Rattle.um_model.specs.Values.{DeckValue}
use Rattle.um_model.specs.WellFormed.{IsDeck, IsArc, has_arc}
use Rattle.um_model.specs.declared.deck.Arc.{Arc}
use Rattle.um_statements.specs.Scaled.{times_ten}
use Rattle.um_statements.specs.CallRules.{has_kept_arc}
use Rattle.um_statements.specs.Made.{for_minimising, arc_made}
use Rattle.um_statements.proofs.Tests.{minimised_not_zero}
use Rattle.um_statements.proofs.MadeArcs.{same_arcs}
use Rattle.um_make.specs.NormalLines.{in_sense}
use Rattle.um_round.specs.Numerals.{written}
use Rattle.um_round.proofs.EachItem.{Each, Each-from}
use Rattle.um_round.proofs.NormalSaid.{normal_said, arc_known, HasObjectiveArcs}
use Rattle.um_round.proofs.Numerals.{scaled_back}
use Rattle.um_round.proofs.KnownNumbers.{not_nothing}
use Rattle.um_round.proofs.KnownScales.{objective_scale_is}

-- ---- the sense

pub turned_back : (z : ℤ) → neg_ℤ (neg_ℤ z) ≡ z
turned_back (pos zero) = refl
turned_back (pos (suc n)) = refl
turned_back (negsuc n) = refl

pub sense_back : (maximise : Bool) (z : ℤ) → for_minimising maximise (in_sense maximise z) ≡ z
sense_back true z = turned_back z
sense_back false z = refl

-- ---- the arcs

module _ (d : DeckValue) (deck : IsDeck d) (in_objective : HasObjectiveArcs d) where
  arc_back : (a : Arc) → IsArc d a → a.row ≡ None → arc_made (normal_said d) (arc_known d a) ≡ Some a
  arc_back a is mine =
      let z = in_sense d.maximise a.value in
      let some = not_nothing d.scale z (minimised_not_zero d.maximise a.value is.nonzero) in
      let scaled = ap (times_ten (written d.scale z)) (objective_scale_is d deck in_objective) ∙ scaled_back d.scale z in
      let value = ap (for_minimising d.maximise) scaled ∙ sense_back d.maximise a.value in
      let row = sym mine in
      rw some (λ i. Some (record { row = row i; column = a.column; value = value i }))

  pub arcs_back : filter_map (arc_made (normal_said d)) (map (arc_known d) d.arcs) ≡ d.arcs
  arcs_back = by d.arcs (Each-from (IsArc d) d.arcs deck.arcs) (Each-from (λ (a : Arc). a.row ≡ None) d.arcs in_objective)
    where
      by : (arcs : List Arc) → Each (IsArc d) arcs → Each (λ (a : Arc). a.row ≡ None) arcs → filter_map (arc_made (normal_said d)) (map (arc_known d) arcs) ≡ arcs
      by [] is mine = refl
      by (a ∷ arcs) is mine =
          ap (λ o. cons_option o (filter_map (arc_made (normal_said d)) (map (arc_known d) arcs))) (arc_back a is.0 mine.0)
          ∙ ap (λ (more : List Arc). a ∷ more) (by arcs is.1 mine.1)

  -- a column has an arc that is known exactly where it has an arc of the deck
  pub arc_is_kept : (j : ℕ) → has_kept_arc (normal_said d) j ≡ has_arc d.arcs j
  arc_is_kept j = sym (same_arcs (normal_said d) (map (arc_known d) d.arcs) j) ∙ ap (λ (arcs : List Arc). has_arc arcs j) arcs_back
