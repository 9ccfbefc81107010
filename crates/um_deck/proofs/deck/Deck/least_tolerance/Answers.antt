use Rattle.std.proofs.Common.{◌∙◌, ap, arith, w64, FitsSigned, rules}
use Rattle.std.specs.Int.{w128}
use Rattle.std.proofs.lemmas.Int.{to_z-of_z}
use Rattle.um_model.specs.Tolerance.{least_tolerance}
use Rattle.um_deck.proofs.ArcCounts.{few_arcs}
use Rattle.um_deck.proofs.ArcSizes.{tolerance_is}
use Rattle.um_deck.specs.contracts.deck.Deck.{the_view}
use Rattle.um_deck.proofs.deck.Deck.least_tolerance.Goals as goal

pub size_sum-requires-clause-few : goal.size_sum-requires-clause-few
size_sum-requires-clause-few c = rw c.as_slice-arcs.ensures (omega (arith, few_arcs (the_view c.self.inside) c.self.invariant, c.self.invariant.formed.column_count))

pub returns : goal.returns
returns c =
    let sum_fits : FitsSigned w128 c.size_sum.result = search rules in
    let fits : FitsSigned w64 c.one_above.result = search rules in
    let exact = simp to_z-of_z at c.one_above.ensures in
    let is = exact ∙ tolerance_is (the_view c.self.inside) c.as_slice-arcs.result.now c.size_sum.result c.self.invariant c.as_slice-arcs.ensures c.if-is_empty.ensures c.size_sum.ensures.value in
    simp to_z-of_z (is ∙ ap least_tolerance c.self.view_is)
