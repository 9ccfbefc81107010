use Rattle.std.proofs.Common.{◌≡◌, ◌^◌, ◌<◌, List, length, sym, ap, ◌∙◌, subst}
use Rattle.std.specs.Prelude.{All}
use Rattle.um_model.specs.WellFormed.{IsWithin}
use Rattle.um_model.specs.declared.deck.Arc.{Arc}
use Rattle.um_point.proofs.ArcSums.{few_arcs}
use Rattle.um_point.proofs.value.squares.Goals as goal

pub square_sum-requires-clause-few : goal.square_sum-requires-clause-few
square_sum-requires-clause-few c = rw c.arcs.ensures (few_arcs c.args.deck.now c.known.ensures.formed)

pub square_sum-requires-clause-values : goal.square_sum-requires-clause-values
square_sum-requires-clause-values c = subst (λ (arcs : List Arc). All (λ (a : Arc). IsWithin (2 ^ 24) a.value) arcs) (sym c.arcs.ensures) (λ k a within. (c.known.ensures.formed.arcs k a within).size)

pub square_sum-requires-clause-inside : goal.square_sum-requires-clause-inside
square_sum-requires-clause-inside c =
    let long : length c.as_slice.result.now ≡ length c.args.deck.now.columns = ap length c.as_slice.ensures ∙ c.requires.parts in
    rw long (subst (λ (arcs : List Arc). All (λ (a : Arc). a.column < length c.args.deck.now.columns) arcs) (sym c.arcs.ensures) (λ k a within. (c.known.ensures.formed.arcs k a within).column))
