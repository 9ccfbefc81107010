use Rattle.std.proofs.Common.{◌∙◌, ap, sym, subst, ◌^◌, ℤ, ◌*ℤ◌, Option, arith}
use Rattle.um_model.specs.Values.{DeckValue, plain_column}
use Rattle.um_model.specs.Boxes.{ends_of}
use Rattle.um_model.specs.WellFormed.{IsWithin}
use Rattle.um_multipliers.specs.PlainMultipliers.{plain_multipliers}
use Rattle.um_deck.specs.Decks.{IsDeckNow}
use Rattle.um_bound.specs.ColumnSums.{IsLinearPart, IsCurvedPart}
use Rattle.um_bound.proofs.ArcValues.{without_arc, with_arc, square_is, arc_size, arc_held}
use Rattle.um_bound.proofs.ColumnValues.{curve_low, curve_high, linear_gives, curved_gives}
use Rattle.um_bound.proofs.MachineSteps.{held, held_is}
use Rattle.um_bound.proofs.columns.column_part.Goals as goal

pub curve_of-requires-clause-arc : goal.curve_of-requires-clause-arc
curve_of-requires-clause-arc c =
    let d = c.args.node.now.deck in
    let now : IsDeckNow d = subst IsDeckNow c.deck.ensures c.known-2.ensures in
    let arcs = c.arcs.ensures ∙ ap (λ (x : DeckValue). x.arcs) c.deck-2.ensures in
    subst (IsWithin (2 ^ 24)) (sym (arc_held d now c.arcs.result.now arcs c.args.index c.in-Some.arc c.in-Some.ensures)) (arc_size d now c.arcs.result.now arcs c.args.index c.in-Some.arc c.in-Some.ensures)

pub curved_part-requires-clause-low : goal.curved_part-requires-clause-low
curved_part-requires-clause-low c =
    let d = c.args.node.now.deck in
    let now : IsDeckNow d = subst IsDeckNow c.deck.ensures c.known-2.ensures in
    let arcs = c.arcs.ensures ∙ ap (λ (x : DeckValue). x.arcs) c.deck-2.ensures in
    curve_low c.args.node.now c.args.index c.known.ensures c.ends-low.result c.ends-low.ensures (with_arc d now c.arcs.result.now arcs c.args.index c.in-Some.arc c.in-Some.ensures)

pub curved_part-requires-clause-high : goal.curved_part-requires-clause-high
curved_part-requires-clause-high c =
    let d = c.args.node.now.deck in
    let now : IsDeckNow d = subst IsDeckNow c.deck.ensures c.known-2.ensures in
    let arcs = c.arcs.ensures ∙ ap (λ (x : DeckValue). x.arcs) c.deck-2.ensures in
    curve_high c.args.node.now c.args.index c.known.ensures c.ends-low.result c.ends-low.ensures (with_arc d now c.arcs.result.now arcs c.args.index c.in-Some.arc c.in-Some.ensures)

pub returns-in-None : goal.returns-in-None
returns-in-None c =
    let d = c.args.node.now.deck in
    let now : IsDeckNow d = subst IsDeckNow c.deck.ensures c.known-2.ensures in
    let arcs = c.arcs.ensures ∙ ap (λ (x : DeckValue). x.arcs) c.deck-2.ensures in
    let cost = held_is c.reduced_cost.result (omega (arith, c.reduced_cost.ensures.size)) ∙ c.reduced_cost.ensures.value in
    linear_gives d c.args.node.now.limits (plain_multipliers c.args.y.now) (c.args.index, plain_column c.args.column.now) (without_arc d now c.arcs.result.now arcs c.args.index c.in-None.ensures) c.linear_part.result
    (subst (λ (k : ℤ). IsLinearPart k (ends_of d c.args.node.now.limits c.args.index).low (ends_of d c.args.node.now.limits c.args.index).high c.linear_part.result) cost (subst (λ (q : Option ℤ × Option ℤ). IsLinearPart (held c.reduced_cost.result) q.0 q.1 c.linear_part.result) c.ends-low.ensures c.linear_part.ensures))

pub returns-in-Some : goal.returns-in-Some
returns-in-Some c =
    let d = c.args.node.now.deck in
    let y = plain_multipliers c.args.y.now in
    let now : IsDeckNow d = subst IsDeckNow c.deck.ensures c.known-2.ensures in
    let arcs = c.arcs.ensures ∙ ap (λ (x : DeckValue). x.arcs) c.deck-2.ensures in
    let square =
    c.curve_of.ensures.square ∙ ap (λ (z : ℤ). c.args.y.now.y0 *ℤ z) (arc_held d now c.arcs.result.now arcs c.args.index c.in-Some.arc c.in-Some.ensures)
    ∙ sym (square_is d now c.arcs.result.now arcs c.args.index c.in-Some.arc c.in-Some.ensures y) in
    curved_gives d c.args.node.now.limits y (c.args.index, plain_column c.args.column.now) (with_arc d now c.arcs.result.now arcs c.args.index c.in-Some.arc c.in-Some.ensures)
    c.curve_of.result c.curve_of.ensures.linear square c.curved_part.result
    (subst (λ (q : Option ℤ × Option ℤ). IsCurvedPart c.curve_of.result q.0 q.1 c.curved_part.result) c.ends-low.ensures c.curved_part.ensures)
