use Rattle.std.proofs.Common.{◌≤◌, ◌∙◌, ap, sym, subst, ℤ, Some, unsigned_abs}
use Rattle.um_model.specs.WellFormed.{IsDeck}
use Rattle.um_model.specs.declared.deck.Kind.{Kind}
use Rattle.um_box.proofs.EndSizes.{held_is, threshold_small}
use Rattle.um_box.proofs.node_box.NodeBox.threshold.Goals as goal

pub returns-in-Some-Semi-clause-size : goal.returns-in-Some-Semi-clause-size
returns-in-Some-Semi-clause-size c =
    let t = c.in-Some-Semi.threshold in
    let formed : IsDeck c.args.self.now.deck = subst IsDeck c.deck.ensures c.known.ensures.formed in
    let size = threshold_small c.args.self.now.deck c.args.column t formed (sym c.in-Some-Semi.ensures ∙ ap (λ (k : Kind). Some k) c.in-Some-Semi.field-0-is) in
    subst (λ (z : ℤ). unsigned_abs z ≤ 10000000000) (sym (held_is t size)) size
