use Rattle.std.proofs.Common.{ℕ, ◌^◌, pos, ap, ◌∙◌}
use Rattle.um_point.proofs.ObjectiveParts.{over_value, over_positive, over_range}
use Rattle.um_point.proofs.value.denominator.Goals as goal

pub returns-clause-value : goal.returns-clause-value
returns-clause-value c =
    over_value c.args.point.now.den c.power_of_ten.result c.args.deck.now.scale (c.power_of_ten.ensures.value ∙ ap (λ (n : ℕ). pos (10 ^ n)) c.scale.ensures) c.known.ensures.formed.scale c.requires.den_size

pub returns-clause-positive : goal.returns-clause-positive
returns-clause-positive c =
    over_positive c.args.point.now.den c.power_of_ten.result c.args.deck.now.scale (c.power_of_ten.ensures.value ∙ ap (λ (n : ℕ). pos (10 ^ n)) c.scale.ensures) c.known.ensures.formed.scale c.requires.den_size c.requires.den

pub returns-clause-range : goal.returns-clause-range
returns-clause-range c =
    over_range c.args.point.now.den c.power_of_ten.result c.args.deck.now.scale (c.power_of_ten.ensures.value ∙ ap (λ (n : ℕ). pos (10 ^ n)) c.scale.ensures) c.known.ensures.formed.scale c.requires.den_size
