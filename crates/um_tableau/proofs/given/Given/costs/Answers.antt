use Rattle.std.proofs.Common.{map, sym, ap, ◌∙◌}
use Rattle.um_lp.specs.States.{Frame}
use Rattle.um_tableau.specs.Frames.{cost_in}
use Rattle.um_tableau.proofs.Coefficients.{costs_of}
use Rattle.um_tableau.proofs.given.Given.costs.Goals as goal

pub returns-clause-costs : goal.returns-clause-costs
returns-clause-costs c = let i = c.self.inside in c.as_slice.ensures ∙ sym (costs_of i.costs.items i.terms.items c.self.invariant.same) ∙ ap (λ (f : Frame). map cost_in f.columns) c.self.view_is
