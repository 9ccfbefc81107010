use Rattle.std.proofs.Common.{◌+◌, length, arith, ap}
use Rattle.um_lp.specs.States.{Frame}
use Rattle.um_tableau.proofs.FrameLemmas.{length-columns_of}
use Rattle.um_tableau.proofs.given.Given.first_place.Goals as goal

pub returns : goal.returns
returns c = let i = c.self.inside in omega (arith, ap (λ (f : Frame). length f.columns + f.rows) c.self.view_is, length-columns_of i.costs.items i.terms.items c.self.invariant.same, c.len.ensures)
