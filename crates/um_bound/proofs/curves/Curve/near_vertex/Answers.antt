use Rattle.std.proofs.Common.{◌∙◌, ap, ◌-◌, ◌^◌, ℤ, ◌-ℤ◌, arith}
use Rattle.um_model.specs.LeafValue as LeafValue
use Rattle.um_bound.proofs.CurveSteps.{half_slope_size}
use Rattle.um_bound.proofs.MachineSteps.{held, held_is, difference_is, difference_fits}
use Rattle.um_bound.proofs.curves.Curve.near_vertex.Goals as goal

pub overflow_sub-result : goal.overflow_sub-result
overflow_sub-result c = difference_fits c.at.result c.vertex_margin.result (2 ^ 114 - 2 ^ 63) (2 ^ 63) c.at.ensures.size c.vertex_margin.ensures.size (omega arith)

pub returns-clause-value : goal.returns-clause-value
returns-clause-value c =
    let l = c.args.self.now.linear in
    let s = c.args.self.now.square in
    let n = c.nearest-nearest.result in
    let small = c.nearest-nearest.ensures.size in
    let same = held_is n (omega (arith, small)) in
    let slope = ap held (c.half_slope.ensures.value ∙ ap (LeafValue.half_slope l s) same) ∙ held_is (LeafValue.half_slope l s n) (let size = half_slope_size l s n c.requires.small.linear c.requires.small.square small in omega (arith, size)) in
    difference_is c.at.result c.vertex_margin.result (2 ^ 114 - 2 ^ 63) (2 ^ 63) c.at.ensures.size c.vertex_margin.ensures.size (omega arith)
    ∙ (λ i. (c.at.ensures.value ∙ ap (LeafValue.curve l s) same) i -ℤ (c.vertex_margin.ensures.value ∙ ap (λ (z : ℤ). LeafValue.vertex_margin z s) slope) i)
    ∙ ap (LeafValue.near_vertex l s) c.nearest-nearest.ensures.value
