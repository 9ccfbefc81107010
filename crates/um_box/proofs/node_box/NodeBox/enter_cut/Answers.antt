use Rattle.std.proofs.Common.{subst, sym, ℤ, ◌≤◌, unsigned_abs}
use Rattle.um_box.proofs.CurveEnds.{cut_curve}
use Rattle.um_box.proofs.EndSizes.{cut_size, held_is}
use Rattle.um_box.proofs.node_box.NodeBox.enter_cut.Goals as goal

pub put_high-requires-clause-size : goal.put_high-requires-clause-size
put_high-requires-clause-size c =
    let size = cut_size c.args.self.now c.args.column c.args.at c.known.ensures c.requires in
    subst (λ (z : ℤ). unsigned_abs z ≤ 10000000000) (sym (held_is c.args.at size)) size

pub put_low-requires-clause-size : goal.put_low-requires-clause-size
put_low-requires-clause-size c =
    let size = cut_size c.args.self.now c.args.column c.args.at c.known.ensures c.requires in
    subst (λ (z : ℤ). unsigned_abs z ≤ 10000000000) (sym (held_is c.args.at size)) size

pub put_high-requires-clause-curve : goal.put_high-requires-clause-curve
put_high-requires-clause-curve c h =
    let size = cut_size c.args.self.now c.args.column c.args.at c.known.ensures c.requires in
    subst (λ (z : ℤ). unsigned_abs z ≤ 8000000) (sym (held_is c.args.at size)) (cut_curve c.args.self.now c.args.column c.args.at c.known.ensures c.requires)

pub put_low-requires-clause-curve : goal.put_low-requires-clause-curve
put_low-requires-clause-curve c h =
    let size = cut_size c.args.self.now c.args.column c.args.at c.known.ensures c.requires in
    subst (λ (z : ℤ). unsigned_abs z ≤ 8000000) (sym (held_is c.args.at size)) (cut_curve c.args.self.now c.args.column c.args.at c.known.ensures c.requires)
