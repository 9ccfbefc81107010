use Rattle.std.proofs.Common.{◌∙◌, ap, subst, sym, ℤ, pos, ◌+ℤ◌, ◌*ℤ◌, ◌≤◌, ◌≡◌, unsigned_abs, Some, arith, FitsSigned, w64}
use Rattle.std.proofs.lemmas.Int.{fits_signed_from_abs}
use Rattle.um_model.specs.Boxes.{ends_at}
use Rattle.um_model.specs.declared.branch.Branch.TheVariants.{Int}
use Rattle.um_model.specs.declared.branch.Side.{Side}
use Rattle.um_box.specs.NodeBoxes.{entered, put_ends}
use Rattle.um_box.proofs.CurveEnds.{int_curve}
use Rattle.um_box.proofs.EndSizes.{int_sizes, held, held_is, thousand_fits, thousand_is, thousand_within}
use Rattle.um_box.proofs.node_box.NodeBox.enter_int.Goals as goal

pub overflow_mul-below : goal.overflow_mul-below
overflow_mul-below c = thousand_fits c.args.below (int_sizes c.args.self.now c.args.column c.args.below c.known.ensures c.requires).here

pub put_high-requires-clause-size : goal.put_high-requires-clause-size
put_high-requires-clause-size c = thousand_within c.args.below (int_sizes c.args.self.now c.args.column c.args.below c.known.ensures c.requires).here

pub returns-in-Left-clause-child : goal.returns-in-Left-clause-child
returns-in-Left-clause-child c =
    let size = (int_sizes c.args.self.now c.args.column c.args.below c.known.ensures c.requires).here in
    c.put_high.ensures.node ∙ ap (λ (z : ℤ). put_ends c.args.self.now c.args.column (record { low = (ends_at c.args.self.now.limits c.args.column).low; high = Some z })) (thousand_is c.args.below size)
    ∙ ap (λ (s : Side). entered c.args.self.now (Int c.args.column c.args.below) s) (sym c.in-Left.is)

pub overflow_add-below : goal.overflow_add-below
overflow_add-below c =
    let sizes = int_sizes c.args.self.now c.args.column c.args.below c.known.ensures c.requires in
    let here = sizes.here in
    let next = sizes.next in
    subst (λ (z : ℤ). FitsSigned w64 (z +ℤ pos 1)) (sym (held_is c.args.below (omega (arith, here)))) (fits_signed_from_abs w64 (c.args.below +ℤ pos 1) (omega (arith, next)))

pub overflow_mul-below-in-Right : goal.overflow_mul-below-in-Right
overflow_mul-below-in-Right c =
    let sizes = int_sizes c.args.self.now c.args.column c.args.below c.known.ensures c.requires in
    let here = sizes.here in
    thousand_fits (held c.args.below +ℤ pos 1) (subst (λ (z : ℤ). unsigned_abs (z +ℤ pos 1) ≤ 10000000) (sym (held_is c.args.below (omega (arith, here)))) sizes.next)

pub put_low-requires-clause-size : goal.put_low-requires-clause-size
put_low-requires-clause-size c =
    let sizes = int_sizes c.args.self.now c.args.column c.args.below c.known.ensures c.requires in
    let here = sizes.here in
    thousand_within (held c.args.below +ℤ pos 1) (subst (λ (z : ℤ). unsigned_abs (z +ℤ pos 1) ≤ 10000000) (sym (held_is c.args.below (omega (arith, here)))) sizes.next)

pub returns-in-Right-clause-child : goal.returns-in-Right-clause-child
returns-in-Right-clause-child c =
    let sizes = int_sizes c.args.self.now c.args.column c.args.below c.known.ensures c.requires in
    let here = sizes.here in
    let kept = held_is c.args.below (omega (arith, here)) in
    let is : held (pos 1000 *ℤ held (held c.args.below +ℤ pos 1)) ≡ pos 1000 *ℤ (c.args.below +ℤ pos 1) =
    ap (λ (z : ℤ). held (pos 1000 *ℤ held (z +ℤ pos 1))) kept ∙ thousand_is (c.args.below +ℤ pos 1) sizes.next in
    c.put_low.ensures.node ∙ ap (λ (z : ℤ). put_ends c.args.self.now c.args.column (record { low = Some z; high = (ends_at c.args.self.now.limits c.args.column).high })) is
    ∙ ap (λ (s : Side). entered c.args.self.now (Int c.args.column c.args.below) s) (sym c.in-Right.is)

pub put_high-requires-clause-curve : goal.put_high-requires-clause-curve
put_high-requires-clause-curve c h =
    let is = thousand_is c.args.below (int_sizes c.args.self.now c.args.column c.args.below c.known.ensures c.requires).here in
    subst (λ (z : ℤ). unsigned_abs z ≤ 8000000) (sym is) (int_curve c.args.self.now c.args.column c.args.below c.known.ensures c.requires h).here

pub put_low-requires-clause-curve : goal.put_low-requires-clause-curve
put_low-requires-clause-curve c h =
    let sizes = int_sizes c.args.self.now c.args.column c.args.below c.known.ensures c.requires in
    let here = sizes.here in
    let is : held (pos 1000 *ℤ held (held c.args.below +ℤ pos 1)) ≡ pos 1000 *ℤ (c.args.below +ℤ pos 1) =
    ap (λ (z : ℤ). held (pos 1000 *ℤ held (z +ℤ pos 1))) (held_is c.args.below (omega (arith, here))) ∙ thousand_is (c.args.below +ℤ pos 1) sizes.next in
    subst (λ (z : ℤ). unsigned_abs z ≤ 8000000) (sym is) (int_curve c.args.self.now c.args.column c.args.below c.known.ensures c.requires h).next
