use Rattle.std.proofs.Common.{rules}
use Rattle.std.specs.Int.{w128}
use Rattle.std.specs.Prelude.{FitsSigned}
use Rattle.std.proofs.lemmas.Int.{to_z-of_z}
use Rattle.um_loop.proofs.KeysClose.{closing_of, endless_closing, above_closing}
use Rattle.um_loop.proofs.vertices.closing.Goals as goal

pub returns-then-is_endless : goal.returns-then-is_endless
returns-then-is_endless c = endless_closing c.args.deck.now c.args.best.now c.args.key.now (c.if-is_endless.ensures.0 (search rules))

pub returns-then-closes : goal.returns-then-closes
returns-then-closes c =
    let key = c.args.key.now in
    let fy : FitsSigned w128 key.y0 = search rules in
    let fv : FitsSigned w128 key.value = search rules in
    let endless = c.if-is_endless.ensures in
    closing_of c.args.deck.now c.args.best.now key c.in-Some.best c.bound_of.result _ _ c.in-Some.is (λ e. absurd (let h = endless.1 e in cc)) (to_z-of_z w128 key.y0 fy) (to_z-of_z w128 key.value fv) (c.if-closes.ensures.0 (search rules)) c.bound_of.ensures

pub returns-else-closes : goal.returns-else-closes
returns-else-closes c =
    let key = c.args.key.now in
    let fy : FitsSigned w128 key.y0 = search rules in
    let fv : FitsSigned w128 key.value = search rules in
    above_closing c.args.deck.now c.args.best.now key c.in-Some.best _ _ c.in-Some.is (to_z-of_z w128 key.y0 fy) (to_z-of_z w128 key.value fv) (λ h. absurd (let t = c.if-closes.ensures.1 h in cc))
