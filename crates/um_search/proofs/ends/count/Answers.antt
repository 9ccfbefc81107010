use Rattle.std.proofs.Common.{Some, rules}
use Rattle.std.specs.Int.{w128}
use Rattle.std.specs.Prelude.{FitsSigned}
use Rattle.std.proofs.lemmas.Int.{to_z-of_z}
use Rattle.um_progress.proofs.KeyBounds.{counts_some}
use Rattle.um_search.proofs.ends.count.Goals as goal

pub returns : goal.returns
returns c = λ leaf y0 up is.
    let d = c.args.deck.now in
    let k = c.args.key.now in
    let fy : FitsSigned w128 k.y0 = search rules in
    let fv : FitsSigned w128 k.value = search rules in
    let endless = c.if-is_endless.ensures in
    counts_some d leaf y0 k is c.args.bounds.endless c.args.bounds.least c.bound_of-bound.result (Some c.lesser.result) _ _ (λ e. absurd (let h = endless.1 e in cc)) (to_z-of_z w128 k.y0 fy) (to_z-of_z w128 k.value fv) c.bound_of-bound.ensures c.lesser.ensures
