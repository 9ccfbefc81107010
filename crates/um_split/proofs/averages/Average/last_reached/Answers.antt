use Rattle.std.proofs.Common.{◌≡◌, ◌-◌, ◌<◌, ℤ, pos, ◌*ℤ◌, ◌≤ℤ◌, length, get_or, arith, refl, w64, FitsSigned}
use Rattle.std.proofs.lemmas.Bool.{false≢true}
use Rattle.std.proofs.lemmas.Int.{to_z-of_z, fits_signed_from_abs}
use Rattle.um_model.specs.declared.deck.Member.{Member}
use Rattle.um_split.proofs.Reached.{weight_is, last-from_next, above}
use Rattle.um_split.proofs.averages.Average.last_reached.Goals as goal

pub returns-then-not-reaches : goal.returns-then-not-reaches
returns-then-not-reaches c =
    let position = c.loop-position.position in
    let inside : position < length c.args.members.now = omega (arith, c.loop-position-test.true, c.requires.inside) in
    let d : Member = record { column = 0; weight = pos 0 } in
    let weight : ℤ = (get_or c.args.members.now position d).weight in
    let fits : FitsSigned w64 weight = fits_signed_from_abs w64 weight (omega (arith, c.requires.weights position d inside)) in
    let beyond : ¬ (weight *ℤ c.args.self.now.total) ≤ℤ c.args.self.now.weighted = λ h. false≢true (c.if-not-reaches.ensures.1 (rw (to_z-of_z w64 weight fits) h)) in
    last-from_next c.args.members.now c.requires.rise c.args.self.now.weighted c.args.self.now.total c.requires.total (position - 1) position d (omega (arith, c.loop-position.auto.position)) inside
    (c.loop-position.invariant (position - 1) (omega (arith, c.loop-position.auto.position))) (above (weight *ℤ c.args.self.now.total) c.args.self.now.weighted beyond)

pub loop-position-preserved : goal.loop-position-preserved
loop-position-preserved c = λ k e.
    let position = c.loop-position.position in
    let inside : position < length c.args.members.now = omega (arith, c.loop-position-test.true, c.requires.inside) in
    let d : Member = record { column = 0; weight = pos 0 } in
    let weight : ℤ = (get_or c.args.members.now position d).weight in
    let fits : FitsSigned w64 weight = fits_signed_from_abs w64 weight (omega (arith, c.requires.weights position d inside)) in
    let here : (weight *ℤ c.args.self.now.total) ≤ℤ c.args.self.now.weighted = rw (to_z-of_z w64 weight fits) at c.if-not-reaches.ensures.0 refl in
    let same : k ≡ position = omega (arith, e) in
    rw (same, weight_is c.args.members.now position d inside) here

pub returns : goal.returns
returns c =
    let last = c.args.last in
    let d : Member = record { column = 0; weight = pos 0 } in
    let at_end : c.loop-position.position ≡ last = omega (arith, c.requires.order, c.loop-position-test.false, c.loop-position.auto.position-end (omega (arith, c.requires.order))) in
    last-from_next c.args.members.now c.requires.rise c.args.self.now.weighted c.args.self.now.total c.requires.total (last - 1) last d (omega (arith, c.requires.order)) c.requires.inside
    (c.loop-position.invariant (last - 1) (omega (arith, at_end, c.requires.order))) (rw (weight_is c.args.members.now last d c.requires.inside) at c.requires.beyond)
