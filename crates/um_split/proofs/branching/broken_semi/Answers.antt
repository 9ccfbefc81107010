use Rattle.std.proofs.Common.{refl, sym, ◌<◌, length, arith}
use Rattle.std.proofs.lemmas.Bool.{false≢true}
use Rattle.um_model.specs.Values.{plain_point}
use Rattle.um_model.specs.Feasible.{SemiHolds}
use Rattle.um_point.proofs.PlaceLemmas.{holds_more, first_failure, not_all}
use Rattle.um_split.proofs.branching.broken_semi.Goals as goal

pub returns-then-not-semi_holds-clause-none : goal.returns-then-not-semi_holds-clause-none
returns-then-not-semi_holds-clause-none c =
    let inside : c.loop-column.column < length c.args.deck.now.columns = omega (arith, c.loop-column-test.true, c.column_count-column-end.ensures) in (
      λ h. absurd (false≢true (sym h)),
      λ all. absurd (not_all (SemiHolds (plain_point c.args.point.now)) c.args.deck.now.columns c.loop-column.column inside (λ h. false≢true (c.if-not-semi_holds.ensures.1 h)) all),
    )

pub returns-then-not-semi_holds-clause-first : goal.returns-then-not-semi_holds-clause-first
returns-then-not-semi_holds-clause-first c =
    let inside : c.loop-column.column < length c.args.deck.now.columns = omega (arith, c.loop-column-test.true, c.column_count-column-end.ensures) in
    first_failure (SemiHolds (plain_point c.args.point.now)) c.args.deck.now.columns c.loop-column.column inside c.loop-column.invariant (λ h. false≢true (c.if-not-semi_holds.ensures.1 h))

pub loop-column-preserved : goal.loop-column-preserved
loop-column-preserved c = holds_more (SemiHolds (plain_point c.args.point.now)) c.args.deck.now.columns c.loop-column.column c.loop-column.invariant (c.if-not-semi_holds.ensures.0 refl)
