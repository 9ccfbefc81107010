use Rattle.std.proofs.Common.{refl, sym, ◌<◌, length, arith}
use Rattle.std.proofs.lemmas.Bool.{false≢true}
use Rattle.um_model.specs.Values.{plain_point}
use Rattle.um_model.specs.Feasible.{RowHolds}
use Rattle.um_point.proofs.PlaceLemmas.{holds_more, first_failure, not_all}
use Rattle.um_point.proofs.first_broken.first_broken_row.Goals as goal

pub bounds-sums-row : goal.bounds-sums-row
bounds-sums-row c = omega (arith, c.loop-row-test.true, c.row_count-row-end.ensures.few)

pub row_holds-requires-clause-sum : goal.row_holds-requires-clause-sum
row_holds-requires-clause-sum c = c.row_sums-sums.ensures.each c.loop-row.row (omega (arith, c.loop-row-test.true, c.row_count-row-end.ensures.few))

pub returns-then-not-row_holds-clause-none : goal.returns-then-not-row_holds-clause-none
returns-then-not-row_holds-clause-none c =
    let inside : c.loop-row.row < length c.args.deck.now.rows = omega (arith, c.loop-row-test.true, c.row_count-row-end.ensures.count) in (
      λ h. absurd (false≢true (sym h)),
      λ all. absurd (not_all (RowHolds c.args.deck.now (plain_point c.args.point.now)) c.args.deck.now.rows c.loop-row.row inside (λ h. false≢true (c.if-not-row_holds.ensures.1 h)) all),
    )

pub returns-then-not-row_holds-clause-first : goal.returns-then-not-row_holds-clause-first
returns-then-not-row_holds-clause-first c =
    let inside : c.loop-row.row < length c.args.deck.now.rows = omega (arith, c.loop-row-test.true, c.row_count-row-end.ensures.count) in
    first_failure (RowHolds c.args.deck.now (plain_point c.args.point.now)) c.args.deck.now.rows c.loop-row.row inside c.loop-row.invariant (λ h. false≢true (c.if-not-row_holds.ensures.1 h))

pub loop-row-preserved : goal.loop-row-preserved
loop-row-preserved c = holds_more (RowHolds c.args.deck.now (plain_point c.args.point.now)) c.args.deck.now.rows c.loop-row.row c.loop-row.invariant (c.if-not-row_holds.ensures.0 refl)
