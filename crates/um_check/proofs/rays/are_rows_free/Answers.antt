use Rattle.std.proofs.Common.{refl, ◌<◌, length, arith}
use Rattle.std.specs.Prelude.{true, false}
use Rattle.std.proofs.lemmas.Bool.{false≢true}
use Rattle.um_point.proofs.DeckSizes.{small_columns}
use Rattle.um_point.proofs.PlaceLemmas.{holds_more, not_all}
use Rattle.um_check.specs.RayParts.{RowIsFree}
use Rattle.um_check.proofs.RaySums.{row_test}
use Rattle.um_check.proofs.rays.are_rows_free.Goals as goal

pub linear_sums-sums-requires-clause-columns : goal.linear_sums-sums-requires-clause-columns
linear_sums-sums-requires-clause-columns c = small_columns c.args.deck.now c.columns.result.now c.known.ensures c.columns.ensures

pub bounds-sums-row : goal.bounds-sums-row
bounds-sums-row c = omega (arith, c.loop-row-test.true, c.row_count-row-end.ensures.few)

pub returns-then-not-is_row_free : goal.returns-then-not-is_row_free
returns-then-not-is_row_free c =
    let inside : c.loop-row.row < length c.args.deck.now.rows = omega (arith, c.loop-row-test.true, c.row_count-row-end.ensures.count) in
    let test = row_test c.args.deck.now c.args.ray.now c.columns.result.now c.linear_sums-sums.result c.loop-row.row false c.columns.ensures
    (omega (arith, c.loop-row-test.true, c.row_count-row-end.ensures.few)) c.linear_sums-sums.ensures c.if-not-is_row_free.ensures in (
      λ h. absurd (false≢true h),
      λ all. absurd (not_all (RowIsFree c.args.deck.now c.args.ray.now) c.args.deck.now.rows c.loop-row.row inside (λ h. false≢true (test.1 h)) all),
    )

pub loop-row-preserved : goal.loop-row-preserved
loop-row-preserved c =
    let test = row_test c.args.deck.now c.args.ray.now c.columns.result.now c.linear_sums-sums.result c.loop-row.row true c.columns.ensures
    (omega (arith, c.loop-row-test.true, c.row_count-row-end.ensures.few)) c.linear_sums-sums.ensures c.if-not-is_row_free.ensures in
    holds_more (RowIsFree c.args.deck.now c.args.ray.now) c.args.deck.now.rows c.loop-row.row c.loop-row.invariant (test.0 refl)
