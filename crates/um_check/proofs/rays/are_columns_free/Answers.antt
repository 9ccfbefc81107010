use Rattle.std.proofs.Common.{refl, ◌<◌, length, arith}
use Rattle.std.proofs.lemmas.Bool.{false≢true}
use Rattle.um_check.specs.RayParts.{ColumnIsFree}
use Rattle.um_point.proofs.PlaceLemmas.{holds_more, not_all}
use Rattle.um_check.proofs.rays.are_columns_free.Goals as goal

pub returns-then-not-is_column_free : goal.returns-then-not-is_column_free
returns-then-not-is_column_free c =
    let inside : c.loop-column.column < length c.args.deck.now.columns = omega (arith, c.loop-column-test.true, c.column_count-column-end.ensures) in (
      λ h. absurd (false≢true h),
      λ all. absurd (not_all (ColumnIsFree c.args.ray.now) c.args.deck.now.columns c.loop-column.column inside (λ h. false≢true (c.if-not-is_column_free.ensures.1 h)) all),
    )

pub loop-column-preserved : goal.loop-column-preserved
loop-column-preserved c = holds_more (ColumnIsFree c.args.ray.now) c.args.deck.now.columns c.loop-column.column c.loop-column.invariant (c.if-not-is_column_free.ensures.0 refl)
