use Rattle.std.proofs.Common.{arith, refl}
use Rattle.um_relax.specs.KeyTests.{IsApartIn}
use Rattle.um_relax.proofs.KeyParts.{refused, column_fails, column_more, free_from_apart, apart_from_free}
use Rattle.um_relax.proofs.key_rows.is_free.Goals as goal

pub returns-then-not-is_apart_in : goal.returns-then-not-is_apart_in
returns-then-not-is_apart_in c =
    refused (λ free.
    column_fails (IsApartIn c.args.keys.now c.args.row) c.args.columns.now c.loop-column.column-index c.column-item.result c.as_slice.result.now c.loop-column-test.true c.column-item.is c.as_slice.ensures c.if-not-is_apart_in.ensures
    (apart_from_free c.args.columns.now c.args.keys.now c.args.row free))

pub loop-column-preserved : goal.loop-column-preserved
loop-column-preserved c =
    column_more (IsApartIn c.args.keys.now c.args.row) c.args.columns.now c.loop-column.column-index c.column-item.result c.as_slice.result.now c.loop-column-test.true c.column-item.is c.as_slice.ensures c.if-not-is_apart_in.ensures
    c.loop-column.invariant

pub returns : goal.returns
returns c = (λ h. free_from_apart c.args.columns.now c.args.keys.now c.args.row (λ k d l. c.loop-column.invariant k d (omega (arith, c.loop-column-test.false))), λ h. refl)
