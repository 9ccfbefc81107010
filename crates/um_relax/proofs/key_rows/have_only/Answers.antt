use Rattle.std.proofs.Common.{subst, false, w64}
use Rattle.std.specs.Prelude.{ℤ, IsTrue, ◌↔◌}
use Rattle.std.proofs.lemmas.Int.{to_z-of_z}
use Rattle.um_relax.specs.KeyTests.{HasOnly}
use Rattle.um_relax.proofs.KeyParts.{refused, column_fails}
use Rattle.um_relax.proofs.key_rows.have_only.Goals as goal

pub returns-then-not-has_only : goal.returns-then-not-has_only
returns-then-not-has_only c =
    let test : IsTrue false ↔ HasOnly c.args.row c.args.value c.as_slice.result.now =
    subst (λ (z : ℤ). IsTrue false ↔ HasOnly c.args.row z c.as_slice.result.now) (to_z-of_z w64 c.args.value c.ranges.value) c.if-not-has_only.ensures in
    refused (column_fails (HasOnly c.args.row c.args.value) c.args.columns.now c.loop-column.column-index c.column-item.result c.as_slice.result.now c.loop-column-test.true c.column-item.is c.as_slice.ensures test)
