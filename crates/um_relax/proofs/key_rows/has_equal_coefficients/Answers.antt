use Rattle.std.proofs.Common.{refl, subst, rules, w64, FitsSigned}
use Rattle.std.specs.Prelude.{ℤ, All, IsTrue, ◌↔◌}
use Rattle.std.proofs.lemmas.Int.{to_z-of_z}
use Rattle.um_model.specs.declared.deck.Column.{Column}
use Rattle.um_relax.specs.KeyTests.{HasOnly}
use Rattle.um_relax.proofs.KeyParts.{equal_from_none, equal_from_only, only_from_equal}
use Rattle.um_relax.proofs.key_rows.has_equal_coefficients.Goals as goal

test : (c : goal.After-have_only) → IsTrue c.have_only.result ↔ All (λ (x : Column). HasOnly c.args.row c.in-Some.value x.entries.items) c.args.columns.now
test c =
    let fits : FitsSigned w64 c.in-Some.value = search rules in
    subst (λ (z : ℤ). IsTrue c.have_only.result ↔ All (λ (x : Column). HasOnly c.args.row z x.entries.items) c.args.columns.now) (to_z-of_z w64 c.in-Some.value fits) c.have_only.ensures

pub returns-in-Some : goal.returns-in-Some
returns-in-Some c = (
  λ h. equal_from_only c.args.columns.now c.args.row c.in-Some.value ((test c).0 h),
  λ equal. (test c).1 (only_from_equal c.args.columns.now c.args.row c.in-Some.value c.in-Some.ensures equal),
)

pub returns-in-None : goal.returns-in-None
returns-in-None c = (λ h. equal_from_none c.args.columns.now c.args.row c.in-None.ensures, λ h. refl)
