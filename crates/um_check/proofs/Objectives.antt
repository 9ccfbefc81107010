-- The test of the objective that is stated beside a point.
use Rattle.std.proofs.Common.{◌≡◌, pos, ◌≤ℤ◌, Option, Some, sym, subst}
use Rattle.std.specs.Prelude.{IfSome, ◌↔◌}
use Rattle.um_laws.specs.Rational.{Rational}
use Rattle.um_model.specs.Values.{DeckValue, PointValue}
use Rattle.um_model.specs.AnswerValues.{AnswerValue}
use Rattle.um_model.specs.Objective.{HasObjective, objective}
use Rattle.um_model.specs.Accepted.{ObjectiveHolds}
use Rattle.um_soundness.proofs.Objectives.{objective-law}

pub objective_test : (d : DeckValue) (a : AnswerValue) (p : PointValue) (v : Rational) → a.point ≡ Some p → a.objective ≡ Some v → pos 1 ≤ℤ p.den → ObjectiveHolds d a ↔ (objective d p ≡ v)
objective_test d a p v at stated positive =
    let law = objective-law d p v positive in
    let P : Option PointValue → Type 0 = λ o. IfSome o (λ q. IfSome a.objective (HasObjective d q)) in
    let Q : Option Rational → Type 0 = λ o. IfSome o (HasObjective d p) in
    (λ h. law.0 (subst Q stated (subst P at h)), λ same. subst P (sym at) (subst Q (sym stated) (law.1 same)))
