-- Facts of numbers as the machine passes them.
use Rattle.std.proofs.Common.{ℤ, pos, ◌+ℤ◌, ◌*ℤ◌, ◌≤ℤ◌, ◌<ℤ◌, subst, FitsSigned, to_z, of_z}
use Rattle.std.specs.Prelude.{◌↔◌}
use Rattle.std.specs.Int.{w128}
use Rattle.std.proofs.lemmas.Int.{to_z-of_z}
use Rattle.um_model.specs.Feasible.{IsMultipleOf}
use Rattle.um_split.specs.Branchings.{IsFloor}

pub floor_read : (q x f : ℤ) → FitsSigned w128 q → FitsSigned w128 x
    → (f *ℤ to_z w128 (of_z w128 q)) ≤ℤ to_z w128 (of_z w128 x) → to_z w128 (of_z w128 x) <ℤ ((f +ℤ pos 1) *ℤ to_z w128 (of_z w128 q)) → IsFloor q x f
floor_read q x f fq fx low high =
    let at_most : (f *ℤ q) ≤ℤ x = simp to_z-of_z at low in
    let above : x <ℤ ((f +ℤ pos 1) *ℤ q) = simp to_z-of_z at high in record { low = at_most; high = above }

pub whole_read : (N : Type 0) (q x : ℤ) → FitsSigned w128 q → FitsSigned w128 x → (N ↔ IsMultipleOf (to_z w128 (of_z w128 q)) (to_z w128 (of_z w128 x))) → N ↔ IsMultipleOf q x
whole_read N q x fq fx h =
    subst (λ (y : ℤ). N ↔ IsMultipleOf q y) (to_z-of_z w128 x fx) (subst (λ (r : ℤ). N ↔ IsMultipleOf r (to_z w128 (of_z w128 x))) (to_z-of_z w128 q fq) h)
