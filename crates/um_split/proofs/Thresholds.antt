-- Tests of thresholds, as the machine passes their numbers.
use Rattle.std.proofs.Common.{◌≡◌, ℤ, pos, ◌*ℤ◌, ◌≤ℤ◌, ◌⊎◌, subst, FitsSigned, to_z, of_z, w64}
use Rattle.std.specs.Prelude.{◌↔◌}
use Rattle.std.specs.Int.{w128}
use Rattle.std.proofs.lemmas.Int.{to_z-of_z}
use Rattle.um_model.specs.declared.deck.Kind.{Kind}
use Rattle.um_model.specs.declared.deck.Kind.TheVariants.{Semi}

-- x / q is 0 or at least the threshold
abbrev pub Keeps : ℤ → ℤ → ℤ → Type 0
Keeps t q x = (x ≡ pos 0) ⊎ ((t *ℤ q) ≤ℤ (pos 1000 *ℤ x))

pub threshold_read : (N : Type 0) (t q x : ℤ) → FitsSigned w64 t → FitsSigned w128 q → FitsSigned w128 x → (N ↔ Keeps (to_z w64 (of_z w64 t)) (to_z w128 (of_z w128 q)) (to_z w128 (of_z w128 x))) → N ↔ Keeps t q x
threshold_read N t q x ft fq fx h =
    let of_threshold : N ↔ Keeps t (to_z w128 (of_z w128 q)) (to_z w128 (of_z w128 x)) = subst (λ (s : ℤ). N ↔ Keeps s (to_z w128 (of_z w128 q)) (to_z w128 (of_z w128 x))) (to_z-of_z w64 t ft) h in
    let of_den : N ↔ Keeps t q (to_z w128 (of_z w128 x)) = subst (λ (r : ℤ). N ↔ Keeps t r (to_z w128 (of_z w128 x))) (to_z-of_z w128 q fq) of_threshold in
    subst (λ (y : ℤ). N ↔ Keeps t q y) (to_z-of_z w128 x fx) of_den

same_threshold : (s t : ℤ) → Semi s ≡ Semi t → s ≡ t
same_threshold s t e = cc

-- the test of its own threshold is the column's rule
pub threshold_rule : (N : Type 0) (kind : Kind) (t q x : ℤ) → kind ≡ Semi t → (N ↔ Keeps t q x) → N ↔ ((s : ℤ) → kind ≡ Semi s → Keeps s q x)
threshold_rule N kind t q x is h = (
  λ n s e. subst (λ (u : ℤ). Keeps u q x) (same_threshold t s (subst (λ (k : Kind). k ≡ Semi s) is e)) (h.0 n),
  λ rule. h.1 (rule t is),
)
