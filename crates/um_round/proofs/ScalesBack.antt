-- The scale at which numbers were written is the least that makes them whole.
use Rattle.std.proofs.Common.{◌≡◌, ◌⊎◌, inl, inr, ℕ, zero, suc, ◌≤◌, ◌%◌, nat_eq, Bool, true, false, List, [], ◌∷◌, map, ℤ, unsigned_abs, refl, arith, All}
use Rattle.std.proofs.lemmas.Bool.{eqb-true, eqb-false}
use Rattle.std.proofs.lemmas.List.Elements.{All-nil, All-cons}
use Rattle.um_model.specs.WellFormed.{IsMultipleOfTen}
use Rattle.um_statements.specs.Scaled.{least_scale}
use Rattle.um_round.specs.Numerals.{written}
use Rattle.um_round.proofs.Numerals.{decimals_least, decimals_most}

least_most : (k : ℕ) (zs : List ℤ) → least_scale (map (written k) zs) ≤ k
least_most k [] = omega arith
least_most k (z ∷ zs) = omega (arith, decimals_most k z, least_most k zs)

scale_or : (k : ℕ) (zs : List ℤ) → (least_scale (map (written k) zs) ≡ k) ⊎ All IsMultipleOfTen zs
scale_or k [] = inr (All-nil IsMultipleOfTen)
scale_or k (z ∷ zs) = by (nat_eq (unsigned_abs z % 10) 0) refl (scale_or k zs)
  where
    by : (b : Bool) → nat_eq (unsigned_abs z % 10) 0 ≡ b → (least_scale (map (written k) zs) ≡ k) ⊎ All IsMultipleOfTen zs → (least_scale (map (written k) (z ∷ zs)) ≡ k) ⊎ All IsMultipleOfTen (z ∷ zs)
    by true e (inl least) = inl (omega (arith, decimals_most k z, least))
    by true e (inr tens) = inr (All-cons IsMultipleOfTen z zs (eqb-true _ _ e) tens)
    by false e rest = inl (omega (arith, decimals_least k z (eqb-false _ _ e), least_most k zs))

pub scale-law : (k : ℕ) (zs : List ℤ) → (1 ≤ k → All IsMultipleOfTen zs → ⊥) → least_scale (map (written k) zs) ≡ k
scale-law zero zs some = omega (arith, least_most zero zs)
scale-law (suc k) zs some = by (scale_or (suc k) zs)
  where
    by : (least_scale (map (written (suc k)) zs) ≡ suc k) ⊎ All IsMultipleOfTen zs → least_scale (map (written (suc k)) zs) ≡ suc k
    by (inl least) = least
    by (inr tens) = absurd (some (omega arith) tens)
