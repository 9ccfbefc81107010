-- Thresholds of semicontinuous columns.
use Rattle.std.proofs.Common.{◌≡◌, ℕ, ◌^◌, ◌≤◌, ℤ, pos, ◌*ℤ◌, ◌≤ℤ◌, Some, None, sym, ◌∙◌, refl, subst, inl, inr, arith, unsigned_abs, to_z, of_z}
use Rattle.std.specs.Prelude.{Option, IsSome, IsTrue, Bool, ◌↔◌, ◌⊎◌}
use Rattle.std.specs.Option.{ForSome}
use Rattle.std.specs.Int.{w64}
use Rattle.std.proofs.lemmas.Bool.{false≢true}
use Rattle.std.proofs.lemmas.Int.{ints, to_z-of_z, fits_signed_from_abs}
use Rattle.um_model.specs.Values.{ColumnValue}
use Rattle.um_model.specs.WellFormed.{IsColumn, IsWithin, KindFits}
use Rattle.um_model.specs.declared.deck.Kind.{Kind}
use Rattle.um_model.specs.declared.deck.Kind.TheVariants.{Semi}

below_high : (high : Option ℤ) (t : ℤ) → IsSome high → pos 0 ≤ℤ t → ForSome high (λ h. t ≤ℤ h) → ForSome high (IsWithin (10 ^ 10)) → unsigned_abs t ≤ 10 ^ 10
below_high (Some h) t some positive below within = omega (arith, ints, positive, below h refl, within h refl)
below_high None t some positive below within = absurd (false≢true some)

-- a threshold is no larger than a high end
pub threshold_size : (rows : ℕ) (c : ColumnValue) (t : ℤ) → IsColumn rows c → c.kind ≡ Semi t → unsigned_abs t ≤ 10 ^ 10
threshold_size rows c t h e =
    let fits : KindFits (Semi t) c.low c.high = subst (λ (k : Kind). KindFits k c.low c.high) e h.kind in
    below_high c.high t fits.1 fits.2 fits.3 h.high

pub same_threshold : (t : ℤ) → unsigned_abs t ≤ 10 ^ 10 → to_z w64 (of_z w64 t) ≡ t
same_threshold t h = to_z-of_z w64 t (fits_signed_from_abs w64 t (omega (arith, h)))

-- a test of thousandths is one of the part
pub threshold_test : (kind : Kind) (t part den : ℤ) (b : Bool) → kind ≡ Semi t → (IsTrue b ↔ ((pos 1000 *ℤ part ≡ pos 0) ⊎ ((t *ℤ den) ≤ℤ (pos 1000 *ℤ part))))
    → IsTrue b ↔ ((s : ℤ) → kind ≡ Semi s → (part ≡ pos 0) ⊎ ((s *ℤ den) ≤ℤ (pos 1000 *ℤ part)))
threshold_test kind t part den b e test = (
  λ h s f.
      let same : t ≡ s = let both : Semi t ≡ Semi s = sym e ∙ f in cc in
      elim (test.0 h) [ inl zero ↦ inl (omega (arith, ints, zero)) | inr above ↦ inr (subst (λ (u : ℤ). (u *ℤ den) ≤ℤ (pos 1000 *ℤ part)) same above) ],
  λ holds. test.1 (elim (holds t e) [ inl zero ↦ inl (omega (arith, ints, zero)) | inr above ↦ inr above ]),
)
