-- The ends and the kind of a column are those of its bounds.
use Rattle.std.proofs.Common.{◌≡◌, ◌≤◌, ◌^◌, Bool, true, false, int_le, [], ◌∷◌, Option, Some, None, ℤ, pos, negsuc, neg_ℤ, ◌≤ℤ◌, unsigned_abs, refl, sym, ap, arith}
use Rattle.std.specs.Option.{ForSome}
use Rattle.std.proofs.lemmas.Int.{ints}
use Rattle.std.proofs.lemmas.Bool.{lt-leb, false≢true}
use Rattle.um_model.specs.WellFormed.{KindFits, IsWithin}
use Rattle.um_model.specs.declared.deck.Kind.{Kind}
use Rattle.um_model.specs.declared.deck.Kind.TheVariants.{Continuous, Integer, Semi}
use Rattle.um_statements.specs.declared.parts.BoundKind.TheVariants.{Up, Lo}
use Rattle.um_statements.specs.declared.parts.End.TheVariants.{Finite}
use Rattle.um_statements.specs.Statements.{Name}
use Rattle.um_statements.specs.Said.{ends_of, end_of}
use Rattle.um_statements.specs.Made.{kind_of, threshold}
use Rattle.um_make.specs.NormalLines.{is_zero_number, ends_bounds, kind_bounds}
use Rattle.um_round.specs.Numerals.{written}
use Rattle.um_round.proofs.NormalSaid.{is_integer, IsEndsBack, pairs_of}
use Rattle.um_round.proofs.Numerals.{scaled_back}
use Rattle.um_round.proofs.KnownNumbers.{zero_is}

no_high : (z : ℤ) → unsigned_abs z ≤ 10 ^ 10 → int_le (pos (10 ^ 23)) z ≡ false
no_high (pos n) h = lt-leb (10 ^ 23) n (omega (arith, h))
no_high (negsuc n) h = refl

no_low : (z : ℤ) → unsigned_abs z ≤ 10 ^ 10 → int_le z (neg_ℤ (pos (10 ^ 23))) ≡ false
no_low (pos n) h = refl
no_low (negsuc n) h = lt-leb 99999999999999999999999 n (omega (arith, h))

up_end : (z : ℤ) → unsigned_abs z ≤ 10 ^ 10 → end_of Up (Some (written 3 z)) ≡ Finite z
up_end z h = rw (scaled_back 3 z, no_high z h) refl

lo_end : (z : ℤ) → unsigned_abs z ≤ 10 ^ 10 → end_of Lo (Some (written 3 z)) ≡ Finite z
lo_end z h = rw (scaled_back 3 z, no_low z h) refl

two_ends : (kind : Kind) (name : Name) (low high : ℤ) → (is_integer kind ≡ true → kind ≡ Integer) → (is_integer kind ≡ false → kind ≡ Continuous) → unsigned_abs low ≤ 10 ^ 10 → unsigned_abs high ≤ 10 ^ 10
    → IsEndsBack kind (Some low) (Some high) (ends_of (is_integer kind) ((Lo, Some (written 3 low)) ∷ (Up, Some (written 3 high)) ∷ []))
two_ends kind name low high whole other h k = record { low = rw (lo_end low h) refl; high = rw (up_end high k) refl; kind = by (is_integer kind) refl }
  where
    by : (b : Bool) → is_integer kind ≡ b → kind_of (ends_of (is_integer kind) ((Lo, Some (written 3 low)) ∷ (Up, Some (written 3 high)) ∷ [])) ≡ kind
    by true e = rw e (sym (whole e))
    by false e = rw e (sym (other e))

continuous_back : (name : Name) (low high : Option ℤ) → ForSome low (IsWithin (10 ^ 10)) → ForSome high (IsWithin (10 ^ 10)) → IsEndsBack Continuous low high (ends_of false (pairs_of (ends_bounds name low high)))
continuous_back name None None h k = record { low = refl; high = refl; kind = refl }
continuous_back name None (Some high) h k = record { low = refl; high = rw (up_end high (k high refl)) refl; kind = refl }
continuous_back name (Some low) None h k = by (is_zero_number low) refl
  where
    by : (b : Bool) → is_zero_number low ≡ b → IsEndsBack Continuous (Some low) None (ends_of false (pairs_of (ends_bounds name (Some low) None)))
    by true e = rw e (record { low = ap (λ z. Some z) (sym (zero_is low e)); high = refl; kind = refl })
    by false e = rw e (record { low = rw (lo_end low (h low refl)) refl; high = refl; kind = refl })
continuous_back name (Some low) (Some high) h k = two_ends Continuous name low high (λ e. cc) (λ e. refl) (h low refl) (k high refl)

-- a threshold is as small as the end above it
threshold_size : (threshold high : ℤ) → pos 0 ≤ℤ threshold → threshold ≤ℤ high → unsigned_abs high ≤ 10 ^ 10 → unsigned_abs threshold ≤ 10 ^ 10
threshold_size threshold high up below most = omega (arith, ints, up, below, most)

pub ends-back-law : (kind : Kind) (name : Name) (low high : Option ℤ) → KindFits kind low high → ForSome low (IsWithin (10 ^ 10)) → ForSome high (IsWithin (10 ^ 10)) → IsEndsBack kind low high (ends_of (is_integer kind) (pairs_of (kind_bounds name kind low high)))
ends-back-law Continuous name low high fits h k = continuous_back name low high h k
ends-back-law Integer name (Some low) (Some high) fits h k = two_ends Integer name low high (λ e. refl) (λ e. cc) (h low refl) (k high refl)
ends-back-law Integer name None high fits h k = absurd (false≢true fits.low)
ends-back-law Integer name (Some low) None fits h k = absurd (false≢true fits.high)
ends-back-law (Semi least) name low None fits h k = absurd (false≢true fits.1)
ends-back-law (Semi least) name low (Some high) fits h k =
    record { low = sym fits.0; high = rw (scaled_back 3 high) refl; kind = rw (lo_end least (threshold_size least high fits.2 (fits.3 high refl) (k high refl))) refl }

-- the threshold of a semicontinuous column is that of its bounds
pub threshold-back : (least : ℤ) (name : Name) (low high : Option ℤ) → KindFits (Semi least) low high → ForSome high (IsWithin (10 ^ 10)) → threshold (ends_of false (pairs_of (kind_bounds name (Semi least) low high))) ≡ Some least
threshold-back least name low None fits k = absurd (false≢true fits.1)
threshold-back least name low (Some high) fits k = rw (lo_end least (threshold_size least high fits.2 (fits.3 high refl) (k high refl))) refl
