-- A bound without a fault keeps the ends of a column well formed.
use Rattle.std.proofs.Common.{◌≡◌, ◌^◌, Bool, true, false, not, ◌&&◌, ◌||◌, ℤ, pos, Option, None, Some, refl, subst, true≢false, arith, if◌then◌else◌}
use Rattle.std.specs.Option.{ForSome, option_map_or, option_or}
use Rattle.um_num.specs.declared.decimal.Decimal.{Decimal}
use Rattle.um_model.specs.WellFormed.{IsWithin}
use Rattle.um_statements.specs.declared.parts.BoundKind.{BoundKind}
use Rattle.um_statements.specs.declared.parts.BoundKind.TheVariants.{Up, Lo, Fx, Fr, Mi, Pl, Bv, Li, Ui, Sc}
use Rattle.um_statements.specs.declared.parts.End.{End}
use Rattle.um_statements.specs.declared.parts.End.TheVariants.{Infinite, Finite}
use Rattle.um_statements.specs.declared.parts.Ends.{Ends}
use Rattle.um_statements.specs.Scaled.{times_ten, is_within_at}
use Rattle.um_statements.specs.Said.{is_endless, end_of, low_set, high_set, threshold_set, makes_integer, makes_semi}
use Rattle.um_statements.specs.CallRules.{is_large_bound, with_bound}
use Rattle.um_statements.specs.Made.{finite}
use Rattle.um_statements.specs.WellSaid.{IsEnds, set_end}
use Rattle.um_statements.proofs.Tests.{not_true, is_most}

abbrev IsSized : Option ℤ → Type 0
IsSized o = ForSome o (IsWithin (10 ^ 10))

zero_sized : IsSized (Some (pos 0))
zero_sized z e = let same : pos 0 ≡ z = cc in subst (IsWithin (10 ^ 10)) same (omega arith)

one_sized : IsSized (Some (pos 1000))
one_sized z e = let same : pos 1000 ≡ z = cc in subst (IsWithin (10 ^ 10)) same (omega arith)

end_sized : (kind : BoundKind) (value : Option Decimal) → option_map_or (is_large_bound kind) value false ≡ false → IsSized (finite (end_of kind value))
end_sized kind None fits = λ z e. cc
end_sized kind (Some v) fits = by (is_endless kind v) fits
  where
    by : (b : Bool) → (not b && not (is_within_at (10 ^ 10) 3 v)) ≡ false → IsSized (finite (if b then Infinite else Finite (times_ten v 3)))
    by true fits = λ z e. cc
    by false fits = λ z e. let same : times_ten v 3 ≡ z = cc in subst (IsWithin (10 ^ 10)) same (is_most _ (10 ^ 10) (not_true (is_within_at (10 ^ 10) 3 v) fits))

low_kept : (kind : BoundKind) (value : Option Decimal) (old : Option End) → IsSized (finite (end_of kind value)) → IsSized (set_end old) → IsSized (set_end (option_or (low_set kind value) old))
low_kept Lo value old new was = new
low_kept Li value old new was = new
low_kept Fx value old new was = new
low_kept Fr value old new was = λ z e. cc
low_kept Mi value old new was = λ z e. cc
low_kept Bv value old new was = zero_sized
low_kept other value old new was = was

high_kept : (kind : BoundKind) (value : Option Decimal) (old : Option End) → IsSized (finite (end_of kind value)) → IsSized (set_end old) → IsSized (set_end (option_or (high_set kind value) old))
high_kept Up value old new was = new
high_kept Ui value old new was = new
high_kept Fx value old new was = new
high_kept Sc value old new was = new
high_kept Fr value old new was = λ z e. cc
high_kept Pl value old new was = λ z e. cc
high_kept Bv value old new was = one_sized
high_kept other value old new was = was

threshold_kept : (kind : BoundKind) (value : Option Decimal) (old : Option End) → IsSized (finite (end_of kind value)) → IsSized (set_end old) → IsSized (set_end (option_or (threshold_set kind value) old))
threshold_kept Lo value old new was = new
threshold_kept other value old new was = was

one_of_both : (kind : BoundKind) → (makes_semi kind && makes_integer kind) ≡ false
one_of_both Sc = refl
one_of_both other = refl

unmixed_kept : (semi integer more_semi more_integer : Bool) → (semi && integer) ≡ false → ((more_semi && integer) || (more_integer && semi)) ≡ false → (more_semi && more_integer) ≡ false
    → ((semi || more_semi) && (integer || more_integer)) ≡ false
unmixed_kept true true c d x y z = absurd (true≢false x)
unmixed_kept true false c true x y z = absurd (true≢false (by c y))
  where
    by : (c : Bool) → ((c && false) || (true && true)) ≡ false → true ≡ false
    by true y = y
    by false y = y
unmixed_kept true false c false x y z = refl
unmixed_kept false b false d x y z = refl
unmixed_kept false true true d x y z = absurd (true≢false y)
unmixed_kept false false true true x y z = absurd (true≢false z)
unmixed_kept false false true false x y z = refl

pub bound_kept : (kind : BoundKind) (value : Option Decimal) (ends : Ends) → option_map_or (is_large_bound kind) value false ≡ false → ((makes_semi kind && ends.integer) || (makes_integer kind && ends.semi)) ≡ false → IsEnds ends → IsEnds (with_bound kind value ends)
bound_kept kind value ends fits unmixed is =
    let new = end_sized kind value fits in
    record {
      unmixed = unmixed_kept ends.semi ends.integer (makes_semi kind) (makes_integer kind) is.unmixed unmixed (one_of_both kind);
      low_size = low_kept kind value ends.low new is.low_size;
      high_size = high_kept kind value ends.high new is.high_size;
      threshold_size = threshold_kept kind value ends.threshold new is.threshold_size;
    }
