-- One bound more, in the ends of a column.
use Rattle.std.proofs.Common.{◌≡◌, Bool, true, false, ◌||◌, List, [], ◌∷◌, ◌++◌, Option, None, Some, refl, ap, ◌∙◌}
use Rattle.std.specs.List.{filter_map, list_any, last_or, cons_option}
use Rattle.std.specs.Option.{option_or}
use Rattle.std.proofs.lemmas.List.{append-nil}
use Rattle.std.proofs.lemmas.List.Elements.{filter_map-append}
use Rattle.um_num.specs.declared.decimal.Decimal.{Decimal}
use Rattle.um_statements.specs.declared.parts.BoundKind.{BoundKind}
use Rattle.um_statements.specs.Said.{ends_of, low_set, high_set, threshold_set, makes_fall, makes_integer, makes_semi}
use Rattle.um_statements.specs.CallRules.{with_bound, bare_ends}

-- ---- lists

any_push : {X : Type 0} (p : X → Bool) (xs : List X) (x : X) → list_any p (xs ++ x ∷ []) ≡ (list_any p xs || p x)
any_push p [] x = by (p x)
  where
    by : (b : Bool) → (b || false) ≡ b
    by true = refl
    by false = refl
any_push p (y ∷ xs) x = by (p y) (any_push p xs x)
  where
    by : (b : Bool) → list_any p (xs ++ x ∷ []) ≡ (list_any p xs || p x) → (b || list_any p (xs ++ x ∷ [])) ≡ ((b || list_any p xs) || p x)
    by true rest = refl
    by false rest = rest

pub last_push : {X : Type 0} (o : Option X) (xs : List X) (x : X) → last_or o (xs ++ x ∷ []) ≡ Some x
last_push o [] x = refl
last_push o (y ∷ xs) x = last_push (Some y) xs x

pub last_of_push : {X Y : Type 0} (f : X → Option Y) (xs : List X) (x : X) → last_or None (filter_map f (xs ++ x ∷ [])) ≡ option_or (f x) (last_or None (filter_map f xs))
last_of_push {Y = Y} f xs x = ap (last_or None) (filter_map-append f xs (x ∷ [])) ∙ by (f x)
  where
    by : (o : Option Y) → last_or None (filter_map f xs ++ cons_option o []) ≡ option_or o (last_or None (filter_map f xs))
    by None = ap (last_or None) (append-nil (filter_map f xs))
    by (Some y) = last_push None (filter_map f xs) y

or_assoc : (a b c : Bool) → (a || (b || c)) ≡ ((a || b) || c)
or_assoc true b c = refl
or_assoc false b c = refl

-- ---- ends

pub ends-law : (in_block : Bool) (bounds : List (BoundKind × Option Decimal)) (kind : BoundKind) (value : Option Decimal)
    → ends_of in_block (bounds ++ (kind, value) ∷ []) ≡ with_bound kind value (ends_of in_block bounds)
ends-law in_block bounds kind value =
    rw (
      any_push (λ (b : BoundKind × Option Decimal). makes_integer b.0) bounds (kind, value),
      any_push (λ (b : BoundKind × Option Decimal). makes_semi b.0) bounds (kind, value),
      any_push (λ (b : BoundKind × Option Decimal). makes_fall b.0 b.1) bounds (kind, value),
      last_of_push (λ (b : BoundKind × Option Decimal). low_set b.0 b.1) bounds (kind, value),
      last_of_push (λ (b : BoundKind × Option Decimal). high_set b.0 b.1) bounds (kind, value),
      last_of_push (λ (b : BoundKind × Option Decimal). threshold_set b.0 b.1) bounds (kind, value),
      or_assoc in_block (list_any (λ (b : BoundKind × Option Decimal). makes_integer b.0) bounds) (makes_integer kind),
    ) refl

pub no_bounds : (in_block : Bool) → ends_of in_block [] ≡ bare_ends in_block
no_bounds true = refl
no_bounds false = refl
