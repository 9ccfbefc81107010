-- The first item of a list that passes a test, where one item more stands behind.
use Rattle.std.proofs.Common.{◌≡◌, ℕ, suc, ◌+◌, Bool, true, false, not, cond, nat_lt, List, [], ◌∷◌, ◌++◌, length, position, Option, None, Some, option_map, refl, sym, ap, ◌∙◌, arith, if◌then◌else◌}
use Rattle.std.specs.List.{prefix_len}
use Rattle.std.specs.Option.{option_or}
use Rattle.std.proofs.lemmas.Bool.Decides.{nat_tests}

zero_less : (n : ℕ) → nat_lt 0 (suc n) ≡ true
zero_less n = grind (arith, nat_tests)

less_next : (m n : ℕ) → nat_lt (1 + m) (suc n) ≡ nat_lt m n
less_next m n = grind (arith, nat_tests)

module _ {X : Type 0} (p : X → Bool) where
  -- the first item, or that of the rest
  pub position_step : (x : X) (xs : List X) → position p (x ∷ xs) ≡ (if p x then Some 0 else option_map suc (position p xs))
  position_step x xs = by (p x)
    where
      m : ℕ
      m = prefix_len (λ y. not (p y)) xs

      next : (b : Bool) → cond b (Some (1 + m)) None ≡ option_map suc (cond b (Some m) None)
      next true = let same : 1 + m ≡ suc m = omega arith in ap (λ (n : ℕ). Some n) same
      next false = refl

      by : (b : Bool) → cond (nat_lt (cond (not b) (1 + m) 0) (suc (length xs))) (Some (cond (not b) (1 + m) 0)) None ≡ (if b then Some 0 else option_map suc (position p xs))
      by true = rw (zero_less (length xs)) refl
      by false = rw (less_next m (length xs)) (next (nat_lt m (length xs)))

  none_last : (x : X) → position p (x ∷ []) ≡ (if p x then Some 0 else None)
  none_last x = position_step x []

  pub position_push : (xs : List X) (x : X) → position p (xs ++ x ∷ []) ≡ option_or (position p xs) (if p x then Some (length xs) else None)
  position_push [] x = none_last x
  position_push (y ∷ ys) x = position_step y (ys ++ x ∷ []) ∙ (ap (λ (o : Option ℕ). if p y then Some 0 else option_map suc o) (position_push ys x) ∙ (by (p y) (position p ys) (p x) ∙ ap (λ (o : Option ℕ). option_or o (if p x then Some (suc (length ys)) else None)) (sym (position_step y ys))))
    where
      by : (b : Bool) (o : Option ℕ) (c : Bool) → (if b then Some 0 else option_map suc (option_or o (if c then Some (length ys) else None))) ≡ option_or (if b then Some 0 else option_map suc o) (if c then Some (suc (length ys)) else None)
      by true o c = refl
      by false (Some i) c = refl
      by false None true = refl
      by false None false = refl
