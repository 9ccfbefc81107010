-- Bytes that are told, or not, and more bytes behind them.
use Rattle.std.proofs.Common.{◌≡◌, ℕ, List, ◌++◌, Option, Some, None, option_map, ap, ◌∙◌, append_assoc, IsSomeAnd}

-- bytes behind what was there, and then more
pub added_twice : (o p q : Option (List ℕ)) (xs ys : List ℕ) → p ≡ option_map (λ h. h ++ xs) o → q ≡ option_map (λ h. h ++ ys) p → q ≡ option_map (λ h. h ++ (xs ++ ys)) o
added_twice None p q xs ys e f = f ∙ ap (option_map (λ (h : List ℕ). h ++ ys)) e
added_twice (Some h) p q xs ys e f = f ∙ ap (option_map (λ (h : List ℕ). h ++ ys)) e ∙ ap Some (append_assoc h xs ys)

-- bytes in place of what was there, and then more
pub set_then_added : (o p q : Option (List ℕ)) (xs ys : List ℕ) → p ≡ option_map (λ _. xs) o → q ≡ option_map (λ h. h ++ ys) p → q ≡ option_map (λ _. xs ++ ys) o
set_then_added None p q xs ys e f = f ∙ ap (option_map (λ (h : List ℕ). h ++ ys)) e
set_then_added (Some h) p q xs ys e f = f ∙ ap (option_map (λ (h : List ℕ). h ++ ys)) e

-- an option whose value is known
pub is_some_of : (o : Option (List ℕ)) (xs : List ℕ) → IsSomeAnd o (λ x. x ≡ xs) → o ≡ Some xs
is_some_of None xs h = absurd h
is_some_of (Some x) xs h = ap Some h
