-- Examples: a small state is not wide, a state with a large number is, and a common denominator.
use Rattle.std.proofs.Common.{◌≡◌, ◌-◌, ◌^◌, [], ◌∷◌, true, false, refl, Some}
use Rattle.std.specs.Prelude.{pos, negsuc}
use Rattle.um_laws.specs.Divisors.{gcd}
use Rattle.um_laws.specs.Rational.{Rational, reduce}
use Rattle.um_lp.specs.States.{State}
use Rattle.um_lp.specs.WideStates.{common_denominator, is_wide}
use Rattle.um_lp.specs.declared.board.At.TheVariants.{Lower, Basic}
use Rattle.um_lp.specs.declared.board.Costs.TheVariants.{Given}

-- no board's state: only the sizes of its numbers count here
state_with : Rational → State
state_with cost = record {
  frame = record { rows = 1; columns = record { cost = pos 1; terms = [] } ∷ []; places = 0 };
  placed = [];
  costs = Given;
  basic = 1 ∷ [];
  at = Lower ∷ Basic ∷ [];
  ends = (Some (pos 0), Some (pos 0)) ∷ (Some (pos 0), Some (pos 0)) ∷ [];
  entries = (reduce (pos 1) 2 ∷ reduce (negsuc 0) 1 ∷ []) ∷ [];
  reduced = cost ∷ reduce (pos 0) 1 ∷ [];
  values = reduce (pos 0) 1 ∷ reduce (pos 0) 1 ∷ [];
}

-- halves, thirds and quarters are all twelfths
twelfths : common_denominator (reduce (pos 1) 2 ∷ reduce (negsuc 1) 3 ∷ reduce (pos 6) 8 ∷ []) ≡ 12
unfolding reduce gcd
twelfths = refl

small : is_wide (state_with (reduce (pos 7) 3)) ≡ false
unfolding is_wide reduce gcd state_with
small = refl

large : is_wide (state_with (reduce (pos (2 ^ 62)) 1)) ≡ true
unfolding is_wide reduce gcd state_with
large = refl

-- 2^61 is below 2^62, and twice 2^61 over the common denominator 2 is not
large_over_two : is_wide (state_with (reduce (pos (2 ^ 61)) 1)) ≡ true
unfolding is_wide reduce gcd state_with
large_over_two = refl

-- below that over the common denominator
just_small : is_wide (state_with (reduce (negsuc (2 ^ 61 - 2)) 1)) ≡ false
unfolding is_wide reduce gcd state_with
just_small = refl
