-- Without costs the multipliers that are read from a board are 1 and none.
use Rattle.std.proofs.Common.{◌≡◌, ◌∙◌, ℕ, suc, ◌+◌, ◌*◌, ◌<◌, List, [], ◌∷◌, length, get_or, refl, sym, ap, arith}
use Rattle.std.specs.Prelude.{ℤ, pos, ◌*ℤ◌, ◌/◌, unsigned_abs, map, nat_eq, slice_index_or, if◌then◌else◌}
use native.Mathlib.Nat.{eq-one_of_dvd-one}
use Rattle.um_laws.proofs.Places.{item_at, item_of}
use Rattle.um_lp.proofs.Denominators.{denominator_divides, divides_from}
use Rattle.std.proofs.lemmas.Int.{ints}
use Rattle.um_laws.specs.Rational.{Rational, whole}
use Rattle.um_num.specs.NumberLists.{number_at}
use Rattle.um_multipliers.specs.declared.multipliers.Price.{Price}
use Rattle.um_lp.specs.States.{State, slack}
use Rattle.um_lp.specs.Boards.{IsBoard}
use Rattle.um_lp.specs.WideStates.{common_denominator}
use Rattle.um_lp.specs.declared.board.Costs.TheVariants.{Nothing}
use Rattle.um_lp.proofs.Orders.{whole_num, whole_den}
use Rattle.um_lp.proofs.Resets.{no_costs}
use Rattle.um_duality.specs.Readings.{slack_costs, multipliers}
use Rattle.um_duality.specs.WholeMultiples.{times, whole_multiples, prices_from}
use Rattle.um_duality.proofs.ReadNumbers.{costs-length, cost-is}
use Rattle.um_solving.specs.Laws.{NoCostsVertexLaw}
use Rattle.um_relax.proofs.Runs.{same-costs-law}

-- each number of the list is 0
abbrev AreZeros : List Rational → Type 0
AreZeros xs = (i : ℕ) → i < length xs → number_at xs i ≡ whole (pos 0)

later : (x : Rational) (xs : List Rational) → AreZeros (x ∷ xs) → AreZeros xs
later x xs h i l = h (suc i) (omega (arith, l))

-- whatever stands past the end
with_default : (xs : List Rational) (i : ℕ) (x : Rational) → i < length xs → slice_index_or xs i x ≡ number_at xs i
with_default xs i x l = let c = item_at xs i l in let at = item_of xs i c.0 c.1 in at.is x ∙ sym (at.is (whole (pos 0)))

one_over_zeros : (xs : List Rational) → AreZeros xs → common_denominator xs ≡ 1
one_over_zeros xs h = eq-one_of_dvd-one (denominator_divides xs 1 (λ i x l. divides_from (get_or xs i x).den 1 1 (one_of i x l)))
  where
    one_of : (i : ℕ) (x : Rational) → i < length xs → 1 ≡ (get_or xs i x).den * 1
    one_of i x l =
        let e : (get_or xs i x).den ≡ 1 = ap (λ (y : Rational). y.den) (with_default xs i x l ∙ h i l) ∙ whole_den (pos 0) in
        omega (arith, e)

no_prices : (m row : ℕ) (xs : List Rational) → AreZeros xs → prices_from row (map (times m) xs) ≡ []
no_prices m row [] h = refl
no_prices m row (x ∷ xs) h =
    let none : times m x ≡ pos 0 = ap (λ (z : ℤ). z *ℤ pos (m / x.den)) (ap (λ (y : Rational). y.num) (h 0 (omega arith)) ∙ whole_num (pos 0)) ∙ nothing (pos (m / x.den)) in
    ap (λ (z : ℤ). if nat_eq (unsigned_abs z) 0 then prices_from (row + 1) (map (times m) xs) else record { row = row; value = z } ∷ prices_from (row + 1) (map (times m) xs)) none
    ∙ no_prices m (row + 1) xs (later x xs h)
  where
    nothing : (z : ℤ) → pos 0 *ℤ z ≡ pos 0
    nothing z = omega (arith, ints)

-- the slacks have no reduced costs
zeros : (s : State) → IsBoard s → s.costs ≡ Nothing → AreZeros (slack_costs s)
zeros s board none i l =
    let count = costs-length s board.shape in
    let inside : i < s.frame.rows = omega (arith, count, l) in
    cost-is s board.shape i inside ∙ no_costs s board none (slack s.frame i) (omega (arith, inside))

one_and_none : (s : State) → IsBoard s → s.costs ≡ Nothing → multipliers s ≡ record { y0 = pos 1; rows = [] }
one_and_none s board none =
    let h = zeros s board none in
    ap (λ (n : ℕ). record { y0 = pos n; rows = prices_from 0 (whole_multiples (slack_costs s)) }) (one_over_zeros (slack_costs s) h)
    ∙ ap (λ (ps : List Price). record { y0 = pos 1; rows = ps }) (no_prices (common_denominator (slack_costs s)) 0 (slack_costs s) h)

pub no-costs-vertex-law : NoCostsVertexLaw
no-costs-vertex-law d b before pivots s p y stands none h = h.multipliers ∙ one_and_none s h.run.board (same-costs-law d b before pivots s h.run ∙ none)
