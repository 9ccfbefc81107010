-- A run that comes back to its statuses gains nothing, so its reduced costs stay.
use Rattle.std.proofs.Common.{◌≡◌, ◌≢◌, ℕ, ◌<◌, ◌≤◌, arith, ap, sym, ◌∙◌, subst, refl, [], ◌∷◌, length}
use Rattle.std.specs.Prelude.{pos, zero, suc}
use Rattle.um_laws.specs.Rational.{Rational, whole, add, mul, neg}
use Rattle.um_laws.proofs.Ring.{var, nought, ◌⊕◌, opp}
use Rattle.um_laws.proofs.RationalOrder.{IsNonNegative}
use Rattle.um_lp.specs.Basis.{sum_below, Solves}
use Rattle.um_lp.specs.Boards.{IsBoard}
use Rattle.um_lp.specs.DualSteps.{IsStep}
use Rattle.um_lp.specs.States.{State, width, system, cost_of, basic_of, at_of, state_ends_of, entry_of, reduced_of, value_of, end_at, number_of_end}
use Rattle.um_lp.specs.declared.board.At.{At}
use Rattle.um_lp.specs.declared.board.At.TheVariants.{Basic}
use Rattle.um_laws.proofs.RationalEquations.{by_ring, difference_zero}
use Rattle.um_lp.proofs.Solutions.{tableau-solutions-law}
use Rattle.um_lp.proofs.Sums.{sum-cong}
use Rattle.um_lp.proofs.Unique.{values_unique}
use Rattle.um_dual.proofs.Gains.{times, gain, gain_not_below, gain_none, objective, reduced_stay}
use Rattle.um_dual.proofs.Sided.{all_zero}
use Rattle.um_dual.proofs.Traces.{norm, Run}

-- the values of one board solve the rows of another over the same frame
pub solve_each : (s a b : State) → IsBoard (norm s a) → IsBoard (norm s b) → Solves s.frame.rows (width s.frame) (entry_of (norm s a)) (value_of (norm s b))
solve_each s a b ba bb =
    (tableau-solutions-law s.frame.rows (width s.frame) (length s.frame.columns) (system (norm s a)) (basic_of a) (entry_of a) (value_of b) ba.tableau).1
    ((tableau-solutions-law s.frame.rows (width s.frame) (length s.frame.columns) (system (norm s a)) (basic_of b) (entry_of b) (value_of b) bb.tableau).0 bb.values.basic)

-- a nonbasic column that stands alike in two boards has one value
pub value_alike : (s a b : State) → IsBoard (norm s a) → IsBoard (norm s b) → (j : ℕ) → j < width s.frame → at_of a j ≢ Basic → at_of b j ≡ at_of a j → value_of b j ≡ value_of a j
value_alike s a b ba bb j l d e =
    bb.values.nonbasic j l (λ q. d (sym e ∙ q)) ∙ ap (λ (x : At). number_of_end (end_at x (state_ends_of s j))) e ∙ sym (ba.values.nonbasic j l d)

telescope : (n : ℕ) (z : ℕ → Rational) → sum_below n (λ k. add (z k) (neg (z (suc k)))) ≡ add (z 0) (neg (z n))
telescope zero z = by_ring (z 0 ∷ []) nought (var 0 ⊕ opp (var 0)) refl
telescope (suc n) z =
    ap (λ (x : Rational). add x (add (z n) (neg (z (suc n))))) (telescope n z)
    ∙ by_ring (z 0 ∷ z n ∷ z (suc n) ∷ []) ((var 0 ⊕ opp (var 1)) ⊕ (var 1 ⊕ opp (var 2))) (var 0 ⊕ opp (var 2)) refl

module _ (s : State) (n : ℕ) (st : ℕ → State) (run : Run s n st) where
  abbrev pub step : (k : ℕ) → k < n → IsStep (norm s (st (suc k))) (norm s (st k))
  step k l = record { row = run.row k; column = run.column k; to = run.to k; next = run.next k l; pivot = run.pivot k l }

  module _ (again : (j : ℕ) → at_of (st 0) j ≡ at_of (st n) j) where
    value_same : (j : ℕ) → j < width s.frame → value_of (st 0) j ≡ value_of (st n) j
    value_same =
        values_unique _ _ (length s.frame.columns) (system s) (basic_of (st n)) (entry_of (st n)) (value_of (st 0)) (value_of (st n)) (run.board n).tableau
        (solve_each s (st n) (st 0) (run.board n) (run.board 0)) (run.board n).values.basic
        (λ j l none. value_alike s (st n) (st 0) (run.board n) (run.board 0) j l (λ e. (let r = (run.board n).basis.found j l e in none r.0 r.1 r.2)) (again j))

    -- what the objective is
    abbrev z : ℕ → Rational
    z k = times (width s.frame) (cost_of s) (value_of (st k))

    abbrev g : ℕ → Rational
    g k = add (z k) (neg (z (suc k)))

    abbrev gain_at : (k : ℕ) → k < n → Rational
    gain_at k l = gain s (st (suc k)) (st k) (run.board (suc k)) (run.feasible (suc k)) (run.board k) (step k l)

    gain_is : (k : ℕ) (l : k < n) → g k ≡ gain_at k l
    gain_is k l =
        ap (λ (x : Rational). add x (neg (z (suc k)))) (objective s (st (suc k)) (st k) (run.board (suc k)) (run.feasible (suc k)) (run.board k) (step k l))
        ∙ by_ring (z (suc k) ∷ gain_at k l ∷ []) ((var 0 ⊕ var 1) ⊕ opp (var 0)) (var 1) refl

    gain_zero : (k : ℕ) (l : k < n) → gain_at k l ≡ whole (pos 0)
    gain_zero k l =
        sym (gain_is k l)
        ∙ all_zero n g (λ i li. subst (λ (x : Rational). IsNonNegative x) (sym (gain_is i li)) (gain_not_below s (st (suc i)) (st i) (run.board (suc i)) (run.feasible (suc i)) (run.board i) (step i li)))
        (telescope n z ∙ difference_zero (z 0) (z n) (sum-cong (width s.frame) _ _ (λ j l. ap (mul (cost_of s j)) (value_same j l)))) k l

    -- the entering columns have the reduced cost 0
    pub entering_zero : (k : ℕ) (l : k < n) → reduced_of (st (suc k)) (run.column k) ≡ whole (pos 0)
    entering_zero k l = gain_none s (st (suc k)) (st k) (run.board (suc k)) (run.feasible (suc k)) (run.board k) (step k l) (gain_zero k l)

    -- the reduced costs stay
    pub one_reduced : (k : ℕ) → k ≤ n → (j : ℕ) → j < width s.frame → reduced_of (st 0) j ≡ reduced_of (st k) j
    one_reduced zero l j lj = refl
    one_reduced (suc k) l j lj =
        one_reduced k (omega arith) j lj
        ∙ reduced_stay s (st (suc k)) (st k) (run.board (suc k)) (run.feasible (suc k)) (run.board k) (step k (omega arith)) (entering_zero k (omega arith)) j lj
