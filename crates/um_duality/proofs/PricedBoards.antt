-- When multipliers are those of a sum of a board's rows.
use Rattle.std.proofs.Common.{◌≡◌, ◌≢◌, ℕ, ◌+◌, ◌<◌, arith, ap, sym, subst, ◌∙◌, refl, ◌⊎◌, inl, inr, List, [], length}
use Rattle.std.specs.Prelude.{ℤ, pos, Option, Some, None, IsSome}
use Rattle.um_laws.specs.Rational.{Rational, whole, add, mul, neg}
use Rattle.um_laws.proofs.RationalOrder.{IsPositive}
use Rattle.um_laws.proofs.Ring.{nought, opp}
use Rattle.um_model.specs.Values.{DeckValue}
use Rattle.um_model.specs.Feasible.{coefficient}
use Rattle.um_model.specs.Boxes.{BoxValue}
use Rattle.um_lp.specs.Basis.{sum_below}
use Rattle.um_lp.specs.States.{State, width, slack, system, cost_of, at_of, state_ends_of, value_of, end_at, number_of_end}
use Rattle.um_lp.specs.Boards.{AreValues}
use Rattle.um_lp.specs.DualSteps.{IsDualFeasibleAt}
use Rattle.um_lp.specs.declared.board.At.{At}
use Rattle.um_lp.specs.declared.board.At.TheVariants.{Lower, Upper, Zero, Basic}
use Rattle.um_laws.proofs.RationalEquations.{by_ring}
use Rattle.um_lp.proofs.Sums.{sum-cong}
use Rattle.um_duality.specs.Laws.{IsOnBox}
use Rattle.um_duality.proofs.Wholes.{not_zero}
use Rattle.um_duality.proofs.LeafBridge.{Takes, IsPriced, column_at, number, reduced-cost-is}
use Rattle.um_duality.proofs.DeckBoards.{rows-is, slack-is, width-is, system-column}

-- ---- what a column takes

-- a column with the factor 0 takes nothing
pub takes-none : (factor value : Rational) (ends : Option ℤ × Option ℤ) → factor ≡ whole (pos 0) → Takes factor ends value
takes-none factor value ends e = record {
  above = λ p. absurd (not_zero factor e p);
  under = λ p. absurd (not_zero (neg factor) (ap neg e ∙ by_ring [] (opp nought) nought refl) p);
}

pub some_of : (o : Option ℤ) → IsSome o → (x : ℤ) × (o ≡ Some x)
some_of None h = absurd (cc)
some_of (Some x) h = (x, refl)

end_value : (value : Rational) (end o : Option ℤ) → value ≡ number_of_end o → o ≡ end → IsSome end → (l : ℤ) × (end ≡ Some l) × (value ≡ whole l)
end_value value end o e f some = let x = some_of end some in (x.0, x.1, e ∙ ap number_of_end (f ∙ x.1))

-- a nonbasic column stands at the end that its factor takes
pub takes-end : (s : State) (j : ℕ) (factor : Rational) → j < width s.frame → AreValues s → IsDualFeasibleAt s j → at_of s j ≢ Basic
    → (IsPositive factor → at_of s j ≡ Lower) → (IsPositive (neg factor) → at_of s j ≡ Upper) → Takes factor (state_ends_of s j) (value_of s j)
takes-end s j factor l values feasible nonbasic above under = record {
  above = λ p. end_value (value_of s j) (state_ends_of s j).0 (end_at (at_of s j) (state_ends_of s j)) (values.nonbasic j l nonbasic) (ap (λ (a : At). end_at a (state_ends_of s j)) (above p)) (feasible.lower (above p));
  under = λ p. end_value (value_of s j) (state_ends_of s j).1 (end_at (at_of s j) (state_ends_of s j)) (values.nonbasic j l nonbasic) (ap (λ (a : At). end_at a (state_ends_of s j)) (under p)) (feasible.upper (under p));
}

pub basic-or-not : (a : At) → (a ≡ Basic) ⊎ (a ≢ Basic)
basic-or-not Lower = inr (λ e. cc)
basic-or-not Upper = inr (λ e. cc)
basic-or-not Zero = inr (λ e. cc)
basic-or-not Basic = inl refl

-- ---- the multipliers

-- factors of columns and slacks that are those of a sum of rows: at the slacks the multipliers, and at each column what these make of it
pub record IsCombined (s : State) (y0 : ℤ) (numbers : List ℤ) (factor : ℕ → Rational) : Type 0 where
  pub count : length numbers ≡ s.frame.rows
  pub slacks : (i : ℕ) → i < s.frame.rows → whole (number numbers i) ≡ factor (slack s.frame i)
  pub columns : (j : ℕ) → j < width s.frame → factor j ≡ add (mul (whole y0) (cost_of s j)) (neg (sum_below s.frame.rows (λ i. mul (factor (slack s.frame i)) (system s i j))))

-- y0 times the board's costs are y0 times those of the deck: the board takes the given costs, or y0 is 0
abbrev pub HasCostsTimes : DeckValue → State → ℤ → Type 0
HasCostsTimes d s y0 = (j : ℕ) → j < length d.columns → mul (whole y0) (whole (column_at d j).cost) ≡ mul (whole y0) (cost_of s j)

pub priced-board : (d : DeckValue) (b : BoxValue) (s : State) (y0 : ℤ) (numbers : List ℤ) (factor value : ℕ → Rational) → IsOnBox d b s → HasCostsTimes d s y0 → IsCombined s y0 numbers factor
    → ((j : ℕ) → j < width s.frame → Takes (factor j) (state_ends_of s j) (value j)) → IsPriced d b y0 numbers factor value
priced-board d b s y0 numbers factor value on costs combined takes =
    let rows : s.frame.rows ≡ length d.rows = rows-is d s on.stands in
    let wide : width s.frame ≡ length d.columns + length d.rows = width-is d s on.stands in
    record {
      arcs = on.arcs;
      count = combined.count ∙ rows;
      columns = λ j l.
          reduced-cost-is y0 numbers (column_at d j)
          ∙ ap (λ (x : Rational). add x (neg (sum_below (length numbers) (λ i. mul (whole (number numbers i)) (whole (coefficient i (column_at d j))))))) (costs j l)
          ∙ ap (λ (x : Rational). add (mul (whole y0) (cost_of s j)) (neg x))
          (ap (λ (k : ℕ). sum_below k (λ i. mul (whole (number numbers i)) (whole (coefficient i (column_at d j))))) combined.count
          ∙ sum-cong s.frame.rows _ _ (λ i q. ap (λ (x : Rational). mul x (whole (coefficient i (column_at d j)))) (combined.slacks i q) ∙ ap (mul (factor (slack s.frame i))) (sym (system-column d s on.stands i j l))))
          ∙ sym (combined.columns j (omega arith));
      slacks = λ i l. combined.slacks i (omega arith) ∙ ap factor (slack-is d s on.stands i);
      takes = λ j l. (let q : j < width s.frame = omega arith in subst (λ (x : Option ℤ × Option ℤ). Takes (factor j) x (value j)) (on.boxed j q) (takes j q));
    }
