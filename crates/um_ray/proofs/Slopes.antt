-- Sums of numbers times the parts of a direction, as sums over the values of a board.
use Rattle.std.proofs.Common.{◌≡◌, ℕ, ◌+◌, ◌<◌, arith, ap, sym, ◌∙◌, refl, [], ◌∷◌, length}
use Rattle.std.specs.Prelude.{ℤ, pos}
use Rattle.std.proofs.lemmas.Int.{ints}
use Rattle.std.proofs.lemmas.List.{length-take-le}
use Rattle.um_laws.specs.Rational.{Rational, whole, add, mul}
use Rattle.um_laws.specs.Sums.{dot}
use Rattle.um_laws.proofs.RationalOrder.{IsPositive}
use Rattle.um_laws.proofs.RationalEquations.{by_ring}
use Rattle.um_laws.proofs.Ring.{var, nought, ◌⊕◌, ◌⊗◌}
use Rattle.um_model.specs.Values.{DeckValue, ColumnValue}
use Rattle.um_model.specs.Boxes.{root}
use Rattle.um_model.specs.Feasible.{part}
use Rattle.um_lp.specs.Basis.{sum_below}
use Rattle.um_lp.specs.States.{State, width, slack, value_of, cost_of}
use Rattle.um_lp.specs.WideStates.{common_denominator}
use Rattle.um_lp.proofs.Denominators.{denominator_positive}
use Rattle.um_lp.proofs.Sums.{sum-cong, sum-mul, sum-none}
use Rattle.um_duality.specs.Laws.{IsOnBox}
use Rattle.um_duality.specs.Relaxed.{StandsFor}
use Rattle.um_duality.proofs.DeckBoards.{columns-is, slack-is, width-is, cost-column, cost-slack}
use Rattle.um_duality.proofs.LeafBridge.{column_at, no_column}
use Rattle.um_duality.proofs.ListSums.{sum-split, whole-dot}
use Rattle.um_duality.proofs.Multiples.{multiples-length, multiple-is, at_take}
use Rattle.um_duality.proofs.Wholes.{whole-positive}
use Rattle.um_lp.specs.declared.board.Costs.TheVariants.{Given}
use Rattle.um_ray.specs.Directions.{directions}
use Rattle.um_ray.specs.Rays.{column_values, direction, slope}
use Rattle.um_ray.proofs.MovingEnds.{stands_on_deck}

-- the least common denominator of the columns' values
abbrev pub scale : State → Rational
scale t = whole (pos (common_denominator (column_values t)))

pub scale-above : (t : State) → IsPositive (scale t)
scale-above t = let h = denominator_positive (column_values t) in whole-positive (pos (common_denominator (column_values t))) (omega (arith, ints))

module _ (d : DeckValue) (t : State) (on : IsOnBox (directions d) (root (directions d)) t) where
  abbrev n : ℕ
  n = length d.columns

  stands : StandsFor d t
  stands = stands_on_deck d t on.stands

  values-length : length (column_values t) ≡ n
  values-length = length-take-le (length t.frame.columns) t.values (omega (arith, on.board.shape.values)) ∙ columns-is d t stands

  pub direction-length : length (direction t) ≡ n
  direction-length = multiples-length (column_values t) ∙ values-length

  -- a part is the column's value times the denominator
  pub part-is : (j : ℕ) → j < n → whole (part (direction t) j) ≡ mul (scale t) (value_of t j)
  part-is j l =
      multiple-is (column_values t) j (omega (arith, values-length))
      ∙ ap (mul (scale t)) (at_take (length t.frame.columns) t.values j (whole (pos 0)) (omega (arith, columns-is d t stands)))

  pub dot-is : (f : ColumnValue → ℤ) → whole (dot f d.columns (direction t)) ≡ mul (scale t) (sum_below n (λ j. mul (whole (f (column_at d j))) (value_of t j)))
  dot-is f =
      whole-dot f d.columns (direction t) no_column direction-length
      ∙ sum-cong n _ (λ j. mul (scale t) (mul (whole (f (column_at d j))) (value_of t j))) (λ j l.
      ap (mul (whole (f (column_at d j)))) (part-is j l)
      ∙ by_ring (whole (f (column_at d j)) ∷ scale t ∷ value_of t j ∷ []) (var 0 ⊗ (var 1 ⊗ var 2)) (var 1 ⊗ (var 0 ⊗ var 2)) refl)
      ∙ sum-mul n (scale t) (λ j. mul (whole (f (column_at d j))) (value_of t j))

  -- slacks cost nothing
  costs-are : t.costs ≡ Given → sum_below (width t.frame) (λ j. mul (cost_of t j) (value_of t j)) ≡ sum_below n (λ j. mul (whole (column_at d j).cost) (value_of t j))
  costs-are given =
      let charged : ℕ → Rational = λ j. mul (cost_of t j) (value_of t j) in
      ap (λ (m : ℕ). sum_below m charged) (width-is d t stands) ∙ sum-split n (length d.rows) charged
      ∙ ap (add (sum_below n charged)) (sum-none (length d.rows) (λ i. charged (n + i)) (λ i l.
      ap charged (sym (slack-is d t stands i)) ∙ ap (λ (x : Rational). mul x (value_of t (slack t.frame i))) (cost-slack d t stands i l)
      ∙ by_ring (value_of t (slack t.frame i) ∷ []) (nought ⊗ var 0) nought refl))
      ∙ by_ring (sum_below n charged ∷ []) (var 0 ⊕ nought) (var 0) refl
      ∙ sum-cong n _ _ (λ j l. ap (λ (x : Rational). mul x (value_of t j)) (cost-column d t stands given j l))

  pub slope-is : t.costs ≡ Given → whole (slope d t) ≡ mul (scale t) (sum_below (width t.frame) (λ j. mul (cost_of t j) (value_of t j)))
  slope-is given = dot-is (λ (c : ColumnValue). c.cost) ∙ ap (mul (scale t)) (sym (costs-are given))
