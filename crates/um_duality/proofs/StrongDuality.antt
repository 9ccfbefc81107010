-- The bound of the multipliers of a dual feasible board is the objective of its vertex.
use Rattle.std.proofs.Common.{◌≡◌, ◌≢◌, ℕ, ◌+◌, ◌*◌, ◌^◌, ◌<◌, arith, ap, sym, ◌∙◌, refl, ◌⊎◌, inl, inr, List, [], ◌∷◌, length}
use Rattle.std.specs.Prelude.{ℤ, pos, ◌+ℤ◌, ◌*ℤ◌, None, zero, suc}
use Rattle.std.proofs.lemmas.Int.{ints}
use lib.IntN.{pos-*ℤ-pos}
use Rattle.um_laws.specs.Rational.{Rational, whole, add, mul, neg, inverse}
use Rattle.um_laws.proofs.RationalField.{mul_inverse}
use Rattle.um_laws.proofs.RationalOrder.{IsPositive}
use Rattle.um_laws.proofs.Ring.{var, nought, unit, ◌⊕◌, ◌⊗◌, opp}
use Rattle.um_laws.proofs.WholeLaws.{times_pos}
use Rattle.um_model.specs.Values.{DeckValue, ColumnValue}
use Rattle.um_model.specs.Boxes.{BoxValue}
use Rattle.um_model.specs.Objective.{cost_sum, objective, objective_times}
use Rattle.um_model.specs.LeafValue.{leaf_total, leaf_bound}
use Rattle.um_lp.specs.Basis.{sum_below}
use Rattle.um_lp.specs.States.{State, width, slack, system, cost_of, at_of, state_ends_of, reduced_of, value_of}
use Rattle.um_lp.specs.WideStates.{common_denominator}
use Rattle.um_lp.specs.declared.board.At.TheVariants.{Basic}
use Rattle.um_lp.specs.declared.board.Costs.TheVariants.{Given}
use Rattle.um_laws.proofs.RationalEquations.{by_ring}
use Rattle.um_lp.proofs.Denominators.{denominator_positive}
use Rattle.um_lp.proofs.Orders.{whole_num}
use Rattle.um_lp.proofs.Sums.{sum-cong, sum-mul, sum-none, sum-scaled}
use Rattle.um_duality.specs.Laws.{IsOnBox, StrongDualityLaw}
use Rattle.um_duality.specs.Readings.{slack_costs, natural_values, multipliers, vertex}
use Rattle.um_duality.specs.WholeMultiples.{whole_multiples}
use Rattle.um_duality.proofs.Wholes.{whole-add, whole-mul, whole-positive, num-under, factor-above, factor-under}
use Rattle.um_duality.proofs.Combinations.{reduced-within, reduced-basic, reduced-solved}
use Rattle.um_duality.proofs.DeckBoards.{rows-is, columns-is, slack-is, width-is, cost-column, cost-slack}
use Rattle.um_duality.proofs.LeafBridge.{Takes, IsPriced, column_at, leaf-value-is, leaf-total-is}
use Rattle.um_duality.proofs.ListSums.{sum-split}
use Rattle.um_duality.proofs.Multiples.{multiples-length, multiple-is, reduce-is}
use Rattle.um_duality.proofs.PricedBoards.{IsCombined, priced-board, takes-none, takes-end, basic-or-not}
use Rattle.um_duality.proofs.ReadNumbers.{thousandth, thousand-times, costs-length, cost-is, dot-is, no-squares}

-- a power of ten is above 0
power-positive : (k : ℕ) → 0 < 10 ^ k
power-positive zero = omega arith
power-positive (suc k) = let h = power-positive k in omega arith

-- products of naturals as rational numbers
whole-product : (a b : ℕ) → whole (pos (a * b)) ≡ mul (whole (pos a)) (whole (pos b))
whole-product a b = ap whole (sym (pos-*ℤ-pos a b)) ∙ whole-mul (pos a) (pos b)

module _ (d : DeckValue) (b : BoxValue) (s : State) (on : IsOnBox d b s) (given : s.costs ≡ Given) where
  abbrev w : ℕ
  w = width s.frame

  abbrev y0 : ℕ
  y0 = common_denominator (slack_costs s)

  abbrev k : Rational
  k = whole (pos y0)

  abbrev numbers : List ℤ
  numbers = whole_multiples (slack_costs s)

  abbrev factor : ℕ → Rational
  factor j = mul k (reduced_of s j)

  above : IsPositive k
  above = whole-positive (pos y0) (let h = denominator_positive (slack_costs s) in omega (arith, ints))

  free : (i : ℕ) → i < s.frame.rows → cost_of s (slack s.frame i) ≡ whole (pos 0)
  free i l = cost-slack d s on.stands i (omega (arith, rows-is d s on.stands))

  combined : IsCombined s (pos y0) numbers factor
  combined = record {
    count = multiples-length (slack_costs s) ∙ costs-length s on.board.shape;
    slacks = λ i l. multiple-is (slack_costs s) i (omega (arith, costs-length s on.board.shape)) ∙ ap (mul k) (cost-is s on.board.shape i l);
    columns = λ j l.
        ap (mul k) (reduced-within s.frame.rows w (length s.frame.columns) _ _ _ on.board.tableau (cost_of s) (reduced_of s) on.board.reduced (λ i q. omega arith) free j l)
        ∙ by_ring (k ∷ cost_of s j ∷ sum_below s.frame.rows (λ i. mul (reduced_of s (slack s.frame i)) (system s i j)) ∷ []) (var 0 ⊗ (var 1 ⊕ opp (var 2))) (var 0 ⊗ var 1 ⊕ opp (var 0 ⊗ var 2)) refl
        ∙ ap (λ (x : Rational). add (mul k (cost_of s j)) (neg x)) (sym (sum-mul s.frame.rows k (λ i. mul (reduced_of s (slack s.frame i)) (system s i j)))
        ∙ sum-cong s.frame.rows _ _ (λ i q. by_ring (k ∷ reduced_of s (slack s.frame i) ∷ system s i j ∷ []) (var 0 ⊗ (var 1 ⊗ var 2)) ((var 0 ⊗ var 1) ⊗ var 2) refl));
  }

  takes-all : (j : ℕ) → j < w → Takes (factor j) (state_ends_of s j) (value_of s j)
  takes-all j l = go (basic-or-not (at_of s j))
    where
      go : (at_of s j ≡ Basic) ⊎ (at_of s j ≢ Basic) → Takes (factor j) (state_ends_of s j) (value_of s j)
      go (inl h) =
          let f = on.board.basis.found j l h in
          takes-none (factor j) (value_of s j) (state_ends_of s j) (ap (mul k) (ap (reduced_of s) (sym f.2)
          ∙ reduced-basic s.frame.rows w (length s.frame.columns) _ _ _ on.board.tableau (cost_of s) (reduced_of s) on.board.reduced f.0 f.1)
          ∙ by_ring (k ∷ []) (var 0 ⊗ nought) nought refl)
      go (inr h) =
          takes-end s j (factor j) l on.board.values (on.feasible j l) h
          (λ p. (on.feasible j l).positive h (factor-above k (reduced_of s j) above p))
          (λ p. (on.feasible j l).negative h (num-under (reduced_of s j) (factor-under k (reduced_of s j) above p)))

  priced : IsPriced d b (pos y0) numbers factor (value_of s)
  priced = priced-board d b s (pos y0) numbers factor (value_of s) on (λ j l. ap (mul k) (sym (cost-column d s on.stands given j l))) combined takes-all

  -- what the columns cost
  abbrev cost : Rational
  cost = sum_below (length d.columns) (λ j. mul (whole (column_at d j).cost) (value_of s j))

  costs-are : sum_below w (λ j. mul (cost_of s j) (value_of s j)) ≡ cost
  costs-are =
      let part : ℕ → Rational = λ j. mul (cost_of s j) (value_of s j) in
      let nothing : sum_below (length d.rows) (λ i. part (length d.columns + i)) ≡ whole (pos 0) =
      sum-none (length d.rows) (λ i. part (length d.columns + i)) (λ i l.
      ap part (sym (slack-is d s on.stands i)) ∙ ap (λ (x : Rational). mul x (value_of s (slack s.frame i))) (cost-slack d s on.stands i l)
      ∙ by_ring (value_of s (slack s.frame i) ∷ []) (nought ⊗ var 0) nought refl) in
      ap (λ (m : ℕ). sum_below m part) (width-is d s on.stands) ∙ sum-split (length d.columns) (length d.rows) part
      ∙ ap (add (sum_below (length d.columns) part)) nothing
      ∙ by_ring (sum_below (length d.columns) part ∷ []) (var 0 ⊕ nought) (var 0) refl
      ∙ sum-cong (length d.columns) _ _ (λ j l. ap (λ (x : Rational). mul x (value_of s j)) (cost-column d s on.stands given j l))

  abbrev constant : Rational
  constant = whole d.constant

  abbrev thousand : Rational
  thousand = whole (pos 1000)

  total-is : whole (leaf_total d b (multipliers s)) ≡ mul k (add cost (mul thousand constant))
  total-is =
      let part : ℕ → Rational = λ j. mul (factor j) (value_of s j) in
      leaf-total-is d b (pos y0) numbers factor (value_of s) priced
      ∙ ap (λ (m : ℕ). add (sum_below m part) (whole (pos 1000 *ℤ pos y0 *ℤ d.constant))) (sym (width-is d s on.stands))
      ∙ ap (λ (x : Rational). add x (whole (pos 1000 *ℤ pos y0 *ℤ d.constant)))
      (sum-scaled w k (reduced_of s) (value_of s)
      ∙ ap (mul k) (reduced-solved s.frame.rows w (length s.frame.columns) _ _ _ on.board.tableau (cost_of s) (reduced_of s) on.board.reduced (value_of s) on.board.values.basic ∙ costs-are))
      ∙ ap (add (mul k cost)) (whole-mul (pos 1000 *ℤ pos y0) d.constant ∙ ap (λ (x : Rational). mul x constant) (whole-mul (pos 1000) (pos y0)))
      ∙ by_ring (k ∷ cost ∷ thousand ∷ constant ∷ []) (var 0 ⊗ var 1 ⊕ (var 2 ⊗ var 0) ⊗ var 3) (var 0 ⊗ (var 1 ⊕ var 2 ⊗ var 3)) refl

  -- ---- the two bounds
  abbrev power : Rational
  power = whole (pos (10 ^ d.scale))

  abbrev bound : Rational
  bound = mul (add (mul cost thousandth) constant) (inverse power)

  power-times : mul power (inverse power) ≡ whole (pos 1)
  power-times = mul_inverse power (λ e. (let f : pos (10 ^ d.scale) ≡ pos 0 = sym (whole_num (pos (10 ^ d.scale))) ∙ e in absurd (let h = power-positive d.scale in omega (arith, ints))))

  leaf-bound-is : leaf_bound d (multipliers s).y0 (leaf_total d b (multipliers s)) ≡ bound
  leaf-bound-is =
      reduce-is (leaf_total d b (multipliers s)) (1000 * y0 * 10 ^ d.scale) bound
      (times_pos (1000 * y0) (10 ^ d.scale) (times_pos 1000 y0 (omega arith) (denominator_positive (slack_costs s))) (power-positive d.scale))
      (total-is
      ∙ by_ring (k ∷ cost ∷ thousand ∷ constant ∷ []) (var 0 ⊗ (var 1 ⊕ var 2 ⊗ var 3)) ((unit ⊗ (var 0 ⊗ (unit ⊗ var 1))) ⊕ (unit ⊗ (var 0 ⊗ (var 2 ⊗ var 3)))) refl
      ∙ ap (λ (x : Rational). add (mul (whole (pos 1)) (mul k (mul x cost))) (mul (whole (pos 1)) (mul k (mul thousand constant)))) (sym thousand-times)
      ∙ ap (λ (x : Rational). add (mul x (mul k (mul (mul thousand thousandth) cost))) (mul x (mul k (mul thousand constant)))) (sym power-times)
      ∙ by_ring (k ∷ cost ∷ thousand ∷ constant ∷ thousandth ∷ power ∷ inverse power ∷ [])
      ((var 5 ⊗ var 6) ⊗ (var 0 ⊗ ((var 2 ⊗ var 4) ⊗ var 1)) ⊕ (var 5 ⊗ var 6) ⊗ (var 0 ⊗ (var 2 ⊗ var 3)))
      (((var 2 ⊗ var 0) ⊗ var 5) ⊗ ((var 1 ⊗ var 4 ⊕ var 3) ⊗ var 6)) refl
      ∙ ap (λ (x : Rational). mul x bound) (sym (whole-product (1000 * y0) (10 ^ d.scale) ∙ ap (λ (x : Rational). mul x power) (whole-product 1000 y0))))

  abbrev q : ℕ
  q = common_denominator (natural_values s)

  times-is : whole (objective_times d (vertex s)) ≡ mul (mul (whole (pos q)) (whole (pos q))) (add (mul cost thousandth) constant)
  times-is =
      let Q : Rational = whole (pos q) in
      let C : ℤ = pos q *ℤ cost_sum d (vertex s).parts in
      let K : ℤ = d.constant *ℤ (pos q *ℤ pos q) in
      let e : objective_times d (vertex s) ≡ C +ℤ K = ap (λ (z : ℤ). C +ℤ z +ℤ K) (no-squares d None (vertex s).parts on.arcs) ∙ omega (arith, ints) in
      ap whole e ∙ whole-add C K
      ∙ ap (λ (x : Rational). add x (whole K)) (whole-mul (pos q) (cost_sum d (vertex s).parts) ∙ ap (mul Q) (dot-is s on.board.shape d (λ (c : ColumnValue). c.cost) (columns-is d s on.stands)))
      ∙ ap (add (mul Q (mul (mul Q thousandth) cost))) (whole-mul d.constant (pos q *ℤ pos q) ∙ ap (mul constant) (whole-mul (pos q) (pos q)))
      ∙ by_ring (Q ∷ thousandth ∷ cost ∷ constant ∷ []) (var 0 ⊗ ((var 0 ⊗ var 1) ⊗ var 2) ⊕ var 3 ⊗ (var 0 ⊗ var 0)) ((var 0 ⊗ var 0) ⊗ (var 2 ⊗ var 1 ⊕ var 3)) refl

  objective-is : objective d (vertex s) ≡ bound
  objective-is =
      let Q : Rational = whole (pos q) in
      let p : 0 < q = denominator_positive (natural_values s) in
      reduce-is (objective_times d (vertex s)) (q * q * 10 ^ d.scale) bound (times_pos (q * q) (10 ^ d.scale) (times_pos q q p p) (power-positive d.scale))
      (times-is
      ∙ by_ring (mul Q Q ∷ add (mul cost thousandth) constant ∷ []) (var 0 ⊗ var 1) (unit ⊗ (var 0 ⊗ var 1)) refl
      ∙ ap (λ (x : Rational). mul x (mul (mul Q Q) (add (mul cost thousandth) constant))) (sym power-times)
      ∙ by_ring (mul Q Q ∷ add (mul cost thousandth) constant ∷ power ∷ inverse power ∷ []) ((var 2 ⊗ var 3) ⊗ (var 0 ⊗ var 1)) ((var 0 ⊗ var 2) ⊗ (var 1 ⊗ var 3)) refl
      ∙ ap (λ (x : Rational). mul x bound) (sym (whole-product (q * q) (10 ^ d.scale) ∙ ap (λ (x : Rational). mul x power) (whole-product q q))))

pub strong-duality-law : StrongDualityLaw
strong-duality-law d b s on given =
    (leaf_total d b (multipliers s), leaf-value-is d b (pos (common_denominator (slack_costs s))) (whole_multiples (slack_costs s)) _ _ (priced d b s on given), leaf-bound-is d b s on given ∙ sym (objective-is d b s on given))
