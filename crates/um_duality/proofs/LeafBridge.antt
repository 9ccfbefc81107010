-- A leaf value as one sum over the columns and the slacks.
use Rattle.std.proofs.Common.{◌≡◌, ℕ, ◌+◌, ◌-◌, ◌<◌, arith, ap, sym, subst, ◌∙◌, refl, List, [], ◌∷◌, length, Bool, false, cond, Option, Some, None}
use Rattle.std.specs.Prelude.{ℤ, pos, negsuc, ◌+ℤ◌, ◌*ℤ◌, zero, suc, slice_index_or, slice_get, find, is_none, unwrap_or, option_map, ◌||◌}
use Rattle.std.specs.List.{enumerate_from}
use Rattle.std.proofs.lemmas.Int.{ints}
use Rattle.um_laws.specs.Rational.{Rational, whole, add, mul, neg}
use Rattle.um_laws.specs.Sums.{sum_of}
use Rattle.um_laws.proofs.Ring.{var, nought, ◌⊗◌}
use Rattle.um_laws.proofs.RationalOrder.{IsPositive}
use Rattle.um_laws.proofs.SumLaws.{sum_of-same, sum_of-zero}
use Rattle.um_laws.proofs.WholeLaws.{*ℤ-assoc, *ℤ_comm}
use Rattle.um_model.specs.Values.{DeckValue, ColumnValue}
use Rattle.um_multipliers.specs.PlainMultipliers.{MultipliersValue}
use Rattle.um_model.specs.WellFormed.{has_arc}
use Rattle.um_model.specs.Feasible.{coefficient}
use Rattle.um_model.specs.Boxes.{BoxValue, ends_of}
use Rattle.um_model.specs.Rounding.{floor_div}
use Rattle.um_model.specs.LeafValue.{leaf_value, least, row_least_in, row_least, reduced_cost, reduced_square, linear_least, curve_between, arc_least, total, leaf_total, is_endless_row, is_endless_column, leaf_of}
use Rattle.um_model.specs.declared.deck.Row.{Row}
use Rattle.um_model.specs.declared.deck.Arc.{Arc}
use Rattle.um_model.specs.declared.deck.Kind.TheVariants.{Continuous}
use Rattle.um_multipliers.specs.declared.multipliers.Price.{Price}
use Rattle.um_model.specs.declared.leaf.Leaf.TheVariants.{Value}
use Rattle.um_laws.proofs.Places.{item_at}
use Rattle.um_lp.specs.Basis.{sum_below}
use Rattle.um_laws.proofs.RationalEquations.{by_ring}
use Rattle.um_lp.proofs.Rows.{by_below}
use Rattle.um_lp.proofs.Sums.{sum-cong}
use Rattle.um_duality.specs.Relaxed.{side_end}
use Rattle.um_duality.specs.Boxed.{row_ends, ends_on}
use Rattle.um_duality.specs.WholeMultiples.{prices_from}
use Rattle.um_duality.proofs.Wholes.{whole-add, whole-sub, whole-mul, whole-positive, whole-negative}
use Rattle.um_duality.proofs.ListSums.{sum-split, whole-enumerated, none_enumerated, whole-prices, none_priced}

-- past the last column
abbrev pub no_column : ColumnValue
no_column = record { name = []; kind = Continuous; low = None; high = None; cost = pos 0; entries = [] }

abbrev pub column_at : DeckValue → ℕ → ColumnValue
column_at d j = slice_index_or d.columns j no_column

abbrev pub number : List ℤ → ℕ → ℤ
number numbers i = slice_index_or numbers i (pos 0)

abbrev pub multipliers_of : ℤ → List ℤ → MultipliersValue
multipliers_of y0 numbers = record { y0 = y0; rows = prices_from 0 numbers }

-- ---- a reduced cost is a sum over all rows
pub reduced-cost-is : (y0 : ℤ) (numbers : List ℤ) (c : ColumnValue)
    → whole (reduced_cost (multipliers_of y0 numbers) c) ≡ add (mul (whole y0) (whole c.cost)) (neg (sum_below (length numbers) (λ i. mul (whole (number numbers i)) (whole (coefficient i c)))))
reduced-cost-is y0 numbers c =
    whole-sub (y0 *ℤ c.cost) (sum_of (λ (p : Price). p.value *ℤ coefficient p.row c) (prices_from 0 numbers))
    ∙ ap (λ (x : Rational). add x (neg (whole (sum_of (λ (p : Price). p.value *ℤ coefficient p.row c) (prices_from 0 numbers))))) (whole-mul y0 c.cost)
    ∙ ap (λ (x : Rational). add (mul (whole y0) (whole c.cost)) (neg x))
    (whole-prices (λ row z. z *ℤ coefficient row c) (λ row. omega (arith, ints)) 0 numbers
    ∙ sum-cong (length numbers) _ (λ i. mul (whole (number numbers i)) (whole (coefficient i c)))
    (λ i l. (let e : 0 + i ≡ i = omega arith in ap (λ (k : ℕ). whole (number numbers i *ℤ coefficient k c)) e ∙ whole-mul (number numbers i) (coefficient i c))))

-- ---- least values

-- a factor above 0 takes the low end, and one below 0 the high end
pub record Takes (factor : Rational) (ends : Option ℤ × Option ℤ) (value : Rational) : Type 0 where
  pub above : IsPositive factor → (low : ℤ) × (ends.0 ≡ Some low) × (value ≡ whole low)
  pub under : IsPositive (neg factor) → (high : ℤ) × (ends.1 ≡ Some high) × (value ≡ whole high)

mapped : (f : ℤ → ℤ) (o : Option ℤ) (v : ℤ) → option_map f o ≡ Some v → (t : ℤ) × (o ≡ Some t) × (v ≡ f t)
mapped f None v e = absurd (cc)
mapped f (Some t) v e = (t, refl, cc)

no_factor : (factor value : Rational) → whole (pos 0) ≡ factor → whole (pos 0) ≡ mul factor value
no_factor factor value e = by_ring (value ∷ []) nought (nought ⊗ var 0) refl ∙ ap (λ (x : Rational). mul x value) e

end_times : (k l : ℤ) (factor value : Rational) → whole k ≡ factor → value ≡ whole l → whole (k *ℤ l) ≡ mul factor value
end_times k l factor value e f = whole-mul k l ∙ ap (λ (x : Rational). mul x (whole l)) e ∙ ap (mul factor) (sym f)

pub least-is : (k : ℤ) (low high : Option ℤ) (factor value : Rational) → whole k ≡ factor → Takes factor (low, high) value → (g : ℤ) × (least k low high ≡ Some g) × (whole g ≡ mul factor value)
least-is (pos zero) low high factor value e t = (pos 0, refl, no_factor factor value e)
least-is (pos (suc n)) low high factor value e t =
    let a = t.above (subst IsPositive e (whole-positive (pos (suc n)) (omega (arith, ints)))) in
    (pos (suc n) *ℤ a.0, ap (option_map (λ l. pos (suc n) *ℤ l)) a.1, end_times (pos (suc n)) a.0 factor value e a.2)
least-is (negsuc n) low high factor value e t =
    let a = t.under (subst (λ (x : Rational). IsPositive (neg x)) e (whole-negative (negsuc n) (omega (arith, ints)))) in
    (negsuc n *ℤ a.0, ap (option_map (λ h. negsuc n *ℤ h)) a.1, end_times (negsuc n) a.0 factor value e a.2)

-- the same for a row, whose sides are scaled
thousand_times : (k l v : ℤ) (factor value : Rational) → whole k ≡ factor → value ≡ whole v → v ≡ pos 1000 *ℤ l → whole (pos 1000 *ℤ (k *ℤ l)) ≡ mul factor value
thousand_times k l v factor value e f g =
    let h : pos 1000 *ℤ (k *ℤ l) ≡ k *ℤ (pos 1000 *ℤ l) = sym (*ℤ-assoc (pos 1000) k l) ∙ ap (λ (z : ℤ). z *ℤ l) (*ℤ_comm (pos 1000) k) ∙ *ℤ-assoc k (pos 1000) l in
    ap whole h ∙ end_times k (pos 1000 *ℤ l) factor value e (f ∙ ap whole g)

side-least-is : (k : ℤ) (low high : Option ℤ) (factor value : Rational) → whole k ≡ factor → Takes factor (side_end low, side_end high) value
    → (g : ℤ) × (option_map (λ v. pos 1000 *ℤ v) (least k low high) ≡ Some g) × (whole g ≡ mul factor value)
side-least-is (pos zero) low high factor value e t = (pos 0, refl, no_factor factor value e)
side-least-is (pos (suc n)) low high factor value e t =
    let a = t.above (subst IsPositive e (whole-positive (pos (suc n)) (omega (arith, ints)))) in
    let m = mapped (λ v. pos 1000 *ℤ v) low a.0 a.1 in
    (pos 1000 *ℤ (pos (suc n) *ℤ m.0), ap (λ (o : Option ℤ). option_map (λ v. pos 1000 *ℤ v) (option_map (λ l. pos (suc n) *ℤ l) o)) m.1, thousand_times (pos (suc n)) m.0 a.0 factor value e a.2 m.2)
side-least-is (negsuc n) low high factor value e t =
    let a = t.under (subst (λ (x : Rational). IsPositive (neg x)) e (whole-negative (negsuc n) (omega (arith, ints)))) in
    let m = mapped (λ v. pos 1000 *ℤ v) high a.0 a.1 in
    (pos 1000 *ℤ (negsuc n *ℤ m.0), ap (λ (o : Option ℤ). option_map (λ v. pos 1000 *ℤ v) (option_map (λ h. negsuc n *ℤ h) o)) m.1, thousand_times (negsuc n) m.0 a.0 factor value e a.2 m.2)

-- ---- the ends of columns and slacks
pub ends-column : (d : DeckValue) (b : BoxValue) (j : ℕ) → j < length d.columns → ends_on d b j ≡ ((ends_of d b j).low, (ends_of d b j).high)
ends-column d b j l =
    by_below (λ t. cond t ((ends_of d b j).low, (ends_of d b j).high) (row_ends (slice_get d.rows (j - length d.columns))) ≡ ((ends_of d b j).low, (ends_of d b j).high)) j (length d.columns)
    (λ h. refl) (λ h. absurd (omega arith))

pub ends-slack : (d : DeckValue) (b : BoxValue) (i : ℕ) → ends_on d b (length d.columns + i) ≡ row_ends (slice_get d.rows i)
ends-slack d b i =
    let j : ℕ = length d.columns + i in
    by_below (λ t. cond t ((ends_of d b j).low, (ends_of d b j).high) (row_ends (slice_get d.rows (j - length d.columns))) ≡ row_ends (slice_get d.rows i)) j (length d.columns)
    (λ h. absurd (omega arith)) (λ h. (let e : length d.columns + i - length d.columns ≡ i = omega arith in ap (λ (k : ℕ). row_ends (slice_get d.rows k)) e))

-- ---- the least of a row and of a column
row-part : (d : DeckValue) (b : BoxValue) (i : ℕ) (z : ℤ) (factor value : Rational) → i < length d.rows → whole z ≡ factor → Takes factor (ends_on d b (length d.columns + i)) value
    → (h : ℤ) × (row_least d (record { row = i; value = z }) ≡ Some h) × (whole h ≡ mul factor value)
row-part d b i z factor value l e t =
    let r = item_at d.rows i l in
    let sides : ends_on d b (length d.columns + i) ≡ (side_end r.0.low, side_end r.0.high) = ends-slack d b i ∙ ap row_ends r.1 in
    let g = side-least-is z r.0.low r.0.high factor value e (subst (λ (x : Option ℤ × Option ℤ). Takes factor x value) sides t) in
    (g.0, ap (row_least_in (record { row = i; value = z })) r.1 ∙ g.1, g.2)

no_arc_there : (arcs : List Arc) (column : ℕ) → arcs ≡ [] → has_arc arcs column ≡ false
no_arc_there arcs column e = ap (λ (as_ : List Arc). has_arc as_ column) e

linear-is : (d : DeckValue) (b : BoxValue) (y : MultipliersValue) (j : ℕ) (c : ColumnValue) → d.arcs ≡ [] → linear_least d b y (j, c) ≡ least (reduced_cost y c) (ends_of d b j).low (ends_of d b j).high
linear-is d b y j c e = ap (λ (t : Bool). cond t (Some (pos 0)) (least (reduced_cost y c) (ends_of d b j).low (ends_of d b j).high)) (no_arc_there d.arcs j e)

arc-is : (d : DeckValue) (b : BoxValue) (y : MultipliersValue) (c : ℕ × ColumnValue) → d.arcs ≡ [] → arc_least d b y c ≡ Some (pos 0)
arc-is d b y c e =
    ap (λ (t : Bool). cond t (curve_between (reduced_cost y c.1) (reduced_square d y c.0) (ends_of d b c.0).low (ends_of d b c.0).high) (Some (pos 0))) (no_arc_there d.arcs c.0 e)

column-part : (d : DeckValue) (b : BoxValue) (y : MultipliersValue) (j : ℕ) (factor value : Rational) → d.arcs ≡ [] → j < length d.columns → whole (reduced_cost y (column_at d j)) ≡ factor → Takes factor (ends_on d b j) value
    → (g : ℤ) × (linear_least d b y (j, column_at d j) ≡ Some g) × (whole g ≡ mul factor value)
column-part d b y j factor value none l e t =
    let g = least-is (reduced_cost y (column_at d j)) (ends_of d b j).low (ends_of d b j).high factor value e (subst (λ (x : Option ℤ × Option ℤ). Takes factor x value) (ends-column d b j l) t) in
    (g.0, linear-is d b y j (column_at d j) none ∙ g.1, g.2)

-- ---- all together

-- what the multipliers come to, in columns and slacks
pub record IsPriced (d : DeckValue) (b : BoxValue) (y0 : ℤ) (numbers : List ℤ) (factor value : ℕ → Rational) : Type 0 where
  pub arcs : d.arcs ≡ []
  pub count : length numbers ≡ length d.rows
  pub columns : (j : ℕ) → j < length d.columns → whole (reduced_cost (multipliers_of y0 numbers) (column_at d j)) ≡ factor j
  pub slacks : (i : ℕ) → i < length d.rows → whole (number numbers i) ≡ factor (length d.columns + i)
  pub takes : (j : ℕ) → j < length d.columns + length d.rows → Takes (factor j) (ends_on d b j) (value j)

-- a multiplier of 0 adds nothing
idle : (row : ℕ) (o : Option Row) → unwrap_or (row_least_in (record { row = row; value = pos 0 }) o) (pos 0) ≡ pos 0
idle row None = refl
idle row (Some r) = refl

module _ (d : DeckValue) (b : BoxValue) (y0 : ℤ) (numbers : List ℤ) (factor value : ℕ → Rational) (priced : IsPriced d b y0 numbers factor value) where
  abbrev y : MultipliersValue
  y = multipliers_of y0 numbers

  abbrev n : ℕ
  n = length d.columns

  abbrev part : ℕ → Rational
  part j = mul (factor j) (value j)

  row_is : (i : ℕ) → i < length d.rows → (h : ℤ) × (row_least d (record { row = i; value = number numbers i }) ≡ Some h) × (whole h ≡ part (n + i))
  row_is i l = row-part d b i (number numbers i) (factor (n + i)) (value (n + i)) l (priced.slacks i l) (priced.takes (n + i) (omega arith))

  column_is : (j : ℕ) → j < n → (g : ℤ) × (linear_least d b y (j, column_at d j) ≡ Some g) × (whole g ≡ part j)
  column_is j l = column-part d b y j (factor j) (value j) priced.arcs l (priced.columns j l) (priced.takes j (omega arith))

  no_endless_row : find (is_endless_row d) y.rows ≡ None
  no_endless_row = none_priced (is_endless_row d) 0 numbers (λ i l. (let e : 0 + i ≡ i = omega arith in
      ap (λ (k : ℕ). is_endless_row d (record { row = k; value = number numbers i })) e ∙ ap (λ (o : Option ℤ). is_none o) (row_is i (omega (arith, priced.count))).1))

  no_endless_column : find (is_endless_column d b y) (enumerate_from 0 d.columns) ≡ None
  no_endless_column = none_enumerated (is_endless_column d b y) 0 d.columns no_column (λ j l. (let e : 0 + j ≡ j = omega arith in
      ap (λ (k : ℕ). is_endless_column d b y (k, column_at d j)) e ∙ ap (λ (o : Option ℤ). is_none o || is_none (arc_least d b y (j, column_at d j))) (column_is j l).1
      ∙ ap (λ (o : Option ℤ). is_none o) (arc-is d b y (j, column_at d j) priced.arcs)))

  rows_sum : whole (total (row_least d) y.rows) ≡ sum_below (length d.rows) (λ i. part (n + i))
  rows_sum =
      whole-prices (λ row z. unwrap_or (row_least d (record { row = row; value = z })) (pos 0)) (λ row. idle row (slice_get d.rows row)) 0 numbers
      ∙ ap (λ (k : ℕ). sum_below k (λ i. whole (unwrap_or (row_least d (record { row = 0 + i; value = number numbers i })) (pos 0)))) priced.count
      ∙ sum-cong (length d.rows) _ _ (λ i l. (let e : 0 + i ≡ i = omega arith in
      ap (λ (k : ℕ). whole (unwrap_or (row_least d (record { row = k; value = number numbers i })) (pos 0))) e
      ∙ ap (λ (o : Option ℤ). whole (unwrap_or o (pos 0))) (row_is i l).1 ∙ (row_is i l).2))

  columns_sum : whole (total (linear_least d b y) (enumerate_from 0 d.columns)) ≡ sum_below n part
  columns_sum =
      whole-enumerated (λ c. unwrap_or (linear_least d b y c) (pos 0)) 0 d.columns no_column
      ∙ sum-cong n _ _ (λ j l. (let e : 0 + j ≡ j = omega arith in
      ap (λ (k : ℕ). whole (unwrap_or (linear_least d b y (k, column_at d j)) (pos 0))) e
      ∙ ap (λ (o : Option ℤ). whole (unwrap_or o (pos 0))) (column_is j l).1 ∙ (column_is j l).2))

  arcs_sum : floor_div (total (arc_least d b y) (enumerate_from 0 d.columns)) 1000 ≡ pos 0
  arcs_sum = ap (λ (x : ℤ). floor_div x 1000)
      (sum_of-same (λ (c : ℕ × ColumnValue). unwrap_or (arc_least d b y c) (pos 0)) (λ _. pos 0) (enumerate_from 0 d.columns) (λ c. ap (λ (o : Option ℤ). unwrap_or o (pos 0)) (arc-is d b y c priced.arcs))
      ∙ sum_of-zero (enumerate_from 0 d.columns))

  -- the leaf value is the sum of all factors times values, and the constant
  pub leaf-value-is : leaf_value d b y ≡ Value (leaf_total d b y)
  unfolding leaf_value
  leaf-value-is =
      ap (λ (o : Option Price). leaf_of o (find (is_endless_column d b y) (enumerate_from 0 d.columns)) (leaf_total d b y)) no_endless_row
      ∙ ap (λ (o : Option (ℕ × ColumnValue)). leaf_of None o (leaf_total d b y)) no_endless_column

  pub leaf-total-is : whole (leaf_total d b y) ≡ add (sum_below (n + length d.rows) part) (whole (pos 1000 *ℤ y0 *ℤ d.constant))
  leaf-total-is =
      let R : ℤ = total (row_least d) y.rows in
      let C : ℤ = total (linear_least d b y) (enumerate_from 0 d.columns) in
      let K : ℤ = pos 1000 *ℤ y0 *ℤ d.constant in
      let e : leaf_total d b y ≡ (C +ℤ R) +ℤ K = omega (arith, ints, arcs_sum) in
      ap whole e ∙ whole-add (C +ℤ R) K ∙ ap (λ (x : Rational). add x (whole K))
      (whole-add C R ∙ ap (λ (x : Rational). add x (whole R)) columns_sum ∙ ap (add (sum_below n part)) rows_sum ∙ sym (sum-split n (length d.rows) part))
