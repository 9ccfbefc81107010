-- The numbers that are read from a board: the slacks' reduced costs, and the vertex.
use Rattle.std.proofs.Common.{◌≡◌, ℕ, ◌<◌, ◌≤◌, arith, ap, sym, ◌∙◌, refl, [], ◌∷◌, length, take, drop}
use Rattle.std.specs.Prelude.{ℤ, pos, ◌*ℤ◌, if◌then◌else◌, List, Option}
use Rattle.std.proofs.lemmas.List.{length-take-le, length-drop}
use Rattle.um_laws.specs.Rational.{Rational, whole, mul, inverse}
use Rattle.um_laws.specs.Sums.{sum_of, dot}
use Rattle.um_laws.proofs.RationalField.{mul_inverse}
use Rattle.um_laws.proofs.Ring.{var, ◌⊗◌}
use Rattle.um_model.specs.Values.{DeckValue, ColumnValue}
use Rattle.um_model.specs.Feasible.{part, is_arc_of, square_sum}
use Rattle.um_model.specs.declared.deck.Arc.{Arc}
use Rattle.um_laws.proofs.Places.{at_map, length-map}
use Rattle.um_lp.specs.Basis.{sum_below}
use Rattle.um_num.specs.NumberLists.{number_at}
use Rattle.um_lp.specs.States.{State, slack, reduced_of, value_of}
use Rattle.um_lp.specs.Boards.{IsShaped}
use Rattle.um_laws.proofs.RationalEquations.{by_ring}
use Rattle.um_lp.proofs.Orders.{whole_num}
use Rattle.um_lp.proofs.Sums.{sum-cong, sum-mul}
use Rattle.um_duality.specs.Readings.{slack_costs, natural, natural_values, vertex}
use Rattle.um_duality.proofs.LeafBridge.{column_at, no_column}
use Rattle.um_duality.proofs.ListSums.{whole-dot}
use Rattle.um_duality.proofs.Multiples.{multiples-length, multiple-is, at_take, at_drop}

-- one over a thousand
abbrev pub thousandth : Rational
thousandth = inverse (whole (pos 1000))

pub thousand-times : mul (whole (pos 1000)) thousandth ≡ whole (pos 1)
thousand-times = mul_inverse (whole (pos 1000)) (λ e. (let f : pos 1000 ≡ pos 0 = sym (whole_num (pos 1000)) ∙ e in absurd (cc)))

-- a deck without arcs has no sums of squares
pub no-squares : (d : DeckValue) (row : Option ℕ) (parts : List ℤ) → d.arcs ≡ [] → square_sum d row parts ≡ pos 0
no-squares d row parts e = ap (λ (as_ : List Arc). sum_of (λ (a : Arc). if is_arc_of row a then a.value *ℤ (part parts a.column *ℤ part parts a.column) else pos 0) as_) e

module _ (s : State) (shape : IsShaped s) where
  abbrev n : ℕ
  n = length s.frame.columns

  pub costs-length : length (slack_costs s) ≡ s.frame.rows
  costs-length = length-take-le s.frame.rows (drop n s.reduced) (omega (arith, length-drop n s.reduced, shape.reduced))

  pub cost-is : (i : ℕ) → i < s.frame.rows → number_at (slack_costs s) i ≡ reduced_of s (slack s.frame i)
  cost-is i l = at_take s.frame.rows (drop n s.reduced) i (whole (pos 0)) l ∙ at_drop n s.reduced i (whole (pos 0))

  inside : n ≤ length s.values
  inside = omega (arith, shape.values)

  naturals-length : length (natural_values s) ≡ n
  naturals-length = length-map natural (take n s.values) ∙ length-take-le n s.values inside

  natural-is : (j : ℕ) → j < n → number_at (natural_values s) j ≡ natural (value_of s j)
  natural-is j l =
      at_map natural (take n s.values) j (whole (pos 0)) (whole (pos 0)) (omega (arith, length-take-le n s.values inside))
      ∙ ap natural (at_take n s.values j (whole (pos 0)) l)

  pub parts-length : length (vertex s).parts ≡ n
  parts-length = multiples-length (natural_values s) ∙ naturals-length

  -- a part is the value over a thousand, times the denominator
  pub part-is : (j : ℕ) → j < n → whole (part (vertex s).parts j) ≡ mul (mul (whole (vertex s).den) thousandth) (value_of s j)
  part-is j l =
      multiple-is (natural_values s) j (omega (arith, naturals-length)) ∙ ap (mul (whole (vertex s).den)) (natural-is j l)
      ∙ by_ring (whole (vertex s).den ∷ value_of s j ∷ thousandth ∷ []) (var 0 ⊗ (var 1 ⊗ var 2)) ((var 0 ⊗ var 2) ⊗ var 1) refl

  -- a sum of numbers times parts
  pub dot-is : (d : DeckValue) (f : ColumnValue → ℤ) → n ≡ length d.columns
      → whole (dot f d.columns (vertex s).parts) ≡ mul (mul (whole (vertex s).den) thousandth) (sum_below (length d.columns) (λ j. mul (whole (f (column_at d j))) (value_of s j)))
  dot-is d f e =
      let q : Rational = mul (whole (vertex s).den) thousandth in
      whole-dot f d.columns (vertex s).parts no_column (parts-length ∙ e)
      ∙ sum-cong (length d.columns) _ (λ j. mul q (mul (whole (f (column_at d j))) (value_of s j))) (λ j l.
      ap (mul (whole (f (column_at d j)))) (part-is j (omega arith))
      ∙ by_ring (whole (f (column_at d j)) ∷ q ∷ value_of s j ∷ []) (var 0 ⊗ (var 1 ⊗ var 2)) (var 1 ⊗ (var 0 ⊗ var 2)) refl)
      ∙ sum-mul (length d.columns) q (λ j. mul (whole (f (column_at d j))) (value_of s j))
