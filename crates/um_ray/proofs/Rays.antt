-- A direction that falls is a ray of the deck.
use Rattle.std.proofs.Common.{◌≡◌, ℕ, ◌+◌, ◌<◌, arith, ap, sym, subst, ◌∙◌, refl, [], ◌∷◌, length, List, Option, None, Some}
use Rattle.std.specs.Prelude.{ℤ, IsSome, slice_index_or}
use Rattle.std.proofs.lemmas.Int.{ints}
use Rattle.um_laws.specs.Rational.{Rational, whole, mul, neg}
use Rattle.um_laws.proofs.RationalOrder.{IsNonNegative, nonneg-mul, nonneg_of_positive}
use Rattle.um_laws.proofs.RationalEquations.{by_ring}
use Rattle.um_laws.proofs.Ring.{var, ◌⊗◌, opp}
use Rattle.um_laws.proofs.Places.{item_of, get_of}
use Rattle.um_model.specs.Values.{DeckValue, ColumnValue}
use Rattle.um_model.specs.Boxes.{root}
use Rattle.um_model.specs.Feasible.{part, coefficient, linear_sum}
use Rattle.um_model.specs.Rays.{IsFree}
use Rattle.um_model.specs.declared.deck.Row.{Row}
use Rattle.um_lp.specs.Basis.{Solves}
use Rattle.um_lp.specs.DualSteps.{IsNext, Ended}
use Rattle.um_lp.specs.States.{State, width, system, value_of}
use Rattle.um_lp.proofs.Orders.{whole_num}
use Rattle.um_lp.proofs.Solutions.{tableau-solutions-law}
use Rattle.um_duality.specs.Laws.{IsOnBox}
use Rattle.um_duality.specs.Relaxed.{StandsFor, side_end}
use Rattle.um_duality.proofs.DeckBoards.{width-is, slack-value}
use Rattle.um_duality.proofs.LeafBridge.{column_at, no_column}
use Rattle.um_ray.specs.Directions.{directions}
use Rattle.um_ray.specs.Rays.{direction}
use Rattle.um_ray.specs.Laws.{RayLaw}
use Rattle.um_ray.proofs.MovingEnds.{own_column, own_slack, stands_on_deck}
use Rattle.um_ray.proofs.Sides.{IsOpen, open-value}
use Rattle.um_ray.proofs.Slopes.{scale, scale-above, direction-length, part-is, dot-is}
use Rattle.um_ray.proofs.Values.{not_above}

-- ---- whole numbers that are a number above 0 times an open change

some_side : (side : Option ℤ) → IsSome side → IsSome (side_end side)
some_side None h = cc
some_side (Some v) h = refl

free : (z : ℤ) (k v : Rational) (low high : Option ℤ) → IsNonNegative k → whole z ≡ mul k v → IsOpen (low, high) v → IsFree low high z
free z k v low high p e o = record {
  down = λ h. (let q : IsNonNegative (whole z) = subst IsNonNegative (sym e) (nonneg-mul k v p (o.low h)) in let f = whole_num z in omega (arith, ints));
  up = λ h.
      not_above z (subst IsNonNegative (by_ring (k ∷ v ∷ []) (var 0 ⊗ opp (var 1)) (opp (var 0 ⊗ var 1)) refl ∙ ap neg (sym e)) (nonneg-mul k (neg v) p (o.high h)));
}

at_any : (cs : List ColumnValue) (j : ℕ) (a b : ColumnValue) → j < length cs → slice_index_or cs j a ≡ slice_index_or cs j b
at_any cs j a b l = (item_of cs j (slice_index_or cs j b) (get_of cs j b l)).is a

module _ (d : DeckValue) (t : State) (on : IsOnBox (directions d) (root (directions d)) t) (ended : IsNext t Ended) where
  stands : StandsFor d t
  stands = stands_on_deck d t on.stands

  scale_not_below : IsNonNegative (scale t)
  scale_not_below = nonneg_of_positive (scale t) (scale-above t)

  free_column : (j : ℕ) (default : ColumnValue) → j < length d.columns → IsFree (slice_index_or d.columns j default).low (slice_index_or d.columns j default).high (part (direction t) j)
  free_column j default l =
      let c = slice_index_or d.columns j default in
      let same : (column_at d j) ≡ c = at_any d.columns j no_column default l in
      free (part (direction t) j) (scale t) (value_of t j) c.low c.high scale_not_below (part-is d t on j l)
      (subst (λ (e : Option ℤ × Option ℤ). IsOpen e (value_of t j)) (own_column d j l ∙ ap (λ (x : ColumnValue). (x.low, x.high)) same) (open-value d t on ended j (omega (arith, width-is d t stands))))

  solved : Solves t.frame.rows (width t.frame) (system t) (value_of t)
  solved = (tableau-solutions-law t.frame.rows (width t.frame) (length t.frame.columns) (system t) _ _ (value_of t) on.board.tableau).0 on.board.values.basic

  free_row : (i : ℕ) (default : Row) → i < length d.rows → IsFree (slice_index_or d.rows i default).low (slice_index_or d.rows i default).high (linear_sum d i (direction t))
  free_row i default l =
      let r = slice_index_or d.rows i default in
      let j : ℕ = length d.columns + i in
      let o : IsOpen (side_end r.low, side_end r.high) (value_of t j) =
      subst (λ (e : Option ℤ × Option ℤ). IsOpen e (value_of t j)) (own_slack d i default l) (open-value d t on ended j (omega (arith, width-is d t stands))) in
      free (linear_sum d i (direction t)) (scale t) (value_of t j) r.low r.high scale_not_below
      (dot-is d t on (coefficient i) ∙ ap (mul (scale t)) (sym (slack-value d t stands (value_of t) solved i l)))
      (record { low = λ h. o.low (some_side r.low h); high = λ h. o.high (some_side r.high h) })

pub ray-law : RayLaw
ray-law d t on ended falls = record {
  parts = direction-length d t on;
  columns = free_column d t on ended;
  rows = free_row d t on ended;
  falls = falls;
}
