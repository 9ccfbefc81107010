-- On a deck with a ray the multipliers 1 and none have no leaf value, in the root box and in each box that branches make of it: the ray lowers the costs, and no end of the box stops it. So a search that stops early on such a deck has no bound.
use Rattle.std.proofs.Common.{◌≡◌, ◌∙◌, ℕ, ◌+◌, ◌<◌, zero, suc, ℤ, pos, negsuc, ◌*ℤ◌, ◌≤ℤ◌, Bool, true, false, ◌||◌, List, [], ◌∷◌, length, find, Option, Some, None, is_none, refl, sym, ap, subst, arith, if◌then◌else◌}
use Rattle.std.specs.Prelude.{IsSome, IsNone, IfSome}
use Rattle.std.specs.List.{enumerate_from}
use Rattle.std.proofs.lemmas.Int.{ints}
use Rattle.um_laws.specs.Rational.{Rational}
use Rattle.um_laws.specs.Sums.{dot}
use Rattle.um_laws.proofs.Places.{item_at}
use Rattle.um_laws.proofs.WholeLaws.{*ℤ-mono, *ℤ-anti}
use Rattle.um_multipliers.specs.PlainMultipliers.{MultipliersValue}
use Rattle.um_multipliers.specs.declared.multipliers.Price.{Price}
use Rattle.um_model.specs.Values.{DeckValue, ColumnValue}
use Rattle.um_model.specs.WellFormed.{IsDeck, has_arc}
use Rattle.um_model.specs.Feasible.{part}
use Rattle.um_model.specs.Boxes.{BoxValue, Ends, root, ends_at, ends_of}
use Rattle.um_model.specs.Rays.{Ray, IsFree}
use Rattle.um_model.specs.LeafValue.{least, linear_least, arc_least, reduced_cost, is_endless_row, is_endless_column, leaf_of, leaf_total, leaf_value}
use Rattle.um_model.specs.Accepted.{bound_in, bounds_at}
use Rattle.um_model.specs.AnswerValues.{WhatValue, Split, Bounded, Empty, Void, OpenLeaf}
use Rattle.um_model.specs.declared.deck.Arc.{Arc}
use Rattle.um_model.specs.declared.leaf.Leaf.{Leaf}
use Rattle.um_model.specs.declared.leaf.Leaf.TheVariants.{Value, EndlessColumn, EndlessRow}
use Rattle.um_soundness.proofs.Duality.{none_found}
use Rattle.um_soundness.proofs.Loops.{root_ends}
use Rattle.um_solving.specs.RootBoxes.{AreWithin, IsWithinRoot}
use Rattle.um_solving.proofs.RootBoxes.{some_none, given_within}
use Rattle.um_tree.specs.Growths.{GrowthValue, what_at}
use Rattle.um_cover.specs.Nodes.{NodeIs, NodesAre, bounds_by}
use Rattle.um_cover.specs.Sites.{box_at}
use Rattle.um_progress.specs.declared.incumbent.Incumbent.{Incumbent}
use Rattle.um_progress.specs.Incumbents.{objective_of}
use Rattle.um_progress.specs.Stops.{bound_of}
use Rattle.um_search.specs.Told.{IsOneAndNone, HaveOneAndNone}

abbrev one_and_none : MultipliersValue
one_and_none = record { y0 = pos 1; rows = [] }

-- ---- one column

either_not : (a b : Bool) → (a || b) ≡ false → a ≡ false
either_not true b e = absurd (cc)
either_not false b e = refl

-- its ends stop no change that those of the root box do not stop
some_outer : (outer inner : Option ℤ) → (outer ≡ None → inner ≡ None) → IsSome inner → IsSome outer
some_outer None inner none some = absurd (some_none inner (none refl) some)
some_outer (Some x) inner none some = refl

free_within : (outer inner : Ends) (change : ℤ) → AreWithin outer inner → IsFree outer.low outer.high change → IsFree inner.low inner.high change
free_within outer inner change within free = record {
  down = λ some. free.down (some_outer outer.low inner.low within.no_low some);
  up = λ some. free.up (some_outer outer.high inner.high within.no_high some);
}

-- its costs do not fall along a change that no end stops, where its ends give them a least value
no_fall : (cost : ℤ) (low high : Option ℤ) (change : ℤ) → IsFree low high change → is_none (least cost low high) ≡ false → pos 0 ≤ℤ (cost *ℤ change)
no_fall (pos zero) low high change free found = omega (arith, ints)
no_fall (pos (suc n)) None high change free found = absurd (cc)
no_fall (pos (suc n)) (Some l) high change free found = let up = *ℤ-mono (pos (suc n)) (pos 0) change (omega (arith, ints)) (free.down refl) in omega (arith, ints, up)
no_fall (negsuc n) low None change free found = absurd (cc)
no_fall (negsuc n) low (Some h) change free found = let up = *ℤ-anti (negsuc n) change (pos 0) (omega (arith, ints)) (free.up refl) in omega (arith, ints, up)

-- ---- all columns

module _ (d : DeckValue) (arcs : d.arcs ≡ []) (b : BoxValue) where
  line_is : (column : ℕ) (c : ColumnValue) → linear_least d b one_and_none (column, c) ≡ least (reduced_cost one_and_none c) (ends_of d b column).low (ends_of d b column).high
  line_is column c = ap (λ (as_ : List Arc). if has_arc as_ column then Some (pos 0) else least (reduced_cost one_and_none c) (ends_of d b column).low (ends_of d b column).high) arcs

  column_stays : (column : ℕ) (c : ColumnValue) (change : ℤ) → IsFree (ends_of d b column).low (ends_of d b column).high change → is_endless_column d b one_and_none (column, c) ≡ false → pos 0 ≤ℤ (c.cost *ℤ change)
  column_stays column c change free found =
      let cost : reduced_cost one_and_none c ≡ c.cost = omega (arith, ints) in
      let line = either_not (is_none (linear_least d b one_and_none (column, c))) (is_none (arc_least d b one_and_none (column, c))) found in
      subst (λ (z : ℤ). pos 0 ≤ℤ (z *ℤ change)) cost
      (no_fall (reduced_cost one_and_none c) (ends_of d b column).low (ends_of d b column).high change free (sym (ap (λ (o : Option ℤ). is_none o) (line_is column c)) ∙ line))

  costs_stay : (from : ℕ) (cs : List ColumnValue) (changes : List ℤ) → ((i : ℕ) → i < length cs → IsFree (ends_of d b (from + i)).low (ends_of d b (from + i)).high (part changes i)) → find (is_endless_column d b one_and_none) (enumerate_from from cs) ≡ None
      → pos 0 ≤ℤ dot (λ (c : ColumnValue). c.cost) cs changes
  costs_stay from [] changes free none = omega (arith, ints)
  costs_stay from (c ∷ cs) [] free none = omega (arith, ints)
  costs_stay from (c ∷ cs) (x ∷ xs) free none =
      let found = none_found (is_endless_column d b one_and_none) (from, c) (enumerate_from (from + 1) cs) none in
      let first = subst (λ (j : ℕ). IsFree (ends_of d b j).low (ends_of d b j).high x) (let e : from + 0 ≡ from = omega arith in e) (free 0 (omega arith)) in
      let later = λ (i : ℕ) (h : i < length cs). subst (λ (j : ℕ). IsFree (ends_of d b j).low (ends_of d b j).high (part xs i)) (let e : from + suc i ≡ from + 1 + i = omega arith in e) (free (suc i) (omega (arith, h))) in
      let here = column_stays from c x first found.0 in
      let rest = costs_stay (from + 1) cs xs later found.1 in
      omega (arith, ints, here, rest)

-- ---- the leaf value

no_column : (row : Option Price) (column : Option (ℕ × ColumnValue)) (all value : ℤ) → leaf_of row column all ≡ Value value → column ≡ None
no_column (Some r) column all value e = absurd (cc)
no_column None (Some c) all value e = absurd (cc)
no_column None None all value e = refl

no_bound_in : (d : DeckValue) (y0 : ℤ) (l : Leaf) → ((value : ℤ) → ¬ (l ≡ Value value)) → bound_in d y0 l ≡ None
no_bound_in d y0 (Value value) none = absurd (none value refl)
no_bound_in d y0 (EndlessColumn column) none = refl
no_bound_in d y0 (EndlessRow row) none = refl

module _ (d : DeckValue) (formed : IsDeck d) (arcs : d.arcs ≡ []) (ray : List ℤ) (is : Ray d ray) (b : BoxValue) (within : IsWithinRoot d b) where
  free_there : (column : ℕ) → column < length d.columns → IsFree (ends_of d b column).low (ends_of d b column).high (part ray column)
  free_there column inside =
      let c = item_at d.columns column inside in
      free_within (ends_at (root d) column) (ends_of d b column) (part ray column) (given_within d b column formed within inside)
      (subst (λ (e : Ends). IsFree e.low e.high (part ray column)) (sym (root_ends d column c.0 inside)) (is.columns column c.0 inside))

  no_value : (value : ℤ) → ¬ (leaf_value d b one_and_none ≡ Value value)
  unfolding leaf_value
  no_value value e =
      let none = no_column (find (is_endless_row d) []) (find (is_endless_column d b one_and_none) (enumerate_from 0 d.columns)) (leaf_total d b one_and_none) value e in
      let stays = costs_stay d arcs b 0 d.columns ray (λ i inside. subst (λ (j : ℕ). IsFree (ends_of d b j).low (ends_of d b j).high (part ray i)) (let e : i ≡ 0 + i = omega arith in e) (free_there i inside)) none in
      let falls = is.falls in omega (arith, ints, stays, falls)

  no_bound : (y : MultipliersValue) → IsOneAndNone y → bound_in d y.y0 (leaf_value d b y) ≡ None
  no_bound y one = subst (λ (z : MultipliersValue). bound_in d z.y0 (leaf_value d b z) ≡ None) (sym one) (no_bound_in d (pos 1) (leaf_value d b one_and_none) no_value)

  -- without a best point no node has a bound, where each open leaf has 1 and none
  none_at : (w : WhatValue) (x : Rational) → NodeIs d None (pos 0) b w → ((y : MultipliersValue) → w ≡ OpenLeaf y → IsOneAndNone y) → ¬ (bounds_at d b w ≡ Some x ∷ [])
  none_at (Split branch) x h one e = absurd (cc)
  none_at (Bounded y) x h one e = h.closes
  none_at (Empty y) x h one e = absurd (cc)
  none_at (Void column) x h one e = absurd (cc)
  none_at (OpenLeaf y) x h one e = let none = no_bound y (one y refl) in absurd (cc)

-- ---- the bound of an answer

-- the nodes without a best point
nodes_without : (d : DeckValue) (i : Option Incumbent) (g : GrowthValue) → IsNone i → NodesAre d (objective_of i) (pos 0) g → NodesAre d None (pos 0) g
nodes_without d None g none nodes = nodes
nodes_without d (Some x) g none nodes = absurd (cc)

-- where no node has a bound, none is the least
pub least_none : (P : Rational → Type 0) (least : Option Rational) → IfSome least P → ((x : Rational) → ¬ P x) → IsNone least
least_none P None has none = refl
least_none P (Some x) has none = absurd (none x has)

pub bound_none : (endless : Bool) (least : Option Rational) → IsNone least → IsNone (bound_of endless least)
bound_none true least none = refl
bound_none false least none = none

module _ (d : DeckValue) (formed : IsDeck d) (arcs : d.arcs ≡ []) (ray : List ℤ) (is : Ray d ray) (g : GrowthValue) (i : Option Incumbent) (none : IsNone i) (nodes : NodesAre d (objective_of i) (pos 0) g) (within : (id : ℕ) → id < length g.nodes → IsWithinRoot d (box_at d g id)) (one : HaveOneAndNone g) where
  pub unbounded_node : (id : ℕ) (x : Rational) → id < length g.nodes → ¬ (bounds_by d g id ≡ Some x ∷ [])
  unbounded_node id x inside = none_at d formed arcs ray is (box_at d g id) (within id inside) (what_at g id) x (nodes_without d i g none nodes id inside) (λ y e. one id y inside e)
