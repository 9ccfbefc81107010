-- A key that closes a node, and the multipliers that it goes with.
use Rattle.std.proofs.Common.{◌≡◌, ℤ, pos, negsuc, ◌<ℤ◌, [], ◌∷◌, Option, Some, None, inl, inr, refl, sym, ap, ◌∙◌, subst, arith}
use Rattle.std.specs.Prelude.{IsSomeAnd, IfSome, unsigned_abs, ◌<◌, ◌^◌}
use Rattle.std.proofs.lemmas.Int.{ints}
use Rattle.um_laws.specs.Rational.{Rational}
use Rattle.um_multipliers.specs.PlainMultipliers.{MultipliersValue}
use Rattle.um_model.specs.Values.{DeckValue, PointValue}
use Rattle.um_model.specs.Feasible.{Feasible}
use Rattle.um_model.specs.Objective.{objective}
use Rattle.um_model.specs.Boxes.{BoxValue}
use Rattle.um_model.specs.LeafValue.{leaf_value, leaf_bound, Closes, Reaches}
use Rattle.um_model.specs.Accepted.{IsAtMost, IsEnded, bound_in, bounds_at}
use Rattle.um_model.specs.AnswerValues.{Bounded}
use Rattle.um_model.specs.declared.leaf.Leaf.{Leaf}
use Rattle.um_model.specs.declared.leaf.Leaf.TheVariants.{Value, EndlessColumn, EndlessRow}
use Rattle.um_soundness.proofs.Objectives.{bound_reaches, reaches_below}
use Rattle.um_cover.specs.Nodes.{BoundedIs, OpenIs}
use Rattle.um_nodes.specs.declared.open_nodes.Key.{Key}
use Rattle.um_progress.specs.declared.incumbent.Incumbent.{Incumbent}
use Rattle.um_progress.specs.Waits.{KeyIs}
use Rattle.um_progress.specs.Incumbents.{objective_of}
use Rattle.um_solving.specs.Laws.{VertexSays}
use Rattle.um_loop.specs.Steps.{IsNewBest, IsBestOf, IsClosing, IsNotClosing}

-- ---- what a key with a bound says of a leaf value

record HasValue (leaf : Leaf) (y0 : ℤ) (k : Key) : Type 0 where
  pub value_is : leaf ≡ Value k.value
  pub y0_is : k.y0 ≡ y0

value_of : (leaf : Leaf) (y0 : ℤ) (k : Key) → KeyIs leaf y0 k → ¬ (k.y0 ≡ pos 0) → HasValue leaf y0 k
value_of (Value value) y0 k h some = record { value_is = ap Value (sym h.1); y0_is = h.0 }
value_of (EndlessColumn column) y0 k h some = absurd (some h.0)
value_of (EndlessRow row) y0 k h some = absurd (some h.0)

and_of : {P Q : Rational → Type 0} (o : Option Rational) → ((x : Rational) → P x → Q x) → IsSomeAnd o P → IsSomeAnd o Q
and_of None f h = h
and_of (Some x) f h = f x h

-- ---- a node that is closed

module _ (d : DeckValue) (b : BoxValue) (y : MultipliersValue) (k : Key) (placed : OpenIs d b y) (is : KeyIs (leaf_value d b y) y.y0 k) (best : Option Incumbent) (bound : Rational) (closing : IsClosing d best k bound) where
  has : HasValue (leaf_value d b y) y.y0 k
  has = value_of (leaf_value d b y) y.y0 k is closing.some

  closes_at : (v : Rational) → Reaches d k.y0 k.value v (pos 0) → Closes d b y v (pos 0)
  closes_at v h = record { y0 = placed.y0; value = k.value; value_is = has.value_is; reaches = subst (λ (z : ℤ). Reaches d z k.value v (pos 0)) has.y0_is h }

  pub key_closes : BoundedIs d (objective_of best) (pos 0) b y
  key_closes = record {
    full = placed.full;
    small = placed.small;
    sign = record { y0 = let up = placed.y0 in omega (arith, ints); ended = subst IsEnded (sym has.value_is) tt };
    closes = and_of (objective_of best) closes_at closing.reaches;
  }

  pub key_bound : bounds_at d b (Bounded y) ≡ Some bound ∷ []
  key_bound =
      ap (λ (l : Leaf). bound_in d y.y0 l ∷ []) has.value_is
      ∙ ap (λ (z : ℤ). Some (leaf_bound d z k.value) ∷ []) (sym has.y0_is)
      ∙ ap (λ (r : Rational). Some r ∷ []) (sym closing.bound_is)

-- ---- the best point behind a feasible one is not above it

self : (x : Rational) → IsAtMost x x
self x = omega (arith, ints)

pub new_below : (d : DeckValue) (p : PointValue) (old new : Option Incumbent) → IsNewBest d p old new → IsSomeAnd (objective_of new) (λ v. IsAtMost v (objective d p))
new_below d p old new n =
    let here : IsAtMost n.best.objective (objective d p) = subst (λ (x : Rational). IsAtMost x (objective d p)) (sym n.objective_is) (self (objective d p)) in
    subst (λ (o : Option Incumbent). IsSomeAnd (objective_of o) (λ v. IsAtMost v (objective d p))) (sym n.new_is) here

pub best_below : (d : DeckValue) (p : PointValue) (old new : Option Incumbent) → IsBestOf d p old new → Feasible d p → IsSomeAnd (objective_of new) (λ v. IsAtMost v (objective d p))
best_below d p old new (inl n) feasible = new_below d p old new n
best_below d p old new (inr o) feasible = subst (λ (x : Option Incumbent). IsSomeAnd (objective_of x) (λ v. IsAtMost v (objective d p))) (sym o.same) (o.above feasible)

-- ---- a vertex that is not below the best point

key_has : (leaf : Leaf) (y0 value : ℤ) (k : Key) → KeyIs leaf y0 k → leaf ≡ Value value → (k.y0 ≡ y0) × (k.value ≡ value)
key_has leaf y0 value k is e = subst (λ (l : Leaf). KeyIs l y0 k) e is

-- where the best point is not above the vertex, the key closes the node
pub vertex_closes : (d : DeckValue) (b : BoxValue) (p : PointValue) (y : MultipliersValue) (k : Key) (best : Option Incumbent) → VertexSays d b p y → KeyIs (leaf_value d b y) y.y0 k → IsSomeAnd (objective_of best) (λ v. IsAtMost v (objective d p)) → ¬ IsNotClosing d best k
vertex_closes d b p y k best says is below none =
    let key = key_has (leaf_value d b y) y.y0 says.value k is says.value_is in
    let up = says.positive in
    let same : leaf_bound d k.y0 k.value ≡ objective d p = ap (λ (z : ℤ). leaf_bound d z k.value) key.0 ∙ ap (leaf_bound d y.y0) key.1 ∙ says.bound_is in
    let positive : pos 0 <ℤ k.y0 = subst (λ (z : ℤ). pos 0 <ℤ z) (sym key.0) up in
    let own : Reaches d k.y0 k.value (objective d p) (pos 0) = subst (λ (x : Rational). Reaches d k.y0 k.value x (pos 0)) same (bound_reaches d k.y0 k.value positive) in
    none (leaf_bound d k.y0 k.value) (record {
      some = λ e. absurd (omega (arith, ints, e, positive));
      reaches = and_of (objective_of best) (λ v at_most. reaches_below d k.y0 k.value (pos 0) v (objective d p) (omega (arith, ints, positive)) own at_most) below;
      bound_is = refl;
    })

-- ---- a node that stays open

-- where the key closes no node at the best point, its multipliers do not close the node there
pub open_still : (d : DeckValue) (b : BoxValue) (y : MultipliersValue) (k : Key) (best : Option Incumbent) → KeyIs (leaf_value d b y) y.y0 k → IsNotClosing d best k → IfSome (objective_of best) (λ v. ¬ Closes d b y v (pos 0))
open_still d b y k None is none = tt
open_still d b y k (Some i) is none = λ c.
    let key = key_has (leaf_value d b y) y.y0 c.value k is c.value_is in
    let up = c.y0 in
    let here : Reaches d k.y0 k.value i.objective (pos 0) = subst (λ (z : ℤ). Reaches d z k.value i.objective (pos 0)) (sym key.0) (subst (λ (z : ℤ). Reaches d y.y0 z i.objective (pos 0)) (sym key.1) c.reaches) in
    none (leaf_bound d k.y0 k.value) (record { some = λ e. absurd (let same = key.0 in omega (arith, ints, e, same, up)); reaches = here; bound_is = refl })

-- ---- what the test of a key says; its numbers come as words of the machine

module _ (d : DeckValue) (best : Option Incumbent) (k : Key) where
  pub closing_of : (i : Incumbent) (x : Rational) (y0 value : ℤ) → best ≡ Some i → ¬ (k.y0 ≡ pos 0) → y0 ≡ k.y0 → value ≡ k.value → Reaches d y0 value i.objective (pos 0) → x ≡ leaf_bound d y0 value → IsClosing d best k x
  closing_of i x y0 value is some e f reaches bound =
      let here : Reaches d k.y0 k.value i.objective (pos 0) = subst (λ (z : ℤ). Reaches d k.y0 z i.objective (pos 0)) f (subst (λ (z : ℤ). Reaches d z value i.objective (pos 0)) e reaches) in
      record {
        some = some;
        reaches = subst (λ (o : Option Incumbent). IsSomeAnd (objective_of o) (λ v. Reaches d k.y0 k.value v (pos 0))) (sym is) here;
        bound_is = bound ∙ ap (λ (z : ℤ). leaf_bound d z value) e ∙ ap (leaf_bound d k.y0) f;
      }

  pub none_closing : best ≡ None → IsNotClosing d best k
  none_closing is bound c = subst (λ (o : Option Incumbent). ¬ IsSomeAnd (objective_of o) (λ v. Reaches d k.y0 k.value v (pos 0))) (sym is) (λ h. h) c.reaches

  pub endless_closing : k.y0 ≡ pos 0 → IsNotClosing d best k
  endless_closing is bound c = c.some is

  pub above_closing : (i : Incumbent) (y0 value : ℤ) → best ≡ Some i → y0 ≡ k.y0 → value ≡ k.value → ¬ Reaches d y0 value i.objective (pos 0) → IsNotClosing d best k
  above_closing i y0 value is e f above bound c =
      let here : Reaches d k.y0 k.value i.objective (pos 0) = subst (λ (o : Option Incumbent). IsSomeAnd (objective_of o) (λ v. Reaches d k.y0 k.value v (pos 0))) is c.reaches in
      above (subst (λ (z : ℤ). Reaches d z value i.objective (pos 0)) (sym e) (subst (λ (z : ℤ). Reaches d k.y0 z i.objective (pos 0)) (sym f) here))

-- ---- the size of a key's y0

below_of : (z : ℤ) → unsigned_abs z < 2 ^ 40 → z <ℤ pos (2 ^ 40)
below_of (pos n) h = omega (arith, ints, h)
below_of (negsuc n) h = omega (arith, ints)

pub key_below : (leaf : Leaf) (y0 : ℤ) (k : Key) → unsigned_abs y0 < 2 ^ 40 → KeyIs leaf y0 k → k.y0 <ℤ pos (2 ^ 40)
key_below (Value value) y0 k small h = subst (λ (z : ℤ). z <ℤ pos (2 ^ 40)) (sym h.0) (below_of y0 small)
key_below (EndlessColumn column) y0 k small h = subst (λ (z : ℤ). z <ℤ pos (2 ^ 40)) (sym h.0) (omega (arith, ints))
key_below (EndlessRow row) y0 k small h = subst (λ (z : ℤ). z <ℤ pos (2 ^ 40)) (sym h.0) (omega (arith, ints))
