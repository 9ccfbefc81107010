-- An accepted answer is right: each feasible point lies in the box of a leaf that holds it up, and such a leaf says how low the point's objective may be.
use Rattle.std.proofs.Common.{◌≡◌, ℕ, ◌+◌, ℤ, pos, ◌<ℤ◌, ◌⊎◌, inl, inr, List, [], ◌∷◌, ◌++◌, Option, Some, None, refl, subst, ap, arith}
use Rattle.std.specs.Prelude.{Contains, is_some, IsSome, IfSome, IsSomeAnd}
use Rattle.std.proofs.lemmas.Int.{ints}
use Rattle.std.proofs.lemmas.List.Elements.{All-contains, Contains-append_right}
use Rattle.um_laws.specs.Rational.{Rational}
use Rattle.um_multipliers.specs.PlainMultipliers.{MultipliersValue}
use Rattle.um_model.specs.Values.{DeckValue, PointValue}
use Rattle.um_model.specs.AnswerValues.{AnswerValue, NodeValue, WhatValue, Split, Bounded, Empty, Void, OpenLeaf}
use Rattle.um_model.specs.WellFormed.{IsDeck}
use Rattle.um_model.specs.Feasible.{Feasible}
use Rattle.um_model.specs.Objective.{HasObjective, Beats}
use Rattle.um_model.specs.Boxes.{BoxValue, InBox, root}
use Rattle.um_model.specs.LeafValue.{leaf_value, leaf_bound, Closes}
use Rattle.um_model.specs.Rays.{Ray}
use Rattle.um_model.specs.Accepted.{IsStopped, FieldsOf, OptimalFields, InfeasibleFields, UnboundedFields, StoppedFields, PointFeasible, ObjectiveHolds, RayHolds, BoundedHolds, First, BranchHolds, LeafVerdict, boxes_behind, NodesVerdict, bound_in, bounds_at, bounds_of, IsAtMost, IsLeast, IsBoundOf, BoundHolds, TreeVerdict}
use Rattle.um_model.specs.Right.{IsSolution, RightOptimal, RightInfeasible, RightUnbounded, RightStopped, RightOf}
use Rattle.um_soundness.specs.Laws.{AcceptedIsRightLaw}
use Rattle.um_model.specs.declared.answer.AnswerKind.{AnswerKind}
use Rattle.um_model.specs.declared.answer.AnswerKind.TheVariants.{Optimal, Infeasible as HasNone, Unbounded, Limit, Overflow}
use Rattle.um_model.specs.declared.leaf.Leaf.{Leaf}
use Rattle.um_model.specs.declared.leaf.Leaf.TheVariants.{Value, EndlessColumn, EndlessRow}
use Rattle.um_model.specs.declared.verdict.Reason.{Reason}
use Rattle.um_model.specs.declared.verdict.Reason.TheVariants as reason
use Rattle.um_model.specs.declared.verdict.Verdict.{Verdict}
use Rattle.um_model.specs.declared.verdict.Verdict.TheVariants.{Yes, No}
use Rattle.um_soundness.proofs.Cover.{cover-law, root-law}
use Rattle.um_soundness.proofs.VoidBoxes.{void-box-law}
use Rattle.um_soundness.proofs.Leaves.{closed-leaf-law, empty-leaf-law}
use Rattle.um_soundness.proofs.Moving.{ray-law}
use Rattle.um_soundness.proofs.Objectives.{bound_reaches, reaches_below}

-- ---- a condition holds where the verdict is yes
passes : {A B : Type 0} {node : Option ℕ} {why : Reason} → A ⊎ (B × (Yes ≡ No node why)) → A
passes (inl a) = a
passes (inr e) = let wrong = e.1 in absurd (cc)

-- ---- options
there_and : {X : Type 0} (o : Option X) (P : X → Type 0) → IsSome o → ((x : X) → o ≡ Some x → P x) → IsSomeAnd o P
there_and None P h each = absurd (cc)
there_and (Some x) P h each = each x refl

if_there : {X : Type 0} (o : Option X) (P : X → Type 0) → ((x : X) → o ≡ Some x → P x) → IfSome o P
if_there None P each = tt
if_there (Some x) P each = each x refl

then_holds : {X : Type 0} (o : Option X) (P : X → Type 0) (x : X) → o ≡ Some x → IfSome o P → P x
then_holds {X} o P x e h = subst (λ (w : Option X). IfSome w P) e h

and_holds : {X : Type 0} (o : Option X) (P : X → Type 0) (x : X) → o ≡ Some x → IsSomeAnd o P → P x
and_holds {X} o P x e h = subst (λ (w : Option X). IsSomeAnd w P) e h

-- ---- leaves that hold a point up

-- the point is in one of the boxes
abbrev InSome : DeckValue → PointValue → List BoxValue → Type 0
InSome d p [] = ⊥
InSome d p (b ∷ bs) = InBox d b p ⊎ InSome d p bs

-- the point lies in the box of a Bounded or an open leaf, whose bound is one of these
pub record IsHeld (d : DeckValue) (a : AnswerValue) (p : PointValue) (bounds : List (Option Rational)) : Type 0 where
  pub box : BoxValue
  pub y : MultipliersValue
  pub inside : InBox d box p
  pub y0 : pos 0 <ℤ y.y0
  pub among : Contains bounds (bound_in d y.y0 (leaf_value d box y))
  pub leaf : IsStopped a.kind ⊎ BoundedHolds d a box y

held_behind : (d : DeckValue) (a : AnswerValue) (p : PointValue) (front bounds : List (Option Rational)) → IsHeld d a p bounds → IsHeld d a p (front ++ bounds)
held_behind d a p front bounds h = record {
  box = h.box;
  y = h.y;
  inside = h.inside;
  y0 = h.y0;
  among = Contains-append_right front bounds (bound_in d h.y.y0 (leaf_value d h.box h.y)) h.among;
  leaf = h.leaf;
}

held_here : (d : DeckValue) (a : AnswerValue) (p : PointValue) (b : BoxValue) (y : MultipliersValue) (bounds : List (Option Rational)) → InBox d b p → pos 0 <ℤ y.y0 → IsStopped a.kind ⊎ BoundedHolds d a b y
    → IsHeld d a p (bound_in d y.y0 (leaf_value d b y) ∷ bounds)
held_here d a p b y bounds inside y0 leaf = record { box = b; y = y; inside = inside; y0 = y0; among = (0, omega arith, refl); leaf = leaf }

closing_y0 : (d : DeckValue) (a : AnswerValue) (b : BoxValue) (y : MultipliersValue) → BoundedHolds d a b y → pos 0 <ℤ y.y0
closing_y0 d a b y h = go a.objective h.closes
  where
    go : (o : Option Rational) → IsSomeAnd o (λ v. Closes d b y v a.tolerance) → pos 0 <ℤ y.y0
    go None c = absurd c
    go (Some v) c = c.y0

-- ---- the walk over the nodes
module _ (d : DeckValue) (a : AnswerValue) (p : PointValue) (f : Feasible d p) where
  -- what follows the nodes is yes too, and a point of the waiting boxes is held up
  abbrev Walked : List BoxValue → (Verdict → Type 0) → List (Option Rational) → Type 0
  Walked boxes follows bounds = follows Yes × (InSome d p boxes → IsHeld d a p bounds)

  step : (b : BoxValue) (bs : List BoxValue) (place : ℕ) (what : WhatValue) (ns : List NodeValue) (follows : Verdict → Type 0)
      → First (BranchHolds d b what) (No (Some place) reason.Branch) (LeafVerdict d a b place what (NodesVerdict d a (boxes_behind d b what bs) (place + 1) ns follows)) Yes
      → (NodesVerdict d a (boxes_behind d b what bs) (place + 1) ns follows Yes → Walked (boxes_behind d b what bs) follows (bounds_of d (boxes_behind d b what bs) ns))
      → Walked (b ∷ bs) follows (bounds_at d b what ++ bounds_of d (boxes_behind d b what bs) ns)
  step b bs place (Split branch) ns follows v rest =
      let h = passes v in
      let r = rest h.1 in (
        r.0,
        λ i. elim i [
          | inl here ↦ elim (cover-law d b branch p h.0 f here) [ inl l ↦ r.1 (inl l) | inr l ↦ r.1 (inr (inl l)) ]
          | inr there ↦ r.1 (inr (inr there))
        ],
      )
  step b bs place (Void column) ns follows v rest =
      let h = passes (passes v).1 in
      let r = rest h.1 in (
        r.0,
        λ i. elim i [
          | inl here ↦ absurd (void-box-law d b p (column, h.0.0, h.0.1) f here)
          | inr there ↦ r.1 there
        ],
      )
  step b bs place (Bounded y) ns follows v rest =
      let h = passes (passes (passes (passes (passes v).1).1).1).1 in
      let r = rest h.1 in (
        r.0,
        λ i. elim i [
          | inl here ↦ held_here d a p b y (bounds_of d bs ns) here (closing_y0 d a b y h.0) (inr h.0)
          | inr there ↦ held_behind d a p (bounds_at d b (Bounded y)) (bounds_of d bs ns) (r.1 there)
        ],
      )
  step b bs place (Empty y) ns follows v rest =
      let h = passes (passes (passes (passes (passes v).1).1).1).1 in
      let r = rest h.1 in (
        r.0,
        λ i. elim i [
          | inl here ↦ absurd (empty-leaf-law d b y p h.0 f here)
          | inr there ↦ r.1 there
        ],
      )
  step b bs place (OpenLeaf y) ns follows v rest =
      let s = passes (passes (passes v).1).1 in
      let h = passes (passes s.1).1 in
      let r = rest h.1 in (
        r.0,
        λ i. elim i [
          | inl here ↦ held_here d a p b y (bounds_of d bs ns) here h.0 (inl s.0)
          | inr there ↦ held_behind d a p (bounds_at d b (OpenLeaf y)) (bounds_of d bs ns) (r.1 there)
        ],
      )

  walk : (boxes : List BoxValue) (place : ℕ) (nodes : List NodeValue) (follows : Verdict → Type 0) → NodesVerdict d a boxes place nodes follows Yes → Walked boxes follows (bounds_of d boxes nodes)
  walk [] place [] follows v = (v, λ i. absurd i)
  walk [] place (n ∷ ns) follows v = absurd (cc)
  walk (b ∷ bs) place [] follows v = absurd (cc)
  walk (b ∷ bs) place (n ∷ ns) follows v = step b bs place n.what ns follows v (λ w. walk (boxes_behind d b n.what bs) (place + 1) ns follows w)

-- ---- the tree of an answer
abbrev TreeHolds : DeckValue → AnswerValue → Type 0
TreeHolds d a = NodesVerdict d a (root d ∷ []) 0 a.tree (First (BoundHolds d a) (No None reason.BoundWord) (λ w. w ≡ Yes)) Yes

-- each feasible point is held up
all_held : (d : DeckValue) (a : AnswerValue) → TreeHolds d a → (p : PointValue) → Feasible d p → IsHeld d a p (bounds_of d (root d ∷ []) a.tree)
all_held d a v p f = (walk d a p f (root d ∷ []) 0 a.tree (First (BoundHolds d a) (No None reason.BoundWord) (λ w. w ≡ Yes)) v).1 (inl (root-law d p f))

-- where no leaf is open each feasible point is in a closed box
in_closed : (d : DeckValue) (a : AnswerValue) (kind : AnswerKind) → a.kind ≡ kind → ¬ IsStopped kind → TreeHolds d a → (p : PointValue) → Feasible d p
    → (b : BoxValue) × (y : MultipliersValue) × InBox d b p × BoundedHolds d a b y
in_closed d a kind e ended v p f =
    let h = all_held d a v p f in
    elim h.leaf [
      | inl s ↦ absurd (ended (subst IsStopped e s))
      | inr closed ↦ (h.box, h.y, h.inside, closed)
    ]

-- ---- bounds
bound_at : (d : DeckValue) (y0 : ℤ) (leaf : Leaf) (x : Rational) → IsSomeAnd (bound_in d y0 leaf) (IsAtMost x) → (value : ℤ) × (leaf ≡ Value value) × IsAtMost x (leaf_bound d y0 value)
bound_at d y0 (Value value) x h = (value, refl, h)
bound_at d y0 (EndlessColumn column) x h = absurd h
bound_at d y0 (EndlessRow row) x h = absurd h

-- no point that is held up is below a number that none of the bounds is below
not_below : (d : DeckValue) (a : AnswerValue) (p : PointValue) (bounds : List (Option Rational)) (x : Rational) → IsLeast bounds x → Feasible d p → IsHeld d a p bounds → ¬ Beats d p x (pos 0)
not_below d a p bounds x least f h =
    let leaf : Leaf = leaf_value d h.box h.y in
    let at = bound_at d h.y.y0 leaf x (All-contains (λ (o : Option Rational). IsSomeAnd o (IsAtMost x)) bounds (bound_in d h.y.y0 leaf) least.least h.among) in
    closed-leaf-law d h.box h.y x (pos 0) p (record {
      y0 = h.y0;
      value = at.0;
      value_is = at.1;
      reaches = reaches_below d h.y.y0 at.0 (pos 0) x (leaf_bound d h.y.y0 at.0) (let up = h.y0 in omega (arith, ints)) (bound_reaches d h.y.y0 at.0 h.y0) at.2;
    }) f h.inside

-- ---- the kinds

-- a point that is given, with the objective that goes with it
module _ (d : DeckValue) (a : AnswerValue) (f : PointFeasible d a) (o : ObjectiveHolds d a) where
  solution : (p : PointValue) → a.point ≡ Some p → IsSome a.objective → IsSomeAnd a.objective (IsSolution d p)
  solution p e there = there_and a.objective (IsSolution d p) there (λ v g. record {
    feasible = then_holds a.point (Feasible d) p e f;
    objective = then_holds a.objective (HasObjective d p) v g (then_holds a.point (λ p. IfSome a.objective (HasObjective d p)) p e o);
  })

  right_optimal : a.kind ≡ Optimal → OptimalFields a → TreeHolds d a → RightOptimal d a
  right_optimal e has v = record {
    point = there_and a.point _ has.point (λ p g. solution p g has.objective);
    best = there_and a.objective _ has.objective (λ x g p feasible.
        let h = in_closed d a Optimal e (λ s. s) v p feasible in
        closed-leaf-law d h.0 h.1 x a.tolerance p (and_holds a.objective (λ x. Closes d h.0 h.1 x a.tolerance) x g h.3.closes) feasible h.2);
  }

  right_infeasible : a.kind ≡ HasNone → InfeasibleFields a → TreeHolds d a → RightInfeasible d
  right_infeasible e has v p feasible =
      let h = in_closed d a HasNone e (λ s. s) v p feasible in
      let there = h.3.point in
      let none = has.point in
      absurd (cc)

  right_stopped : StoppedFields a → TreeHolds d a → RightStopped d a
  right_stopped has v = record {
    point = if_there a.point _ (λ p g. solution p g (has.objective.1 (ap is_some g)));
    bound = if_there a.bound _ (λ x g p feasible. not_below d a p (bounds_of d (root d ∷ []) a.tree) x (subst (IsBoundOf (bounds_of d (root d ∷ []) a.tree)) g (bound v p feasible)) feasible (all_held d a v p feasible));
  }
    where
      bound : TreeHolds d a → (p : PointValue) → Feasible d p → BoundHolds d a
      bound v p feasible = (passes (walk d a p feasible (root d ∷ []) 0 a.tree (First (BoundHolds d a) (No None reason.BoundWord) (λ w. w ≡ Yes)) v).0).0

  right_unbounded : IsDeck d → RayHolds d a → UnboundedFields a → RightUnbounded d a
  right_unbounded deck ray has = there_and a.point _ has.point (λ p g. there_and a.ray _ has.ray (λ r i.
      let feasible : Feasible d p = then_holds a.point (Feasible d) p g f in
      let holds : Ray d r = then_holds a.ray (Ray d) r i ray in
      record {
        point = feasible;
        ray_holds = holds;
        feasible = λ k one. (ray-law d p r k deck feasible holds one).0;
        below = λ k one. (ray-law d p r k deck feasible holds one).1;
      }))

  right_of : IsDeck d → RayHolds d a → (kind : AnswerKind) → a.kind ≡ kind → FieldsOf kind a → TreeVerdict kind d a Yes → RightOf kind d a
  right_of deck ray Optimal e has v = right_optimal e has v
  right_of deck ray HasNone e has v = right_infeasible e has v
  right_of deck ray Unbounded e has v = right_unbounded deck ray has
  right_of deck ray Limit e has v = right_stopped has v
  right_of deck ray Overflow e has v = right_stopped has v

pub accepted-is-right-law : AcceptedIsRightLaw
accepted-is-right-law d a deck v =
    let tolerance = passes v in
    let fields = passes tolerance.1 in
    let small = passes fields.1 in
    let feasible = passes small.1 in
    let objective = passes feasible.1 in
    let ray = passes objective.1 in
    right_of d a feasible.0 objective.0 deck ray.0 a.kind refl fields.0.fields ray.1
