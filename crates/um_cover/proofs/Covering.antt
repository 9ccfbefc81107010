-- The tree of a growing tree whose nodes all hold is accepted.
use Rattle.std.proofs.Common.{◌≡◌, ◌≢◌, ℕ, zero, suc, ◌+◌, ◌<◌, inl, inr, List, [], ◌∷◌, ◌++◌, length, map, slice_index_or, Option, Some, None, refl, sym, ap, ◌∙◌, subst, arith}
use Rattle.std.specs.Prelude.{Contains, IsSome, IsSomeAnd, All}
use Rattle.std.proofs.lemmas.List.Elements.{Contains-append_left, Contains-append_right, Contains-append_cases}
use Rattle.um_laws.specs.Rational.{Rational}
use Rattle.um_model.specs.Values.{DeckValue}
use Rattle.um_model.specs.Boxes.{BoxValue, root}
use Rattle.um_model.specs.LeafValue.{Closes}
use Rattle.um_model.specs.Accepted.{BoundedHolds, First, by_node, by_answer, BranchHolds, LeafVerdict, boxes_behind, NodesVerdict, bounds_at, bounds_of, IsBoundOf, BoundHolds, TreeVerdict, IsAccepted}
use Rattle.um_model.specs.declared.answer.AnswerKind.{AnswerKind}
use Rattle.um_model.specs.declared.answer.AnswerKind.TheVariants.{Optimal, Infeasible as HasNone, Unbounded, Limit, Overflow}
use Rattle.um_multipliers.specs.PlainMultipliers.{MultipliersValue}
use Rattle.um_model.specs.AnswerValues.{AnswerValue, NodeValue, WhatValue, Split, Bounded, Empty, Void, OpenLeaf}
use Rattle.um_model.specs.declared.verdict.Reason.TheVariants as reason
use Rattle.um_model.specs.declared.verdict.Verdict.{Verdict}
use Rattle.um_model.specs.declared.verdict.Verdict.TheVariants.{Yes}
use Rattle.um_tree.specs.declared.growing.Origin.{Origin}
use Rattle.um_tree.specs.Growths.{GrowthValue, node_at, what_at, origins_behind, AreInOrder, IsAmong, AreInside, IsPreorder, IsGrowth}
use Rattle.um_cover.specs.Sites.{box_at, box_from}
use Rattle.um_cover.specs.Nodes.{NodeIs, NodesAre, IsOver, AreOver, bounds_by, HasBound, IsBound}
use Rattle.um_cover.specs.Laws.{IsReadyToTell, AcceptedLaw}
use Rattle.um_cover.proofs.Ways.{box_is}

-- ---- one node
there : {X : Type 0} (o : Option X) (P : X → Type 0) → IsSomeAnd o P → IsSome o
there None P h = absurd h
there (Some x) P h = refl

module _ (d : DeckValue) (a : AnswerValue) (point : IsSome a.objective → IsSome a.point) where
  bounded : (b : BoxValue) (y : MultipliersValue) → IsSomeAnd a.objective (λ v. Closes d b y v a.tolerance) → BoundedHolds d a b y
  bounded b y h = record { point = point (there a.objective _ h); closes = h }

  -- where a node holds the verdict is that on what follows it
  node_yes : (b : BoxValue) (place : ℕ) (what : WhatValue) (follows : Verdict → Type 0) → NodeIs d a.objective a.tolerance b what → IsOver a.kind what → follows Yes
      → First (BranchHolds d b what) (by_node place reason.Branch) (LeafVerdict d a b place what follows) Yes
  node_yes b place (Split branch) follows h over f = inl (h, f)
  node_yes b place (Bounded y) follows h over f = inl (tt, inl (h.full, inl (h.small, inl (h.sign, inl (bounded b y h.closes, f)))))
  node_yes b place (Empty y) follows h over f = inl (tt, inl (h.full, inl (h.small, inl (h.sign, inl (h.empties, f)))))
  node_yes b place (Void column) follows h over f = inl (tt, inl ((h.inside, h.crossed), f))
  node_yes b place (OpenLeaf y) follows h over f = inl (tt, inl (h.full, inl (over, inl (h.small, inl (h.y0, f)))))

-- ---- the boxes that wait
-- behind a node wait the boxes of the origins that wait
boxes_same : (d : DeckValue) (g : GrowthValue) (id : ℕ) (what : WhatValue) (os : List (Option Origin)) → boxes_behind d (box_at d g id) what (map (box_from d g) os) ≡ map (box_from d g) (origins_behind id what os)
boxes_same d g id (Split branch) os = refl
boxes_same d g id (Bounded y) os = refl
boxes_same d g id (Empty y) os = refl
boxes_same d g id (Void column) os = refl
boxes_same d g id (OpenLeaf y) os = refl

module _ (d : DeckValue) (a : AnswerValue) (g : GrowthValue) (growth : IsGrowth g) (point : IsSome a.objective → IsSome a.point) (nodes : NodesAre d a.objective a.tolerance g) (over : AreOver a.kind g) where
  pub nodes_yes : (os : List (Option Origin)) (ids : List ℕ) (place : ℕ) (follows : Verdict → Type 0) → AreInOrder g os ids → AreInside (length g.nodes) ids → follows Yes
      → NodesVerdict d a (map (box_from d g) os) place (map (node_at g) ids) follows Yes
  nodes_yes [] [] place follows o i f = f
  nodes_yes [] (id ∷ ids) place follows o i f = absurd o
  nodes_yes (x ∷ os) [] place follows o i f = absurd o
  nodes_yes (x ∷ os) (id ∷ ids) place follows o i f =
      let rest = nodes_yes (origins_behind id (what_at g id) os) ids (place + 1) follows o.1 i.1 f in
      let rest' = subst (λ (bs : List BoxValue). NodesVerdict d a bs (place + 1) (map (node_at g) ids) follows Yes) (sym (boxes_same d g id (what_at g id) os)) rest in
      subst (λ (b : BoxValue). NodesVerdict d a (b ∷ map (box_from d g) os) place (map (node_at g) (id ∷ ids)) follows Yes) (box_is d g id x growth o.0)
      (node_yes d a point (box_at d g id) place (what_at g id) (NodesVerdict d a (boxes_behind d (box_at d g id) (what_at g id) (map (box_from d g) os)) (place + 1) (map (node_at g) ids) follows) (nodes id i.0) (over id i.0) rest')

-- ---- bounds
abbrev all_bounds : DeckValue → GrowthValue → List ℕ → List (Option Rational)
all_bounds d g [] = []
all_bounds d g (id ∷ ids) = bounds_by d g id ++ all_bounds d g ids

bounds_told : (d : DeckValue) (g : GrowthValue) → IsGrowth g → (os : List (Option Origin)) (ids : List ℕ) → AreInOrder g os ids → bounds_of d (map (box_from d g) os) (map (node_at g) ids) ≡ all_bounds d g ids
bounds_told d g growth [] [] o = refl
bounds_told d g growth [] (id ∷ ids) o = absurd o
bounds_told d g growth (x ∷ os) [] o = absurd o
bounds_told d g growth (x ∷ os) (id ∷ ids) o =
    ap (λ (b : BoxValue). bounds_at d b (what_at g id) ++ bounds_of d (boxes_behind d b (what_at g id) (map (box_from d g) os)) (map (node_at g) ids)) (sym (box_is d g id x growth o.0))
    ∙ ap (λ (bs : List BoxValue). bounds_by d g id ++ bounds_of d bs (map (node_at g) ids)) (boxes_same d g id (what_at g id) os)
    ∙ ap (λ (rest : List (Option Rational)). bounds_by d g id ++ rest) (bounds_told d g growth (origins_behind id (what_at g id) os) ids o.1)

-- a bound in the list is that of a node
from_list : (d : DeckValue) (g : GrowthValue) (ids : List ℕ) (bound : Option Rational) → AreInside (length g.nodes) ids → Contains (all_bounds d g ids) bound → HasBound d g bound
from_list d g [] bound i c = absurd (let h = c.1 in omega arith)
from_list d g (id ∷ ids) bound i c = elim (Contains-append_cases (bounds_by d g id) (all_bounds d g ids) bound c) [
  | inl here ↦ record { id = id; inside = i.0; has = here }
  | inr later ↦ from_list d g ids bound i.1 later
]

-- the bound of a node is in the list
to_list : (d : DeckValue) (g : GrowthValue) (ids : List ℕ) (id : ℕ) (bound : Option Rational) → IsAmong id ids → Contains (bounds_by d g id) bound → Contains (all_bounds d g ids) bound
to_list d g [] id bound among c = absurd among
to_list d g (j ∷ js) id bound (inl e) c = Contains-append_left (bounds_by d g j) (all_bounds d g js) bound (subst (λ (k : ℕ). Contains (bounds_by d g k) bound) e c)
to_list d g (j ∷ js) id bound (inr among) c = Contains-append_right (bounds_by d g j) (all_bounds d g js) bound (to_list d g js id bound among c)

any_default : {X : Type 0} (xs : List X) (k : ℕ) (a b : X) → k < length xs → slice_index_or xs k a ≡ slice_index_or xs k b
any_default [] k a b h = absurd (omega arith)
any_default (x ∷ xs) zero a b h = refl
any_default (x ∷ xs) (suc k) a b h = any_default xs k a b (omega arith)

all_of : {X : Type 0} (P : X → Type 0) (xs : List X) → ((x : X) → Contains xs x → P x) → All P xs
all_of P xs each k default h = each (slice_index_or xs k default) (k, h, any_default xs k (slice_index_or xs k default) default h)

none_at : {X : Type 0} (xs : List X) → ((x : X) → ¬ Contains xs x) → xs ≡ []
none_at [] never = refl
none_at (x ∷ xs) never = absurd (never x (0, omega arith, refl))

module _ (d : DeckValue) (g : GrowthValue) (ids : List ℕ) (is : IsPreorder g ids) where
  pub bound_told : (bound : Option Rational) → IsBound d g bound → IsBoundOf (all_bounds d g ids) bound
  bound_told None (inl none) = inl (none_at (all_bounds d g ids) (λ x c. none x (from_list d g ids x is.inside c)))
  bound_told None (inr endless) = inr (to_list d g ids endless.id None (is.all endless.id endless.inside) endless.has)
  bound_told (Some x) least = record {
    among = to_list d g ids least.has.id (Some x) (is.all least.has.id least.has.inside) least.has.has;
    least = all_of _ (all_bounds d g ids) (λ o c. least.least o (from_list d g ids o is.inside c));
  }

-- ---- the answer
module _ (d : DeckValue) (g : GrowthValue) (a : AnswerValue) (r : IsReadyToTell d g a) where
  abbrev Rest : Verdict → Type 0
  Rest = First (BoundHolds d a) (by_answer reason.BoundWord) (λ w. w ≡ Yes)

  ids : List ℕ
  ids = r.told.ids

  bound_holds : BoundHolds d a
  bound_holds = subst (λ (ns : List NodeValue). IsBoundOf (bounds_of d (root d ∷ []) ns) a.bound) (sym r.told.tree_is)
      (subst (λ (bs : List (Option Rational)). IsBoundOf bs a.bound) (sym (bounds_told d g r.growth (None ∷ []) r.told.ids r.told.is.order)) (bound_told d g r.told.ids r.told.is a.bound r.bound))

  tree_holds : NodesVerdict d a (root d ∷ []) 0 a.tree Rest Yes
  tree_holds = subst (λ (ns : List NodeValue). NodesVerdict d a (root d ∷ []) 0 ns Rest Yes) (sym r.told.tree_is)
      (nodes_yes d a g r.growth r.incumbent r.nodes r.over (None ∷ []) r.told.ids 0 Rest r.told.is.order r.told.is.inside (inl (bound_holds, refl)))

  tree_yes : (kind : AnswerKind) → kind ≢ Unbounded → TreeVerdict kind d a Yes
  tree_yes Unbounded other = refl
  tree_yes Optimal other = tree_holds
  tree_yes HasNone other = tree_holds
  tree_yes Limit other = tree_holds
  tree_yes Overflow other = tree_holds

  pub accepted : IsAccepted d a
  accepted = inl (r.tolerance, inl (r.fields, inl (r.small, inl (r.point, inl (r.objective, inl (r.ray, tree_yes a.kind r.bounded))))))

pub accepted-law : AcceptedLaw
accepted-law d g a r = accepted d g a r
