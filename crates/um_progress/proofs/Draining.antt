-- A search that stopped early: its open nodes get their multipliers, and the answer that follows is accepted.
use Rattle.std.proofs.Common.{◌≡◌, ℕ, ◌<◌, ℤ, ◌⊎◌, inl, inr, Bool, true, false, List, [], ◌∷◌, ◌++◌, length, map, Option, Some, None, refl, sym, ap, ◌∙◌, subst, arith}
use Rattle.std.specs.Prelude.{Contains, IfSome, IsSomeAnd}
use Rattle.std.proofs.Math.ListN.{length-set}
use Rattle.std.proofs.lemmas.Int.{ints}
use Rattle.um_laws.specs.Rational.{Rational}
use Rattle.um_model.specs.Values.{DeckValue}
use Rattle.um_model.specs.Boxes.{BoxValue}
use Rattle.um_model.specs.LeafValue.{leaf_value}
use Rattle.um_model.specs.Accepted.{ToleranceHolds, WhyGoes, FieldsOf, IsStopped, IsAtMost, bounds_at, bound_in}
use Rattle.um_model.specs.declared.answer.AnswerKind.{AnswerKind}
use Rattle.um_model.specs.declared.answer.AnswerKind.TheVariants.{Limit, Overflow, Unbounded}
use Rattle.um_model.specs.declared.answer.Why.TheVariants as cause
use Rattle.um_model.specs.declared.answer.Why.{Why}
use Rattle.um_multipliers.specs.PlainMultipliers.{MultipliersValue}
use Rattle.um_model.specs.AnswerValues.{kind_of_stop, NodeValue, WhatValue, Split, Bounded, Empty, Void, OpenLeaf}
use Rattle.um_model.specs.declared.tree.Solved.{Solved}
use Rattle.um_laws.proofs.Places.{at_set}
use Rattle.um_tree.specs.Growths.{GrowthValue, node_at, what_at, no_node, settled, IsAmong, IsNew, AreDistinct, IsTold}
use Rattle.um_tree.proofs.Writes.{settled_growth}
use Rattle.um_cover.specs.Sites.{box_at}
use Rattle.um_cover.specs.Nodes.{OpenIs, IsOver, AreOver, NodesAre, bounds_by, HasBound, IsBound}
use Rattle.um_cover.specs.Laws.{IsReadyToTell}
use Rattle.um_cover.proofs.Keeping.{settled-law}
use Rattle.um_nodes.specs.declared.open_nodes.OpenNode.{OpenNode}
use Rattle.um_progress.specs.declared.incumbent.Incumbent.{Incumbent}
use Rattle.um_progress.specs.Waits.{Every, IsOpenLeaf, IsFresh, WaitsIn, id_of}
use Rattle.um_progress.specs.Numbers.{Number, IsNumbered}
use Rattle.um_progress.specs.Searches.{IsIncumbent, held, IsBounded, IsSearch}
use Rattle.um_progress.specs.Incumbents.{objective_of}
use Rattle.um_progress.specs.Stops.{Covers, IsBoundOfOne, IsCounted, Counts, IsDraining, bound_of}
use Rattle.um_progress.specs.Ends.{stopped}
use Rattle.um_progress.proofs.Acts.{open_leaf}
use Rattle.um_progress.proofs.Changes.{IsChange, settle_changes, which, bounds_on, fresh_on, at_most_trans}
use Rattle.um_progress.proofs.Ending.{bounded_of, only_one}

-- ---- where it begins
one_in : {X : Type 0} (x : X) → Contains (x ∷ []) x
one_in x = (0, omega arith, refl)

first_covers : (least : Option Rational) (bound : Option Rational) (bs : List (Option Rational)) → IsSomeAnd least (λ x. (y : Rational) × (bs ≡ Some y ∷ []) × IsAtMost x y) → bs ≡ bound ∷ [] → Covers false least bound
first_covers None bound bs l e = absurd l
first_covers (Some x) bound bs l e =
    let same = only_one bound (Some l.0) (subst (λ (os : List (Option Rational)). Contains os (Some l.0)) (sym l.1 ∙ e) (one_in (Some l.0))) in
    subst (λ (o : Option Rational). Covers false (Some x) o) (sym same) l.2

fresh_ids : (d : DeckValue) (g : GrowthValue) (ws : List OpenNode) → Every (WaitsIn d g) ws → Every (IsFresh g) (map id_of ws)
fresh_ids d g [] e = tt
fresh_ids d g (w ∷ ws) e = (e.0.fresh, fresh_ids d g ws e.1)

fresh_held : (g : GrowthValue) (hand : Option ℕ) (ids : List ℕ) → IfSome hand (IsFresh g) → Every (IsFresh g) ids → Every (IsFresh g) (held hand ids)
fresh_held g None ids h e = e
fresh_held g (Some id) ids h e = (h, e)

fresh_unbound : (w : WhatValue) → IsOpenLeaf w → ¬ IsBounded w
fresh_unbound (Split branch) o b = o
fresh_unbound (Bounded y) o b = o
fresh_unbound (Empty y) o b = o
fresh_unbound (Void column) o b = o
fresh_unbound (OpenLeaf y) o b = absurd b

fresh_of : (g : GrowthValue) (ids : List ℕ) (id : ℕ) → Every (IsFresh g) ids → IsAmong id ids → IsFresh g id
fresh_of g [] id e a = absurd a
fresh_of g (j ∷ js) id e (inl same) = subst (IsFresh g) (sym same) e.0
fresh_of g (j ∷ js) id e (inr a) = fresh_of g js id e.1 a

pub drain_begins : (W : Type 0) (d : DeckValue) (t : ℤ) (history : List (Number W)) (hand : Option ℕ) (g : GrowthValue) (ws : List OpenNode) (incumbent : Option Incumbent) (least : Option Rational) → IsSearch W d t history hand g ws incumbent least
    → IsDraining W d t history g (held hand (map id_of ws)) incumbent false least
drain_begins W d t history hand g ws incumbent least s = record {
  growth = s.growth;
  nodes = s.nodes;
  best = s.best;
  distinct = s.distinct;
  fresh = fresh_held g hand (map id_of ws) s.in_hand (fresh_ids d g ws s.waits);
  counted = record {
    none = λ e. absurd (cc);
    some = there least s.closed.among;
    each = λ id inside apart bound e.
        let closed : ¬ IsOpenLeaf (what_at g id) = λ o. apart (s.all id inside o) in
        let bounded = bounded_of d (box_at d g id) (what_at g id) bound closed (subst (λ (os : List (Option Rational)). Contains os bound) (sym e) (one_in bound)) in
        first_covers least bound (bounds_by d g id) (s.closed.below id inside bounded) e;
  };
  numbered = s.numbered;
}
  where
    fresh_all : Every (IsFresh g) (held hand (map id_of ws))
    fresh_all = fresh_held g hand (map id_of ws) s.in_hand (fresh_ids d g ws s.waits)

    there : (o : Option Rational) → IfSome o (λ x. (id : ℕ) × (id < length g.nodes) × IsBounded (what_at g id) × (bounds_by d g id ≡ Some x ∷ [])) → IfSome o (λ x. IsBoundOfOne d g (held hand (map id_of ws)) (Some x))
    there None a = tt
    there (Some x) a = (a.0, a.1, (λ among. fresh_unbound (what_at g a.0) (fresh_of g (held hand (map id_of ws)) a.0 fresh_all among).open_leaf a.2), a.3)

-- ---- one node
module _ (W : Type 0) (d : DeckValue) (t : ℤ) (history : List (Number W)) (g : GrowthValue) (id : ℕ) (ids : List ℕ) (incumbent : Option Incumbent) (endless : Bool) (least : Option Rational) (s : IsDraining W d t history g (id ∷ ids) incumbent endless least) (solved : Option Solved) (y : MultipliersValue) (bounds : OpenIs d (box_at d g id) y) where
  abbrev node : NodeValue
  node = record { solved = solved; what = OpenLeaf y }

  abbrev after : GrowthValue
  after = settled g id node

  abbrev bound : Option Rational
  bound = bound_in d y.y0 (leaf_value d (box_at d g id) y)

  change : IsChange d g after id
  change = settle_changes d g id node

  inside : id < length g.nodes
  inside = s.fresh.0.inside

  size : length after.nodes ≡ length g.nodes
  size = length-set g.nodes id node

  node_is : node_at after id ≡ node
  node_is = at_set g.nodes id node no_node inside

  here : bounds_by d after id ≡ bound ∷ []
  here = ap (λ (n : NodeValue). bounds_at d (box_at d g id) n.what) node_is

  abbrev HasIt : Option Rational → Type 0
  HasIt b = (j : ℕ) × (j < length after.nodes) × (bounds_by d after j ≡ b ∷ [])

  -- the old bounds of other nodes are there still; one that id itself had is not counted
  each_after : (endless' : Bool) (least' : Option Rational) → ((b : Option Rational) → Covers endless least b → Covers endless' least' b) → Covers endless' least' bound → (j : ℕ) → j < length after.nodes → ¬ IsAmong j ids → (b : Option Rational) → bounds_by d after j ≡ b ∷ [] → Covers endless' least' b
  each_after endless' least' more this j h apart b e = elim (which d g after id change j) [
    | inl same ↦
        let at : bounds_by d after id ≡ b ∷ [] = ap (bounds_by d after) same ∙ e in
        subst (Covers endless' least') (only_one bound b (subst (λ (os : List (Option Rational)). Contains os b) (sym at ∙ here) (one_in b))) this
    | inr rest ↦ elim rest [
      | inl old ↦ more b (s.counted.each j old.0 (λ a. elim a [ inl f ↦ old.1 (sym f) | inr f ↦ apart f ]) b (sym (bounds_on d g after id change j old.0 old.1) ∙ e))
      | inr new ↦ absurd (omega (arith, h, new, size))
    ]
  ]

  -- every id that is still to come is fresh
  fresh_after : Every (IsFresh after) ids
  fresh_after = go ids s.distinct.0 s.fresh.1
    where
      go : (js : List ℕ) → IsNew id js → Every (IsFresh g) js → Every (IsFresh after) js
      go [] new e = tt
      go (j ∷ js) new e = (fresh_on d g after id change j e.0 new.0, go js new.1 e.1)

  pub drain_act : (history' : List (Number W)) (endless' : Bool) (least' : Option Rational) → IsNumbered W after history' → IsCounted d after ids endless' least' → IsDraining W d t history' after ids incumbent endless' least'
  drain_act history' endless' least' numbered counted = record {
    growth = settled_growth g id node inside (open_leaf (what_at g id) s.fresh.0.open_leaf) tt s.growth;
    nodes = settled-law d (objective_of incumbent) t g id node inside s.nodes bounds;
    best = s.best;
    distinct = s.distinct.1;
    fresh = fresh_after;
    counted = counted;
    numbered = numbered;
  }

  module _ (endless' : Bool) (least' : Option Rational) where
    -- a node that had this bound, and is none of those to come, has it still
    kept : (b : Option Rational) → IsBoundOfOne d g (id ∷ ids) b → IsBoundOfOne d after ids b
    kept b a =
        let apart : ¬ (id ≡ a.0) = λ e. a.2 (inl (sym e)) in
        let h = a.1 in
        (a.0, omega (arith, h, size), (λ among. a.2 (inr among)), bounds_on d g after id change a.0 a.1 apart ∙ a.3)

    not_among : (js : List ℕ) → IsNew id js → ¬ IsAmong id js
    not_among [] new a = a
    not_among (j ∷ js) new (inl e) = new.0 e
    not_among (j ∷ js) new (inr a) = not_among js new.1 a

    this_one : (b : Option Rational) → bound ≡ b → IsBoundOfOne d after ids b
    this_one b e = (id, let h = inside in omega (arith, h, size), not_among ids s.distinct.0, here ∙ ap (λ (o : Option Rational). o ∷ []) e)

    kept_least : (o : Option Rational) → IfSome o (λ x. IsBoundOfOne d g (id ∷ ids) (Some x)) → IfSome o (λ x. IsBoundOfOne d after ids (Some x))
    kept_least None a = tt
    kept_least (Some x) a = kept (Some x) a

    weaker : (b : Option Rational) → Covers endless least b → Covers true least b
    weaker None c = refl
    weaker (Some y) c = c

    lower : (x : Rational) (o : Option Rational) → IfSome o (λ y. IsAtMost x y) → (b : Option Rational) → Covers endless o b → Covers endless (Some x) b
    lower x o le None c = c
    lower x None le (Some y) c = absurd c
    lower x (Some z) le (Some y) c = at_most_trans x z y le c

    itself : (x : Rational) → IsAtMost x x
    itself x = omega (arith, ints)

    above : (o : Option Rational) (x : Rational) → IsSomeAnd o (λ y. IsAtMost y x) → Covers endless o (Some x)
    above None x le = absurd le
    above (Some y) x le = le

    -- with the bound of this node
    pub counted_after : (b : Option Rational) → bound ≡ b → Counts endless least b endless' least' → IsCounted d after ids endless' least'
    counted_after None e c = rw c.0 (rw c.1 (record {
      none = λ _. this_one None e;
      some = kept_least least s.counted.some;
      each = each_after true least weaker (subst (Covers true least) (sym e) refl);
    }))
    counted_after (Some x) e (e', inl new) = rw e' (rw new.0 (record {
      none = λ f. kept None (s.counted.none f);
      some = this_one (Some x) e;
      each = each_after endless (Some x) (lower x least new.1) (subst (Covers endless (Some x)) (sym e) (itself x));
    }))
    counted_after (Some x) e (e', inr old) = rw e' (rw old.0 (record {
      none = λ f. kept None (s.counted.none f);
      some = kept_least least s.counted.some;
      each = each_after endless least (λ b c. c) (subst (Covers endless least) (sym e) (above least x old.1));
    }))

-- ---- the end
-- a search stops at a limit, or where a number became too large
abbrev IsOneOf : AnswerKind → Type 0
IsOneOf kind = (kind ≡ Limit) ⊎ (kind ≡ Overflow)

stop_kind : (why : Why) → IsOneOf (kind_of_stop why)
stop_kind cause.Nodes = inl refl
stop_kind cause.Pivots = inl refl
stop_kind (cause.Points column) = inl refl
stop_kind (cause.Grid number) = inl refl
stop_kind (cause.Pivot number step wide) = inr refl
stop_kind (cause.Value number step wide) = inr refl
stop_kind (cause.Leaf number) = inr refl
stop_kind (cause.Vertex number) = inr refl
stop_kind cause.Ray = inr refl

-- what holds of both kinds
for_kind : (P : AnswerKind → Type 0) (kind : AnswerKind) → IsOneOf kind → P Limit → P Overflow → P kind
for_kind P kind (inl e) l o = subst P (sym e) l
for_kind P kind (inr e) l o = subst P (sym e) o

cause_goes : (kind : AnswerKind) (why : Why) → kind ≡ kind_of_stop why → IsOneOf (kind_of_stop why) → WhyGoes kind (Some why)
cause_goes kind why is (inl e) = subst (λ (k : AnswerKind). WhyGoes k (Some why)) (sym (is ∙ e)) e
cause_goes kind why is (inr e) = subst (λ (k : AnswerKind). WhyGoes k (Some why)) (sym (is ∙ e)) e

never_unbounded : (kind : AnswerKind) → IsOneOf kind → ¬ (kind ≡ Unbounded)
never_unbounded kind (inl e) u = let f : Limit ≡ Unbounded = sym e ∙ u in absurd (cc)
never_unbounded kind (inr e) u = let f : Overflow ≡ Unbounded = sym e ∙ u in absurd (cc)

stopped_over : (kind : AnswerKind) → IsStopped kind → (w : WhatValue) → IsOver kind w
stopped_over kind stopped (Split branch) = tt
stopped_over kind stopped (Bounded y) = tt
stopped_over kind stopped (Empty y) = tt
stopped_over kind stopped (Void column) = tt
stopped_over kind stopped (OpenLeaf y) = stopped

single : (d : DeckValue) (b : BoxValue) (w : WhatValue) (bound : Option Rational) → Contains (bounds_at d b w) bound → bounds_at d b w ≡ bound ∷ []
single d b (Split branch) bound c = absurd (let h = c.1 in omega arith)
single d b (Bounded y) bound c = ap (λ (o : Option Rational). o ∷ []) (only_one (bound_in d y.y0 (leaf_value d b y)) bound c)
single d b (Empty y) bound c = absurd (let h = c.1 in omega arith)
single d b (Void column) bound c = absurd (let h = c.1 in omega arith)
single d b (OpenLeaf y) bound c = ap (λ (o : Option Rational). o ∷ []) (only_one (bound_in d y.y0 (leaf_value d b y)) bound c)

module _ (d : DeckValue) (g : GrowthValue) where
  has_of : (bound : Option Rational) → IsBoundOfOne d g [] bound → HasBound d g bound
  has_of bound a = record { id = a.0; inside = a.1; has = subst (λ (os : List (Option Rational)). Contains os bound) (sym a.3) (one_in bound) }

  covered : (endless : Bool) (least : Option Rational) → IsCounted d g [] endless least → (bound : Option Rational) → HasBound d g bound → Covers endless least bound
  covered endless least c bound b = c.each b.id b.inside (λ a. a) bound (single d (box_at d g b.id) (what_at g b.id) bound b.has)

  none_covered : (bound : Option Rational) → ¬ Covers false None bound
  none_covered None c = absurd (cc)
  none_covered (Some y) c = c

  at_least : (x : Rational) (bound : Option Rational) → Covers false (Some x) bound → IsSomeAnd bound (IsAtMost x)
  at_least x None c = absurd (cc)
  at_least x (Some y) c = c

  pub bound_drained : (endless : Bool) (least : Option Rational) → IsCounted d g [] endless least → IsBound d g (bound_of endless least)
  bound_drained true least c = inr (has_of None (c.none refl))
  bound_drained false None c = inl (λ bound b. none_covered bound (covered false None c bound b))
  bound_drained false (Some x) c = record { has = has_of (Some x) c.some; least = λ bound b. at_least x bound (covered false (Some x) c bound b) }

-- the answer, Limit or Overflow by its cause
module _ (W : Type 0) (d : DeckValue) (t : ℤ) (history : List (Number W)) (g : GrowthValue) (incumbent : Option Incumbent) (endless : Bool) (least : Option Rational) (s : IsDraining W d t history g [] incumbent endless least) (tolerance : ToleranceHolds d t) (kind : AnswerKind) (why : Why) (is : kind ≡ kind_of_stop why) (ns : List NodeValue) (told : IsTold g ns) where
  one_of : IsOneOf kind
  one_of = subst IsOneOf (sym is) (stop_kind why)

  cause_is : WhyGoes kind (Some why)
  cause_is = cause_goes kind why is (stop_kind why)

  over : AreOver kind g
  over id h = stopped_over kind (for_kind IsStopped kind one_of tt tt) (what_at g id)

  stop_ready_of : (o : Option Incumbent) → incumbent ≡ o → IsReadyToTell d g (stopped kind why t o (bound_of endless least) ns)
  stop_ready_of None e = record {
    tolerance = tolerance;
    fields = record {
      cause = cause_is;
      fields = for_kind (λ (k : AnswerKind). FieldsOf k (stopped kind why t None (bound_of endless least) ns)) kind one_of
          (record { objective = ((λ h. h), (λ h. h)); ray = refl }) (record { objective = ((λ h. h), (λ h. h)); ray = refl });
    };
    small = record { point = tt; ray = tt };
    point = tt;
    objective = tt;
    ray = tt;
    bounded = never_unbounded kind one_of;
    growth = s.growth;
    told = told;
    nodes = subst (λ (o : Option Incumbent). NodesAre d (objective_of o) t g) e s.nodes;
    incumbent = λ h. h;
    over = over;
    bound = bound_drained d g endless least s.counted;
  }
  stop_ready_of (Some i) e =
      let best = subst (λ (o : Option Incumbent). IfSome o (IsIncumbent d)) e s.best in
      record {
        tolerance = tolerance;
        fields = record {
          cause = cause_is;
          fields = for_kind (λ (k : AnswerKind). FieldsOf k (stopped kind why t (Some i) (bound_of endless least) ns)) kind one_of
              (record { objective = ((λ h. refl), (λ h. refl)); ray = refl }) (record { objective = ((λ h. refl), (λ h. refl)); ray = refl });
        };
        small = record { point = best.small; ray = tt };
        point = best.solution.feasible;
        objective = best.solution.objective;
        ray = tt;
        bounded = never_unbounded kind one_of;
        growth = s.growth;
        told = told;
        nodes = subst (λ (o : Option Incumbent). NodesAre d (objective_of o) t g) e s.nodes;
        incumbent = λ _. refl;
        over = over;
        bound = bound_drained d g endless least s.counted;
      }

  pub stop_ready : IsReadyToTell d g (stopped kind why t incumbent (bound_of endless least) ns)
  stop_ready = stop_ready_of incumbent refl

-- ---- an entry at the end of those that wait
every_turn : {X : Type 0} (P : X → Type 0) (xs : List X) (x : X) → Every P (xs ++ x ∷ []) → P x × Every P xs
every_turn P [] x e = (e.0, tt)
every_turn P (y ∷ ys) x e = let r = every_turn P ys x e.1 in (r.0, (e.0, r.1))

among_turn : (k id : ℕ) (ids : List ℕ) → IsAmong k (id ∷ ids) → IsAmong k (ids ++ id ∷ [])
among_turn k id [] a = a
among_turn k id (j ∷ js) (inl e) = inr (among_turn k id js (inl e))
among_turn k id (j ∷ js) (inr (inl e)) = inl e
among_turn k id (j ∷ js) (inr (inr a)) = inr (among_turn k id js (inr a))

turn_among : (k id : ℕ) (ids : List ℕ) → IsAmong k (ids ++ id ∷ []) → IsAmong k (id ∷ ids)
turn_among k id [] a = a
turn_among k id (j ∷ js) (inl e) = inr (inl e)
turn_among k id (j ∷ js) (inr a) = elim (turn_among k id js a) [ inl e ↦ inl e | inr b ↦ inr (inr b) ]

new_turn : (k id : ℕ) (ids : List ℕ) → IsNew k (ids ++ id ∷ []) → IsNew k (id ∷ ids)
new_turn k id [] n = n
new_turn k id (j ∷ js) n = let r = new_turn k id js n.1 in (r.0, (n.0, r.1))

distinct_turn : (id : ℕ) (ids : List ℕ) → AreDistinct (ids ++ id ∷ []) → AreDistinct (id ∷ ids)
distinct_turn id [] d = d
distinct_turn id (j ∷ js) d =
    let r = distinct_turn id js d.1 in
    let n = new_turn j id js d.0 in
    (((λ e. n.0 (sym e)), r.0), (n.1, r.1))

pub drain_turn : (W : Type 0) (d : DeckValue) (t : ℤ) (history : List (Number W)) (g : GrowthValue) (id : ℕ) (ids : List ℕ) (incumbent : Option Incumbent) (endless : Bool) (least : Option Rational) → IsDraining W d t history g (ids ++ id ∷ []) incumbent endless least
    → IsDraining W d t history g (id ∷ ids) incumbent endless least
drain_turn W d t history g id ids incumbent endless least s = record {
  growth = s.growth;
  nodes = s.nodes;
  best = s.best;
  distinct = distinct_turn id ids s.distinct;
  fresh = every_turn (IsFresh g) ids id s.fresh;
  counted = record {
    none = λ e. turned None (s.counted.none e);
    some = turned_least least s.counted.some;
    each = λ j h apart b e. s.counted.each j h (λ a. apart (turn_among j id ids a)) b e;
  };
  numbered = s.numbered;
}
  where
    turned : (b : Option Rational) → IsBoundOfOne d g (ids ++ id ∷ []) b → IsBoundOfOne d g (id ∷ ids) b
    turned b a = (a.0, a.1, (λ among. a.2 (among_turn a.0 id ids among)), a.3)

    turned_least : (o : Option Rational) → IfSome o (λ x. IsBoundOfOne d g (ids ++ id ∷ []) (Some x)) → IfSome o (λ x. IsBoundOfOne d g (id ∷ ids) (Some x))
    turned_least None a = tt
    turned_least (Some x) a = turned (Some x) a

pub every_last : {X : Type 0} (P : X → Type 0) (xs : List X) (x : X) → Every P (xs ++ x ∷ []) → P x × Every P xs
every_last P xs x e = every_turn P xs x e
