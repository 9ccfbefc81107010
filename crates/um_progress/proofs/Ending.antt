-- A search in which no node waits has an answer that is accepted.
use Rattle.std.proofs.Common.{◌≡◌, ℕ, zero, suc, ◌<◌, ℤ, inl, List, [], ◌∷◌, length, slice_index_or, Option, Some, None, refl, sym, subst, arith}
use Rattle.std.specs.Prelude.{Contains, IfSome, IsSomeAnd}
use Rattle.um_laws.specs.Rational.{Rational}
use Rattle.um_model.specs.Values.{DeckValue}
use Rattle.um_model.specs.Boxes.{BoxValue}
use Rattle.um_model.specs.Accepted.{ToleranceHolds, IsAtMost, bounds_at}
use Rattle.um_model.specs.declared.answer.AnswerKind.{AnswerKind}
use Rattle.um_model.specs.declared.answer.AnswerKind.TheVariants.{Optimal, Infeasible as HasNone}
use Rattle.um_model.specs.AnswerValues.{NodeValue, WhatValue, Split, Bounded, Empty, Void, OpenLeaf}
use Rattle.um_tree.specs.Growths.{GrowthValue, what_at, IsTold}
use Rattle.um_cover.specs.Sites.{box_at}
use Rattle.um_cover.specs.Nodes.{NodeIs, IsOver, AreOver, bounds_by, HasBound, IsBound}
use Rattle.um_cover.specs.Laws.{IsReadyToTell}
use Rattle.um_progress.specs.declared.incumbent.Incumbent.{Incumbent}
use Rattle.um_progress.specs.Waits.{IsOpenLeaf}
use Rattle.um_progress.specs.Numbers.{Number}
use Rattle.um_progress.specs.Searches.{IsBounded, IsSearch}
use Rattle.um_progress.specs.Ends.{optimal, infeasible}

over_of : (kind : AnswerKind) (w : WhatValue) → ¬ IsOpenLeaf w → IsOver kind w
over_of kind (Split branch) none = tt
over_of kind (Bounded y) none = tt
over_of kind (Empty y) none = tt
over_of kind (Void column) none = tt
over_of kind (OpenLeaf y) none = absurd (none tt)

in_nil : {X : Type 0} (x : X) → Contains [] x → ⊥
in_nil x c = let h = c.1 in omega arith

-- only Bounded and open leaves have bounds
pub bounded_of : (d : DeckValue) (b : BoxValue) (w : WhatValue) (bound : Option Rational) → ¬ IsOpenLeaf w → Contains (bounds_at d b w) bound → IsBounded w
bounded_of d b (Split branch) bound none c = absurd (in_nil bound c)
bounded_of d b (Bounded y) bound none c = tt
bounded_of d b (Empty y) bound none c = absurd (in_nil bound c)
bounded_of d b (Void column) bound none c = absurd (in_nil bound c)
bounded_of d b (OpenLeaf y) bound none c = absurd (none tt)

pub only_one : {X : Type 0} (x y : X) → Contains (x ∷ []) y → x ≡ y
only_one x y c = go c.0 c.1 c.2
  where
    go : (k : ℕ) → k < 1 → slice_index_or (x ∷ []) k y ≡ y → x ≡ y
    go zero h e = e
    go (suc k) h e = absurd (omega arith)

no_bounded : (d : DeckValue) (t : ℤ) (b : BoxValue) (w : WhatValue) → NodeIs d None t b w → ¬ IsBounded w
no_bounded d t b (Split branch) h is = is
no_bounded d t b (Bounded y) h is = h.closes
no_bounded d t b (Empty y) h is = is
no_bounded d t b (Void column) h is = is
no_bounded d t b (OpenLeaf y) h is = is

module _ (W : Type 0) (d : DeckValue) (t : ℤ) (history : List (Number W)) (g : GrowthValue) (incumbent : Option Incumbent) (least : Option Rational) (s : IsSearch W d t history None g [] incumbent least) where
  none_open : (id : ℕ) → id < length g.nodes → ¬ IsOpenLeaf (what_at g id)
  none_open id h o = s.all id h o

  pub all_over : (kind : AnswerKind) → AreOver kind g
  all_over kind id h = over_of kind (what_at g id) (none_open id h)

  abbrev Low : Option Rational → ℕ → Type 0
  Low o id = IsSomeAnd o (λ x. (y : Rational) × (bounds_by d g id ≡ Some y ∷ []) × IsAtMost x y)

  low : (bound : Option Rational) (b : HasBound d g bound) → Low least b.id
  low bound b = s.closed.below b.id b.inside (bounded_of d (box_at d g b.id) (what_at g b.id) bound (none_open b.id b.inside) b.has)

  above : (x : Rational) (id : ℕ) (bound : Option Rational) → Contains (bounds_by d g id) bound → Low (Some x) id → IsSomeAnd bound (IsAtMost x)
  above x id bound has l = let e = only_one (Some l.0) bound (subst (λ (os : List (Option Rational)). Contains os bound) l.1 has) in subst (λ (o : Option Rational). IsSomeAnd o (IsAtMost x)) e l.2

  bound_of : (o : Option Rational) → least ≡ o → IsBound d g o
  bound_of None e = inl (λ bound b. subst (λ (o : Option Rational). Low o b.id) e (low bound b))
  bound_of (Some x) e =
      let a = subst (λ (o : Option Rational). IfSome o (λ x. (id : ℕ) × (id < length g.nodes) × IsBounded (what_at g id) × (bounds_by d g id ≡ Some x ∷ []))) e s.closed.among in
      record {
        has = record { id = a.0; inside = a.1; has = subst (λ (os : List (Option Rational)). Contains os (Some x)) (sym a.3) (0, omega arith, refl) };
        least = λ bound b. above x b.id bound b.has (subst (λ (o : Option Rational). Low o b.id) e (low bound b));
      }

  pub bound_is : IsBound d g least
  bound_is = bound_of least refl

-- with an incumbent the answer is Optimal
module _ (W : Type 0) (d : DeckValue) (t : ℤ) (history : List (Number W)) (g : GrowthValue) (i : Incumbent) (x : Rational) (s : IsSearch W d t history None g [] (Some i) (Some x)) (tolerance : ToleranceHolds d t) (ns : List NodeValue) (told : IsTold g ns) where
  pub optimal_ready : IsReadyToTell d g (optimal t i x ns)
  optimal_ready = record {
    tolerance = tolerance;
    fields = record { cause = refl; fields = record { point = refl; objective = refl; bound = refl; ray = refl } };
    small = record { point = s.best.small; ray = tt };
    point = s.best.solution.feasible;
    objective = s.best.solution.objective;
    ray = tt;
    bounded = λ e. absurd (cc);
    growth = s.growth;
    told = told;
    nodes = s.nodes;
    incumbent = λ _. refl;
    over = all_over W d t history g (Some i) (Some x) s Optimal;
    bound = bound_is W d t history g (Some i) (Some x) s;
  }

-- without one it is Infeasible
module _ (W : Type 0) (d : DeckValue) (t : ℤ) (history : List (Number W)) (g : GrowthValue) (least : Option Rational) (s : IsSearch W d t history None g [] None least) (tolerance : ToleranceHolds d t) (ns : List NodeValue) (told : IsTold g ns) where
  none_least : (o : Option Rational) → least ≡ o → o ≡ None
  none_least None e = refl
  none_least (Some x) e =
      let a = subst (λ (o : Option Rational). IfSome o (λ x. (id : ℕ) × (id < length g.nodes) × IsBounded (what_at g id) × (bounds_by d g id ≡ Some x ∷ []))) e s.closed.among in
      absurd (no_bounded d t (box_at d g a.0) (what_at g a.0) (s.nodes a.0 a.1) a.2)

  pub infeasible_ready : IsReadyToTell d g (infeasible t ns)
  infeasible_ready = record {
    tolerance = tolerance;
    fields = record { cause = refl; fields = record { point = refl; objective = refl; bound = refl; ray = refl } };
    small = record { point = tt; ray = tt };
    point = tt;
    objective = tt;
    ray = tt;
    bounded = λ e. absurd (cc);
    growth = s.growth;
    told = told;
    nodes = s.nodes;
    incumbent = λ none. none;
    over = all_over W d t history g None least s HasNone;
    bound = subst (IsBound d g) (none_least least refl) (bound_is W d t history g None least s);
  }
