-- The best point of a history with one turn more.
use Rattle.std.proofs.Common.{◌≡◌, ℕ, ◌<◌, ◌⊎◌, inl, inr, [], ◌∷◌, ◌++◌, length, Option, Some, None, sym, ap, ◌∙◌, subst, arith}
use Rattle.std.specs.Prelude.{IsSomeAnd, IfSome}
use Rattle.std.proofs.lemmas.Int.{ints}
use Rattle.um_laws.specs.Rational.{Rational}
use Rattle.um_multipliers.specs.PlainMultipliers.{MultipliersValue}
use Rattle.um_model.specs.Values.{DeckValue, PointValue, plain_point}
use Rattle.um_model.specs.Feasible.{Feasible}
use Rattle.um_model.specs.Objective.{objective}
use Rattle.um_model.specs.Accepted.{IsAtMost}
use Rattle.um_progress.specs.declared.incumbent.Incumbent.{Incumbent}
use Rattle.um_progress.specs.Numbers.{Number}
use Rattle.um_progress.specs.Incumbents.{objective_of}
use Rattle.um_progress.proofs.Changes.{at_most_trans}
use Rattle.um_turns.specs.Turns.{Turn, TurnEnd, Reached}
use Rattle.um_turns.specs.Histories.{History, HasVertex, IsBest}
use Rattle.um_turns.specs.NextTurns.{IsNoBetter}
use Rattle.um_turns.proofs.Lists.{get_pushed, get_still, get_last, get_inside}

-- ---- vertices
-- the turn ended at this vertex
pub record EndsAt (n : Number Turn) (p : PointValue) : Type 0 where
  pub own : MultipliersValue
  pub vertex : n.told.end ≡ Reached p own

vertex_inside : (history : History) (place : ℕ) (p : PointValue) → HasVertex history place p → place < length history
vertex_inside history place p v = get_inside history place v.number v.here

vertex_still : (history : History) (n : Number Turn) (place : ℕ) (p : PointValue) → HasVertex history place p → HasVertex (history ++ n ∷ []) place p
vertex_still history n place p v = record { number = v.number; here = get_still history n place v.number v.here; own = v.own; vertex = v.vertex }

vertex_pushed : (history : History) (n : Number Turn) (place : ℕ) (p : PointValue) → HasVertex (history ++ n ∷ []) place p → HasVertex history place p ⊎ ((place ≡ length history) × EndsAt n p)
vertex_pushed history n place p v = elim (get_pushed history n place v.number v.here) [
  | inl old ↦ inl (record { number = v.number; here = old; own = v.own; vertex = v.vertex })
  | inr new ↦ inr (new.0, record { own = v.own; vertex = ap (λ (m : Number Turn). m.told.end) new.1 ∙ v.vertex })
]

-- ---- the beginning
pub best_begins : (d : DeckValue) → IsBest d [] None
best_begins d place p v feasible = let h = vertex_inside [] place p v in absurd (omega (arith, h))

-- ---- a turn that is no better
no_better_at : (d : DeckValue) (best : Option Incumbent) (end : TurnEnd) (p : PointValue) (own : MultipliersValue) → IsNoBetter d best end → end ≡ Reached p own → Feasible d p → IsSomeAnd (objective_of best) (λ v. IsAtMost v (objective d p))
no_better_at d best end p own h e = subst (IsNoBetter d best) e h

pub best_stays : (d : DeckValue) (history : History) (best : Option Incumbent) (n : Number Turn) → IsNoBetter d best n.told.end → IsBest d history best → IsBest d (history ++ n ∷ []) best
best_stays d history None n none b = λ place p v feasible. elim (vertex_pushed history n place p v) [
  | inl old ↦ b place p old feasible
  | inr new ↦ no_better_at d None n.told.end p new.1.own none new.1.vertex feasible
]
best_stays d history (Some i) n none b = record {
  place = b.place;
  here = vertex_still history n b.place (plain_point i.point) b.here;
  feasible = b.feasible;
  value_is = b.value_is;
  least = λ place p v feasible. elim (vertex_pushed history n place p v) [
    | inl old ↦ b.least place p old feasible
    | inr new ↦ no_better_at d (Some i) n.told.end p new.1.own none new.1.vertex feasible
  ];
  first = λ place p before v feasible. elim (vertex_pushed history n place p v) [
    | inl old ↦ b.first place p before old feasible
    | inr new ↦ let inside = vertex_inside history b.place (plain_point i.point) b.here in let at = new.0 in absurd (omega (arith, inside, before, at))
  ];
}

-- ---- a turn that is better
abbrev Lower : Option Incumbent → Rational → Type 0
Lower best value = IfSome (objective_of best) (λ v. ¬ IsAtMost v value)

at_most_or : (x y : Rational) → ¬ IsAtMost y x → IsAtMost x y
at_most_or x y h = grind (arith, ints)

-- a lower value is at most the objective of each feasible vertex so far, and none of those is at most the value
least_so_far : (d : DeckValue) (history : History) (best : Option Incumbent) (value : Rational) → Lower best value → IsBest d history best → (place : ℕ) (p : PointValue) → HasVertex history place p → Feasible d p → IsAtMost value (objective d p) × ¬ IsAtMost (objective d p) value
least_so_far d history None value lower b place p v feasible = absurd (b place p v feasible)
least_so_far d history (Some i) value lower b place p v feasible =
    let least = b.least place p v feasible in
    (at_most_trans value i.objective (objective d p) (at_most_or value i.objective lower) least, λ h. lower (at_most_trans i.objective (objective d p) value least h))

same_point : (p q : PointValue) (y z : MultipliersValue) → Reached p y ≡ Reached q z → p ≡ q
same_point p q y z e = cc

at_most_same : (x y : Rational) → x ≡ y → IsAtMost x y
at_most_same x y e = subst (IsAtMost x) e (omega (arith, ints))

pub best_improves : (d : DeckValue) (history : History) (old : Option Incumbent) (new : Incumbent) (n : Number Turn) (y : MultipliersValue) → n.told.end ≡ Reached (plain_point new.point) y → Feasible d (plain_point new.point) → new.objective ≡ objective d (plain_point new.point) → IfSome (objective_of old) (λ v. ¬ IsAtMost v new.objective)
    → IsBest d history old → IsBest d (history ++ n ∷ []) (Some new)
best_improves d history old new n y end feasible value_is lower b = record {
  place = length history;
  here = record { number = n; here = get_last history n; own = y; vertex = end };
  feasible = feasible;
  value_is = value_is;
  least = λ place p v fits. elim (vertex_pushed history n place p v) [
    | inl before ↦ (least_so_far d history old new.objective lower b place p before fits).0
    | inr this ↦ at_most_same new.objective (objective d p) (value_is ∙ ap (objective d) (same_point (plain_point new.point) p y this.1.own (sym end ∙ this.1.vertex)))
  ];
  first = λ place p below v fits. elim (vertex_pushed history n place p v) [
    | inl before ↦ (least_so_far d history old new.objective lower b place p before fits).1
    | inr this ↦ let at = this.0 in absurd (omega (arith, below, at))
  ];
}
