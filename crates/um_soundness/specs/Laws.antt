-- The laws that make a checked tree a proof.
use Rattle.std.specs.Prelude.{◌≡◌, ℕ, ◌<◌, ◌≤◌, ℤ, pos, ◌+ℤ◌, ◌-ℤ◌, ◌*ℤ◌, ◌≤ℤ◌, ◌<ℤ◌, unsigned_abs, ◌⊎◌, ◌↔◌, List, map}
use Rattle.um_laws.specs.Rational.{Rational}
use Rattle.um_model.specs.Values.{DeckValue, SetValue, PointValue}
use Rattle.um_multipliers.specs.PlainMultipliers.{MultipliersValue}
use Rattle.um_model.specs.AnswerValues.{AnswerValue}
use Rattle.um_model.specs.Accepted.{IsVerdict, IsAccepted}
use Rattle.um_model.specs.Right.{IsRight}
use Rattle.um_model.specs.WellFormed.{AtPlace, IsDeck}
use Rattle.um_model.specs.Feasible.{part, member_parts, Feasible}
use Rattle.um_model.specs.Objective.{objective, objective_times, HasObjective, Beats, IsBelow}
use Rattle.um_model.specs.Boxes.{BoxValue, InBox, ZeroOutside, root, span_at, IsVoid}
use Rattle.um_model.specs.Branches.{Fits, left, right}
use Rattle.um_model.specs.LeafValue.{leaf_value, leaf_bound, Closes, Empties, half_slope, nearest}
use Rattle.um_model.specs.FirstBroken.{IsFirstBroken}
use Rattle.um_model.specs.Rounding.{floor_div, ceil_div}
use Rattle.um_model.specs.declared.point.Broken.{Broken}
use Rattle.um_model.specs.Rays.{Ray, moved}
use Rattle.um_model.specs.AverageSplit.{IsAverageSplit}
use Rattle.um_model.specs.declared.branch.Branch.{Branch}
use Rattle.um_model.specs.declared.leaf.Leaf.TheVariants.{Value}
use Rattle.um_model.specs.declared.verdict.Verdict.{Verdict}

-- Each feasible point is in the root box.
abbrev pub RootLaw : Type 0
RootLaw = (d : DeckValue) (p : PointValue) → Feasible d p → InBox d (root d) p

-- The two children of a box hold each feasible point of the box.
abbrev pub CoverLaw : Type 0
CoverLaw = (d : DeckValue) (b : BoxValue) (branch : Branch) (p : PointValue) → Fits d b branch → Feasible d p → InBox d b p → InBox d (left d b branch) p ⊎ InBox d (right d b branch) p

-- No feasible point of a box has an objective below the value of any multipliers there: value / (1000 * y0 * 10 ^ scale) is at most the objective, with the denominators multiplied out.
abbrev pub BoundLaw : Type 0
BoundLaw =
    (d : DeckValue) (b : BoxValue) (y : MultipliersValue) (value : ℤ) (p : PointValue) → pos 0 ≤ℤ y.y0 → leaf_value d b y ≡ Value value → Feasible d p → InBox d b p
    → (value *ℤ (p.den *ℤ p.den)) ≤ℤ (pos 1000 *ℤ y.y0 *ℤ objective_times d p)

-- In other words: no feasible point of a box has an objective below the leaf's bound.
abbrev pub LeafBoundLaw : Type 0
LeafBoundLaw =
    (d : DeckValue) (b : BoxValue) (y : MultipliersValue) (value : ℤ) (p : PointValue) → pos 0 <ℤ y.y0 → leaf_value d b y ≡ Value value → Feasible d p → InBox d b p
    → ¬ Beats d p (leaf_bound d y.y0 value) (pos 0)

-- No feasible point of a closed box beats the value at which it is closed.
abbrev pub ClosedLeafLaw : Type 0
ClosedLeafLaw = (d : DeckValue) (b : BoxValue) (y : MultipliersValue) (v : Rational) (t : ℤ) (p : PointValue) → Closes d b y v t → Feasible d p → InBox d b p → ¬ Beats d p v t

-- A box that multipliers empty has no feasible point.
abbrev pub EmptyLeafLaw : Type 0
EmptyLeafLaw = (d : DeckValue) (b : BoxValue) (y : MultipliersValue) (p : PointValue) → Empties d b y → Feasible d p → ¬ InBox d b p

-- A void box has no feasible point.
abbrev pub VoidBoxLaw : Type 0
VoidBoxLaw = (d : DeckValue) (b : BoxValue) (p : PointValue) → IsVoid d b → Feasible d p → ¬ InBox d b p

-- The average split of a set fits the box and leaves the point out of both children, where the set's members are at least 0 at the point, and 0 outside the set's interval.
abbrev pub ExclusionLaw : Type 0
ExclusionLaw =
    (d : DeckValue) (b : BoxValue) (set : ℕ) (s : SetValue) (p : PointValue) (branch : Branch) → IsDeck d → AtPlace d.sets set s
    → ((position : ℕ) → pos 0 ≤ℤ part (member_parts p s) position) → ZeroOutside p (span_at b set) s → IsAverageSplit d set p branch
    → Fits d b branch × ¬ InBox d (left d b branch) p × ¬ InBox d (right d b branch) p

-- A feasible point moved along a ray stays feasible, and its objective falls.
abbrev pub RayLaw : Type 0
RayLaw =
    (d : DeckValue) (p : PointValue) (ray : List ℤ) (k : ℤ) → IsDeck d → Feasible d p → Ray d ray → pos 1 ≤ℤ k
    → Feasible d (moved k p ray) × IsBelow d (moved k p ray) p

-- the same point, with its numbers times k
abbrev pub scaled : ℤ → PointValue → PointValue
scaled k p = record { den = k *ℤ p.den; parts = map (λ x. k *ℤ x) p.parts }

-- What is said of a point does not depend on a common factor of its numbers.
pub record IsSamePoint (d : DeckValue) (p q : PointValue) : Type 0 where
  pub feasible : Feasible d q ↔ Feasible d p
  pub box : (b : BoxValue) → InBox d b q ↔ InBox d b p
  pub same_objective : objective d q ≡ objective d p
  pub beats : (v : Rational) (t : ℤ) → Beats d q v t ↔ Beats d p v t

abbrev pub ScalingLaw : Type 0
ScalingLaw = (d : DeckValue) (p : PointValue) (k : ℤ) → pos 1 ≤ℤ p.den → pos 1 ≤ℤ k → IsSamePoint d p (scaled k p)

-- A point has one objective.
abbrev pub ObjectiveLaw : Type 0
ObjectiveLaw = (d : DeckValue) (p : PointValue) (v : Rational) → pos 1 ≤ℤ p.den → HasObjective d p v ↔ (objective d p ≡ v)

-- A point that breaks a part first is not feasible, and it breaks no other part first.
abbrev pub BrokenLaw : Type 0
BrokenLaw = (d : DeckValue) (p : PointValue) (one : Broken) → IsFirstBroken d p one → ¬ Feasible d p × ((other : Broken) → IsFirstBroken d p other → one ≡ other)

-- A set has one average split at a point.
abbrev pub OneSplitLaw : Type 0
OneSplitLaw = (d : DeckValue) (set : ℕ) (p : PointValue) (one other : Branch) → IsAverageSplit d set p one → IsAverageSplit d set p other → one ≡ other

-- The rounded quotients are the next whole numbers below and above.
abbrev pub RoundingLaw : Type 0
RoundingLaw =
    (z : ℤ) (n : ℕ) → 0 < n
    → ((floor_div z n *ℤ pos n) ≤ℤ z) × (z <ℤ ((floor_div z n +ℤ pos 1) *ℤ pos n)) × (z ≤ℤ (ceil_div z n *ℤ pos n)) × (((ceil_div z n -ℤ pos 1) *ℤ pos n) <ℤ z)

-- No whole number x is nearer to a curve's vertex than the nearest one, and none that is as near is lower.
abbrev pub NearestLaw : Type 0
NearestLaw =
    (linear : ℤ) (square : ℕ) (x : ℤ) → 0 < square
    → (unsigned_abs (half_slope linear (pos square) (nearest linear square)) ≤ unsigned_abs (half_slope linear (pos square) x))
    × (unsigned_abs (half_slope linear (pos square) (nearest linear square)) ≡ unsigned_abs (half_slope linear (pos square) x) → nearest linear square ≤ℤ x)

-- There is one verdict on an answer.
abbrev pub VerdictLaw : Type 0
VerdictLaw = (d : DeckValue) (a : AnswerValue) (v w : Verdict) → IsVerdict d a v → IsVerdict d a w → v ≡ w

-- An accepted answer is right, whoever made it.
abbrev pub AcceptedIsRightLaw : Type 0
AcceptedIsRightLaw = (d : DeckValue) (a : AnswerValue) → IsDeck d → IsAccepted d a → IsRight d a
