-- The verdict on one node by itself, and on what is looked at before the tree.
use Rattle.std.specs.Prelude.{◌≡◌, ℕ, ◌^◌, ◌<◌, ℤ, pos, ◌≤ℤ◌, unsigned_abs, List, [], ◌∷◌, Option, Some, None, Result, Ok, Err, IfOk}
use Rattle.um_multipliers.specs.PlainMultipliers.{MultipliersValue}
use Rattle.um_multipliers.specs.Sizes.{AreBelow}
use Rattle.um_model.specs.Values.{DeckValue}
use Rattle.um_model.specs.AnswerValues.{AnswerValue, WhatValue}
use Rattle.um_model.specs.Boxes.{BoxValue, IsVoid}
use Rattle.um_model.specs.LeafValue.{leaf_value}
use Rattle.um_model.specs.Accepted.{First, by_node, by_answer, LeafVerdict, BranchHolds, SignHolds, ToleranceHolds, FieldsGo, NumbersSmall, PointFeasible, ObjectiveHolds, RayHolds, BoundHolds, boxes_behind, bounds_at}
use Rattle.um_model.specs.declared.leaf.Leaf.TheVariants.{Value}
use Rattle.um_model.specs.declared.verdict.Reason.{Reason}
use Rattle.um_model.specs.declared.verdict.Reason.TheVariants as reason
use Rattle.um_model.specs.declared.verdict.Verdict.{Verdict}
use Rattle.um_model.specs.declared.verdict.Verdict.TheVariants.{Yes}
use Rattle.um_model.specs.declared.limits.TheConstants.{MOST_TOLERANCE, MULTIPLIER_SIZE}
use Rattle.um_check.specs.Bounds.{least_of, told}
use Rattle.um_check.specs.declared.bound.LeastBound.{LeastBound}

-- ---- leaves

-- the tolerances with which a leaf may be compared
pub record IsTolerance (t : ℤ) : Type 0 where
  pub least : pos 0 ≤ℤ t
  pub most : t ≤ℤ MOST_TOLERANCE

-- the value of a box that is not void, under multipliers that may be used
pub record LeafValueIs (d : DeckValue) (b : BoxValue) (y : MultipliersValue) (value : ℤ) : Type 0 where
  pub full : ¬ IsVoid d b
  pub small : AreBelow MULTIPLIER_SIZE y
  pub y0 : pos 0 ≤ℤ y.y0
  pub value_is : leaf_value d b y ≡ Value value
  pub size : unsigned_abs value < 2 ^ 126

-- the first reason for which there is no such value
abbrev pub IsUnusable : DeckValue → BoxValue → MultipliersValue → Reason → Type 0
IsUnusable d b y why = (place : ℕ) →
    First (¬ IsVoid d b) (by_node place reason.NotVoid) (First (AreBelow MULTIPLIER_SIZE y) (by_node place reason.Wide)
    (First (SignHolds d b y) (by_node place reason.Sign) (λ v. ⊥))) (by_node place why)

-- ---- nodes

-- yes, or no with the reason and this node
abbrev pub verdict_of : ℕ → Result LeastBound Reason → Verdict
verdict_of place (Ok bound) = Yes
verdict_of place (Err why) = by_node place why

-- what the verdict is if nothing but the leaf is looked at
abbrev pub OnLeaf : DeckValue → AnswerValue → BoxValue → WhatValue → Result LeastBound Reason → Type 0
OnLeaf d a b w result = (place : ℕ) → LeafVerdict d a b place w (λ v. v ≡ Yes) (verdict_of place result)

-- the same for a node of any kind
abbrev pub OnNode : DeckValue → AnswerValue → BoxValue → WhatValue → Result LeastBound Reason → Type 0
OnNode d a b w result = (place : ℕ) → First (BranchHolds d b w) (by_node place reason.Branch) (LeafVerdict d a b place w (λ v. v ≡ Yes)) (verdict_of place result)

-- a node that holds gives what it says of the bound
abbrev pub GivesBound : DeckValue → BoxValue → WhatValue → Result LeastBound Reason → Type 0
GivesBound d b w result = IfOk result (λ bound. bound ≡ least_of (bounds_at d b w))

-- the node of the box that waits first was looked at; where it holds, the boxes behind it wait
abbrev pub IsVisited : DeckValue → AnswerValue → WhatValue → List BoxValue → List BoxValue → Result LeastBound Reason → Type 0
IsVisited d a w [] after result = ⊥
IsVisited d a w (b ∷ bs) after result = OnNode d a b w result × GivesBound d b w result × IfOk result (λ bound. after ≡ boxes_behind d b w bs)

-- ---- the answer

-- yes, or no with a reason that is of no node
abbrev pub verdict_by : Option Reason → Verdict
verdict_by None = Yes
verdict_by (Some why) = by_answer why

-- what the verdict is if nothing from the tree on is looked at
abbrev pub BeforeTree : DeckValue → AnswerValue → Option Reason → Type 0
BeforeTree d a result =
    First (ToleranceHolds d a.tolerance) (by_answer reason.Tolerance) (First (FieldsGo a) (by_answer reason.Fields)
    (First (NumbersSmall a) (by_answer reason.Wide) (First (PointFeasible d a) (by_answer reason.Infeasible)
    (First (ObjectiveHolds d a) (by_answer reason.Objective) (First (RayHolds d a) (by_answer reason.Ray) (λ v. v ≡ Yes)))))) (verdict_by result)

-- the verdict from the bound on
abbrev pub FromBound : DeckValue → AnswerValue → Verdict → Type 0
FromBound d a = First (BoundHolds d a) (by_answer reason.BoundWord) (λ v. v ≡ Yes)

-- the same for an answer whose leaves say this of the bound
abbrev pub OnBound : AnswerValue → LeastBound → Verdict → Type 0
OnBound a least = First (a.bound ≡ told least) (by_answer reason.BoundWord) (λ v. v ≡ Yes)
