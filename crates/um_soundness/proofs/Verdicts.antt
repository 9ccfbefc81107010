-- The verdict on an answer is one: each condition that is looked at decides which of two ways is gone.
use Rattle.std.proofs.Common.{◌≡◌, ℕ, ◌+◌, pos, ◌<ℤ◌, inl, inr, List, [], ◌∷◌, sym, ◌∙◌}
use Rattle.um_model.specs.Values.{DeckValue}
use Rattle.um_model.specs.AnswerValues.{AnswerValue, NodeValue, WhatValue, Split, Bounded, Empty, Void, OpenLeaf}
use Rattle.um_model.specs.Boxes.{BoxValue, root}
use Rattle.um_model.specs.LeafValue.{Empties}
use Rattle.um_model.specs.Accepted.{ToleranceHolds, FieldsGo, NumbersSmall, PointFeasible, ObjectiveHolds, RayHolds, BoundedHolds, First, by_node, by_answer, BranchHolds, LeafVerdict, boxes_behind, NodesVerdict, BoundHolds, TreeVerdict}
use Rattle.um_soundness.specs.Laws.{VerdictLaw}
use Rattle.um_model.specs.declared.answer.AnswerKind.{AnswerKind}
use Rattle.um_model.specs.declared.answer.AnswerKind.TheVariants.{Optimal, Infeasible as HasNone, Unbounded, Limit, Overflow}
use Rattle.um_model.specs.declared.verdict.Reason.TheVariants as reason
use Rattle.um_model.specs.declared.verdict.Verdict.{Verdict}
use Rattle.um_model.specs.declared.verdict.Verdict.TheVariants.{Yes}

-- no two verdicts
abbrev IsOne : (Verdict → Type 0) → Type 0
IsOne follows = (v w : Verdict) → follows v → follows w → v ≡ w

first_one : (P : Type 0) (otherwise : Verdict) (follows : Verdict → Type 0) → IsOne follows → IsOne (First P otherwise follows)
first_one P otherwise follows one v w (inl a) (inl b) = one v w a.1 b.1
first_one P otherwise follows one v w (inl a) (inr b) = absurd (b.0 a.0)
first_one P otherwise follows one v w (inr a) (inl b) = absurd (a.0 b.0)
first_one P otherwise follows one v w (inr a) (inr b) = a.1 ∙ sym b.1

same_one : (x : Verdict) → IsOne (λ v. v ≡ x)
same_one x v w e g = e ∙ sym g

module _ (d : DeckValue) (a : AnswerValue) where
  leaf_one : (b : BoxValue) (place : ℕ) (what : WhatValue) (follows : Verdict → Type 0) → IsOne follows → IsOne (LeafVerdict d a b place what follows)
  leaf_one b place (Split branch) follows one = one
  leaf_one b place (Void column) follows one = first_one _ _ follows one
  leaf_one b place (Bounded y) follows one = first_one _ _ _ (first_one _ _ _ (first_one _ _ _ (first_one (BoundedHolds d a b y) _ follows one)))
  leaf_one b place (Empty y) follows one = first_one _ _ _ (first_one _ _ _ (first_one _ _ _ (first_one (Empties d b y) _ follows one)))
  leaf_one b place (OpenLeaf y) follows one = first_one _ _ _ (first_one _ _ _ (first_one _ _ _ (first_one (pos 0 <ℤ y.y0) _ follows one)))

  nodes_one : (boxes : List BoxValue) (place : ℕ) (nodes : List NodeValue) (follows : Verdict → Type 0) → IsOne follows → IsOne (NodesVerdict d a boxes place nodes follows)
  nodes_one [] place [] follows one = one
  nodes_one [] place (n ∷ ns) follows one = same_one (by_node place reason.Shape)
  nodes_one (b ∷ bs) place [] follows one = same_one (by_node place reason.Shape)
  nodes_one (b ∷ bs) place (n ∷ ns) follows one =
      first_one (BranchHolds d b n.what) (by_node place reason.Branch) (LeafVerdict d a b place n.what (NodesVerdict d a (boxes_behind d b n.what bs) (place + 1) ns follows))
      (leaf_one b place n.what (NodesVerdict d a (boxes_behind d b n.what bs) (place + 1) ns follows) (nodes_one (boxes_behind d b n.what bs) (place + 1) ns follows one))

  bound_one : IsOne (First (BoundHolds d a) (by_answer reason.BoundWord) (λ w. w ≡ Yes))
  bound_one = first_one (BoundHolds d a) (by_answer reason.BoundWord) (λ w. w ≡ Yes) (same_one Yes)

  tree_one : (kind : AnswerKind) → IsOne (TreeVerdict kind d a)
  tree_one Unbounded = same_one Yes
  tree_one Optimal = nodes_one (root d ∷ []) 0 a.tree _ bound_one
  tree_one HasNone = nodes_one (root d ∷ []) 0 a.tree _ bound_one
  tree_one Limit = nodes_one (root d ∷ []) 0 a.tree _ bound_one
  tree_one Overflow = nodes_one (root d ∷ []) 0 a.tree _ bound_one

pub verdict-law : VerdictLaw
verdict-law d a v w =
    first_one (ToleranceHolds d a.tolerance) _ _ (first_one (FieldsGo a) _ _ (first_one (NumbersSmall a) _ _ (first_one (PointFeasible d a) _ _ (first_one (ObjectiveHolds d a) _ _ (first_one (RayHolds d a) _ (TreeVerdict a.kind d a) (tree_one d a a.kind)))))) v w
