-- How what is known of the nodes is kept, and what it leads to.
use Rattle.std.specs.Prelude.{◌≢◌, ℕ, ◌<◌, ℤ, length, Option, IsSome}
use Rattle.um_laws.specs.Rational.{Rational}
use Rattle.um_model.specs.Values.{DeckValue}
use Rattle.um_model.specs.Branches.{Fits, left, right}
use Rattle.um_model.specs.Accepted.{ToleranceHolds, FieldsGo, NumbersSmall, PointFeasible, ObjectiveHolds, RayHolds, IsAccepted}
use Rattle.um_model.specs.declared.answer.AnswerKind.TheVariants.{Unbounded}
use Rattle.um_model.specs.declared.branch.Branch.{Branch}
use Rattle.um_model.specs.AnswerValues.{AnswerValue, NodeValue}
use Rattle.um_model.specs.declared.tree.Solved.{Solved}
use Rattle.um_tree.specs.Growths.{GrowthValue, IsGrowth, IsTold, IsOpenAt, parted, settled}
use Rattle.um_cover.specs.Sites.{box_at}
use Rattle.um_cover.specs.Nodes.{NodeIs, NodesAre, IsImproved, AreOver, IsBound}

-- An answer whose tree tells nodes that all hold is accepted.
pub record IsReadyToTell (d : DeckValue) (g : GrowthValue) (a : AnswerValue) : Type 0 where
  pub tolerance : ToleranceHolds d a.tolerance
  pub fields : FieldsGo a
  pub small : NumbersSmall a
  pub point : PointFeasible d a
  pub objective : ObjectiveHolds d a
  pub ray : RayHolds d a
  pub bounded : a.kind ≢ Unbounded
  pub growth : IsGrowth g
  pub told : IsTold g a.tree
  pub nodes : NodesAre d a.objective a.tolerance g
  pub incumbent : IsSome a.objective → IsSome a.point
  pub over : AreOver a.kind g
  pub bound : IsBound d g a.bound

abbrev pub AcceptedLaw : Type 0
AcceptedLaw = (d : DeckValue) (g : GrowthValue) (a : AnswerValue) → IsReadyToTell d g a → IsAccepted d a

-- A split whose branch fits, with leaves that hold in its two children, keeps what is known.
abbrev pub PartedLaw : Type 0
PartedLaw =
    (d : DeckValue) (incumbent : Option Rational) (tolerance : ℤ) (g : GrowthValue) (id : ℕ) (solved : Option Solved) (branch : Branch) (l r : NodeValue) → IsGrowth g → IsOpenAt g id → NodesAre d incumbent tolerance g
    → Fits d (box_at d g id) branch → NodeIs d incumbent tolerance (left d (box_at d g id) branch) l.what → NodeIs d incumbent tolerance (right d (box_at d g id) branch) r.what
    → NodesAre d incumbent tolerance (parted g id solved branch l r)

-- A leaf that holds in its box keeps what is known of the other nodes.
abbrev pub SettledLaw : Type 0
SettledLaw =
    (d : DeckValue) (incumbent : Option Rational) (tolerance : ℤ) (g : GrowthValue) (id : ℕ) (node : NodeValue) → id < length g.nodes → NodesAre d incumbent tolerance g → NodeIs d incumbent tolerance (box_at d g id) node.what
    → NodesAre d incumbent tolerance (settled g id node)

-- A better incumbent keeps what is known.
abbrev pub ImprovedLaw : Type 0
ImprovedLaw = (d : DeckValue) (v w : Option Rational) (tolerance : ℤ) (g : GrowthValue) → IsImproved v w → NodesAre d v tolerance g → NodesAre d w tolerance g
