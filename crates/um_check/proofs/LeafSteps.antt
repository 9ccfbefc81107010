-- The conditions on a leaf with multipliers, from the value on or without one.
use Rattle.std.proofs.Common.{◌≡◌, ℕ, ◌^◌, ℤ, pos, ◌<ℤ◌, Option, Some, sym, ◌∙◌, subst, inl}
use Rattle.std.specs.Prelude.{IsSome, IsSomeAnd, ◌↔◌}
use Rattle.um_laws.specs.Rational.{Rational}
use Rattle.um_multipliers.specs.PlainMultipliers.{MultipliersValue}
use Rattle.um_multipliers.specs.Sizes.{AreBelow}
use Rattle.um_model.specs.Values.{DeckValue}
use Rattle.um_model.specs.AnswerValues.{AnswerValue}
use Rattle.um_model.specs.Boxes.{BoxValue, IsVoid}
use Rattle.um_model.specs.LeafValue.{Closes, Reaches}
use Rattle.um_model.specs.Accepted.{First, by_node, SignHolds, IsEnded, BoundedHolds}
use Rattle.um_model.specs.declared.leaf.Leaf.TheVariants.{Value}
use Rattle.um_model.specs.declared.verdict.Reason.{Reason}
use Rattle.um_model.specs.declared.verdict.Reason.TheVariants as reason
use Rattle.um_model.specs.declared.verdict.Verdict.{Verdict}
use Rattle.um_check.specs.Judging.{LeafValueIs, IsUnusable}
use Rattle.um_check.proofs.NodeSteps.{on_left}

-- the conditions that come before those of a kind of leaf
abbrev pub Usable : DeckValue → BoxValue → MultipliersValue → ℕ → (Verdict → Type 0) → Verdict → Type 0
Usable d b y place follows =
    First (¬ IsVoid d b) (by_node place reason.NotVoid) (First (AreBelow (2 ^ 40) y) (by_node place reason.Wide) (First (SignHolds d b y) (by_node place reason.Sign) follows))

pub not_usable : (d : DeckValue) (b : BoxValue) (y : MultipliersValue) (why : Reason) (place : ℕ) (follows : Verdict → Type 0) → IsUnusable d b y why → Usable d b y place follows (by_node place why)
not_usable d b y why place follows h = on_left (h place) (λ p. (p.0, on_left p.1 (λ q. (q.0, on_left q.1 (λ r. (r.0, absurd r.1))))))

pub usable : (d : DeckValue) (b : BoxValue) (y : MultipliersValue) (value : ℤ) (place : ℕ) (follows : Verdict → Type 0) (v : Verdict) → LeafValueIs d b y value → follows v → Usable d b y place follows v
usable d b y value place follows v h given =
    let sign : SignHolds d b y = record { y0 = h.y0; ended = subst IsEnded (sym h.value_is) tt } in
    inl (h.full, inl (h.small, inl (sign, given)))

same_value : (v w : ℤ) → Value v ≡ Value w → v ≡ w
same_value v w e = cc

pub closes_test : (d : DeckValue) (a : AnswerValue) (b : BoxValue) (y : MultipliersValue) (value : ℤ) (v : Rational) → IsSome a.point → a.objective ≡ Some v → pos 0 <ℤ y.y0 → LeafValueIs d b y value
    → Reaches d y.y0 value v a.tolerance ↔ BoundedHolds d a b y
closes_test d a b y value v there at y0 h = (to, from)
  where
    to : Reaches d y.y0 value v a.tolerance → BoundedHolds d a b y
    to reaches =
        let closes : Closes d b y v a.tolerance = record { y0 = y0; value = value; value_is = h.value_is; reaches = reaches } in
        record { point = there; closes = subst (λ (o : Option Rational). IsSomeAnd o (λ w. Closes d b y w a.tolerance)) (sym at) closes }

    from : BoundedHolds d a b y → Reaches d y.y0 value v a.tolerance
    from holds =
        let closes : Closes d b y v a.tolerance = subst (λ (o : Option Rational). IsSomeAnd o (λ w. Closes d b y w a.tolerance)) at holds.closes in
        subst (λ (z : ℤ). Reaches d y.y0 z v a.tolerance) (same_value closes.value value (sym closes.value_is ∙ h.value_is)) closes.reaches
