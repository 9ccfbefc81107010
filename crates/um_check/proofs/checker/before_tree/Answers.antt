use Rattle.std.proofs.Common.{refl, inl, inr}
use Rattle.std.proofs.lemmas.Bool.{false≢true}
use Rattle.um_check.proofs.checker.before_tree.Goals as goal

pub returns-then-not-are_numbers_small : goal.returns-then-not-are_numbers_small
returns-then-not-are_numbers_small c = inl (c.if-not-is_tolerance.ensures.0 refl, inl (c.if-not-do_fields_go.ensures.0 refl, inr ((λ h. false≢true (c.if-not-are_numbers_small.ensures.1 h)), refl)))

pub returns-then-not-is_point_feasible : goal.returns-then-not-is_point_feasible
returns-then-not-is_point_feasible c =
    inl (c.if-not-is_tolerance.ensures.0 refl, inl (c.if-not-do_fields_go.ensures.0 refl, inl (c.if-not-are_numbers_small.ensures.0 refl, inr ((λ h. false≢true (c.if-not-is_point_feasible.ensures.1 h)), refl))))

pub returns-then-not-does_ray_hold : goal.returns-then-not-does_ray_hold
returns-then-not-does_ray_hold c =
    inl (
      c.if-not-is_tolerance.ensures.0 refl,
      inl (
        c.if-not-do_fields_go.ensures.0 refl,
        inl (c.if-not-are_numbers_small.ensures.0 refl, inl (c.if-not-is_point_feasible.ensures.0 refl, inl (c.if-not-has_objective.ensures.0 refl, inr ((λ h. false≢true (c.if-not-does_ray_hold.ensures.1 h)), refl)))),
      ),
    )
