use Rattle.std.proofs.Common.{refl, inl, rules}
use Rattle.std.specs.Prelude.{IsNone}
use Rattle.um_loop.proofs.acts.improve.Goals as goal

pub returns-then-is_below_best : goal.returns-then-is_below_best
returns-then-is_below_best c =
    let none : IsNone c.feasible.result = search rules in
    inl (record {
      feasible = c.feasible.ensures.feasible.0 none;
      best = record { point = c.args.point; objective = c.objective-objective.result };
      new_is = refl;
      point_is = refl;
      objective_is = c.objective-objective.ensures;
      below = c.is_below_best.ensures.0 (search rules);
    })
