use Rattle.std.proofs.Common.{◌≢◌, subst, get_or, None, rules, IsTrue, ◌↔◌}
use Rattle.std.specs.Prelude.{pos, ◌<ℤ◌, IsSome}
use Rattle.um_laws.specs.Rational.{Rational}
use Rattle.um_lp.specs.States.{at_of, reduced_of}
use Rattle.um_lp.specs.declared.board.At.TheVariants.{Basic}
use Rattle.um_model.specs.Boxes.{root}
use Rattle.um_duality.specs.Boxed.{ends_on}
use Rattle.um_ray.proofs.ReadEnds.{low_is, high_is, by_sign}
use Rattle.um_ray.proofs.ends.wants_own_end.Goals as goal

pub returns-clause-wants : goal.returns-clause-wants
returns-clause-wants g c =
    let s = g.B.Board.state c.args.board.now in
    let lows = c.as_slice.result.now in
    let highs = c.as_slice-2.result.now in
    let low = get_or lows c.args.column None in
    let high = get_or highs c.args.column None in
    let ne : at_of s c.args.column ≢ Basic = search rules in
    by_sign (at_of s c.args.column) (reduced_of s c.args.column) (ends_on g.d (root g.d) c.args.column) low high c.is_finite_for.result ne
    (low_is g.d s c.args.relaxation.now c.args.column lows c.requires.1.0 c.requires.1.1.0 c.as_slice.ensures c.requires.1.1.1)
    (high_is g.d s c.args.relaxation.now c.args.column highs c.requires.1.0 c.requires.1.1.0 c.as_slice-2.ensures c.requires.1.1.1)
    (subst (λ (x : Rational). IsTrue c.is_finite_for.result ↔ ((pos 0 <ℤ x.num → IsSome low) × (x.num <ℤ pos 0 → IsSome high))) c.in_ok-cost.ensures.value c.is_finite_for.ensures)
