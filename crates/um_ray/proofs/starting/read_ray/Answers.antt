use Rattle.std.proofs.Common.{rules, ◌^◌}
use Rattle.um_relax.specs.Limits.{AreSmall}
use Rattle.um_ray.specs.Rays.{column_values as values_of}
use Rattle.um_ray.proofs.LargeRays.{too_large}
use Rattle.um_ray.proofs.MovingEnds.{stands_on_deck}
use Rattle.um_ray.proofs.starting.read_ray.Goals as goal

pub column_values-requires : goal.column_values-requires
column_values-requires g c κs within = (search rules, (c.requires.1.0, stands_on_deck g.d (g.B.Board.state c.args.board.now) c.requires.1.1.0.stands))

pub returns-in-Ok : goal.returns-in-Ok
returns-in-Ok g c =
    let s = g.B.Board.state c.args.board.now in
    let large : ¬ AreSmall (2 ^ 62) (values_of s) = search rules in
    (c.requires.1.1.1.1, too_large g.d s c.requires.1.1.0 c.requires.1.1.1.0 c.requires.1.1.1.1 large)
