use Rattle.std.proofs.Common.{rules}
use Rattle.um_ray.proofs.MovingEnds.{stands_on_deck}
use Rattle.um_ray.proofs.StartRuns.{falls_of}
use Rattle.um_ray.proofs.Values.{level-law}
use Rattle.um_ray.proofs.starting.at_end.Goals as goal

pub wants_own_ends-requires : goal.wants_own_ends-requires
wants_own_ends-requires g c κs within = (search rules, (c.requires.1.0, stands_on_deck g.d (g.B.Board.state c.args.board.now) c.requires.1.1.0.stands))

pub read_ray-requires : goal.read_ray-requires
read_ray-requires g c κs within =
    (search rules, (c.requires.1.0, (c.requires.1.1.0, (c.requires.1.1.1, falls_of g.d (g.B.Board.state c.args.board.now) c.requires.1.1.0 c.requires.1.1.1 (λ w. let t = c.in-Ok-false.ensures.wants.1 w in let f = c.in-Ok-false.field-0-test in absurd (cc))))))

pub returns-in-Ok-true : goal.returns-in-Ok-true
returns-in-Ok-true g c = (level-law g.d (g.B.Board.state c.args.board.now) c.requires.1.1.0 c.requires.1.1.1).1 (c.in-Ok-true.ensures.wants.0 c.in-Ok-true.field-0-test)
