use Rattle.std.proofs.Common.{ℕ, ◌<◌}
use Rattle.um_model.specs.Boxes.{root}
use Rattle.um_lp.specs.Boards.{IsWantedEndFinite}
use Rattle.um_lp.specs.States.{at_of, reduced_of}
use Rattle.um_duality.specs.Boxed.{ends_on}
use Rattle.um_ray.proofs.ends.wants_own_ends.Given as goal

abbrev pub invariant-loop-column : goal.invariant-loop-column
invariant-loop-column g l = (j : ℕ) → j < l.column → IsWantedEndFinite (at_of (g.B.Board.state l.board) j) (reduced_of (g.B.Board.state l.board) j) (ends_on g.d (root g.d) j)

abbrev pub ghost-wants_own_end : goal.ghost-wants_own_end
ghost-wants_own_end g a = g.d
