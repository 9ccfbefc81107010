use Rattle.um_relax.specs.Parts.{AreSlackEntries}
use Rattle.um_relax.proofs.infeasible.slack_entries.Given as goal

abbrev pub invariant-loop-other : goal.invariant-loop-other
invariant-loop-other g l = AreSlackEntries (g.B.Board.state l.board) l.row l.other l.entries.items
