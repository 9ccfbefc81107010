use Rattle.std.proofs.Common.{length}
use Rattle.um_search.proofs.Emptying.{IsEmptying}
use Rattle.um_search.proofs.ends.stop.Given as goal

abbrev pub invariant-entries : goal.invariant-entries
invariant-entries g l = IsEmptying l.deck g.budget l.why l.incumbent l.growth l.open l.bounds.endless l.bounds.least

abbrev pub decreases-entries : goal.decreases-entries
decreases-entries g l = length l.open
