use Rattle.std.proofs.Common.{◌≡◌, take, map}
use Rattle.um_duality.specs.Relaxed.{term_of}
use Rattle.um_relax.proofs.making.terms.Given as goal

abbrev pub invariant-loop-entry : goal.invariant-loop-entry
invariant-loop-entry l = l.terms.items ≡ map term_of (take l.entry-index l.entries)
