use Rattle.std.proofs.Common.{◌≡◌, map, take}
use Rattle.um_tableau.specs.Frames.{items_of}
use Rattle.um_tableau.proofs.given.copy_terms.Given as goal

-- the lists so far are copied
abbrev pub invariant-loop-terms : goal.invariant-loop-terms
invariant-loop-terms l = map items_of l.copies.items ≡ map items_of (take l.terms-index l.entries)
