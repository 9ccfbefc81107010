use Rattle.std.proofs.Common.{◌≢◌, ℕ, ◌<◌, slice_index_or}
use Rattle.um_lp.specs.declared.relaxation.Term.{Term}
use Rattle.um_tableau.proofs.given.coefficient_of.Given as goal

-- none of the terms so far is in the row
abbrev pub invariant-loop-term : goal.invariant-loop-term
invariant-loop-term l = (k : ℕ) (d : Term) → k < l.term-index → (slice_index_or l.terms k d).row ≢ l.row
