use Rattle.std.proofs.Common.{◌≡◌, take}
use Rattle.um_statements.specs.Scaled.{least_scale}
use Rattle.um_made.proofs.scaled.least_scale.Given as goal

-- the numbers seen so far, the last first
abbrev pub invariant-loop-value : goal.invariant-loop-value
invariant-loop-value l = l.scale ≡ least_scale (take l.value-index l.values)
