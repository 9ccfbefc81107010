use Rattle.std.proofs.Common.{◌≡◌, drop, map}
use Rattle.um_statements.specs.Made.{objective}
use Rattle.um_made.specs.Views.{row_said}
use Rattle.um_made.specs.Parts.{said}
use Rattle.um_made.proofs.RowSteps.{objective_from}
use Rattle.um_made.proofs.told.Told.objective.Given as goal

-- the first N row of what is left is that of all
abbrev pub invariant-loop-place : goal.invariant-loop-place
invariant-loop-place l = objective_from l.place (map row_said (drop l.place l.self.rows.items)) ≡ objective (said l.self)
