use Rattle.std.proofs.Common.{◌≡◌, ◌++◌, drop, map, flat_map}
use Rattle.um_statements.specs.CallRules.{first_fault}
use Rattle.um_statements.specs.Made.{sided_rows}
use Rattle.um_statements.specs.DeckRules.{row_rules}
use Rattle.um_made.specs.Views.{row_said}
use Rattle.um_made.specs.Parts.{said}
use Rattle.um_made.specs.RowWords.{sided_row}
use Rattle.um_made.proofs.RowSteps.{sided_from}
use Rattle.um_made.proofs.told.Told.sided_rows.Given as goal

-- what is made, and what is left to make, are all; the fault of what is left is that of all
abbrev pub invariant-loop-place : goal.invariant-loop-place
invariant-loop-place l = record {
  made : l.rows.items ++ map (sided_row (said l.self)) (sided_from l.place (map row_said (drop l.place l.self.rows.items))) ≡ map (sided_row (said l.self)) (sided_rows (said l.self));
  fault : first_fault (flat_map (row_rules (said l.self)) (sided_from l.place (map row_said (drop l.place l.self.rows.items)))) ≡ first_fault (flat_map (row_rules (said l.self)) (sided_rows (said l.self)));
}
