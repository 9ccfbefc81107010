use Rattle.std.proofs.Common.{◌≡◌, drop, map, flat_map}
use Rattle.std.specs.List.{enumerate_from}
use Rattle.um_statements.specs.CallRules.{first_fault}
use Rattle.um_statements.specs.DeckRules.{column_rules}
use Rattle.um_made.specs.Views.{column_said}
use Rattle.um_made.specs.Parts.{said}
use Rattle.um_made.proofs.told.Told.column_fault.Given as goal

-- the fault of what is left is that of all
abbrev pub invariant-loop-j : goal.invariant-loop-j
invariant-loop-j l = first_fault (flat_map (column_rules (said l.self)) (enumerate_from l.j (map column_said (drop l.j l.self.columns.items)))) ≡ first_fault (flat_map (column_rules (said l.self)) (enumerate_from 0 (said l.self).columns))
