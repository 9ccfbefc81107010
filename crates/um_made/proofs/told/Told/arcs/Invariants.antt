use Rattle.std.proofs.Common.{◌≡◌, ◌++◌, drop, filter_map}
use Rattle.um_statements.specs.Made.{arc_made}
use Rattle.um_made.specs.Parts.{said}
use Rattle.um_made.proofs.told.Told.arcs.Given as goal

abbrev pub invariant-loop-arc : goal.invariant-loop-arc
invariant-loop-arc l = l.arcs.items ++ filter_map (arc_made (said l.self)) (drop l.arc-index l.self.arcs.items) ≡ filter_map (arc_made (said l.self)) (said l.self).arcs
