use Rattle.std.proofs.Common.{◌≡◌, ◌++◌}
use Rattle.um_maker.proofs.named.Named.into_list.Given as goal

-- the items that were taken, and those that are left, are all
abbrev pub invariant-loop-entry : goal.invariant-loop-entry
invariant-loop-entry g l = l.list.items ++ l.entry-iterator ≡ l.fn.self
