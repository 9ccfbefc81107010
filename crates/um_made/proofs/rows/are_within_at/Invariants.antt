use Rattle.std.proofs.Common.{◌≡◌, drop}
use Rattle.std.specs.List.{list_all}
use Rattle.um_statements.specs.Scaled.{is_within_at}
use Rattle.um_made.proofs.rows.are_within_at.Given as goal

-- all of what is left pass where all do
abbrev pub invariant-loop-number : goal.invariant-loop-number
invariant-loop-number l = list_all (is_within_at l.most l.scale) (drop l.number-index l.numbers) ≡ list_all (is_within_at l.most l.scale) l.numbers
