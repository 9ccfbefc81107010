use Rattle.std.proofs.Common.{◌≡◌, ◌-◌}
use Rattle.um_treetext.specs.FrontLines.{numbers}
use Rattle.um_treetext.proofs.CountedNumbers.{numbers_behind}
use Rattle.um_treetext.proofs.reading.parts.read_numbers.Given as goal

-- what all numbers say is what those that are left say, behind those that were read
abbrev pub invariant-loop-i : goal.invariant-loop-i
invariant-loop-i l = numbers l.count l.fn.words ≡ numbers_behind l.numbers.items (l.count - l._i) l.words
