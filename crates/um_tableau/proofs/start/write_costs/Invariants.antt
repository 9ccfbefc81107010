use Rattle.std.proofs.Common.{◌≡◌, ℕ, ◌<◌, ◌≤◌, pos}
use Rattle.um_lines.specs.Lines.{whole_at, AreInRange}
use Rattle.um_tableau.proofs.start.write_costs.Given as goal

-- the costs so far are written, and all others are 0
abbrev pub invariant-loop-j : goal.invariant-loop-j
invariant-loop-j l = record {
  range : AreInRange l.nums;
  written : (k : ℕ) → k < l.j → whole_at l.nums k ≡ whole_at l.costs k;
  left : (k : ℕ) → l.j ≤ k → whole_at l.nums k ≡ pos 0;
}
