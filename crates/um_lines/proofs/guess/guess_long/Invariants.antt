use Rattle.um_lines.specs.Combined.{sum_at, IsGuess}
use Rattle.um_lines.proofs.guess.guess_long.Given as goal

-- what is shared so far divides the denominator, and is divided by what divides this and the sums so far
abbrev pub invariant-loop-j : goal.invariant-loop-j
invariant-loop-j l = IsGuess l.den (sum_at l.factors.own l.factors.other l.own l.other) l.j l.guess.shared
