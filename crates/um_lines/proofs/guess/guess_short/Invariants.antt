use Rattle.um_lines.specs.Turns.{wrapped_at}
use Rattle.um_lines.proofs.Guesses.{IsShared}
use Rattle.um_lines.proofs.guess.guess_short.Given as goal

-- what is shared so far
abbrev pub invariant-loop-j : goal.invariant-loop-j
invariant-loop-j l = IsShared l.den (wrapped_at l.factors.own l.factors.other l.own l.other) l.j l.guess.shared
