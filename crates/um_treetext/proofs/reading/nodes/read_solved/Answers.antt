use Rattle.std.proofs.Common.{refl}
use Rattle.um_treetext.specs.Words.{taking}
use Rattle.um_treetext.specs.NodeLines.{solved_said, work_said}
use Rattle.um_treetext.proofs.Takes.{fails}
use Rattle.um_treetext.proofs.reading.nodes.read_solved.Goals as goal

pub returns-then-is_next : goal.returns-then-is_next
unfolding solved_said work_said taking
returns-then-is_next c = rw (← c.if-is_next.ensures) refl

pub returns-in_err-fixed : goal.returns-in_err-fixed
unfolding solved_said work_said taking
returns-in_err-fixed c = fails _ c.in_err-fixed.field-0.0 _ _ c.from_residual.ensures.1 (rw (← c.if-is_next.ensures, ← c.if-is_next-2.ensures, ← c.skip.ensures, c.in_err-fixed.ensures) refl)

pub returns-then-is_next-2 : goal.returns-then-is_next-2
unfolding solved_said work_said taking
returns-then-is_next-2 c = rw (← c.if-is_next.ensures, ← c.if-is_next-2.ensures, ← c.skip.ensures, c.in_ok-fixed.ensures) refl

pub returns-in_err-word : goal.returns-in_err-word
unfolding solved_said work_said taking
returns-in_err-word c = fails _ c.in_err-word.field-0.0 _ _ c.from_residual-in_err-word.ensures.1 (rw (← c.if-is_next.ensures, ← c.if-is_next-2.ensures, c.in_err-word.ensures) refl)

pub returns-in_err-number : goal.returns-in_err-number
unfolding solved_said work_said taking
returns-in_err-number c = fails _ c.in_err-number.field-0.0 _ _ c.from_residual-in_err-number.ensures.1 (rw (← c.if-is_next.ensures, ← c.if-is_next-2.ensures, c.in_ok-word.ensures, ← c.in_err-number.ensures) refl)

pub returns-in_err-word-2 : goal.returns-in_err-word-2
unfolding solved_said work_said taking
returns-in_err-word-2 c = fails _ c.in_err-word-2.field-0.0 _ _ c.from_residual-in_err-word-2.ensures.1 (rw (← c.if-is_next.ensures, ← c.if-is_next-2.ensures, c.in_ok-word.ensures, ← c.in_ok-number.ensures, c.in_err-word-2.ensures) refl)

pub returns-in_err-pivots : goal.returns-in_err-pivots
unfolding solved_said work_said taking
returns-in_err-pivots c = fails _ c.in_err-pivots.field-0.0 _ _ c.from_residual-in_err-pivots.ensures.1 (rw (← c.if-is_next.ensures, ← c.if-is_next-2.ensures, c.in_ok-word.ensures, ← c.in_ok-number.ensures, c.in_ok-word-2.ensures, ← c.in_err-pivots.ensures) refl)

pub returns : goal.returns
unfolding solved_said work_said taking
returns c = rw (← c.if-is_next.ensures, ← c.if-is_next-2.ensures, c.in_ok-word.ensures, ← c.in_ok-number.ensures, c.in_ok-word-2.ensures, ← c.in_ok-pivots.ensures) refl
