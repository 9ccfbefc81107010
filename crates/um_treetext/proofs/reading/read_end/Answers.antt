use Rattle.std.proofs.Common.{refl}
use Rattle.um_treetext.specs.Reading.{end_read, next_line_said}
use Rattle.um_treetext.proofs.LineSteps.{fails_at, said_ok, said_err, promised_ok, promised_err}
use Rattle.um_treetext.proofs.reading.read_end.Goals as goal

pub returns-in_err-next : goal.returns-in_err-next
unfolding end_read next_line_said
returns-in_err-next c = fails_at _ c.in_err-next.field-0.0 _ _ c.from_residual.ensures.1 (rw c.in_err-next.ensures refl)

pub returns-in_err-at_line : goal.returns-in_err-at_line
unfolding end_read next_line_said
returns-in_err-at_line c =
    let s = said_err _ c.end_words.result c.at_line.result c.in_err-at_line.field-0.0 c.at_line.ensures c.in_err-at_line.was in
    let w = promised_err c.end_words.result c.in_err-at_line.field-0.0.fault _ _ s.0 c.end_words.ensures in
    fails_at _ c.in_err-at_line.field-0.0 _ _ c.from_residual-in_err-at_line.ensures.1 (rw (c.in_ok-next.ensures, w, s.1) refl)

pub returns-then-is_at_end : goal.returns-then-is_at_end
unfolding end_read next_line_said
returns-then-is_at_end c =
    let s = said_ok _ c.end_words.result c.at_line.result _ c.at_line.ensures c.in_ok-at_line.was in
    let w = promised_ok c.end_words.result _ _ _ s c.end_words.ensures in
    rw (c.in_ok-next.ensures, w, ← c.if-is_at_end.ensures) refl

pub returns-else-is_at_end : goal.returns-else-is_at_end
unfolding end_read next_line_said
returns-else-is_at_end c =
    let s = said_ok _ c.end_words.result c.at_line.result _ c.at_line.ensures c.in_ok-at_line.was in
    let w = promised_ok c.end_words.result _ _ _ s c.end_words.ensures in
    rw (c.in_ok-next.ensures, w, ← c.if-is_at_end.ensures) refl
