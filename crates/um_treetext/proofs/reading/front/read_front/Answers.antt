use Rattle.std.proofs.Common.{refl, sym, ◌∙◌, rules, FitsSigned}
use Rattle.std.specs.Int.{w64}
use Rattle.um_treetext.specs.Reading.{front_read, next_line_said}
use Rattle.um_treetext.proofs.NumberWords.{short_bits}
use Rattle.um_treetext.proofs.LineSteps.{reads_fails, said_ok, said_err, promised_ok, promised_err}
use Rattle.um_treetext.proofs.reading.front.read_front.Goals as goal

pub returns-in_err-next : goal.returns-in_err-next
unfolding front_read next_line_said
returns-in_err-next c =
    reads_fails _ c.in_err-next.field-0.0 _ _ c.from_residual.ensures.1 (rw (c.in_err-next.ensures) refl)

pub returns-in_err-at_line : goal.returns-in_err-at_line
unfolding front_read next_line_said
returns-in_err-at_line c =
    let s = said_err _ c.read_version.result c.at_line.result c.in_err-at_line.field-0.0 c.at_line.ensures c.in_err-at_line.was in
    let w = promised_err c.read_version.result _ _ _ s.0 c.read_version.ensures in
    reads_fails _ c.in_err-at_line.field-0.0 _ _ c.from_residual-in_err-at_line.ensures.1 (rw (c.in_ok-next.ensures, w, s.1) refl)

pub returns-in_err-next-2 : goal.returns-in_err-next-2
unfolding front_read next_line_said
returns-in_err-next-2 c =
    let v0 = promised_ok c.read_version.result _ _ _ (said_ok _ c.read_version.result c.at_line.result _ c.at_line.ensures c.in_ok-at_line.was) c.read_version.ensures in
    reads_fails _ c.in_err-next-2.field-0.0 _ _ c.from_residual-in_err-next-2.ensures.1 (rw (c.in_ok-next.ensures, v0, c.in_err-next-2.ensures) refl)

pub returns-in_err-at_line-2 : goal.returns-in_err-at_line-2
unfolding front_read next_line_said
returns-in_err-at_line-2 c =
    let v0 = promised_ok c.read_version.result _ _ _ (said_ok _ c.read_version.result c.at_line.result _ c.at_line.ensures c.in_ok-at_line.was) c.read_version.ensures in
    let s = said_err _ c.read_deck.result c.at_line-2.result c.in_err-at_line-2.field-0.0 c.at_line-2.ensures c.in_err-at_line-2.was in
    let w = promised_err c.read_deck.result _ _ _ s.0 c.read_deck.ensures in
    reads_fails _ c.in_err-at_line-2.field-0.0 _ _ c.from_residual-in_err-at_line-2.ensures.1 (rw (c.in_ok-next.ensures, v0, c.in_ok-next-2.ensures, w, s.1) refl)

pub returns-in_err-next-3 : goal.returns-in_err-next-3
unfolding front_read next_line_said
returns-in_err-next-3 c =
    let v0 = promised_ok c.read_version.result _ _ _ (said_ok _ c.read_version.result c.at_line.result _ c.at_line.ensures c.in_ok-at_line.was) c.read_version.ensures in
    let v1 = promised_ok c.read_deck.result _ _ _ (said_ok _ c.read_deck.result c.at_line-2.result _ c.at_line-2.ensures c.in_ok-at_line-2.was) c.read_deck.ensures in
    reads_fails _ c.in_err-next-3.field-0.0 _ _ c.from_residual-in_err-next-3.ensures.1 (rw (c.in_ok-next.ensures, v0, c.in_ok-next-2.ensures, v1, c.in_err-next-3.ensures) refl)

pub returns-in_err-tolerance : goal.returns-in_err-tolerance
unfolding front_read next_line_said
returns-in_err-tolerance c =
    let v0 = promised_ok c.read_version.result _ _ _ (said_ok _ c.read_version.result c.at_line.result _ c.at_line.ensures c.in_ok-at_line.was) c.read_version.ensures in
    let v1 = promised_ok c.read_deck.result _ _ _ (said_ok _ c.read_deck.result c.at_line-2.result _ c.at_line-2.ensures c.in_ok-at_line-2.was) c.read_deck.ensures in
    let s = said_err _ c.read_tolerance.result c.at_line-3.result c.in_err-tolerance.field-0.0 c.at_line-3.ensures c.in_err-tolerance.was in
    let w = sym c.read_tolerance.ensures ∙ s.0 in
    reads_fails _ c.in_err-tolerance.field-0.0 _ _ c.from_residual-in_err-tolerance.ensures.1 (rw (c.in_ok-next.ensures, v0, c.in_ok-next-2.ensures, v1, c.in_ok-next-3.ensures, w, s.1) refl)

pub returns-in_err-next-4 : goal.returns-in_err-next-4
unfolding front_read next_line_said
returns-in_err-next-4 c =
    let v0 = promised_ok c.read_version.result _ _ _ (said_ok _ c.read_version.result c.at_line.result _ c.at_line.ensures c.in_ok-at_line.was) c.read_version.ensures in
    let v1 = promised_ok c.read_deck.result _ _ _ (said_ok _ c.read_deck.result c.at_line-2.result _ c.at_line-2.ensures c.in_ok-at_line-2.was) c.read_deck.ensures in
    let v2 = sym c.read_tolerance.ensures ∙ said_ok _ c.read_tolerance.result c.at_line-3.result _ c.at_line-3.ensures c.in_ok-tolerance.was in
    reads_fails _ c.in_err-next-4.field-0.0 _ _ c.from_residual-in_err-next-4.ensures.1 (rw (c.in_ok-next.ensures, v0, c.in_ok-next-2.ensures, v1, c.in_ok-next-3.ensures, v2, c.in_err-next-4.ensures) refl)

pub returns-in_err-kind : goal.returns-in_err-kind
unfolding front_read next_line_said
returns-in_err-kind c =
    let v0 = promised_ok c.read_version.result _ _ _ (said_ok _ c.read_version.result c.at_line.result _ c.at_line.ensures c.in_ok-at_line.was) c.read_version.ensures in
    let v1 = promised_ok c.read_deck.result _ _ _ (said_ok _ c.read_deck.result c.at_line-2.result _ c.at_line-2.ensures c.in_ok-at_line-2.was) c.read_deck.ensures in
    let v2 = sym c.read_tolerance.ensures ∙ said_ok _ c.read_tolerance.result c.at_line-3.result _ c.at_line-3.ensures c.in_ok-tolerance.was in
    let s = said_err _ c.read_kind.result c.at_line-4.result c.in_err-kind.field-0.0 c.at_line-4.ensures c.in_err-kind.was in
    let w = sym c.read_kind.ensures ∙ s.0 in
    reads_fails _ c.in_err-kind.field-0.0 _ _ c.from_residual-in_err-kind.ensures.1 (rw (c.in_ok-next.ensures, v0, c.in_ok-next-2.ensures, v1, c.in_ok-next-3.ensures, v2, c.in_ok-next-4.ensures, w, s.1) refl)

pub returns-in_err-next-5 : goal.returns-in_err-next-5
unfolding front_read next_line_said
returns-in_err-next-5 c =
    let v0 = promised_ok c.read_version.result _ _ _ (said_ok _ c.read_version.result c.at_line.result _ c.at_line.ensures c.in_ok-at_line.was) c.read_version.ensures in
    let v1 = promised_ok c.read_deck.result _ _ _ (said_ok _ c.read_deck.result c.at_line-2.result _ c.at_line-2.ensures c.in_ok-at_line-2.was) c.read_deck.ensures in
    let v2 = sym c.read_tolerance.ensures ∙ said_ok _ c.read_tolerance.result c.at_line-3.result _ c.at_line-3.ensures c.in_ok-tolerance.was in
    let v3 = sym c.read_kind.ensures ∙ said_ok _ c.read_kind.result c.at_line-4.result _ c.at_line-4.ensures c.in_ok-kind.was in
    reads_fails _ c.in_err-next-5.field-0.0 _ _ c.from_residual-in_err-next-5.ensures.1 (rw (c.in_ok-next.ensures, v0, c.in_ok-next-2.ensures, v1, c.in_ok-next-3.ensures, v2, c.in_ok-next-4.ensures, v3, c.in_err-next-5.ensures) refl)

pub returns-in_err-why : goal.returns-in_err-why
unfolding front_read next_line_said
returns-in_err-why c =
    let v0 = promised_ok c.read_version.result _ _ _ (said_ok _ c.read_version.result c.at_line.result _ c.at_line.ensures c.in_ok-at_line.was) c.read_version.ensures in
    let v1 = promised_ok c.read_deck.result _ _ _ (said_ok _ c.read_deck.result c.at_line-2.result _ c.at_line-2.ensures c.in_ok-at_line-2.was) c.read_deck.ensures in
    let v2 = sym c.read_tolerance.ensures ∙ said_ok _ c.read_tolerance.result c.at_line-3.result _ c.at_line-3.ensures c.in_ok-tolerance.was in
    let v3 = sym c.read_kind.ensures ∙ said_ok _ c.read_kind.result c.at_line-4.result _ c.at_line-4.ensures c.in_ok-kind.was in
    let s = said_err _ c.read_why.result c.at_line-5.result c.in_err-why.field-0.0 c.at_line-5.ensures c.in_err-why.was in
    let w = sym c.read_why.ensures ∙ s.0 in
    reads_fails _ c.in_err-why.field-0.0 _ _ c.from_residual-in_err-why.ensures.1 (rw (c.in_ok-next.ensures, v0, c.in_ok-next-2.ensures, v1, c.in_ok-next-3.ensures, v2, c.in_ok-next-4.ensures, v3, c.in_ok-next-5.ensures, w, s.1) refl)

pub returns : goal.returns
unfolding front_read next_line_said
returns c =
    let v0 = promised_ok c.read_version.result _ _ _ (said_ok _ c.read_version.result c.at_line.result _ c.at_line.ensures c.in_ok-at_line.was) c.read_version.ensures in
    let v1 = promised_ok c.read_deck.result _ _ _ (said_ok _ c.read_deck.result c.at_line-2.result _ c.at_line-2.ensures c.in_ok-at_line-2.was) c.read_deck.ensures in
    let v2 = sym c.read_tolerance.ensures ∙ said_ok _ c.read_tolerance.result c.at_line-3.result _ c.at_line-3.ensures c.in_ok-tolerance.was in
    let v3 = sym c.read_kind.ensures ∙ said_ok _ c.read_kind.result c.at_line-4.result _ c.at_line-4.ensures c.in_ok-kind.was in
    let v4 = sym c.read_why.ensures ∙ said_ok _ c.read_why.result c.at_line-5.result _ c.at_line-5.ensures c.in_ok-why.was in
    let fits : FitsSigned w64 c.in_ok-tolerance.tolerance = search rules in
    rw (short_bits c.in_ok-tolerance.tolerance fits, c.in_ok-next.ensures, v0, c.in_ok-next-2.ensures, v1, c.in_ok-next-3.ensures, v2, c.in_ok-next-4.ensures, v3, c.in_ok-next-5.ensures, v4) refl
