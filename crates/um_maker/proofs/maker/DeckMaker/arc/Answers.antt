use Rattle.std.proofs.Common.{◌∙◌, Some, refl, sym, ap, inr}
use Rattle.std.proofs.lemmas.Result.{err_from_is_err_and}
use Rattle.um_statements.specs.declared.fault.Fault.{Fault}
use Rattle.um_maker.proofs.ArcSteps.{unknown_row, unknown_arc_column, known_rules}
use Rattle.um_maker.proofs.maker.DeckMaker.arc.Goals as goal

pub returns-in_err-row_at : goal.returns-in_err-row_at
returns-in_err-row_at c =
    let passed = err_from_is_err_and c.from_residual.result c.from_residual.ensures.1 in
    rw passed.1 (refl, inr (unknown_row _ _ _ _ c.in_err-row_at.ensures.unknown.1 ∙ ap (λ (f : Fault). Some f) (sym (passed.2 ∙ c.in_err-row_at.ensures.unknown.0))))

pub returns-in_err-column_at : goal.returns-in_err-column_at
returns-in_err-column_at c =
    let passed = err_from_is_err_and c.from_residual-in_err-column_at.result c.from_residual-in_err-column_at.ensures.1 in
    rw passed.1 (refl, inr (unknown_arc_column _ _ _ _ _ c.in_ok-row_at.ensures.place c.in_err-column_at.ensures.unknown.1 ∙ ap (λ (f : Fault). Some f) (sym (passed.2 ∙ c.in_err-column_at.ensures.unknown.0))))

pub returns-in_err-check_arc : goal.returns-in_err-check_arc
returns-in_err-check_arc c =
    let passed = err_from_is_err_and c.from_residual-in_err-check_arc.result c.from_residual-in_err-check_arc.ensures.1 in
    rw passed.1 (refl, inr (known_rules _ _ _ _ _ _ c.in_ok-row_at.ensures.place c.in_ok-column_at.ensures.place ∙ (c.in_err-check_arc.ensures.broken ∙ ap (λ (f : Fault). Some f) (sym passed.2))))

pub returns : goal.returns
returns c = (known_rules _ _ _ _ _ _ c.in_ok-row_at.ensures.place c.in_ok-column_at.ensures.place ∙ c.in_ok-check_arc.ensures.kept, c.in_ok-push_arc.ensures.ok)
