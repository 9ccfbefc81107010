use Rattle.std.proofs.Common.{◌∙◌, refl, sym, ap, Some, inr}
use Rattle.std.proofs.lemmas.Result.{err_from_is_err_and}
use Rattle.um_statements.specs.declared.fault.Fault.{Fault}
use Rattle.um_maker.proofs.SetSteps.{unknown_reference, twice_set, many_sets, set_allowed}
use Rattle.um_maker.proofs.maker.DeckMaker.set.Goals as goal

pub returns-in_err-place : goal.returns-in_err-place
returns-in_err-place c =
    let passed = err_from_is_err_and c.from_residual.result c.from_residual.ensures.1 in
    rw passed.1 (refl, inr (unknown_reference _ _ _ _ c.in_err-place.ensures.unknown.1 ∙ ap (λ (f : Fault). Some f) (sym (passed.2 ∙ c.in_err-place.ensures.unknown.0))))

pub returns-then-has_set : goal.returns-then-has_set
returns-then-has_set c = (refl, inr (twice_set _ _ _ _ c.in_ok-place.ensures.known (sym c.has_set.ensures ∙ c.if-has_set.true)))

pub returns-then-is_full_of_sets : goal.returns-then-is_full_of_sets
returns-then-is_full_of_sets c =
    (refl, inr (many_sets _ _ _ _ c.in_ok-place.ensures.known (sym c.has_set.ensures ∙ c.if-has_set.false) (sym c.is_full_of_sets.ensures ∙ c.if-is_full_of_sets.true)))

pub returns : goal.returns
returns c =
    (set_allowed _ _ _ _ c.in_ok-place.ensures.known (sym c.has_set.ensures ∙ c.if-has_set.false) (sym c.is_full_of_sets.ensures ∙ c.if-is_full_of_sets.false), c.in_ok-push_set.ensures.ok)
