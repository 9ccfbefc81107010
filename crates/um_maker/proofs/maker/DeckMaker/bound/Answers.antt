use Rattle.std.proofs.Common.{◌∙◌, refl, sym, ap, Some, Bool}
use Rattle.std.proofs.lemmas.Result.{err_from_is_err_and}
use Rattle.um_statements.specs.declared.fault.Fault.{Fault}
use Rattle.um_maker.proofs.BoundSteps.{bound_unknown, bound_broken, bound_mixed, bound_allowed}
use Rattle.um_maker.proofs.maker.DeckMaker.bound.Goals as goal

pub returns-in_err-end-in-Some : goal.returns-in_err-end-in-Some
returns-in_err-end-in-Some c =
    let passed = err_from_is_err_and c.from_residual.result c.from_residual.ensures.1 in
    rw passed.1 (refl, bound_broken _ _ _ _ c.in-Some.place _ (sym c.in-Some.ensures.place) c.in_err-end-in-Some.ensures.broken ∙ ap (λ (f : Fault). Some f) (sym passed.2))

pub returns-then-mixes : goal.returns-then-mixes
returns-then-mixes c = (refl, bound_mixed _ _ _ _ c.in-Some.place (sym c.in-Some.ensures.place) c.in_ok-end-in-Some.ensures.fits (ap (λ (b : Bool). Some b) (sym c.if-mixes.true) ∙ c.mixes.ensures))

pub returns-else-mixes : goal.returns-else-mixes
returns-else-mixes c =
    (bound_allowed _ _ _ _ c.in-Some.place (sym c.in-Some.ensures.place) c.in_ok-end-in-Some.ensures.fits (ap (λ (b : Bool). Some b) (sym c.if-mixes.false) ∙ c.mixes.ensures), c.put_bound.ensures)

pub returns-in-None : goal.returns-in-None
returns-in-None c = (refl, bound_unknown _ _ _ _ (sym c.in-None.ensures.place))
