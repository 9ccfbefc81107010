use Rattle.std.proofs.Common.{◌∙◌, refl, sym, ap, Some, inr}
use Rattle.std.proofs.lemmas.Result.{err_from_is_err_and}
use Rattle.um_statements.specs.declared.fault.Fault.{Fault}
use Rattle.um_maker.proofs.SetSteps.{unknown_column, twice_member, new_member}
use Rattle.um_maker.proofs.maker.DeckMaker.member.Goals as goal

pub returns-then-has_member : goal.returns-then-has_member
returns-then-has_member c = (refl, inr (twice_member _ _ _ c.in-Some.place (sym c.in-Some.ensures.place) (sym c.has_member.ensures ∙ c.if-has_member.true)))

pub returns-in_err-millionths-in-Some : goal.returns-in_err-millionths-in-Some
returns-in_err-millionths-in-Some c =
    let passed = err_from_is_err_and c.from_residual.result c.from_residual.ensures.1 in
    rw passed.1 (refl, inr (new_member _ _ _ c.in-Some.place (sym c.in-Some.ensures.place) (sym c.has_member.ensures ∙ c.if-has_member.false) ∙ (c.in_err-millionths-in-Some.ensures.broken ∙ ap (λ (f : Fault). Some f) (sym passed.2))))

pub returns-in_ok-push_member-in-Some : goal.returns-in_ok-push_member-in-Some
returns-in_ok-push_member-in-Some c =
    (new_member _ _ _ c.in-Some.place (sym c.in-Some.ensures.place) (sym c.has_member.ensures ∙ c.if-has_member.false) ∙ c.in_ok-millionths-in-Some.ensures.fits, c.in_ok-push_member-in-Some.ensures.ok)

pub returns-in-None : goal.returns-in-None
returns-in-None c = (refl, inr (unknown_column _ _ _ (sym c.in-None.ensures.place)))
