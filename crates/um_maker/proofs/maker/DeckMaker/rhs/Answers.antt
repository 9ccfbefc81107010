use Rattle.std.proofs.Common.{◌∙◌, refl, sym, ap, inr, Some, Bool}
use Rattle.um_maker.proofs.SideSteps.{twice_side, side_allowed}
use Rattle.um_maker.proofs.maker.DeckMaker.rhs.Goals as goal

pub returns-then-has_side : goal.returns-then-has_side
returns-then-has_side c = (refl, inr (twice_side _ _ _ c.in-Some.place (sym c.in-Some.ensures.place) (ap (λ (b : Bool). Some b) (sym c.if-has_side.true) ∙ c.has_side.ensures)))

pub returns-else-has_side : goal.returns-else-has_side
returns-else-has_side c = (side_allowed _ _ _ c.in-Some.place (sym c.in-Some.ensures.place) (ap (λ (b : Bool). Some b) (sym c.if-has_side.false) ∙ c.has_side.ensures), c.put_side.ensures)
