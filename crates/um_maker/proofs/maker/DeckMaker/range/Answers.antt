use Rattle.std.proofs.Common.{◌∙◌, refl, sym, ap, inr, Some, Bool}
use Rattle.um_maker.proofs.SideSteps.{twice_range, range_allowed}
use Rattle.um_maker.proofs.maker.DeckMaker.range.Goals as goal

pub returns-then-has_range : goal.returns-then-has_range
returns-then-has_range c = (refl, inr (twice_range _ _ _ c.in-Some.place (sym c.in-Some.ensures.place) (ap (λ (b : Bool). Some b) (sym c.if-has_range.true) ∙ c.has_range.ensures)))

pub returns-else-has_range : goal.returns-else-has_range
returns-else-has_range c = (range_allowed _ _ _ c.in-Some.place (sym c.in-Some.ensures.place) (ap (λ (b : Bool). Some b) (sym c.if-has_range.false) ∙ c.has_range.ensures), c.put_range.ensures)
