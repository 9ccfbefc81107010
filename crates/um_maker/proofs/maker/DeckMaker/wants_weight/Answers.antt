use Rattle.std.proofs.Common.{◌∙◌, ap, Some, Bool}
use Rattle.um_maker.proofs.SetSteps.{none_is, wants_last, wants_none}
use Rattle.um_maker.proofs.maker.DeckMaker.wants_weight.Goals as goal

pub returns-in-Some : goal.returns-in-Some
returns-in-Some c = rw (← c.self.view_is) (ap (λ (b : Bool). Some b) (none_is c.in-Some.set.now.reference c.is_none.result c.is_none.ensures) ∙ wants_last c.self.inside.sets c.in-Some.set.now c.in-Some.ensures)

pub returns-in-None : goal.returns-in-None
returns-in-None c = rw (← c.self.view_is) (wants_none c.self.inside.sets c.in-None.ensures)
