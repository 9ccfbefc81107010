use Rattle.std.proofs.Common.{◌∙◌, sym, ap, is_some}
use Rattle.um_maker.proofs.SetSteps.{named_set}
use Rattle.um_maker.proofs.maker.DeckMaker.has_set.Goals as goal

pub returns : goal.returns
returns c = rw (← c.self.view_is) (c.is_some.ensures ∙ (ap is_some c.place.ensures.place ∙ sym (named_set c.self.inside.sets c.args.name.now)))
