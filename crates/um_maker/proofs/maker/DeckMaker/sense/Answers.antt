use Rattle.um_maker.specs.contracts.maker.DeckMaker.{the_view}
use Rattle.um_maker.proofs.HeadSteps.{sense_told}
use Rattle.um_maker.proofs.maker.DeckMaker.sense.Goals as goal

pub returns : goal.returns
returns c = rw (← c.self.view_is) (sense_told (the_view c.self.inside) c.args.maximise)
