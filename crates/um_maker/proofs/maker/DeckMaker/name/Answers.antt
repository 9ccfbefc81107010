use Rattle.um_maker.specs.contracts.maker.DeckMaker.{the_view}
use Rattle.um_maker.proofs.HeadSteps.{title_allowed, title_told}
use Rattle.um_maker.proofs.maker.DeckMaker.name.Goals as goal

pub returns : goal.returns
returns c = (title_allowed _ _, rw (← c.self.view_is) (rw c.in_ok-name.ensures (title_told (the_view c.self.inside) c.args.name.now)))
