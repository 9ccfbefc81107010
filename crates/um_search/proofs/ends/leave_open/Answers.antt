use Rattle.um_multipliers.specs.PlainMultipliers.{plain_multipliers}
use Rattle.um_model.specs.LeafValue.{leaf_value}
use Rattle.um_cover.specs.Sites.{box_at}
use Rattle.um_progress.proofs.KeyBounds.{waits_key}
use Rattle.um_loop.proofs.Takings.{taken_below}
use Rattle.um_search.proofs.ends.leave_open.Goals as goal

pub count-counted-requires-clause-key : goal.count-counted-requires-clause-key
count-counted-requires-clause-key c = waits_key c.args.deck.now c.args.growth.now c.args.entry c.requires

pub count-counted-requires-clause-y0 : goal.count-counted-requires-clause-y0
count-counted-requires-clause-y0 c = taken_below c.args.deck.now c.args.growth.now c.args.entry c.requires

pub count-counted-requires-clause-value : goal.count-counted-requires-clause-value
count-counted-requires-clause-value c = c.requires.size

pub returns-clause-counts : goal.returns-clause-counts
returns-clause-counts c =
    let w = c.args.entry in
    c.count-counted.ensures (leaf_value c.args.deck.now (box_at c.args.deck.now c.args.growth.now w.node) (plain_multipliers w.y)) w.y.y0 c.requires.bounds.y0 c.requires.key
