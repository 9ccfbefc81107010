use Rattle.um_point.proofs.DeckSizes.{small_columns}
use Rattle.um_check.proofs.rays.do_costs_fall.Goals as goal

pub cost_sum-requires-clause-columns : goal.cost_sum-requires-clause-columns
cost_sum-requires-clause-columns c = small_columns c.args.deck.now c.columns.result.now c.known.ensures c.columns.ensures
