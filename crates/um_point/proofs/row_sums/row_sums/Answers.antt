use Rattle.um_point.proofs.ArcSums.{few_arcs}
use Rattle.um_point.proofs.DeckSizes.{small_columns}
use Rattle.um_point.proofs.row_sums.row_sums.Goals as goal

pub entry_sums-sums-requires-clause-columns : goal.entry_sums-sums-requires-clause-columns
entry_sums-sums-requires-clause-columns c = small_columns c.args.deck.now c.columns.result.now c.known.ensures c.columns.ensures

pub add_arcs-requires-clause-few : goal.add_arcs-requires-clause-few
add_arcs-requires-clause-few c = rw c.arcs.ensures (few_arcs c.args.deck.now c.known.ensures.formed)
