use Rattle.std.proofs.Common.{◌≡◌, length}
use Rattle.um_treetext.specs.NodeLines.{prices_said}
use Rattle.um_treetext.proofs.PriceWords.{behind}
use Rattle.um_treetext.proofs.reading.nodes.read_prices.Given as goal

abbrev pub invariant-prices : goal.invariant-prices
invariant-prices l = prices_said l.rows 0 l.initial.words ≡ behind l.prices.items (prices_said l.rows l.next l.words)

abbrev pub decreases-prices : goal.decreases-prices
decreases-prices l = length l.words
