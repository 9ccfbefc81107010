use Rattle.std.proofs.Common.{◌≡◌, ◌++◌, map, take}
use Rattle.um_text.specs.Texts.{behind_blanks}
use Rattle.um_treetext.specs.TreeText.{price_word}
use Rattle.um_treetext.proofs.nodes.put_prices.Given as goal

abbrev pub invariant-loop-price : goal.invariant-loop-price
invariant-loop-price l = l.text ≡ l.initial.text ++ behind_blanks (map price_word (take l.price-index l.prices))
