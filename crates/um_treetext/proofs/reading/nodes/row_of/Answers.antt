use Rattle.um_treetext.proofs.PriceWords.{row_large, row_negative}
use Rattle.um_treetext.proofs.reading.nodes.row_of.Goals as goal

pub returns-in-Large-true : goal.returns-in-Large-true
returns-in-Large-true c = λ r s. row_negative r (rw (c.in-Large-true.is, c.in-Large-true.negative-test) at s)

pub returns-in-Large-false : goal.returns-in-Large-false
returns-in-Large-false c = λ r s. row_large r (rw (c.in-Large-false.is, c.in-Large-false.negative-test) at s)
