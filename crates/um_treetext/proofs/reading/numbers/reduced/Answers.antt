use Rattle.um_treetext.proofs.NumberWords.{large_den, negative_den}
use Rattle.um_treetext.proofs.reading.numbers.reduced.Goals as goal

pub returns-in-Large-true : goal.returns-in-Large-true
returns-in-Large-true c = λ n d s t. negative_den n d (rw (c.in-Large-true.is, c.in-Large-true.negative-test) at t)

pub returns-in-Large-false : goal.returns-in-Large-false
returns-in-Large-false c = λ n d s t. large_den n d (rw (c.in-Large-false.is, c.in-Large-false.negative-test) at t)
