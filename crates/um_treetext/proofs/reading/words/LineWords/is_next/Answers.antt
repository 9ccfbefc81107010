use Rattle.std.proofs.Common.{refl}
use Rattle.um_treetext.specs.Words.{is_next}
use Rattle.um_treetext.proofs.reading.words.LineWords.is_next.Goals as goal

pub returns-in-Some : goal.returns-in-Some
unfolding is_next
returns-in-Some c = rw (← c.self.view_is, c.in-Some.is, c.cut.ensures) c.eq.ensures

pub returns-in-None : goal.returns-in-None
unfolding is_next
returns-in-None c = rw (← c.self.view_is, c.in-None.is) refl
