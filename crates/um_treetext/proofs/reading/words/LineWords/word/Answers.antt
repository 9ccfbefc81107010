use Rattle.std.proofs.Common.{refl}
use Rattle.um_treetext.proofs.LineCuts.{next_none}
use Rattle.um_treetext.proofs.Takes.{word_given}
use Rattle.um_treetext.proofs.reading.words.LineWords.word.Goals as goal

pub returns-in-None : goal.returns-in-None
returns-in-None c = next_none _ (rw (← c.self.view_is, c.in-None.is) refl)

pub returns-in-Some : goal.returns-in-Some
returns-in-Some c = let s = c.some_bytes.ensures in word_given c.some_bytes.result _ c.cut.result.0.now _ (rw (← c.self.view_is, c.in-Some.is) c.cut.ensures) s.ok s.some s.err
