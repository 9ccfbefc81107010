use Rattle.std.proofs.Common.{refl}
use Rattle.um_treetext.specs.FrontLines.{name_said}
use Rattle.um_treetext.proofs.reading.front.check_name.Goals as goal

pub returns-then-not-is_one_word : goal.returns-then-not-is_one_word
unfolding name_said
returns-then-not-is_one_word c = rw (← c.if-not-is_one_word.ensures) refl

pub returns-then-not-is_same : goal.returns-then-not-is_same
unfolding name_said
returns-then-not-is_same c = rw (← c.if-not-is_one_word.ensures, ← c.name_word.ensures, ← c.if-not-is_same.ensures) refl

pub returns : goal.returns
unfolding name_said
returns c = rw (← c.if-not-is_one_word.ensures, ← c.name_word.ensures, ← c.if-not-is_same.ensures) refl
