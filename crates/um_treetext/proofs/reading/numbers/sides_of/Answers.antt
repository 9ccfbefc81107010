use Rattle.std.proofs.Common.{◌+◌}
use Rattle.std.proofs.lemmas.List.{take_rest}
use Rattle.um_treetext.specs.Calls.{is_byte}
use Rattle.um_treetext.proofs.NumberWords.{sides_found, sides_missing}
use Rattle.um_treetext.proofs.reading.numbers.sides_of.Goals as goal

pub returns-in-Some : goal.returns-in-Some
returns-in-Some c = rw (take_rest c.args.word.now (c.in-Some.at + 1)) (sides_found (is_byte c.args.separator) c.args.word.now c.in-Some.at c.in-Some.ensures.place)

pub returns-in-None : goal.returns-in-None
returns-in-None c = sides_missing (is_byte c.args.separator) c.args.word.now c.in-None.ensures.place
