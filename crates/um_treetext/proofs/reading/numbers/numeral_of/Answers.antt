use Rattle.um_treetext.proofs.NumberWords.{small_numeral, no_numeral, large_numeral}
use Rattle.um_num.proofs.Parts.{from_bits}
use Rattle.um_treetext.proofs.reading.numbers.numeral_of.Goals as goal

pub returns-in-Ok-clause-numeral : goal.returns-in-Ok-clause-numeral
returns-in-Ok-clause-numeral c = rw (from_bits c.in-Ok.number c.in-Ok.ensures.range) (small_numeral c.args.word.now c.in-Ok.number c.in-Ok.ensures.value)

pub returns-in-Err-TooWide-clause-numeral : goal.returns-in-Err-TooWide-clause-numeral
returns-in-Err-TooWide-clause-numeral c = rw c.has_minus.ensures (large_numeral c.args.word.now (rw c.in-Err-TooWide.field-0-is at c.in-Err-TooWide.ensures.value))

pub returns-in-Err-NotNumber-clause-numeral : goal.returns-in-Err-NotNumber-clause-numeral
returns-in-Err-NotNumber-clause-numeral c = no_numeral c.args.word.now (rw c.in-Err-NotNumber.field-0-is at c.in-Err-NotNumber.ensures.value)
