use Rattle.std.proofs.Common.{◌≡◌, ◌++◌, map, take}
use Rattle.std.specs.Fmt.{signed_decimal}
use Rattle.um_text.specs.Texts.{behind_blanks}
use Rattle.um_treetext.proofs.writer.put_numbers.Given as goal

abbrev pub invariant-loop-number : goal.invariant-loop-number
invariant-loop-number l = l.text ≡ l.initial.text ++ behind_blanks (map signed_decimal (take l.number-index l.numbers))
