use Rattle.std.proofs.Common.{map}
use Rattle.um_decktext.specs.DeckLines.{deck_lines, line_of}
use Rattle.um_mps.specs.Reading.{IsReading}
use Rattle.um_mps.proofs.reader.read_lines.Given as goal

abbrev pub invariant-lines : goal.invariant-lines
invariant-lines l = (goal.iterator-lines).can_next l.rest × (goal.iterator-lines).is_finite l.rest × IsReading (deck_lines l.fn.bytes) (map line_of l.rest) l.number l.place l.maker
