-- Lines whose numbers are narrow.
use Rattle.std.proofs.Common.{List, sym, subst}
use Rattle.um_laws.specs.Rational.{Rational}
use Rattle.um_lp.specs.WideStates.{AreNarrow}
use Rattle.um_lp.proofs.ShortLines.{short_line}
use Rattle.um_lines.specs.Lines.{IsShortLine}

-- their whole numbers are short
pub short_of_narrow : (xs : List Rational) → AreNarrow xs → IsShortLine xs
short_of_narrow xs h den nums up lowest e = short_line den nums up lowest (subst AreNarrow (sym e) h)
