-- Lists of rational numbers.
use Rattle.std.specs.Prelude.{ℕ, pos, List, slice_index_or}
use Rattle.um_laws.specs.Rational.{Rational, whole}

-- the number at a place, and 0 past the end
abbrev pub number_at : List Rational → ℕ → Rational
number_at numbers place = slice_index_or numbers place (whole (pos 0))
