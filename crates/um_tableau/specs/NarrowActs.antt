-- Acts between sheets whose numbers are not wide.
use Rattle.std.specs.Prelude.{◌≡◌, ℕ, ◌<◌, List, length}
use Rattle.um_laws.specs.Rational.{Rational, add, neg}
use Rattle.um_lp.specs.Basis.{pivot_line}
use Rattle.um_num.specs.NumberLists.{number_at}
use Rattle.um_num.specs.Sizes.{IsSmall}
use Rattle.um_lp.specs.WideStates.{AreNarrow}
use Rattle.um_tableau.specs.Rows.{row_at, entry_at}
use Rattle.um_tableau.specs.Sheets.{rise_of, risen}
use Rattle.um_tableau.specs.declared.sheet.Sheet.{Sheet}

-- the numbers before a pivot that sends the leaving column to this number, and those after it
pub record IsNarrowPivot (s : Sheet) (row column : ℕ) (end : Rational) : Type 0 where
  pub values : (j : ℕ) → j < length s.reduced → IsSmall (number_at s.values.items j)
  pub rows : (i : ℕ) → i < length s.entries.items → AreNarrow (row_at s.entries.items i)
  pub reduced : AreNarrow s.reduced
  pub end_small : IsSmall end
  pub entered : IsSmall (add (number_at s.values.items column) (rise_of s row column end))
  pub moved : (i : ℕ) → i < length s.entries.items → IsSmall (risen s column (rise_of s row column end) i)
  pub line : List Rational
  pub long : length line ≡ length s.reduced
  pub line_is : (j : ℕ) → j < length s.reduced → number_at line j ≡ pivot_line (entry_at s.entries.items) row column j
  pub line_narrow : AreNarrow line

-- the values before a nonbasic column goes to this number, and those after it
pub record IsNarrowMove (s : Sheet) (column : ℕ) (end : Rational) : Type 0 where
  pub values : (j : ℕ) → j < length s.reduced → IsSmall (number_at s.values.items j)
  pub end_small : IsSmall end
  pub moved : (i : ℕ) → i < length s.entries.items → IsSmall (risen s column (add end (neg (number_at s.values.items column))) i)
