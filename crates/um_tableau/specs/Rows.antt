-- Rows of lines.
use Rattle.std.specs.Prelude.{◌≡◌, ◌≢◌, ℕ, ◌<◌, pos, List, [], length, slice_index, slice_index_or}
use Rattle.um_laws.specs.Rational.{Rational, whole, add, mul}
use Rattle.um_lp.specs.Basis.{pivot_line}
use Rattle.um_num.specs.NumberLists.{number_at}
use Rattle.um_tableau.specs.declared.lines.SpareLines.{SpareLines}

-- a row, and the empty one past the end
abbrev pub row_at : List (List Rational) → ℕ → List Rational
row_at rows i = slice_index_or rows i []

-- the number at a row and a column
abbrev pub entry_at : List (List Rational) → ℕ → ℕ → Rational
entry_at rows i j = number_at (row_at rows i) j

-- each row has this many numbers
abbrev pub AreLong : ℕ → List (List Rational) → Type 0
AreLong width rows = (i : ℕ) → i < length rows → length (row_at rows i) ≡ width

-- a line and a multiple of another, the multiple being its own number at a column
abbrev pub IsSum : List Rational → ℕ → List Rational → List Rational → Type 0
IsSum own column line sum = (j : ℕ) → j < length own → number_at sum j ≡ add (number_at own j) (mul (number_at own column) (number_at line j))

-- where a line is not 0 at a column, the sum is written
abbrev pub IsNextLine : List Rational → ℕ → List Rational → List Rational → Type 0
IsNextLine own column line next = number_at own column ≢ whole (pos 0) → IsSum own column line next

-- each number of a list is below this one
abbrev pub AreBelow : ℕ → List ℕ → Type 0
AreBelow bound columns = (i : ℕ) → i < length columns → slice_index columns i < bound

-- no two places of a list have the same number
abbrev pub AreDistinct : List ℕ → Type 0
AreDistinct columns = (i k : ℕ) → i < length columns → k < length columns → i ≢ k → slice_index columns i ≢ slice_index columns k

-- the lines after a pivot are written: the new line of the entering column, and each other line that changes
pub record AreNextLines (entries : List (List Rational)) (reduced : List Rational) (row column : ℕ) (line : List Rational) (next : List (List Rational)) (next_reduced : List Rational) : Type 0 where
  pub line_is : (j : ℕ) → j < length reduced → number_at line j ≡ pivot_line (entry_at entries) row column j
  pub rows_are : (i : ℕ) → i < length entries → i ≢ row → IsNextLine (row_at entries i) column line (row_at next i)
  pub reduced_is : IsNextLine reduced column line next_reduced

-- lines with room for the rows of a board
pub record AreSpare (rows width : ℕ) (s : SpareLines) : Type 0 where
  pub height : length s.rows.items ≡ rows
  pub long : AreLong width s.rows.items
  pub line_long : length s.line ≡ width
  pub reduced_long : length s.reduced ≡ width
