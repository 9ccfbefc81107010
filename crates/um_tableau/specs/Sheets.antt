-- What a board holds of its state, and its parts before and after a pivot.
use Rattle.std.specs.Prelude.{◌≡◌, ◌≢◌, ℕ, ◌<◌, ◌^◌, ℤ, List, [], length, slice_index, slice_set, slice_index_or, Option, None}
use Rattle.std.specs.Option.{ForSome}
use Rattle.um_laws.specs.Rational.{Rational, add, mul, neg, inverse}
use Rattle.um_num.specs.Numbers.{IsInRange}
use Rattle.um_lp.specs.Basis.{pivot_line, pivot_entry}
use Rattle.um_lp.specs.Boards.{StandsAt}
use Rattle.um_num.specs.NumberLists.{number_at}
use Rattle.um_lp.specs.States.{State, Frame, end_at, number_of_end}
use Rattle.um_lp.specs.declared.board.At.{At}
use Rattle.um_lp.specs.declared.board.At.TheVariants.{Zero, Basic}
use Rattle.um_tableau.specs.Rows.{entry_at, AreLong, AreBelow, AreDistinct, AreNextLines, AreSpare}
use Rattle.um_tableau.specs.declared.sheet.Sheet.{Sheet}
use Rattle.um_tableau.specs.declared.sheet.Spare.{Spare}

-- a sheet over a frame, with no grid points
abbrev pub state_of : Frame → Sheet → State
state_of frame s = record {
  frame = frame;
  placed = [];
  costs = s.costs;
  basic = s.basic.items;
  at = s.at.items;
  ends = s.ends.items;
  entries = s.entries.items;
  reduced = s.reduced;
  values = s.values.items;
}

-- the basic column of a row
abbrev pub basic_at : Sheet → ℕ → ℕ
basic_at s row = slice_index s.basic.items row

-- where a column stands
abbrev pub standing_at : Sheet → ℕ → At
standing_at s column = slice_index_or s.at.items column Zero

-- the ends of a column
abbrev pub ends_at : Sheet → ℕ → Option ℤ × Option ℤ
ends_at s column = slice_index_or s.ends.items column (None, None)

-- finite ends are in range
abbrev pub AreEndsInRange : List (Option ℤ × Option ℤ) → Type 0
AreEndsInRange ends = (j : ℕ) → j < length ends → ForSome (slice_index_or ends j (None, None)).0 IsInRange × ForSome (slice_index_or ends j (None, None)).1 IsInRange

-- as many basic columns as rows, no two of them the same, and for each column a status, ends, an entry in each row, a reduced cost and a value
pub record IsSheet (s : Sheet) : Type 0 where
  pub width : length s.reduced < 2 ^ 32
  pub basic : length s.basic.items ≡ length s.entries.items
  pub basic_in : AreBelow (length s.reduced) s.basic.items
  pub distinct : AreDistinct s.basic.items
  pub at : length s.at.items ≡ length s.reduced
  pub named : (row : ℕ) → row < length s.entries.items → standing_at s (basic_at s row) ≡ Basic
  pub ends : length s.ends.items ≡ length s.reduced
  pub ends_in : AreEndsInRange s.ends.items
  pub long : AreLong (length s.reduced) s.entries.items
  pub values : length s.values.items ≡ length s.reduced

-- room for the numbers of a sheet after an act
pub record IsSpare (s : Sheet) (spare : Spare) : Type 0 where
  pub lines : AreSpare (length s.entries.items) (length s.reduced) spare.lines
  pub moved : length spare.moved.items ≡ length s.entries.items

-- by how much a column rises that enters, where the leaving one goes to this number
abbrev pub rise_of : Sheet → ℕ → ℕ → Rational → Rational
rise_of s row column end = mul (add end (neg (number_at s.values.items (basic_at s row)))) (inverse (entry_at s.entries.items row column))

-- the value of the basic column of a row after a nonbasic column has risen
abbrev pub risen : Sheet → ℕ → Rational → ℕ → Rational
risen s column rise i = add (number_at s.values.items (basic_at s i)) (mul (entry_at s.entries.items i column) rise)

-- the numbers after a pivot are written
pub record IsPrepared (s : Sheet) (row column : ℕ) (end entered : Rational) (spare : Spare) : Type 0 where
  pub entered_is : entered ≡ add (number_at s.values.items column) (rise_of s row column end)
  pub moved_are : (i : ℕ) → i < length s.entries.items → number_at spare.moved.items i ≡ risen s column (rise_of s row column end) i
  pub lines_are : AreNextLines s.entries.items s.reduced row column spare.lines.line spare.lines.rows.items spare.lines.reduced

-- the values after a pivot
pub record AreValuesAfter (basic : List ℕ) (row column : ℕ) (end entered : Rational) (moved old new : List Rational) : Type 0 where
  pub entering : number_at new column ≡ entered
  pub leaving : number_at new (slice_index basic row) ≡ end
  pub rows : (i : ℕ) → i < length basic → i ≢ row → number_at new (slice_index basic i) ≡ number_at moved i
  pub rest : (j : ℕ) → j ≢ column → ((i : ℕ) → i < length basic → slice_index basic i ≢ j) → number_at new j ≡ number_at old j

-- a sheet before and after a pivot that sends the leaving column to this number
pub record IsPivoted (s t : Sheet) (row column : ℕ) (to : At) (end : Rational) : Type 0 where
  pub height : length t.entries.items ≡ length s.entries.items
  pub width : length t.reduced ≡ length s.reduced
  pub long : AreLong (length s.reduced) t.entries.items
  pub basic : t.basic.items ≡ slice_set s.basic.items row column
  pub at : t.at.items ≡ slice_set (slice_set s.at.items (basic_at s row) to) column Basic
  pub ends : t.ends.items ≡ s.ends.items
  pub costs : t.costs ≡ s.costs
  pub entries : (i j : ℕ) → i < length s.entries.items → j < length s.reduced → entry_at t.entries.items i j ≡ pivot_entry (entry_at s.entries.items) row column i j
  pub reduced : (j : ℕ) → j < length s.reduced → number_at t.reduced j ≡ add (number_at s.reduced j) (mul (number_at s.reduced column) (pivot_line (entry_at s.entries.items) row column j))
  pub values_long : length t.values.items ≡ length s.values.items
  pub entering : number_at t.values.items column ≡ add (number_at s.values.items column) (rise_of s row column end)
  pub leaving : number_at t.values.items (basic_at s row) ≡ end
  pub rows : (i : ℕ) → i < length s.entries.items → i ≢ row → number_at t.values.items (basic_at s i) ≡ risen s column (rise_of s row column end) i
  pub rest : (j : ℕ) → j ≢ column → ((i : ℕ) → i < length s.entries.items → basic_at s i ≢ j) → number_at t.values.items j ≡ number_at s.values.items j

-- the values after a nonbasic column went to this number
pub record AreValuesMoved (basic : List ℕ) (column : ℕ) (end : Rational) (moved old new : List Rational) : Type 0 where
  pub own : number_at new column ≡ end
  pub rows : (i : ℕ) → i < length basic → number_at new (slice_index basic i) ≡ number_at moved i
  pub rest : (j : ℕ) → j ≢ column → ((i : ℕ) → i < length basic → slice_index basic i ≢ j) → number_at new j ≡ number_at old j

-- a nonbasic column went to this number
pub record IsMovedTo (s t : Sheet) (column : ℕ) (end : Rational) : Type 0 where
  pub own : number_at t.values.items column ≡ end
  pub rows : (i : ℕ) → i < length s.entries.items → number_at t.values.items (basic_at s i) ≡ risen s column (add end (neg (number_at s.values.items column))) i
  pub rest : (j : ℕ) → j ≢ column → ((i : ℕ) → i < length s.entries.items → basic_at s i ≢ j) → number_at t.values.items j ≡ number_at s.values.items j

-- the values alone differ
pub record KeepsAllButValues (s t : Sheet) : Type 0 where
  pub basic : t.basic.items ≡ s.basic.items
  pub at : t.at.items ≡ s.at.items
  pub ends : t.ends.items ≡ s.ends.items
  pub entries : t.entries.items ≡ s.entries.items
  pub costs : t.costs ≡ s.costs
  pub reduced : t.reduced ≡ s.reduced
  pub long : length t.values.items ≡ length s.values.items

-- statuses and ends alone differ
pub record KeepsAllButEnds (s t : Sheet) : Type 0 where
  pub basic : t.basic.items ≡ s.basic.items
  pub entries : t.entries.items ≡ s.entries.items
  pub costs : t.costs ≡ s.costs
  pub reduced : t.reduced ≡ s.reduced
  pub values : t.values.items ≡ s.values.items

-- a sheet before and after a column got these ends
pub record IsReboxed (s t : Sheet) (column : ℕ) (given : Option ℤ × Option ℤ) : Type 0 where
  pub basic : t.basic.items ≡ s.basic.items
  pub entries : t.entries.items ≡ s.entries.items
  pub costs : t.costs ≡ s.costs
  pub reduced : t.reduced ≡ s.reduced
  pub values_long : length t.values.items ≡ length s.values.items
  pub ends : t.ends.items ≡ slice_set s.ends.items column given
  pub at : t.at.items ≡ slice_set s.at.items column (standing_at t column)
  pub stands : StandsAt (standing_at s column) (standing_at t column) (number_at s.reduced column) given
  pub kept : standing_at s column ≡ Basic → t.values.items ≡ s.values.items
  pub moved : standing_at s column ≢ Basic → IsMovedTo s t column (number_of_end (end_at (standing_at t column) given))
