-- What the searches for the row that leaves and for the column that enters have found so far.
use Rattle.std.specs.Prelude.{◌≡◌, ℕ, ◌<◌, ◌≤◌, Option, Some, None, ◌⊎◌}
use Rattle.um_laws.specs.Rational.{Rational}
use Rattle.um_num.specs.Fractions.{IsBelow}
use Rattle.um_num.specs.Sizes.{Fits}
use Rattle.um_num.specs.declared.exact.Wide.{Wide}
use Rattle.um_lp.specs.States.{State, width, basic_of, entry_of, value_of}
use Rattle.um_lp.specs.Refusals.{IsRefusedAt}
use Rattle.um_lp.specs.DualSteps.{IsOutsideAt, Leaves, MayEnter, ComesBefore, Enters, ratio}
use Rattle.um_lp.specs.declared.board.At.{At}
use Rattle.um_dual.specs.declared.leaving_row.LeavingRow.{LeavingRow}
use Rattle.um_dual.specs.declared.entering_column.EnteringColumn.{EnteringColumn}

-- ---- the row that leaves

-- the row's basic column is outside neither end
abbrev pub IsWithinEnds : State → ℕ → Type 0
IsWithinEnds s row = (side : At) → ¬ IsOutsideAt s row side

-- a column of at most this index is there
abbrev pub IsThereBefore : Option LeavingRow → ℕ → Type 0
IsThereBefore None column = ⊥
IsThereBefore (Some l) column = l.column ≤ column

-- of the rows below n whose basic columns are outside their ends, this is the one of least column
pub record IsLeastBelow (s : State) (n : ℕ) (l : LeavingRow) : Type 0 where
  pub below : l.row < n
  pub column : l.column ≡ basic_of s l.row
  pub outside : IsOutsideAt s l.row l.to
  pub least : (other : ℕ) (side : At) → other < n → IsOutsideAt s other side → l.column ≤ basic_of s other

-- what leaves of the rows below n
abbrev pub LeavesBelow : State → ℕ → Option LeavingRow → Type 0
LeavesBelow s n None = (row : ℕ) → row < n → IsWithinEnds s row
LeavesBelow s n (Some l) = IsLeastBelow s n l

-- what leaves of all rows
abbrev pub IsLeaving : State → Option LeavingRow → Type 0
IsLeaving s None = (row : ℕ) (side : At) → row < s.frame.rows → ¬ IsOutsideAt s row side
IsLeaving s (Some l) = Leaves s l.row l.to × (l.column ≡ basic_of s l.row)

-- the row that leaves is not known, as the value of a row's basic column is not read: it is itself out of range, and that column may be the one of least index, since each of the rows before that is outside its ends has a greater one
pub record IsRefusedLeaving (s : State) (w : Wide) : Type 0 where
  pub row : ℕ
  pub within : row < s.frame.rows
  pub before : (other : ℕ) (side : At) → other < row → IsOutsideAt s other side → basic_of s row < basic_of s other
  pub large : ¬ Fits (value_of s (basic_of s row))
  pub refused : IsRefusedAt s w

-- ---- the column that enters

-- the ratio of a column that may enter, and nothing of another
abbrev pub IsRatio : State → ℕ → At → ℕ → Option Rational → Type 0
IsRatio s row to column None = ¬ MayEnter s row to column
IsRatio s row to column (Some r) = MayEnter s row to column × (r ≡ ratio s row column)

-- the second of two where its ratio is less, and else the first
abbrev pub IsEarlier : Option EnteringColumn → EnteringColumn → EnteringColumn → Type 0
IsEarlier None other e = e ≡ other
IsEarlier (Some least) other e = (IsBelow other.ratio least.ratio × (e ≡ other)) ⊎ (¬ IsBelow other.ratio least.ratio × (e ≡ least))

-- of the columns below n that may enter, this one comes first
pub record IsFirstBelow (s : State) (row : ℕ) (to : At) (n : ℕ) (e : EnteringColumn) : Type 0 where
  pub below : e.column < n
  pub may : MayEnter s row to e.column
  pub value : e.ratio ≡ ratio s row e.column
  pub least : (other : ℕ) → other < n → MayEnter s row to other → ComesBefore s row e.column other

-- what enters of the columns below n
abbrev pub EntersBelow : State → ℕ → At → ℕ → Option EnteringColumn → Type 0
EntersBelow s row to n None = (column : ℕ) → column < n → ¬ MayEnter s row to column
EntersBelow s row to n (Some e) = IsFirstBelow s row to n e

-- what enters of all columns
abbrev pub IsEntering : State → ℕ → At → Option EnteringColumn → Type 0
IsEntering s row to None = (column : ℕ) → column < width s.frame → ¬ MayEnter s row to column
IsEntering s row to (Some e) = Enters s row to e.column × (e.ratio ≡ ratio s row e.column)

-- the column that enters for this row is not known, as the ratio of a column is not read, or not whether that column may enter: it may, or its entry is itself out of range
pub record IsRefusedRatio (s : State) (row : ℕ) (to : At) (w : Wide) : Type 0 where
  pub column : ℕ
  pub within : column < width s.frame
  pub may : MayEnter s row to column ⊎ ¬ Fits (entry_of s row column)
  pub refused : IsRefusedAt s w
