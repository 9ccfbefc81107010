-- What a board shows: its basis, where each column stands, and the numbers that follow.
use Rattle.std.specs.Prelude.{ℕ, ◌+◌, ◌-◌, nat_lt, nat_eq, ◌==◌, ℤ, pos, if◌then◌else◌, List, [], length, slice_index, slice_index_or, Option, Some, None}
use Rattle.um_laws.specs.Rational.{Rational, whole, neg}
use Rattle.um_laws.specs.Sums.{sum_of}
use Rattle.um_num.specs.NumberLists.{number_at}
use Rattle.um_lp.specs.declared.board.At.{At}
use Rattle.um_lp.specs.declared.board.At.TheVariants.{Lower, Upper, Zero, Basic}
use Rattle.um_lp.specs.declared.board.Costs.{Costs}
use Rattle.um_lp.specs.declared.board.Costs.TheVariants.{Given, Nothing}
use Rattle.um_lp.specs.declared.relaxation.Term.{Term}

-- ---- the data

-- what a column that is no slack costs, and what it has in the rows
pub record ColumnData : Type 0 where
  pub cost : ℤ
  pub terms : List Term

-- a place for a grid point that has none, and a slack, cost nothing and have no terms
abbrev pub no_data : ColumnData
no_data = record { cost = pos 0; terms = [] }

-- what a board keeps from its making: how many rows it has, the columns that stand before the slacks, and how many places stand behind them
pub record Frame : Type 0 where
  pub rows : ℕ
  pub columns : List ColumnData
  pub places : ℕ

-- `placed` has the grid points that were inserted, by place. The lists `at`, `ends`, `reduced` and `values` go by column, `basic` and `entries` by row.
pub record State : Type 0 where
  pub frame : Frame
  pub placed : List ColumnData
  pub costs : Costs
  pub basic : List ℕ
  pub at : List At
  pub ends : List (Option ℤ × Option ℤ)
  pub entries : List (List Rational)
  pub reduced : List Rational
  pub values : List Rational

-- ---- columns

-- the slack of a row
abbrev pub slack : Frame → ℕ → ℕ
slack f row = length f.columns + row

-- how many columns there are
abbrev pub width : Frame → ℕ
width f = length f.columns + f.rows + f.places

-- what stands at a column
abbrev pub data_of : State → ℕ → ColumnData
data_of s column =
    if nat_lt column (length s.frame.columns) then slice_index_or s.frame.columns column no_data
    else (if nat_lt column (slack s.frame s.frame.rows) then no_data else slice_index_or s.placed (column - slack s.frame s.frame.rows) no_data)

-- what these terms have in a row
abbrev pub coefficient : List Term → ℕ → ℤ
coefficient terms row = sum_of (λ (t : Term). if t.row == row then t.value else pos 0) terms

-- the given rows: the slack of a row has -1 in it, each other column its coefficient
abbrev pub system : State → ℕ → ℕ → Rational
system s row column = if nat_eq column (slack s.frame row) then neg (whole (pos 1)) else whole (coefficient (data_of s column).terms row)

-- what is charged for a column that costs this much
abbrev pub charge : Costs → ℤ → ℤ
charge Given cost = cost
charge Nothing cost = pos 0

-- what is charged for a column
abbrev pub cost_of : State → ℕ → Rational
cost_of s column = whole (charge s.costs (data_of s column).cost)

-- ---- readings

-- the basic column of a row
abbrev pub basic_of : State → ℕ → ℕ
basic_of s row = slice_index s.basic row

-- where a column stands
abbrev pub at_of : State → ℕ → At
at_of s column = slice_index_or s.at column Zero

-- the low and the high end of a column
abbrev pub state_ends_of : State → ℕ → Option ℤ × Option ℤ
state_ends_of s column = slice_index_or s.ends column (None, None)

-- the entry of a row and a column in the tableau
abbrev pub entry_of : State → ℕ → ℕ → Rational
entry_of s row column = number_at (slice_index_or s.entries row []) column

-- the reduced cost of a column
abbrev pub reduced_of : State → ℕ → Rational
reduced_of s column = number_at s.reduced column

-- the value of a column
abbrev pub value_of : State → ℕ → Rational
value_of s column = number_at s.values column

-- ---- ends

-- the end at which a nonbasic column stands
abbrev pub end_at : At → Option ℤ × Option ℤ → Option ℤ
end_at Lower ends = ends.0
end_at Upper ends = ends.1
end_at Zero ends = None
end_at Basic ends = None

-- the number of an end, and 0 where there is none
abbrev pub number_of_end : Option ℤ → Rational
number_of_end None = whole (pos 0)
number_of_end (Some end) = whole end
