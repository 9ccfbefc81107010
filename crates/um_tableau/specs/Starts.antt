-- A board at its making, or after a reset.
use Rattle.std.specs.Prelude.{◌≡◌, ℕ, ◌<◌, ◌≤◌, List, [], length, slice_index, slice_index_or}
use Rattle.um_num.specs.NumberLists.{number_at}
use Rattle.um_lp.specs.States.{State, Frame, width, slack, data_of, system, charge}
use Rattle.um_lp.specs.declared.board.At.{At}
use Rattle.um_lp.specs.declared.board.At.TheVariants.{Lower, Zero, Basic}
use Rattle.um_lp.specs.declared.board.Costs.{Costs}
use Rattle.um_lp.specs.declared.board.Costs.TheVariants.{Given, Nothing}
use Rattle.um_laws.specs.Rational.{Rational, whole}
use Rattle.um_tableau.specs.Rows.{AreLong}
use Rattle.um_tableau.specs.declared.lines.SpareLines.{SpareLines}
use Rattle.um_tableau.specs.declared.reset.FirstLines.{FirstLines}
use Rattle.um_tableau.specs.declared.sheet.Sheet.{Sheet}

-- a frame with no grid points and no numbers yet: its system and given costs are those of the board
abbrev pub bare : Frame → State
bare f = record { frame = f; placed = []; costs = Given; basic = []; at = []; ends = []; entries = []; reduced = []; values = [] }

-- what the system has in a row
pub record IsSystemRow (f : Frame) (row : ℕ) (line : List Rational) : Type 0 where
  pub long : length line ≡ width f
  pub numbers : (j : ℕ) → j < width f → number_at line j ≡ system (bare f) row j

-- what is charged for all columns
pub record AreCosts (taken : Costs) (f : Frame) (line : List Rational) : Type 0 where
  pub long : length line ≡ width f
  pub numbers : (j : ℕ) → j < width f → number_at line j ≡ whole (charge taken (data_of (bare f) j).cost)

-- the rows of the system, below this one
pub record AreSystemRows (f : Frame) (rows : ℕ) (lines : List (List Rational)) : Type 0 where
  pub height : length lines ≡ rows
  pub lines_are : (i : ℕ) → i < rows → IsSystemRow f i (slice_index_or lines i [])

-- the slacks of all rows
pub record AreSlacks (f : Frame) (basic : List ℕ) : Type 0 where
  pub height : length basic ≡ f.rows
  pub slacks : (i : ℕ) → i < f.rows → slice_index basic i ≡ slack f i

-- the slacks are basic, and all other columns stand at their low ends
pub record AreFirstStatuses (f : Frame) (at : List At) : Type 0 where
  pub long : length at ≡ width f
  pub slacks : (i : ℕ) → i < f.rows → slice_index_or at (slack f i) Zero ≡ Basic
  pub before : (j : ℕ) → j < length f.columns → slice_index_or at j Zero ≡ Lower
  pub behind : (j : ℕ) → slack f f.rows ≤ j → j < width f → slice_index_or at j Zero ≡ Lower

-- the lines of a board at its making, with its given costs and with none
pub record AreFirstLines (f : Frame) (first : FirstLines) : Type 0 where
  pub rows : AreSystemRows f f.rows first.rows.items
  pub costs : AreCosts Given f first.costs
  pub zeros : AreCosts Nothing f first.zeros

-- what is charged, as a line
abbrev pub charged : Costs → FirstLines → List Rational
charged Given first = first.costs
charged Nothing first = first.zeros

-- these lines are written to the room, with what is charged as the reduced costs
pub record AreWritten (taken : Costs) (first : FirstLines) (room : SpareLines) : Type 0 where
  pub height : length room.rows.items ≡ length first.rows.items
  pub rows : (i : ℕ) → i < length first.rows.items → slice_index_or room.rows.items i [] ≡ slice_index_or first.rows.items i []
  pub reduced : room.reduced ≡ charged taken first

-- a sheet has a place for each row and each column
pub record IsSized (f : Frame) (s : Sheet) : Type 0 where
  pub basic : length s.basic.items ≡ f.rows
  pub at : length s.at.items ≡ width f
  pub ends : length s.ends.items ≡ width f
  pub entries : length s.entries.items ≡ f.rows
  pub long : AreLong (width f) s.entries.items
  pub reduced : length s.reduced ≡ width f
  pub values : length s.values.items ≡ width f
