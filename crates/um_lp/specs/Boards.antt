-- What holds of the state of every board, and what each act leaves.
use Rattle.std.specs.Prelude.{◌≡◌, ◌≢◌, ℕ, ◌<◌, ℤ, pos, ◌≤ℤ◌, ◌<ℤ◌, List, [], length, slice_set, All, Option, Some, None, IsSome}
use Rattle.std.specs.Option.{ForSome}
use Rattle.um_laws.specs.Rational.{Rational, add, mul, whole}
use Rattle.um_lp.specs.Basis.{sum_below, Solves, TableauOf}
use Rattle.um_lp.specs.States.{State, Frame, width, slack, system, cost_of, basic_of, at_of, state_ends_of, entry_of, reduced_of, value_of, end_at, number_of_end}
use Rattle.um_lp.specs.declared.board.At.{At}
use Rattle.um_lp.specs.declared.board.At.TheVariants.{Lower, Upper, Zero, Basic}
use Rattle.um_lp.specs.declared.board.Costs.{Costs}
use Rattle.um_lp.specs.declared.board.Costs.TheVariants.{Given}

-- ---- every state

-- each list has an item for each row, or for each column
pub record IsShaped (s : State) : Type 0 where
  pub basic : length s.basic ≡ s.frame.rows
  pub at : length s.at ≡ width s.frame
  pub ends : length s.ends ≡ width s.frame
  pub entries : length s.entries ≡ s.frame.rows
  pub long : All (λ (row : List Rational). length row ≡ width s.frame) s.entries
  pub reduced : length s.reduced ≡ width s.frame
  pub values : length s.values ≡ width s.frame

-- the columns that stand at Basic are those that the rows name
pub record IsBasis (s : State) : Type 0 where
  pub named : (row : ℕ) → row < s.frame.rows → at_of s (basic_of s row) ≡ Basic
  pub found : (column : ℕ) → column < width s.frame → at_of s column ≡ Basic → (row : ℕ) × (row < s.frame.rows) × (basic_of s row ≡ column)

-- the reduced cost of a column is its cost, and in each row the cost of the basic column times the column's entry
abbrev pub IsReducedCost : State → ℕ → Type 0
IsReducedCost s column = reduced_of s column ≡ add (cost_of s column) (sum_below s.frame.rows (λ row. mul (cost_of s (basic_of s row)) (entry_of s row column)))

-- a nonbasic column has the value of its end, and 0 at Zero; the basic values follow, as the values solve the tableau's rows
pub record AreValues (s : State) : Type 0 where
  pub nonbasic : (column : ℕ) → column < width s.frame → at_of s column ≢ Basic → value_of s column ≡ number_of_end (end_at (at_of s column) (state_ends_of s column))
  pub basic : Solves s.frame.rows (width s.frame) (entry_of s) (value_of s)

-- what holds of the state of every board
pub record IsBoard (s : State) : Type 0 where
  pub shape : IsShaped s
  pub basis : IsBasis s
  pub tableau : TableauOf s.frame.rows (width s.frame) (length s.frame.columns) (system s) (basic_of s) (entry_of s)
  pub reduced : (column : ℕ) → column < width s.frame → IsReducedCost s column
  pub values : AreValues s

-- ---- the state at the making

-- every slack is basic, every other column is Lower, all ends are 0, no grid point is there, and the costs are the given ones
pub record IsStart (f : Frame) (s : State) : Type 0 where
  pub frame : s.frame ≡ f
  pub placed : s.placed ≡ []
  pub costs : s.costs ≡ Given
  pub basic : (row : ℕ) → row < f.rows → basic_of s row ≡ slack f row
  pub nonbasic : (column : ℕ) → column < width f → at_of s column ≢ Basic → at_of s column ≡ Lower
  pub ends : (column : ℕ) → column < width f → state_ends_of s column ≡ (Some (pos 0), Some (pos 0))

-- ---- acts

-- what every act but an insertion and a reset leaves alone
pub record SameRows (s t : State) : Type 0 where
  pub frame : t.frame ≡ s.frame
  pub placed : t.placed ≡ s.placed
  pub costs : t.costs ≡ s.costs

-- the end at which a column is to stand is finite
abbrev pub IsFinite : At → Option ℤ × Option ℤ → Type 0
IsFinite at ends = IsSome (end_at at ends)

-- a column enters, and the basic column of a row leaves to the named end; all else follows, as a basis has one table
pub record IsPivot (row column : ℕ) (to : At) (s t : State) : Type 0 where
  pub same : SameRows s t
  pub basic : t.basic ≡ slice_set s.basic row column
  pub at : t.at ≡ slice_set (slice_set s.at (basic_of s row) to) column Basic
  pub ends : t.ends ≡ s.ends
  pub board : IsBoard t

-- at the low end if that is finite, else at the high end if that is, else at Zero
abbrev pub resting_with : Option ℤ → Option ℤ → At
resting_with (Some low) high = Lower
resting_with None (Some high) = Upper
resting_with None None = Zero

-- where the column stood if its end there is finite, else at the other place
abbrev pub stays_or : At → Option ℤ → At → At
stays_or at (Some end) other = at
stays_or at None other = other

-- where a nonbasic column stands with a reduced cost of 0 when it gets these ends: where it stood if that end is finite, else at its low end, else at its high end, else at Zero
abbrev pub resting : At → Option ℤ × Option ℤ → At
resting at ends = stays_or at (end_at at ends) (resting_with ends.0 ends.1)

-- where a column stands when it gets these ends: a basic one stays basic; a nonbasic one goes to the end that its reduced cost wants, low for a positive one and high for a negative one
pub record StandsAt (before after : At) (reduced : Rational) (ends : Option ℤ × Option ℤ) : Type 0 where
  pub basic : before ≡ Basic → after ≡ Basic
  pub positive : before ≢ Basic → pos 0 <ℤ reduced.num → after ≡ Lower
  pub negative : before ≢ Basic → reduced.num <ℤ pos 0 → after ≡ Upper
  pub none : before ≢ Basic → reduced.num ≡ pos 0 → after ≡ resting before ends

-- the low end is at most the high end
abbrev pub AreOrdered : Option ℤ × Option ℤ → Type 0
AreOrdered ends = ForSome ends.0 (λ low. ForSome ends.1 (λ high. low ≤ℤ high))

-- the end that a nonbasic column's reduced cost wants is finite
pub record IsWantedEndFinite (at : At) (reduced : Rational) (ends : Option ℤ × Option ℤ) : Type 0 where
  pub low : at ≢ Basic → pos 0 <ℤ reduced.num → IsSome ends.0
  pub high : at ≢ Basic → reduced.num <ℤ pos 0 → IsSome ends.1

-- a column gets ends; the basis, the entries and the reduced costs stay
pub record IsRebox (column : ℕ) (given : Option ℤ × Option ℤ) (s t : State) : Type 0 where
  pub same : SameRows s t
  pub basic : t.basic ≡ s.basic
  pub entries : t.entries ≡ s.entries
  pub reduced : t.reduced ≡ s.reduced
  pub ends : t.ends ≡ slice_set s.ends column given
  pub at : t.at ≡ slice_set s.at column (at_of t column)
  pub stands : StandsAt (at_of s column) (at_of t column) (reduced_of s column) given
  pub board : IsBoard t

-- the board is made anew over its frame: every slack is basic, every other column is Lower, all ends and values are 0, no grid point is there, and these costs are taken; the entries and reduced costs follow
pub record IsReset (taken : Costs) (s t : State) : Type 0 where
  pub frame : t.frame ≡ s.frame
  pub placed : t.placed ≡ []
  pub costs : t.costs ≡ taken
  pub basic : (row : ℕ) → row < s.frame.rows → basic_of t row ≡ slack s.frame row
  pub nonbasic : (column : ℕ) → column < width s.frame → at_of t column ≢ Basic → at_of t column ≡ Lower
  pub ends : (column : ℕ) → column < width s.frame → state_ends_of t column ≡ (Some (pos 0), Some (pos 0))
  pub values : (column : ℕ) → column < width s.frame → value_of t column ≡ whole (pos 0)
  pub board : IsBoard t
