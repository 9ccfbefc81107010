-- The next step of the bounded dual simplex method, as a choice in a state.
use Rattle.std.specs.Prelude.{◌≡◌, ◌≢◌, ℕ, ◌≤◌, ◌<◌, ℤ, pos, ◌<ℤ◌, Option, Some, None, IsSome, zero, suc, ◌⊎◌}
use lib.IntN.{nat_abs}
use Rattle.um_laws.specs.Rational.{Rational, reduce, whole, mul, inverse}
use Rattle.um_num.specs.Fractions.{IsBelow}
use Rattle.um_lp.specs.States.{State, width, basic_of, at_of, state_ends_of, entry_of, reduced_of, value_of}
use Rattle.um_lp.specs.Boards.{IsPivot, AreOrdered}
use Rattle.um_lp.specs.declared.board.At.{At}
use Rattle.um_lp.specs.declared.board.At.TheVariants.{Lower, Upper, Zero, Basic}

-- ---- the row that leaves

-- the value is below its low end, which is finite
abbrev pub IsBelowEnd : Option ℤ → Rational → Type 0
IsBelowEnd low value = (end : ℤ) × (low ≡ Some end) × IsBelow value (whole end)

-- the value is above its high end, which is finite
abbrev pub IsAboveEnd : Option ℤ → Rational → Type 0
IsAboveEnd high value = (end : ℤ) × (high ≡ Some end) × IsBelow (whole end) value

-- the basic column of a row is outside its ends, on the side of this end
abbrev pub IsOutsideAt : State → ℕ → At → Type 0
IsOutsideAt s row Lower = IsBelowEnd (state_ends_of s (basic_of s row)).0 (value_of s (basic_of s row))
IsOutsideAt s row Upper = IsAboveEnd (state_ends_of s (basic_of s row)).1 (value_of s (basic_of s row))
IsOutsideAt s row Zero = ⊥
IsOutsideAt s row Basic = ⊥

-- of the basic columns outside their ends, that of this row is the one of least index, and leaves to this end
pub record Leaves (s : State) (row : ℕ) (to : At) : Type 0 where
  pub within : row < s.frame.rows
  pub outside : IsOutsideAt s row to
  pub least : (other : ℕ) (side : At) → other < s.frame.rows → IsOutsideAt s other side → basic_of s row ≤ basic_of s other

-- ---- the column that enters

-- the row's basic column gains where the column rises: the entry is positive for a basic column that must rise, as one that leaves to its low end must, and negative for one that must fall
abbrev pub Helps : At → Rational → Type 0
Helps Lower entry = pos 0 <ℤ entry.num
Helps Upper entry = entry.num <ℤ pos 0
Helps Zero entry = ⊥
Helps Basic entry = ⊥

-- the row's basic column gains where the column falls: the other sign of the entry
abbrev pub Harms : At → Rational → Type 0
Harms Lower entry = entry.num <ℤ pos 0
Harms Upper entry = pos 0 <ℤ entry.num
Harms Zero entry = ⊥
Harms Basic entry = ⊥

-- a column may enter that can move the way in which it helps: one at its low end can rise, one at its high end can fall, one at Zero can do both
abbrev pub CanMove : At → At → Rational → Type 0
CanMove Lower to entry = Helps to entry
CanMove Upper to entry = Harms to entry
CanMove Zero to entry = entry ≢ whole (pos 0)
CanMove Basic to entry = ⊥

-- the column may enter for the row whose basic column leaves to this end
abbrev pub MayEnter : State → ℕ → At → ℕ → Type 0
MayEnter s row to column = CanMove (at_of s column) to (entry_of s row column)

-- the size of a number
abbrev pub size : Rational → Rational
size x = reduce (pos (nat_abs x.num)) x.den

-- the size of the reduced cost over the entry
abbrev pub ratio : State → ℕ → ℕ → Rational
ratio s row column = size (mul (reduced_of s column) (inverse (entry_of s row column)))

-- the first comes before the second: its ratio is less, or the ratios are equal and its index is less or the same
abbrev pub ComesBefore : State → ℕ → ℕ → ℕ → Type 0
ComesBefore s row first second = IsBelow (ratio s row first) (ratio s row second) ⊎ ((ratio s row first ≡ ratio s row second) × (first ≤ second))

-- of the columns that may enter, this one has the least ratio, and of those the least index
pub record Enters (s : State) (row : ℕ) (to : At) (column : ℕ) : Type 0 where
  pub within : column < width s.frame
  pub may : MayEnter s row to column
  pub least : (other : ℕ) → other < width s.frame → MayEnter s row to other → ComesBefore s row column other

-- ---- the step

-- what comes next: nothing, as all basic columns are within their ends; nothing, as no column may enter for this row; or a pivot of this row, with the column that enters and the end to which the basic one leaves
pub data Next : Type 0 where
  Ended : Next
  NoPoint : ℕ → Next
  Pivot : ℕ → ℕ → At → Next

-- what comes next in this state
abbrev pub IsNext : State → Next → Type 0
IsNext s Ended = (row : ℕ) (side : At) → row < s.frame.rows → ¬ IsOutsideAt s row side
IsNext s (NoPoint row) = (to : At) × Leaves s row to × ((column : ℕ) → column < width s.frame → ¬ MayEnter s row to column)
IsNext s (Pivot row column to) = Leaves s row to × Enters s row to column

-- a step is due, and leads from s to t
pub record IsStep (s t : State) : Type 0 where
  pub row : ℕ
  pub column : ℕ
  pub to : At
  pub next : IsNext s (Pivot row column to)
  pub pivot : IsPivot row column to s t

-- n steps lead from s to t
abbrev pub AreSteps : ℕ → State → State → Type 0
AreSteps zero s t = t ≡ s
AreSteps (suc n) s t = (between : State) × AreSteps n s between × IsStep between t

-- ---- dual feasible

-- a nonbasic column stands at the end that its reduced cost wants, that end is finite, and one at Zero has no finite end
pub record IsDualFeasibleAt (s : State) (column : ℕ) : Type 0 where
  pub ordered : AreOrdered (state_ends_of s column)
  pub positive : at_of s column ≢ Basic → pos 0 <ℤ (reduced_of s column).num → at_of s column ≡ Lower
  pub negative : at_of s column ≢ Basic → (reduced_of s column).num <ℤ pos 0 → at_of s column ≡ Upper
  pub lower : at_of s column ≡ Lower → IsSome (state_ends_of s column).0
  pub upper : at_of s column ≡ Upper → IsSome (state_ends_of s column).1
  pub free : at_of s column ≡ Zero → state_ends_of s column ≡ (None, None)

-- the state is dual feasible: each column is
abbrev pub IsDualFeasible : State → Type 0
IsDualFeasible s = (column : ℕ) → column < width s.frame → IsDualFeasibleAt s column
