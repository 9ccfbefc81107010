-- The ends of a box, as ends of the columns of the relaxation.
use Rattle.std.specs.Prelude.{◌≡◌, ℕ, ◌-◌, ◌<◌, nat_lt, ℤ, if◌then◌else◌, length, slice_get, Option, Some, None}
use Rattle.um_model.specs.Values.{DeckValue}
use Rattle.um_model.specs.Boxes.{BoxValue, ends_of}
use Rattle.um_model.specs.declared.deck.Row.{Row}
use Rattle.um_lp.specs.States.{State, width, state_ends_of}
use Rattle.um_duality.specs.Relaxed.{side_end}

-- the sides of a row as ends; both infinite past the last row
abbrev pub row_ends : Option Row → Option ℤ × Option ℤ
row_ends None = (None, None)
row_ends (Some r) = (side_end r.low, side_end r.high)

-- the ends of a column of the relaxation: those of the box, in thousandths, and those of its row for a slack
abbrev pub ends_on : DeckValue → BoxValue → ℕ → Option ℤ × Option ℤ
ends_on d b column =
    if nat_lt column (length d.columns) then ((ends_of d b column).low, (ends_of d b column).high)
    else row_ends (slice_get d.rows (column - length d.columns))

-- every column has the ends of the box
abbrev pub IsBoxed : DeckValue → BoxValue → State → Type 0
IsBoxed d b s = (column : ℕ) → column < width s.frame → state_ends_of s column ≡ ends_on d b column
