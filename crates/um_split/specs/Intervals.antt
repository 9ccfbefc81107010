-- Points that keep the intervals of sets.
use Rattle.std.specs.Prelude.{ℕ, pos, ◌≤ℤ◌}
use Rattle.um_model.specs.Values.{DeckValue, SetValue, PointValue}
use Rattle.um_model.specs.WellFormed.{AtPlace}
use Rattle.um_model.specs.Feasible.{part, member_parts}
use Rattle.um_model.specs.Boxes.{BoxValue, ZeroOutside, span_at}

-- the set's members are at least 0 at the point, and 0 outside the set's interval of the box
pub record KeepsInterval (d : DeckValue) (b : BoxValue) (set : ℕ) (p : PointValue) : Type 0 where
  pub up : (s : SetValue) → AtPlace d.sets set s → (position : ℕ) → pos 0 ≤ℤ part (member_parts p s) position
  pub outside : (s : SetValue) → AtPlace d.sets set s → ZeroOutside p (span_at b set) s

-- so are those of each set
abbrev pub KeepsIntervals : DeckValue → BoxValue → PointValue → Type 0
KeepsIntervals d b p = (set : ℕ) → KeepsInterval d b set p
