-- Points and columns whose numbers are small enough for sums of 128 bits.
use Rattle.std.specs.Prelude.{◌≡◌, ◌<◌, ◌≤◌, ℤ, pos, ◌≤ℤ◌, unsigned_abs, length, All}
use Rattle.um_model.specs.Values.{DeckValue, ColumnValue, PointValue}
use Rattle.um_model.specs.WellFormed.{IsWithin}
use Rattle.um_model.specs.declared.deck.Entry.{Entry}
use Rattle.um_model.specs.declared.limits.TheConstants.{MOST_ROWS, MOST_COEFFICIENT, POINT_SIZE}

-- below 2^36 in size
abbrev pub FitsIn36Bits : ℤ → Type 0
FitsIn36Bits z = unsigned_abs z < POINT_SIZE

-- a denominator of at least 1 and a part for each column, all of them small
pub record FitsMachine (d : DeckValue) (p : PointValue) : Type 0 where
  pub den : pos 1 ≤ℤ p.den
  pub den_size : FitsIn36Bits p.den
  pub parts : length p.parts ≡ length d.columns
  pub part_sizes : All FitsIn36Bits p.parts

-- a column of at most 512 entries in rows below 512, none of them and no cost above 2^31 in size
pub record IsSmallColumn (c : ColumnValue) : Type 0 where
  pub few : length c.entries ≤ MOST_ROWS
  pub rows : All (λ (e : Entry). e.row < MOST_ROWS) c.entries
  pub entries : All (λ (e : Entry). IsWithin MOST_COEFFICIENT e.value) c.entries
  pub cost : IsWithin MOST_COEFFICIENT c.cost
