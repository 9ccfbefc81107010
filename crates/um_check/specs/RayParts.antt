-- The parts of a ray, and what each row and each column asks of it.
use Rattle.std.specs.Prelude.{ℕ, ◌<◌, ℤ, unsigned_abs, List}
use Rattle.um_model.specs.Values.{DeckValue, ColumnValue}
use Rattle.um_model.specs.Feasible.{part, linear_sum}
use Rattle.um_model.specs.Rays.{IsFree}
use Rattle.um_model.specs.declared.deck.Row.{Row}
use Rattle.um_model.specs.declared.limits.TheConstants.{RAY_SIZE}

-- below 2^62 in size
abbrev pub IsRayPart : ℤ → Type 0
IsRayPart z = unsigned_abs z < RAY_SIZE

-- the column's ends do not stop the ray
abbrev pub ColumnIsFree : List ℤ → ℕ → ColumnValue → Type 0
ColumnIsFree ray column c = IsFree c.low c.high (part ray column)

-- the row's sides do not stop the ray
abbrev pub RowIsFree : DeckValue → List ℤ → ℕ → Row → Type 0
RowIsFree d ray row r = IsFree r.low r.high (linear_sum d row ray)
