-- Boxes whose ends lie within those of the root box.
use Rattle.std.specs.Prelude.{◌≡◌, ℕ, ◌<◌, ◌≤ℤ◌, length, None, IsSomeAnd}
use Rattle.std.specs.Option.{ForSome}
use Rattle.um_model.specs.Values.{DeckValue}
use Rattle.um_model.specs.Boxes.{BoxValue, Ends, root, ends_at}

-- where there is an outer end, there is an inner one, which is not beyond it; where there is none, there is none inside
pub record AreWithin (outer inner : Ends) : Type 0 where
  pub low : ForSome outer.low (λ l. IsSomeAnd inner.low (λ m. l ≤ℤ m))
  pub high : ForSome outer.high (λ h. IsSomeAnd inner.high (λ m. m ≤ℤ h))
  pub no_low : outer.low ≡ None → inner.low ≡ None
  pub no_high : outer.high ≡ None → inner.high ≡ None

-- the ends of each column lie within those of the root box
abbrev pub IsWithinRoot : DeckValue → BoxValue → Type 0
IsWithinRoot d b = (column : ℕ) → column < length d.columns → AreWithin (ends_at (root d) column) (ends_at b column)
