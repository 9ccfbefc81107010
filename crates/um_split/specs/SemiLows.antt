-- The low ends of semicontinuous columns in boxes.
use Rattle.std.specs.Prelude.{◌≡◌, ℕ, ℤ, pos, ◌⊎◌, Some}
use Rattle.um_model.specs.Values.{DeckValue}
use Rattle.um_model.specs.Boxes.{BoxValue, ends_at}
use Rattle.um_model.specs.Branches.{kind_of}
use Rattle.um_model.specs.declared.deck.Kind.TheVariants.{Semi}

-- each semicontinuous column's low end in the box is 0 or its threshold
abbrev pub HasSemiLows : DeckValue → BoxValue → Type 0
HasSemiLows d b = (column : ℕ) (threshold : ℤ) → kind_of d column ≡ Some (Semi threshold) → ((ends_at b column).low ≡ Some (pos 0)) ⊎ ((ends_at b column).low ≡ Some threshold)
