-- Multipliers of which a leaf value may be asked.
use Rattle.std.proofs.Common.{ℕ, ◌^◌, pos, ◌<ℤ◌, length, arith}
use Rattle.std.proofs.lemmas.Int.{ints}
use Rattle.um_multipliers.specs.NormalForm.{HasRisingRows}
use Rattle.um_multipliers.specs.PlainMultipliers.{MultipliersValue}
use Rattle.um_multipliers.specs.Sizes.{AreBelow}
use Rattle.um_model.specs.Values.{DeckValue, PointValue}
use Rattle.um_model.specs.Boxes.{BoxValue}
use Rattle.um_bound.specs.Usable.{AreUsable}
use Rattle.um_solving.specs.Laws.{VertexSays, OwnSays}

usable : (rows : ℕ) (y : MultipliersValue) → pos 0 <ℤ y.y0 → AreBelow (2 ^ 40) y → HasRisingRows rows y.rows → AreUsable rows y
usable rows y up small rising = record { y0 = omega (arith, ints, up); small = small; rising = rising }

pub own_usable : (d : DeckValue) (y : MultipliersValue) → OwnSays d y → AreUsable (length d.rows) y
own_usable d y says = usable (length d.rows) y says.positive says.below says.rising

pub vertex_usable : (d : DeckValue) (b : BoxValue) (p : PointValue) (y : MultipliersValue) → AreBelow (2 ^ 40) y → VertexSays d b p y → AreUsable (length d.rows) y
vertex_usable d b p y small says = usable (length d.rows) y says.positive small says.rising
