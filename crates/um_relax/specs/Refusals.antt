-- Why numbers of a board are not read.
use Rattle.std.specs.Prelude.{⊤}
use Rattle.um_lp.specs.States.{State}
use Rattle.um_lp.specs.Refusals.{IsRefusedAt}
use Rattle.um_relax.specs.declared.large.Large.{Large}
use Rattle.um_relax.specs.declared.large.Large.TheVariants as large

-- a number of this state is too large where this holds; a step of the reading is out of range, and the state wide; or no memory is found
abbrev pub IsRefusedReading : State → Type 0 → Large → Type 0
IsRefusedReading s IsTooLarge large.Large = IsTooLarge
IsRefusedReading s IsTooLarge (large.Wide w) = IsRefusedAt s w
IsRefusedReading s IsTooLarge large.Memory = ⊤

-- a reading of this state has failed for another reason than a number too large for a tree
abbrev pub IsFailure : State → Large → Type 0
IsFailure s given = IsRefusedReading s ⊥ given
