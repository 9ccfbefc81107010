-- What a desk tells of itself.
use Rattle.std.specs.Prelude.{ℕ, Bool, List, Option}
use Rattle.um_outside.specs.declared.asked.Access.{Access}
use Rattle.um_outside.specs.declared.asked.Access.TheVariants as access

-- What a desk is at. A file that is open stands with its name, where the desk tells its files.
pub data Mode : Type 0 where
  Idle : Mode
  Reading : Option (List ℕ) → Mode
  Writing : Option (List ℕ) → Mode

abbrev pub IsReading : Mode → Type 0
IsReading Idle = ⊥
IsReading (Reading name) = Unit {0}
IsReading (Writing name) = ⊥

abbrev pub IsWriting : Mode → Type 0
IsWriting Idle = ⊥
IsWriting (Reading name) = ⊥
IsWriting (Writing name) = Unit {0}

abbrev pub IsOpen : Mode → Type 0
IsOpen Idle = ⊥
IsOpen (Reading name) = Unit {0}
IsOpen (Writing name) = Unit {0}

-- The bytes of each file by its name; none where there is no such file.
abbrev pub Files : Type 0
Files = List ℕ → Option (List ℕ)

-- A file that was asked for by its name, to be opened or to be created.
pub record Asked : Type 0 where
  pub access : Access
  pub name : List ℕ

abbrev pub to_open : List ℕ → Asked
to_open name = record { access = access.Open; name = name }

abbrev pub to_create : List ℕ → Asked
to_create name = record { access = access.Create; name = name }

-- `given` and `put` are the bytes given since the last open and taken since the last create.
-- `asked` is the files asked for so far, in order, whether or not they were opened or created.
-- These three and the files are told or not; what isn't told is `None`.
-- The count of faults never falls. The flag `stopped` is set by the first fault.
pub record Scene : Type 0 where
  pub mode : Mode
  pub given : Option (List ℕ)
  pub put : Option (List ℕ)
  pub holds : Option Files
  pub asked : Option (List Asked)
  pub faults : ℕ
  pub stopped : Bool
