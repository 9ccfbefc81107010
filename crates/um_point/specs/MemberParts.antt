-- The parts of a set's members.
use Rattle.std.specs.Prelude.{ℤ, List, map}
use Rattle.um_model.specs.Feasible.{part}
use Rattle.um_model.specs.declared.deck.Member.{Member}

-- by position
abbrev pub parts_of : List ℤ → List Member → List ℤ
parts_of parts members = map (λ (m : Member). part parts m.column) members
