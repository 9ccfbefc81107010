-- The members of a set from one position on up to another, with their parts at a point.
use Rattle.std.specs.Prelude.{◌≡◌, ℕ, ◌<◌, ◌≤◌, ℤ, pos, ◌≤ℤ◌, ◌<ℤ◌, List, length, All, AllPairs}
use Rattle.um_model.specs.Values.{DeckValue, SetValue, PointValue}
use Rattle.um_model.specs.WellFormed.{AtPlace, IsWithin}
use Rattle.um_model.specs.Feasible.{part}
use Rattle.um_model.specs.AverageSplit.{IsAverageSplit}
use Rattle.um_model.specs.declared.deck.Member.{Member}
use Rattle.um_model.specs.declared.deck.SetKind.{SetKind}
use Rattle.um_model.specs.declared.branch.Branch.{Branch}
use Rattle.um_model.specs.declared.limits.TheConstants.{MOST_COLUMNS, MOST_WEIGHT}
use Rattle.um_point.specs.MemberParts.{parts_of}
use Rattle.um_point.specs.SmallPoints.{FitsIn36Bits}

-- members of a deck's set by rising weight, with parts that are small, at least 0, and 0 before `start` and from `end` on
pub record IsStretch (members : List Member) (parts : List ℤ) (start end : ℕ) : Type 0 where
  pub few : length members ≤ MOST_COLUMNS
  pub columns : All (λ (m : Member). m.column < length parts) members
  pub rise : AllPairs (λ (a : Member) (b : Member). a.weight <ℤ b.weight) members
  pub weights : All (λ (m : Member). IsWithin MOST_WEIGHT m.weight) members
  pub small : All FitsIn36Bits parts
  pub order : start ≤ end
  pub inside : end ≤ length members
  pub up : (position : ℕ) → pos 0 ≤ℤ part (parts_of parts members) position
  pub before : (position : ℕ) → position < start → part (parts_of parts members) position ≡ pos 0
  pub behind : (position : ℕ) → end ≤ position → part (parts_of parts members) position ≡ pos 0

-- the branch is the average split in each deck that has a set of this kind and these members at this place, at each point of these parts
abbrev pub IsSplitOf : SetKind → ℕ → List Member → List ℤ → Branch → Type 0
IsSplitOf kind set members parts branch =
    (d : DeckValue) (s : SetValue) (p : PointValue) → AtPlace d.sets set s → s.kind ≡ kind → s.members ≡ members → p.parts ≡ parts → IsAverageSplit d set p branch
