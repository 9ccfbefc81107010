-- What the reader's calls give of what is said.
use Rattle.std.specs.Prelude.{◌≡◌, ◌⊎◌, ◌≤◌, ◌^◌, ℕ, ℤ, Bool, List, Result, Ok, Err, MatchResult, unsigned_abs, nat_eq, option_map, ◌<◌, ⊤}
use Rattle.um_text.specs.Numerals.{signed}
use Rattle.um_treetext.specs.declared.fault.TreeFault.{TreeFault}
use Rattle.um_treetext.specs.declared.fault.TreeWord.{TreeWord}
use Rattle.um_treetext.specs.declared.fault.TreeWord.TheVariants.{Memory}
use Rattle.um_treetext.specs.declared.reading.numbers.Numeral.{Numeral}
use Rattle.um_treetext.specs.declared.reading.numbers.Numeral.TheVariants.{Small, Large}
use Rattle.um_treetext.specs.Words.{Words, Says, Taken, numeral}
use Rattle.um_model.specs.Values.{plain_point}
use Rattle.um_model.specs.AnswerValues.{plain_ray}
use Rattle.um_treetext.specs.declared.reading.values.Values.{Values}
use Rattle.um_treetext.specs.Reading.{Pieces, Read, Reads, ValuesSaid}

-- ---- words

-- the call gave what the line says, and left its other words; or the line breaks this rule
abbrev pub Takes : {A : Type 0} → Says (Taken A) → Result A TreeWord → Words → Type 0
Takes said result left = MatchResult result (λ x. said ≡ Ok (record { value = x; left = left })) (λ fault. said ≡ Err fault)

-- the same of a call that may find no memory, where what it gives is looked at through a function
abbrev pub TakesAs : {A V : Type 0} → (A → V) → Says (Taken V) → Result A TreeWord → Words → Type 0
TakesAs plain said result left = MatchResult result (λ x. said ≡ Ok (record { value = plain x; left = left })) (λ fault. (fault ≡ Memory) ⊎ (said ≡ Err fault))

-- the call gave what is said, or found no memory
abbrev pub TellsAs : {A V : Type 0} → (A → V) → Says V → Result A TreeWord → Type 0
TellsAs plain said result = MatchResult result (λ x. said ≡ Ok (plain x)) (λ fault. (fault ≡ Memory) ⊎ (said ≡ Err fault))

-- ---- numerals

-- a number out of range, below 0 or not
pub record IsLarge (negative : Bool) (number : ℤ) : Type 0 where
  pub size : ℕ
  pub large : 2 ^ 127 ≤ size
  pub is : number ≡ signed negative size

-- a numeral as it is kept stands for this number
abbrev pub Stands : Numeral → ℤ → Type 0
Stands (Small same) number = same ≡ number
Stands (Large negative) number = IsLarge negative number

-- a word is the numeral of a number that this stands for
pub record IsNumeral (word : List ℕ) (kept : Numeral) : Type 0 where
  pub number : ℤ
  pub is : numeral word ≡ Ok number
  pub stands : Stands kept number

abbrev pub is_byte : ℕ → ℕ → Bool
is_byte separator b = nat_eq b separator

-- a small one is in range
abbrev pub IsSmallInRange : Numeral → Type 0
IsSmallInRange (Small number) = unsigned_abs number < 2 ^ 127
IsSmallInRange (Large negative) = ⊤

-- ---- lines

-- the call gave what some lines say, and left the others; or found no memory, or this is the line and the fault of the
-- first broken rule
abbrev pub ReadsAs : {A V : Type 0} → (A → V) → Reads (Read V) → Result A TreeFault → Pieces → Type 0
ReadsAs plain said result left = MatchResult result
    (λ x. said ≡ Ok (record { value = plain x; left = left }))
    (λ f. (f.fault ≡ Memory) ⊎ (said ≡ Err (f.line, f.fault)))

-- the call gave what a text says, or found no memory, or this is the line and the fault of the first broken rule
abbrev pub Gives : {A V : Type 0} → (A → V) → Result A TreeFault → Reads V → Type 0
Gives plain result said = MatchResult result
    (λ x. said ≡ Ok (plain x))
    (λ f. (f.fault ≡ Memory) ⊎ (said ≡ Err (f.line, f.fault)))

-- what is kept of the lines of values, as plain values
abbrev pub plain_values : Values → ValuesSaid
plain_values v = record { objective = v.objective; bound = v.bound; point = option_map plain_point v.point; ray = option_map plain_ray v.ray; nodes = v.nodes }
