-- What the reader knows behind some lines of a text.
use Rattle.std.specs.Prelude.{◌≡◌, ◌⊎◌, ◌<◌, ℕ, Bool, true, is_some, nat_lt, if◌then◌else◌, List, [], ◌∷◌, ◌++◌, length, Option, Some, None, Result, MatchResult}
use Rattle.std.specs.Option.{option_map_or}
use Rattle.um_statements.specs.declared.fault.Fault.{Fault}
use Rattle.um_statements.specs.declared.fault.Fault.TheVariants.{Memory}
use Rattle.um_statements.specs.Said.{Said, nothing_said}
use Rattle.um_statements.specs.CallRules.{faults_in}
use Rattle.um_statements.specs.Tells.{wants_weight}
use Rattle.um_decktext.specs.declared.section.Section.{Section}
use Rattle.um_decktext.specs.declared.section.Section.TheVariants as section
use Rattle.um_decktext.specs.Sections.{is_section, rank}
use Rattle.um_decktext.specs.DeckLines.{Line}
use Rattle.um_decktext.specs.Places.{Place, place_of}
use Rattle.um_decktext.specs.DeckText.{told, known, own_fault, is_end}
use Rattle.um_decktext.specs.LineByLine.{fault_behind}

-- a section that comes before SOS, or none yet
abbrev pub is_before_sets : Option Section → Bool
is_before_sets found = option_map_or (λ s. nat_lt (rank s) (rank section.Sos)) found true

-- A column that a line may go on with is there in COLUMNS alone, and is one that a maker has. In SOS the place has what the
-- maker says of the last set, and before SOS there is no set.
pub record IsPlace (p : Place) (said : Said) : Type 0 where
  pub in_columns : is_some p.column ≡ true → is_section section.Columns p.section ≡ true
  pub some : is_some p.column ≡ true → 0 < length said.columns
  pub in_sets : is_section section.Sos p.section ≡ true → p.weights ≡ wants_weight said
  pub before_sets : is_before_sets p.section ≡ true → wants_weight said ≡ None

-- behind these lines, which broke no rule, the place is this, and a maker knows this
pub record IsBehind (before : List Line) (place : Place) (maker : Said) : Type 0 where
  pub here : place ≡ place_of before
  pub unbroken : faults_in nothing_said (told before) ≡ None
  pub said : maker ≡ known before

-- The answer to the next line: it breaks no rule, whether it is the last, and what is known behind it; or the rule
-- that it breaks.
abbrev pub Reads : List Line → Line → Result Bool Fault → Place → Said → Type 0
Reads before line result place maker = MatchResult result
    (λ ended. (own_fault before line ≡ None) × (ended ≡ is_end line) × IsBehind (before ++ line ∷ []) place maker)
    (λ fault. (fault ≡ Memory) ⊎ (own_fault before line ≡ Some fault))

-- ---- the loop over the lines

-- the lines up to ENDATA, behind others
abbrev pub counted_behind : List Line → List Line → List Line
counted_behind before [] = before
counted_behind before (line ∷ lines) = if is_end line then before ++ line ∷ [] else counted_behind (before ++ line ∷ []) lines

-- what the loop knows: the lines before, which broke no rule, and the rest
pub record IsReading (all rest : List Line) (number : ℕ) (place : Place) (maker : Said) : Type 0 where
  pub before : List Line
  pub split : all ≡ before ++ rest
  pub count : length before ≡ number
  pub behind : IsBehind before place maker
  pub may : IsPlace place maker
  pub same_fault : fault_behind before rest ≡ fault_behind [] all
  pub same_lines : counted_behind before rest ≡ counted_behind [] all
