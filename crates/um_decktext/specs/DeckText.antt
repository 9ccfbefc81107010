-- Which deck a text is, and which rule it breaks where it is none.
use Rattle.std.specs.Prelude.{◌≡◌, ◌+◌, ℕ, Bool, true, if◌then◌else◌, List, [], ◌∷◌, ◌++◌, length, Option, Some, None, find, nat_lt, option_map, option_to_list}
use Rattle.std.specs.Option.{option_or}
use Rattle.std.specs.List.{list_any}
use Rattle.um_model.specs.Values.{DeckValue}
use Rattle.um_model.specs.declared.limits.TheConstants.{MOST_DECK_BYTES}
use Rattle.um_statements.specs.declared.fault.Fault.{Fault}
use Rattle.um_statements.specs.declared.fault.Fault.TheVariants.{TooLong, NoEnd}
use Rattle.um_statements.specs.Statements.{Statement}
use Rattle.um_statements.specs.Said.{Said, collected}
use Rattle.um_statements.specs.Tells.{statements, says_fault}
use Rattle.um_statements.specs.Made.{deck_value}
use Rattle.um_statements.specs.DeckRules.{deck_fault}
use Rattle.um_decktext.specs.declared.section.Section.TheVariants as section
use Rattle.um_decktext.specs.Sections.{is_section}
use Rattle.um_decktext.specs.DeckLines.{Line, deck_lines, heading_of}
use Rattle.um_decktext.specs.Places.{place_of}
use Rattle.um_decktext.specs.LinesSay.{line_says}

-- what each of these items gives, with the items that come before it
abbrev pub each_from : {A B : Type 0} → (List A → A → List B) → List A → List A → List B
each_from gives before [] = []
each_from gives before (x ∷ xs) = gives before x ++ each_from gives (before ++ x ∷ []) xs

-- all that these lines say, in order
unfoldable pub told : List Line → List Statement
told = each_from (λ before line. statements (line_says (place_of before) line)) []

-- the deck as these lines have it
abbrev pub known : List Line → Said
known lines = collected (told lines)

-- ---- rules

-- the line ENDATA
abbrev pub is_end : Line → Bool
is_end line = is_section section.Endata (heading_of line)

-- the first rule that a line itself breaks, behind these lines
abbrev pub own_fault : List Line → Line → Option Fault
own_fault before line = says_fault (known before) (line_says (place_of before) line)

-- the first rule that is broken at a line; at the line ENDATA the rules on the whole deck come last
unfoldable pub line_fault : List Line → Line → Option Fault
line_fault before line = option_or (own_fault before line) (if is_end line then deck_fault (known (before ++ line ∷ [])) else None)

-- the lines up to ENDATA, that line among them
unfoldable pub counted : List Line → List Line
counted [] = []
counted (line ∷ lines) = if is_end line then line ∷ [] else line ∷ counted lines

-- a line at which a rule is broken, with its number from 1
abbrev pub broken_line : List Line → Line → List (ℕ × Fault)
broken_line before line = option_to_list (option_map (λ fault. (length before + 1, fault)) (line_fault before line))

-- the lines at which a rule is broken, and the rule of each
unfoldable pub broken : List Line → List (ℕ × Fault)
broken lines = each_from broken_line [] (counted lines)

-- the first of the broken rules, or that there is no line ENDATA
abbrev pub first_broken : List Line → Option (ℕ × Fault)
first_broken lines = option_or (find (λ a. true) (broken lines)) (if list_any is_end lines then None else Some (length lines, NoEnd))

-- ---- the text

-- The line and the fault of the first broken rule. A text of more than 2^24 bytes is too long, whatever its lines say.
unfoldable pub text_fault : List ℕ → Option (ℕ × Fault)
text_fault bytes =
    if nat_lt MOST_DECK_BYTES (length bytes) then Some (0, TooLong)
    else first_broken (deck_lines bytes)

-- the deck that the lines up to ENDATA say
unfoldable pub text_deck : List ℕ → DeckValue
text_deck bytes = deck_value (known (counted (deck_lines bytes)))

-- the bytes are the text of this deck
pub record DeckText (bytes : List ℕ) (d : DeckValue) : Type 0 where
  pub unbroken : text_fault bytes ≡ None
  pub deck : d ≡ text_deck bytes

-- the bytes are no deck's text: this line is the first at which a rule is broken, and this is the rule
abbrev pub DeckFault : List ℕ → ℕ → Fault → Type 0
DeckFault bytes line fault = text_fault bytes ≡ Some (line, fault)
