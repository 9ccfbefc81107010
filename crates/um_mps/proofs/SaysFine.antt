-- What lines say: numbers that a maker may be told, and rules other than want of memory.
use Rattle.std.proofs.Common.{◌≡◌, ◌≢◌, ℕ, codes, unwrap_or, Bool, true, false, ◌||◌, nat_lt, if◌then◌else◌, List, [], ◌∷◌, ◌++◌, map, length, drop, All, Option, Some, None, Result, Ok, Err, MatchResult, refl, subst, arith}
use Rattle.std.proofs.lemmas.Bool.Decides.{nat_tests}
use Rattle.std.proofs.lemmas.List.Elements.{All-append, All-cons, All-head, All-nil, All-tail}
use Rattle.std.specs.Option.{ForSome, option_and_then, option_eq, option_map_or}
use Rattle.std.specs.Str.{bytes_eq}
use Rattle.um_num.specs.Numbers.{then_step}
use Rattle.um_num.specs.declared.decimal.Decimal.{Decimal}
use Rattle.um_model.specs.declared.deck.SetKind.{SetKind}
use Rattle.um_text.specs.Decimals.{IsNormal, decimal_number, decimal_value, fits, fitting, fitting_or_none, is_decimal}
use Rattle.um_text.specs.declared.numeral.NumberFault.TheVariants as number_fault
use Rattle.um_text.proofs.NormalForm.{IsNormal-normal}
use Rattle.um_statements.specs.declared.fault.Fault.{Fault}
use Rattle.um_statements.specs.declared.fault.Fault.TheVariants.{BadWords, Marker, Memory, UnknownKind}
use Rattle.um_statements.specs.declared.parts.BoundKind.{BoundKind}
use Rattle.um_statements.specs.declared.parts.RowKind.{RowKind}
use Rattle.um_statements.specs.Statements.{Name, Statement, ArcTold, Bound, Column, EntryTold, MemberTold, Range, RowTold, Sense, Set, Side, Title}
use Rattle.um_statements.specs.CallRules.{Rule, first_fault}
use Rattle.um_statements.specs.Tells.{Says, statements}
use Rattle.um_statements.specs.WellSaid.{HasNumbers, IsNumber}
use Rattle.um_decktext.specs.declared.section.Section.{Section}
use Rattle.um_decktext.specs.declared.section.Section.TheVariants as section
use Rattle.um_decktext.specs.Sections.{is_section, section_called}
use Rattle.um_decktext.specs.Words.{Words, first_word}
use Rattle.um_decktext.specs.DeckLines.{Line, Skipped, Heading, Data}
use Rattle.um_decktext.specs.Numbers.{number, read_as}
use Rattle.um_decktext.specs.SetLines.{arc_says, member_line, set_head, set_kind, set_says}
use Rattle.um_decktext.specs.LineWords.{bare_bound, is_marker, row_kind, sense_called, set_of_bound, set_of_pairs, third_word, valued_bound}
use Rattle.um_decktext.specs.Places.{Place, is_used}
use Rattle.um_decktext.specs.LinesSay.{kinds, begun, behind_set, bound_line, bound_rules, bound_says, column_line, data_line, entry_line, heading_line, heading_rules, heading_says, heading_statements, line_says, pairs, pairs_line, row_line, second_word, sense_line, with_value, without_value}

abbrev NotMemory : Fault → Type 0
NotMemory fault = fault ≢ Memory

-- statements whose numbers may be told, or a rule other than want of memory
abbrev pub IsFine : Says → Type 0
IsFine says = MatchResult says (All HasNumbers) NotMemory

-- a statement that speaks of no ordered set
abbrev pub NoSet : Statement → Type 0
NoSet (Set kind name reference) = ⊥
NoSet (MemberTold column weight) = ⊥
NoSet other = Unit {0}

abbrev pub Plain : Statement → Type 0
Plain s = HasNumbers s × NoSet s

-- the same of statements that speak of no ordered set
abbrev pub IsPlain : Says → Type 0
IsPlain says = MatchResult says (All Plain) NotMemory

numbers_of : (told : List Statement) → All Plain told → All HasNumbers told
numbers_of [] all = All-nil HasNumbers
numbers_of (s ∷ told) all = All-cons HasNumbers s told (All-head Plain s told all).0 (numbers_of told (All-tail Plain s told all))

fine_of : (says : Says) → IsPlain says → IsFine says
fine_of (Ok told) plain = numbers_of told plain
fine_of (Err fault) plain = plain

-- ---- rules

abbrev pub FineRules : List Rule → Type 0
FineRules [] = Unit {0}
FineRules (r ∷ rules) = (r.1 ≢ Memory) × FineRules rules

pub first_fine : (rules : List Rule) → FineRules rules → (fault : Fault) → first_fault rules ≡ Some fault → fault ≢ Memory
first_fine [] fine fault first = λ same. absurd (none_some first)
  where
    none_some : None ≡ Some fault → ⊥
    none_some e = cc
first_fine (r ∷ rules) fine fault first = by r.0 refl (first_fine rules fine.1 fault)
  where
    by : (b : Bool) → r.0 ≡ b → (first_fault rules ≡ Some fault → fault ≢ Memory) → fault ≢ Memory
    by true e rest =
        let here : Some r.1 ≡ Some fault = rw e at first in
        let same : r.1 ≡ fault = cc in
        subst (λ f. f ≢ Memory) same fine.0
    by false e rest = rest (rw e at first)

-- what a line says where one of the rules is broken, and where none is
rules_fine : (rules : List Rule) → FineRules rules → (says : Says) → IsPlain says → IsPlain (option_map_or (λ fault. Err fault) (first_fault rules) says)
rules_fine rules fine says h = by (first_fault rules) (first_fine rules fine)
  where
    by : (o : Option Fault) → ((fault : Fault) → o ≡ Some fault → fault ≢ Memory) → IsPlain (option_map_or (λ fault. Err fault) o says)
    by None k = h
    by (Some fault) k = k fault refl

-- ---- numbers

fitting_fine : (d : Decimal) → IsNormal d → MatchResult (read_as (fitting d)) IsNumber NotMemory
unfolding fitting
fitting_fine d is = by (fits d) refl
  where
    by : (b : Bool) → fits d ≡ b → MatchResult (read_as (if b then Ok d else Err number_fault.TooWide)) IsNumber NotMemory
    by true within = record { normal = is; small = record { digits = grind (arith, nat_tests); power = grind (arith, nat_tests) } }
    by false wide = λ same. cc

value_fine : (o : Option Decimal) → ForSome o IsNormal → MatchResult (read_as (fitting_or_none o)) IsNumber NotMemory
value_fine None h = λ same. cc
value_fine (Some d) h = fitting_fine d (h d refl)

some_normal : (n : Decimal) → IsNormal n → (b : Bool) → ForSome (if b then Some n else None) IsNormal
some_normal n h true = λ d is. let same : n ≡ d = cc in subst IsNormal same h
some_normal n h false = λ d is. absurd (none_some d is)
  where
    none_some : (d : Decimal) → None ≡ Some d → ⊥
    none_some d e = cc

value_normal : (word : List ℕ) → ForSome (decimal_value word) IsNormal
unfolding decimal_value
value_normal word = some_normal _ (IsNormal-normal _ _ _) (is_decimal word)

number_fine : (word : List ℕ) → MatchResult (number word) IsNumber NotMemory
unfolding decimal_number
number_fine word = value_fine (decimal_value word) (value_normal word)

-- a step behind a number
step_fine : {A : Type 0} (P : A → Type 0) (word : List ℕ) (next : Decimal → Result A Fault) → ((v : Decimal) → IsNumber v → MatchResult (next v) P NotMemory)
    → MatchResult (then_step (number word) next) P NotMemory
step_fine {A = A} P word next h = by (number word) (number_fine word)
  where
    by : (r : Result Decimal Fault) → MatchResult r IsNumber NotMemory → MatchResult (then_step r next) P NotMemory
    by (Ok v) n = h v n
    by (Err fault) n = n

-- ---- pairs

abbrev HasNumber : Name × Decimal → Type 0
HasNumber p = IsNumber p.1

pairs_fine : (ws : Words) → MatchResult (pairs ws) (All HasNumber) NotMemory
pairs_fine [] = λ same. cc
pairs_fine (a ∷ []) = λ same. cc
pairs_fine (a ∷ (b ∷ [])) = step_fine (All HasNumber) b _ (λ v n. All-cons HasNumber (a, v) [] n (All-nil HasNumber))
pairs_fine (a ∷ (b ∷ (c ∷ []))) = λ same. cc
pairs_fine (a ∷ (b ∷ (c ∷ (d ∷ [])))) =
    step_fine (All HasNumber) b _ (λ v n. step_fine (All HasNumber) d _ (λ w m. All-cons HasNumber (a, v) ((c, w) ∷ []) n (All-cons HasNumber (c, w) [] m (All-nil HasNumber))))
pairs_fine (a ∷ (b ∷ (c ∷ (d ∷ (e ∷ ws))))) = λ same. cc

map_fine : (says : Name → Decimal → Statement) → ((row : Name) (v : Decimal) → IsNumber v → Plain (says row v)) → (ps : List (Name × Decimal)) → All HasNumber ps → All Plain (map (λ p. says p.0 p.1) ps)
map_fine says h [] all = All-nil Plain
map_fine says h (p ∷ ps) all = All-cons Plain (says p.0 p.1) _ (h p.0 p.1 (All-head HasNumber p ps all)) (map_fine says h ps (All-tail HasNumber p ps all))

told_fine : (says : Name → Decimal → Statement) → ((row : Name) (v : Decimal) → IsNumber v → Plain (says row v)) → (xs : List Statement) → All Plain xs
    → (r : Result (List (Name × Decimal)) Fault) → MatchResult r (All HasNumber) NotMemory → IsPlain (then_step r (λ ps. Ok (xs ++ map (λ p. says p.0 p.1) ps)))
told_fine says h xs all (Ok ps) n = All-append Plain xs (map (λ p. says p.0 p.1) ps) all (map_fine says h ps n)
told_fine says h xs all (Err fault) n = n

pairs_line_fine : (says : Name → Decimal → Statement) → ((row : Name) (v : Decimal) → IsNumber v → Plain (says row v)) → (place : Place) (ws : Words) → IsPlain (pairs_line says place ws)
pairs_line_fine says h place ws = by (nat_lt (length ws) 2 || nat_lt 5 (length ws)) (is_used place (set_of_pairs ws))
  where
    by : (bad used : Bool) → IsPlain (if bad then Err BadWords else if used then then_step (pairs (behind_set ws)) (λ ps. Ok (map (λ p. says p.0 p.1) ps)) else Ok [])
    by true used = λ same. cc
    by false true = told_fine says h [] (All-nil Plain) (pairs (behind_set ws)) (pairs_fine (behind_set ws))
    by false false = All-nil Plain

-- ---- OBJSENSE, ROWS and COLUMNS

one_fine : (s : Statement) → Plain s → All Plain (s ∷ [])
one_fine s h = All-cons Plain s [] h (All-nil Plain)

sense_fine : (ws : Words) → IsPlain (sense_line ws)
sense_fine [] = λ same. cc
sense_fine (w ∷ []) = by (sense_called w)
  where
    by : (o : Option Bool) → IsPlain (kinds o (λ maximise. Ok (Sense maximise ∷ [])))
    by None = λ same. cc
    by (Some maximise) = one_fine (Sense maximise) (tt, tt)
sense_fine (w ∷ (v ∷ ws)) = λ same. cc

row_fine : (ws : Words) → IsPlain (row_line ws)
row_fine [] = λ same. cc
row_fine (w ∷ []) = λ same. cc
row_fine (w ∷ (name ∷ [])) = by (row_kind w)
  where
    by : (o : Option RowKind) → IsPlain (kinds o (λ kind. Ok (RowTold kind name ∷ [])))
    by None = λ same. cc
    by (Some kind) = one_fine (RowTold kind name) (tt, tt)
row_fine (w ∷ (name ∷ (v ∷ ws))) = λ same. cc

begun_fine : (place : Place) (column : Name) → All Plain (begun place column)
begun_fine place column = by (option_eq bytes_eq place.column (Some column))
  where
    by : (b : Bool) → All Plain (if b then [] else Column column place.in_block ∷ [])
    by true = All-nil Plain
    by false = one_fine (Column column place.in_block) (tt, tt)

column_fine : (place : Place) (ws : Words) → IsPlain (column_line place ws)
column_fine place ws = by (is_marker ws) (bytes_eq (third_word ws) (if place.in_block then codes "'INTEND'" else codes "'INTORG'"))
  where
    by : (marker right : Bool) → IsPlain (if marker then (if right then Ok [] else Err Marker) else entry_line place ws)
    by true true = All-nil Plain
    by true false = λ same. cc
    by false right = told_fine EntryTold (λ row v n. (n, tt)) (begun place (first_word ws)) (begun_fine place (first_word ws)) (pairs (drop 1 ws)) (pairs_fine (drop 1 ws))

-- ---- BOUNDS

some_number : (v : Decimal) → IsNumber v → ForSome (Some v) IsNumber
some_number v n = λ w is. let same : v ≡ w = cc in subst IsNumber same n

no_number : ForSome None IsNumber
no_number = λ w is. absurd (none_some w is)
  where
    none_some : (w : Decimal) → None ≡ Some w → ⊥
    none_some w e = cc

bound_fine : (kind : BoundKind) (column : Name) (v : Decimal) → IsNumber v → All Plain (Bound kind column (Some v) ∷ [])
bound_fine kind column v n = one_fine (Bound kind column (Some v)) (some_number v n, tt)

bare_fine : (kind : BoundKind) (column : Name) → All Plain (Bound kind column None ∷ [])
bare_fine kind column = one_fine (Bound kind column None) (no_number, tt)

with_fine : (kind : BoundKind) (ws : Words) → IsPlain (with_value kind ws)
with_fine kind [] = λ same. cc
with_fine kind (a ∷ []) = λ same. cc
with_fine kind (a ∷ (b ∷ [])) = λ same. cc
with_fine kind (a ∷ (b ∷ (c ∷ []))) = step_fine (All Plain) c _ (bound_fine kind b)
with_fine kind (a ∷ (b ∷ (c ∷ (d ∷ [])))) = step_fine (All Plain) d _ (bound_fine kind c)
with_fine kind (a ∷ (b ∷ (c ∷ (d ∷ (e ∷ ws))))) = λ same. cc

without_fine : (kind : BoundKind) (ws : Words) → IsPlain (without_value kind ws)
without_fine kind [] = λ same. cc
without_fine kind (a ∷ []) = λ same. cc
without_fine kind (a ∷ (b ∷ [])) = bare_fine kind b
without_fine kind (a ∷ (b ∷ (c ∷ []))) = bare_fine kind c
without_fine kind (a ∷ (b ∷ (c ∷ (d ∷ [])))) = bare_fine kind c
without_fine kind (a ∷ (b ∷ (c ∷ (d ∷ (e ∷ ws))))) = λ same. cc

says_fine : (ws : Words) → IsPlain (bound_says ws)
says_fine ws = by (valued_bound (first_word ws)) (bare_bound (first_word ws))
  where
    by : (valued bare : Option BoundKind) → IsPlain (option_map_or (λ kind. with_value kind ws) valued (option_map_or (λ kind. without_value kind ws) bare (Err UnknownKind)))
    by (Some kind) bare = with_fine kind ws
    by None (Some kind) = without_fine kind ws
    by None None = λ same. cc

bound_line_fine : (place : Place) (ws : Words) → IsPlain (bound_line place ws)
bound_line_fine place ws = rules_fine (bound_rules ws) (λ same. cc, (λ same. cc, tt)) _ (by (is_used place (set_of_bound ws)))
  where
    by : (used : Bool) → IsPlain (if used then bound_says ws else Ok [])
    by true = says_fine ws
    by false = All-nil Plain

-- ---- SOS and ARCS

head_fine : (kind : SetKind) (ws : Words) → IsFine (set_head kind ws)
head_fine kind [] = λ same. cc
head_fine kind (a ∷ []) = λ same. cc
head_fine kind (a ∷ (b ∷ [])) = All-cons HasNumbers (Set kind b None) [] tt (All-nil HasNumbers)
head_fine kind (a ∷ (b ∷ (c ∷ []))) = All-cons HasNumbers (Set kind b (Some c)) [] tt (All-nil HasNumbers)
head_fine kind (a ∷ (b ∷ (c ∷ (d ∷ ws)))) = λ same. cc

member_fine : (wants : Option Bool) (ws : Words) → IsFine (member_line wants ws)
member_fine None ws = λ same. cc
member_fine (Some true) [] = λ same. cc
member_fine (Some true) (a ∷ []) = λ same. cc
member_fine (Some true) (a ∷ (b ∷ [])) = step_fine (All HasNumbers) b _ (λ v n. All-cons HasNumbers (MemberTold a (Some v)) [] (some_number v n) (All-nil HasNumbers))
member_fine (Some true) (a ∷ (b ∷ (c ∷ ws))) = λ same. cc
member_fine (Some false) [] = λ same. cc
member_fine (Some false) (a ∷ []) = All-cons HasNumbers (MemberTold a None) [] no_number (All-nil HasNumbers)
member_fine (Some false) (a ∷ (b ∷ ws)) = λ same. cc

set_fine : (wants : Option Bool) (ws : Words) → IsFine (set_says wants ws)
set_fine wants ws = by (set_kind (first_word ws))
  where
    by : (o : Option SetKind) → IsFine (option_map_or (λ kind. set_head kind ws) o (member_line wants ws))
    by None = member_fine wants ws
    by (Some kind) = head_fine kind ws

arc_fine : (ws : Words) → IsPlain (arc_says ws)
arc_fine [] = λ same. cc
arc_fine (a ∷ []) = λ same. cc
arc_fine (a ∷ (b ∷ [])) = λ same. cc
arc_fine (a ∷ (b ∷ (c ∷ []))) = λ same. cc
arc_fine (a ∷ (b ∷ (c ∷ (d ∷ [])))) = by (bytes_eq a (codes "Q"))
  where
    by : (known : Bool) → IsPlain (if known then then_step (number d) (λ v. Ok (ArcTold b c v ∷ [])) else Err UnknownKind)
    by true = step_fine (All Plain) d _ (λ v n. one_fine (ArcTold b c v) (n, tt))
    by false = λ same. cc
arc_fine (a ∷ (b ∷ (c ∷ (d ∷ (e ∷ ws))))) = λ same. cc

-- ---- all lines

-- lines of other sections than SOS speak of no set
pub data_plain : (now : Option Section) (place : Place) (ws : Words) → is_section section.Sos now ≡ false → IsPlain (data_line now place ws)
data_plain (Some section.Objsense) place ws other = sense_fine ws
data_plain (Some section.Rows) place ws other = row_fine ws
data_plain (Some section.Columns) place ws other = column_fine place ws
data_plain (Some section.Rhs) place ws other = pairs_line_fine Side (λ row v n. (n, tt)) place ws
data_plain (Some section.Ranges) place ws other = pairs_line_fine Range (λ row v n. (n, tt)) place ws
data_plain (Some section.Bounds) place ws other = bound_line_fine place ws
data_plain (Some section.Arcs) place ws other = arc_fine ws
data_plain (Some section.Sos) place ws other = absurd (not_true other)
  where
    not_true : true ≡ false → ⊥
    not_true e = cc
data_plain now place ws other = λ same. cc

data_fine : (now : Option Section) (place : Place) (ws : Words) → IsFine (data_line now place ws)
data_fine (Some section.Sos) place ws = set_fine place.weights ws
data_fine now place ws = fine_of (data_line now place ws) (data_plain now place ws refl)

told_heading : (found : Option Section) (ws : Words) → All Plain (heading_statements found ws)
told_heading found ws = by (is_section section.Name found) (is_section section.Objsense found) (option_and_then sense_called (second_word ws))
  where
    by : (name sense : Bool) (o : Option Bool)
        → All Plain (if name then Title (unwrap_or (second_word ws) []) ∷ [] else if sense then option_map_or (λ maximise. Sense maximise ∷ []) o [] else [])
    by true sense o = one_fine (Title (unwrap_or (second_word ws) [])) (tt, tt)
    by false true None = All-nil Plain
    by false true (Some maximise) = one_fine (Sense maximise) (tt, tt)
    by false false o = All-nil Plain

pub heading_plain : (place : Place) (found : Option Section) (ws : Words) → IsPlain (heading_says place found ws)
heading_plain place found ws =
    rules_fine (heading_rules place found ws) (λ same. cc, (λ same. cc, (λ same. cc, (λ same. cc, (λ same. cc, tt))))) _ (told_heading found ws)

pub line_fine : (place : Place) (line : Line) → IsFine (line_says place line)
unfolding line_says
line_fine place Skipped = All-nil HasNumbers
line_fine place (Heading ws) = fine_of (heading_line place ws) (heading_plain place (section_called (first_word ws)) ws)
line_fine place (Data ws) = data_fine place.section place ws

pub statements_plain : (says : Says) → IsPlain says → All Plain (statements says)
statements_plain (Ok told) plain = plain
statements_plain (Err fault) plain = All-nil Plain

pub statements_fine : (says : Says) → IsFine says → All HasNumbers (statements says)
statements_fine (Ok told) fine = fine
statements_fine (Err fault) fine = All-nil HasNumbers
