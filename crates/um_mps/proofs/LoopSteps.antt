-- The loop over the lines: what it knows at the start, behind one line more, and where it ends.
use Rattle.std.proofs.Common.{◌≡◌, ◌⊎◌, inl, inr, ℕ, ◌+◌, ◌<◌, ◌≤◌, nat_lt, Bool, true, false, if◌then◌else◌, List, [], ◌∷◌, ◌++◌, length, map, append_assoc, length-append, Option, None, Some, option_map, Result, Ok, Err, MatchResult, refl, sym, ap, ◌∙◌, subst, arith}
use Rattle.std.proofs.lemmas.List.{length-map}
use Rattle.std.specs.Option.{option_or}
use Rattle.um_model.specs.Values.{DeckValue}
use Rattle.um_text.specs.Lines.{lines, pieces, piece_with, ends_line, without_return}
use Rattle.um_statements.specs.declared.fault.Fault.{Fault}
use Rattle.um_statements.specs.declared.fault.Fault.TheVariants.{Memory, NoEnd, TooLong}
use Rattle.um_statements.specs.Said.{Said, nothing_said, collected}
use Rattle.um_statements.specs.CallRules.{faults_in}
use Rattle.um_statements.specs.Made.{deck_value}
use Rattle.um_statements.specs.DeckRules.{deck_fault}
use Rattle.um_mps.specs.declared.reader.ReadFault.{ReadFault}
use Rattle.um_decktext.specs.DeckLines.{Line, deck_lines, line_of}
use Rattle.um_decktext.specs.Places.{Place, place_of}
use Rattle.um_decktext.specs.DeckText.{DeckFault, DeckText, is_end, known, line_fault, own_fault, text_deck, text_fault, told}
use Rattle.um_mps.specs.Reading.{IsBehind, IsPlace, IsReading, Reads, counted_behind}
use Rattle.um_decktext.specs.LineByLine.{fault_behind}
use Rattle.um_decktext.proofs.FirstBroken.{first_found}
use Rattle.um_mps.proofs.CountedLines.{counted_found}
use Rattle.um_mps.proofs.PlaceKept.{first_placed}

start_known : known [] ≡ nothing_said
unfolding told collected
start_known = refl

pub start_unbroken : faults_in nothing_said (told []) ≡ None
unfolding told
start_unbroken = refl

started : (all : List Line) (place : Place) (maker : Said) → place ≡ place_of [] → maker ≡ nothing_said → IsReading all all 0 place maker
started all place maker first new = record {
  before = [];
  split = refl;
  count = refl;
  behind = record { here = first; said = new ∙ sym start_known; unbroken = start_unbroken };
  may = first_placed place maker first new;
  same_fault = refl;
  same_lines = refl;
}

-- the lines, as they are read
lines_are : (bytes : List ℕ) → map line_of (lines bytes) ≡ deck_lines bytes
unfolding deck_lines
lines_are bytes = refl

pub text_started : (bytes : List ℕ) (place : Place) (maker : Said) → place ≡ place_of [] → maker ≡ nothing_said → IsReading (deck_lines bytes) (map line_of (lines bytes)) 0 place maker
text_started bytes place maker first new = subst (λ all. IsReading all (map line_of (lines bytes)) 0 place maker) (lines_are bytes) (started (map line_of (lines bytes)) place maker first new)

-- ---- a line

-- a line that is not the last breaks no rule where it breaks none of its own
fine_here : (before : List Line) (line : Line) → own_fault before line ≡ None → is_end line ≡ false → line_fault before line ≡ None
unfolding line_fault
fine_here before line fine goes = rw (fine, goes) refl

broken_here : (before : List Line) (line : Line) (fault : Fault) → own_fault before line ≡ Some fault → line_fault before line ≡ Some fault
unfolding line_fault
broken_here before line fault broken = rw broken refl

-- at the last line the rules on the whole deck are looked at
last_here : (before : List Line) (line : Line) → own_fault before line ≡ None → is_end line ≡ true → line_fault before line ≡ deck_fault (known (before ++ line ∷ []))
unfolding line_fault
last_here before line fine end = rw (fine, end) refl

fault_on : (before rest : List Line) (line : Line) → line_fault before line ≡ None → is_end line ≡ false → fault_behind before (line ∷ rest) ≡ fault_behind (before ++ line ∷ []) rest
fault_on before rest line fine more = rw (fine, more) refl

lines_on : (before rest : List Line) (line : Line) → is_end line ≡ false → counted_behind before (line ∷ rest) ≡ counted_behind (before ++ line ∷ []) rest
lines_on before rest line more = rw more refl

gone_on : (all rest : List Line) (line : Line) (number : ℕ) (place next : Place) (maker more : Said) (k : IsReading all (line ∷ rest) number place maker)
    → Reads k.before line (Ok false) next more → IsPlace next more → IsReading all rest (number + 1) next more
gone_on all rest line number place next maker more k reads may = record {
  before = k.before ++ line ∷ [];
  split = k.split ∙ sym (append_assoc k.before (line ∷ []) rest);
  count = length-append k.before (line ∷ []) ∙ ap (λ n. n + 1) k.count;
  behind = reads.2;
  may = may;
  same_fault = sym (fault_on k.before rest line (fine_here k.before line reads.0 (sym reads.1)) (sym reads.1)) ∙ k.same_fault;
  same_lines = sym (lines_on k.before rest line (sym reads.1)) ∙ k.same_lines;
}

-- ---- numbers of lines

more_pieces : (x : ℕ) (ps : List (List ℕ)) → length (piece_with x ps) ≤ length ps + 1
more_pieces x [] = omega arith
more_pieces x (p ∷ ps) = omega arith

few_pieces : (bytes : List ℕ) → length (pieces bytes) ≤ length bytes
unfolding pieces
few_pieces [] = omega arith
few_pieces (x ∷ xs) = by (ends_line x) refl (few_pieces xs)
  where
    by : (b : Bool) → ends_line x ≡ b → length (pieces xs) ≤ length xs → length (pieces (x ∷ xs)) ≤ length (x ∷ xs)
    by true e few = rw e (omega arith)
    by false e few = rw e (omega (arith, more_pieces x (pieces xs)))

few_lines : (bytes : List ℕ) → length (deck_lines bytes) ≤ length bytes
unfolding deck_lines lines
few_lines bytes = omega (arith, length-map (map without_return (pieces bytes)) line_of, length-map (pieces bytes) without_return, few_pieces bytes)

pub small_number : (bytes : List ℕ) (rest : List Line) (number : ℕ) (place : Place) (maker : Said) → length bytes ≤ 16777216
    → IsReading (deck_lines bytes) rest number place maker → number ≤ 16777216
small_number bytes rest number place maker long k = omega (arith, few_lines bytes, ap length k.split, length-append k.before rest, k.count)

-- ---- the text

fault_is : (bytes : List ℕ) → length bytes ≤ 16777216 → text_fault bytes ≡ fault_behind [] (deck_lines bytes)
unfolding text_fault
fault_is bytes short =
    let fits : nat_lt 16777216 (length bytes) ≡ false = grind arith in
    rw fits (first_found (deck_lines bytes))

deck_is : (bytes : List ℕ) → text_deck bytes ≡ deck_value (known (counted_behind [] (deck_lines bytes)))
unfolding text_deck
deck_is bytes = ap (λ ls. deck_value (known ls)) (counted_found (deck_lines bytes))

-- ---- the three ends of the loop, over lines

-- a line breaks a rule
refused_at : (bytes : List ℕ) (rest : List Line) (line : Line) (number : ℕ) (place : Place) (maker : Said) (fault : Fault) → length bytes ≤ 16777216
    → (k : IsReading (deck_lines bytes) (line ∷ rest) number place maker) → own_fault k.before line ≡ Some fault → text_fault bytes ≡ Some (number + 1, fault)
refused_at bytes rest line number place maker fault short k broken =
    fault_is bytes short ∙ sym k.same_fault
    ∙ ap (λ o. option_or (option_map (λ f. (length k.before + 1, f)) o) (if is_end line then None else fault_behind (k.before ++ line ∷ []) rest)) (broken_here k.before line fault broken)
    ∙ ap (λ n. Some (n + 1, fault)) k.count

-- there is no line ENDATA
pub ended_at : (bytes : List ℕ) (xs : List (List ℕ)) (number : ℕ) (place : Place) (maker : Said) → length bytes ≤ 16777216
    → IsReading (deck_lines bytes) (map line_of xs) number place maker → xs ≡ [] → text_fault bytes ≡ Some (number, NoEnd)
ended_at bytes xs number place maker short k end =
    let last = subst (λ ls. IsReading (deck_lines bytes) (map line_of ls) number place maker) end k in
    fault_is bytes short ∙ sym last.same_fault ∙ ap (λ n. Some (n, NoEnd)) last.count

-- the text is too long
pub too_long : (bytes : List ℕ) → 16777216 < length bytes → text_fault bytes ≡ Some (0, TooLong)
unfolding text_fault
too_long bytes long =
    let above : nat_lt 16777216 (length bytes) ≡ true = grind arith in
    rw above refl

-- the line ENDATA, at which the whole deck breaks this rule, or none
last_fault : (bytes : List ℕ) (rest : List Line) (line : Line) (number : ℕ) (place next : Place) (maker more : Said) → length bytes ≤ 16777216
    → (k : IsReading (deck_lines bytes) (line ∷ rest) number place maker) → Reads k.before line (Ok true) next more
    → text_fault bytes ≡ option_map (λ fault. (number + 1, fault)) (deck_fault more)
last_fault bytes rest line number place next maker more short k reads =
    let here : line_fault k.before line ≡ deck_fault more = last_here k.before line reads.0 (sym reads.1) ∙ ap deck_fault (sym reads.2.said) in
    fault_is bytes short ∙ sym k.same_fault
    ∙ ap (λ (b : Bool). option_or (option_map (λ f. (length k.before + 1, f)) (line_fault k.before line)) (if b then None else fault_behind (k.before ++ line ∷ []) rest)) (sym reads.1)
    ∙ or_none _
    ∙ (λ i. option_map (λ fault. (k.count i + 1, fault)) (here i))
  where
    or_none : (o : Option (ℕ × Fault)) → option_or o None ≡ o
    or_none None = refl
    or_none (Some x) = refl

last_deck : (bytes : List ℕ) (rest : List Line) (line : Line) (number : ℕ) (place next : Place) (maker more : Said)
    → (k : IsReading (deck_lines bytes) (line ∷ rest) number place maker) → Reads k.before line (Ok true) next more → text_deck bytes ≡ deck_value more
last_deck bytes rest line number place next maker more k reads =
    deck_is bytes ∙ ap (λ ls. deck_value (known ls)) (sym k.same_lines)
    ∙ ap (λ (b : Bool). deck_value (known (if b then k.before ++ line ∷ [] else counted_behind (k.before ++ line ∷ []) rest))) (sym reads.1)
    ∙ ap deck_value (sym reads.2.said)

-- ---- as the code has it

-- the invariant at the line that comes next
pub at_line : (bytes : List ℕ) (xs rest : List (List ℕ)) (line : List ℕ) (number : ℕ) (place : Place) (maker : Said) → IsReading (deck_lines bytes) (map line_of xs) number place maker → xs ≡ line ∷ rest
    → IsReading (deck_lines bytes) (line_of line ∷ map line_of rest) number place maker
at_line bytes xs rest line number place maker k next = subst (λ ls. IsReading (deck_lines bytes) (map line_of ls) number place maker) next k

pub turn : (bytes : List ℕ) (rest : List (List ℕ)) (line : List ℕ) (number : ℕ) (place next : Place) (maker more : Said) (flag : Bool)
    → IsReading (deck_lines bytes) (line_of line ∷ map line_of rest) number place maker → flag ≡ false
    → ((before : List Line) → IsBehind before place maker → Reads before (line_of line) (Ok flag) next more) → IsPlace next more
    → IsReading (deck_lines bytes) (map line_of rest) (number + 1) next more
turn bytes rest line number place next maker more flag k goes reads may =
    gone_on (deck_lines bytes) (map line_of rest) (line_of line) number place next maker more k (subst (λ b. Reads k.before (line_of line) (Ok b) next more) goes (reads k.before k.behind)) may

-- the deck that the maker makes at the last line, or the rule that it breaks
pub finished : (bytes : List ℕ) (rest : List (List ℕ)) (line : List ℕ) (number : ℕ) (place next : Place) (maker more : Said) (flag : Bool) (result : Result DeckValue ReadFault) → length bytes ≤ 16777216
    → IsReading (deck_lines bytes) (line_of line ∷ map line_of rest) number place maker → flag ≡ true
    → ((before : List Line) → IsBehind before place maker → Reads before (line_of line) (Ok flag) next more)
    → MatchResult result (λ d. (deck_fault more ≡ None) × (d ≡ deck_value more)) (λ e. (e.line ≡ number + 1) × ((e.fault ≡ Memory) ⊎ (deck_fault more ≡ Some e.fault)))
    → MatchResult result (λ d. DeckText bytes d) (λ e. (e.fault ≡ Memory) ⊎ DeckFault bytes e.line e.fault)
finished bytes rest line number place next maker more flag (Ok d) short k ends reads made =
    let last = subst (λ b. Reads k.before (line_of line) (Ok b) next more) ends (reads k.before k.behind) in
    record {
      unbroken = last_fault bytes (map line_of rest) (line_of line) number place next maker more short k last ∙ ap (option_map (λ fault. (number + 1, fault))) made.0;
      deck = made.1 ∙ sym (last_deck bytes (map line_of rest) (line_of line) number place next maker more k last);
    }
finished bytes rest line number place next maker more flag (Err e) short k ends reads (numbered, inl memory) = inl memory
finished bytes rest line number place next maker more flag (Err e) short k ends reads (numbered, inr broken) =
    let last = subst (λ b. Reads k.before (line_of line) (Ok b) next more) ends (reads k.before k.behind) in
    inr (last_fault bytes (map line_of rest) (line_of line) number place next maker more short k last
    ∙ ap (option_map (λ fault. (number + 1, fault))) broken
    ∙ ap (λ n. Some (n, e.fault)) (sym numbered))

-- a line that breaks a rule, or want of memory
pub line_refused : (bytes : List ℕ) (rest : List (List ℕ)) (line : List ℕ) (number : ℕ) (place next : Place) (maker more : Said) (fault : Fault) → length bytes ≤ 16777216
    → IsReading (deck_lines bytes) (line_of line ∷ map line_of rest) number place maker
    → ((before : List Line) → IsBehind before place maker → Reads before (line_of line) (Err fault) next more)
    → (fault ≡ Memory) ⊎ DeckFault bytes (number + 1) fault
line_refused bytes rest line number place next maker more fault short k reads = by (reads k.before k.behind)
  where
    by : (fault ≡ Memory) ⊎ (own_fault k.before (line_of line) ≡ Some fault) → (fault ≡ Memory) ⊎ DeckFault bytes (number + 1) fault
    by (inl memory) = inl memory
    by (inr broken) = inr (refused_at bytes (map line_of rest) (line_of line) number place maker fault short k broken)
