-- What the reader knows behind one line more.
use Rattle.std.proofs.Common.{◌≡◌, ◌⊎◌, inl, inr, ℕ, true, false, List, [], ◌∷◌, ◌++◌, append_assoc, Option, Some, None, Ok, Err, refl, sym, ap, ◌∙◌, subst, slice_index}
use Rattle.std.proofs.lemmas.List.{append-nil}
use Rattle.std.specs.Option.{option_or}
use Rattle.um_text.specs.Words.{words, is_gap}
use Rattle.um_statements.specs.declared.fault.Fault.{Fault}
use Rattle.um_statements.specs.declared.fault.Fault.TheVariants.{Memory}
use Rattle.um_statements.specs.Said.{Said, nothing_said, collected}
use Rattle.um_statements.specs.CallRules.{faults_in, with_all}
use Rattle.um_statements.specs.Tells.{Says, TellsAll, says_fault, statements}
use Rattle.um_statements.proofs.CollectedSteps.{more-law}
use Rattle.um_decktext.specs.declared.section.Section.{Section}
use Rattle.um_decktext.specs.declared.section.Section.TheVariants as section
use Rattle.um_decktext.specs.Sections.{is_section, section_called}
use Rattle.um_decktext.specs.Words.{Words, first_word}
use Rattle.um_decktext.specs.DeckLines.{Line, Skipped, Heading, Data, is_skipped, line_of}
use Rattle.um_decktext.specs.Places.{Place, place_of}
use Rattle.um_mps.specs.Behind.{behind, behind_data, behind_heading}
use Rattle.um_decktext.specs.LinesSay.{data_line, heading_line, heading_says, line_says}
use Rattle.um_decktext.specs.DeckText.{each_from, is_end, known, own_fault, told}
use Rattle.um_mps.specs.Reading.{IsBehind, Reads}
use Rattle.um_mps.proofs.PlaceSteps.{place_behind}

-- ---- what is said behind one line more

-- one item more at the end of a list gives what it gives behind all others
each_push : {A B : Type 0} (gives : List A → A → List B) (before xs : List A) (x : A)
    → each_from gives before (xs ++ x ∷ []) ≡ each_from gives before xs ++ gives (before ++ xs) x
each_push gives before [] x = append-nil (gives before x) ∙ ap (λ b. gives b x) (sym (append-nil before))
each_push gives before (y ∷ xs) x =
    let rest = each_push gives (before ++ y ∷ []) xs x in
    let place : (before ++ y ∷ []) ++ xs ≡ before ++ y ∷ xs = append_assoc before (y ∷ []) xs in
    ap (λ bs. gives before y ++ bs) rest
    ∙ ap (λ b. gives before y ++ (each_from gives (before ++ y ∷ []) xs ++ gives b x)) place
    ∙ sym (append_assoc (gives before y) (each_from gives (before ++ y ∷ []) xs) _)

fine_statements : (said : Said) (says : Says) → says_fault said says ≡ None → faults_in said (statements says) ≡ None
fine_statements said (Ok more) fine = fine
fine_statements said (Err fault) fine = cc

told_push : (before : List Line) (line : Line) → told (before ++ line ∷ []) ≡ told before ++ statements (line_says (place_of before) line)
unfolding told
told_push before line = each_push (λ before line. statements (line_says (place_of before) line)) [] before line

-- what is known behind one line more that breaks no rule
pub said_more : (before : List Line) (line : Line) → faults_in nothing_said (told before) ≡ None → own_fault before line ≡ None
    → (known (before ++ line ∷ []) ≡ with_all (statements (line_says (place_of before) line)) (known before)) × (faults_in nothing_said (told (before ++ line ∷ [])) ≡ None)
said_more before line unbroken fine =
    let says : Says = line_says (place_of before) line in
    let on = more-law (told before) (statements says) unbroken (fine_statements (known before) says fine) in
    (ap collected (told_push before line) ∙ on.same, ap (faults_in nothing_said) (told_push before line) ∙ on.unbroken)

-- ---- the place and the maker stand for the lines before

-- the rule that a line breaks, from what the reader knows
same_own : (before : List Line) (line : Line) (place : Place) (maker : Said) → IsBehind before place maker → own_fault before line ≡ says_fault maker (line_says place line)
same_own before line place maker k =
    sym (ap (λ (m : Said). says_fault m (line_says (place_of before) line)) k.said) ∙ sym (ap (λ (p : Place). says_fault maker (line_says p line)) k.here)

-- a line that breaks no rule
behind_line : (before : List Line) (line : Line) (place next : Place) (maker more : Said) → IsBehind before place maker → says_fault maker (line_says place line) ≡ None
    → next ≡ behind line place → more ≡ with_all (statements (line_says place line)) maker → IsBehind (before ++ line ∷ []) next more
behind_line before line place next maker more k fine moved said =
    let on = said_more before line k.unbroken (same_own before line place maker k ∙ fine) in
    record {
      here = moved ∙ ap (behind line) k.here ∙ sym (place_behind before line);
      said = said ∙ ap (λ (p : Place). with_all (statements (line_says p line)) maker) k.here ∙ ap (with_all (statements (line_says (place_of before) line))) k.said ∙ sym on.0;
      unbroken = on.1;
    }

-- a line that is read, as far as it is told to the maker
read_told : (before : List Line) (line : Line) (place next : Place) (maker more : Said) → IsBehind before place maker → is_end line ≡ false
    → says_fault maker (line_says place line) ≡ None → next ≡ behind line place → more ≡ with_all (statements (line_says place line)) maker → Reads before line (Ok false) next more
read_told before line place next maker more k goes fine moved said = (same_own before line place maker k ∙ fine, sym goes, behind_line before line place next maker more k fine moved said)

refused : (before : List Line) (line : Line) (place : Place) (maker : Said) (fault : Fault) → IsBehind before place maker
    → (fault ≡ Memory) ⊎ (says_fault maker (line_says place line) ≡ Some fault) → (fault ≡ Memory) ⊎ (own_fault before line ≡ Some fault)
refused before line place maker fault k (inl memory) = inl memory
refused before line place maker fault k (inr broken) = inr (same_own before line place maker k ∙ broken)

-- ---- the three sorts of lines

skipped_is : (bytes : List ℕ) → is_skipped bytes ≡ true → line_of bytes ≡ Skipped
unfolding line_of
skipped_is bytes skipped = rw skipped

data_is : (bytes : List ℕ) → is_skipped bytes ≡ false → is_gap (slice_index bytes 0) ≡ true → line_of bytes ≡ Data (words bytes)
unfolding line_of
data_is bytes counts gap = rw (counts, gap)

heading_is : (bytes : List ℕ) → is_skipped bytes ≡ false → is_gap (slice_index bytes 0) ≡ false → line_of bytes ≡ Heading (words bytes)
unfolding line_of
heading_is bytes counts gap = rw (counts, gap)

read_skipped : (before : List Line) (place : Place) (maker : Said) → IsBehind before place maker → Reads before Skipped (Ok false) place maker
unfolding line_says
read_skipped before place maker k = read_told before Skipped place place maker maker k refl refl refl refl

pub skipped_line : (bytes : List ℕ) (before : List Line) (place : Place) (maker : Said) → is_skipped bytes ≡ true → IsBehind before place maker
    → Reads before (line_of bytes) (Ok false) place maker
skipped_line bytes before place maker skipped k = subst (λ line. Reads before line (Ok false) place maker) (sym (skipped_is bytes skipped)) (read_skipped before place maker k)

read_data : (before : List Line) (place next : Place) (maker more : Said) (ws : Words) → IsBehind before place maker
    → TellsAll (data_line place.section place ws) maker (Ok tt) more → next ≡ behind_data place.section ws place → Reads before (Data ws) (Ok false) next more
unfolding line_says
read_data before place next maker more ws k told moved = read_told before (Data ws) place next maker more k refl told.0 moved told.1

pub data_read : (bytes : List ℕ) (before : List Line) (place next : Place) (maker more : Said) (ws : Words) → is_skipped bytes ≡ false → is_gap (slice_index bytes 0) ≡ true → ws ≡ words bytes
    → IsBehind before place maker → TellsAll (data_line place.section place ws) maker (Ok tt) more → next ≡ behind_data place.section ws place → Reads before (line_of bytes) (Ok false) next more
data_read bytes before place next maker more ws counts gap parts k told moved =
    subst (λ line. Reads before line (Ok false) next more) (ap Data parts ∙ sym (data_is bytes counts gap)) (read_data before place next maker more ws k told moved)

refuse_data : (before : List Line) (place : Place) (maker : Said) (fault : Fault) (ws : Words) → IsBehind before place maker
    → (fault ≡ Memory) ⊎ (says_fault maker (data_line place.section place ws) ≡ Some fault) → (fault ≡ Memory) ⊎ (own_fault before (Data ws) ≡ Some fault)
unfolding line_says
refuse_data before place maker fault ws k broken = refused before (Data ws) place maker fault k broken

pub data_refused : (bytes : List ℕ) (before : List Line) (place : Place) (maker : Said) (fault : Fault) (ws : Words) → is_skipped bytes ≡ false → is_gap (slice_index bytes 0) ≡ true → ws ≡ words bytes
    → IsBehind before place maker → (fault ≡ Memory) ⊎ (says_fault maker (data_line place.section place ws) ≡ Some fault) → (fault ≡ Memory) ⊎ (own_fault before (line_of bytes) ≡ Some fault)
data_refused bytes before place maker fault ws counts gap parts k broken =
    subst (λ line. (fault ≡ Memory) ⊎ (own_fault before line ≡ Some fault)) (ap Data parts ∙ sym (data_is bytes counts gap)) (refuse_data before place maker fault ws k broken)

-- a heading that breaks no rule is that of a section
found_is : (place : Place) (found : Option Section) (ws : Words) (maker : Said) → says_fault maker (heading_says place found ws) ≡ None → found ≡ option_or found place.section
found_is place None ws maker fine = cc
found_is place (Some s) ws maker fine = refl

read_heading : (before : List Line) (place next : Place) (maker more : Said) (ws : Words) → IsBehind before place maker
    → TellsAll (heading_line place ws) maker (Ok tt) more → next ≡ behind_heading ws place → Reads before (Heading ws) (Ok (is_section section.Endata next.section)) next more
unfolding line_says
read_heading before place next maker more ws k told moved =
    let headed : next.section ≡ section_called (first_word ws) = ap (λ (p : Place). p.section) moved ∙ sym (found_is place (section_called (first_word ws)) ws maker told.0) in
    (same_own before (Heading ws) place maker k ∙ told.0, ap (is_section section.Endata) headed, behind_line before (Heading ws) place next maker more k told.0 moved told.1)

pub heading_read : (bytes : List ℕ) (before : List Line) (place next : Place) (maker more : Said) (ws : Words) → is_skipped bytes ≡ false → is_gap (slice_index bytes 0) ≡ false → ws ≡ words bytes
    → IsBehind before place maker → TellsAll (heading_line place ws) maker (Ok tt) more → next ≡ behind_heading ws place → Reads before (line_of bytes) (Ok (is_section section.Endata next.section)) next more
heading_read bytes before place next maker more ws counts gap parts k told moved =
    subst (λ line. Reads before line (Ok (is_section section.Endata next.section)) next more) (ap Heading parts ∙ sym (heading_is bytes counts gap)) (read_heading before place next maker more ws k told moved)

refuse_heading : (before : List Line) (place : Place) (maker : Said) (fault : Fault) (ws : Words) → IsBehind before place maker
    → (fault ≡ Memory) ⊎ (says_fault maker (heading_line place ws) ≡ Some fault) → (fault ≡ Memory) ⊎ (own_fault before (Heading ws) ≡ Some fault)
unfolding line_says
refuse_heading before place maker fault ws k broken = refused before (Heading ws) place maker fault k broken

pub heading_refused : (bytes : List ℕ) (before : List Line) (place : Place) (maker : Said) (fault : Fault) (ws : Words) → is_skipped bytes ≡ false → is_gap (slice_index bytes 0) ≡ false → ws ≡ words bytes
    → IsBehind before place maker → (fault ≡ Memory) ⊎ (says_fault maker (heading_line place ws) ≡ Some fault) → (fault ≡ Memory) ⊎ (own_fault before (line_of bytes) ≡ Some fault)
heading_refused bytes before place maker fault ws counts gap parts k broken =
    subst (λ line. (fault ≡ Memory) ⊎ (own_fault before line ≡ Some fault)) (ap Heading parts ∙ sym (heading_is bytes counts gap)) (refuse_heading before place maker fault ws k broken)
