-- What holds of a text that breaks no rule, and of the rule that is broken first.
use Rattle.std.proofs.Common.{◌≡◌, ◌≢◌, ℕ, ◌+◌, nat_lt, Bool, true, false, if◌then◌else◌, List, [], ◌∷◌, ◌++◌, length, All, Option, Some, None, option_map, Ok, Err, refl, sym, ap, ◌∙◌, subst}
use Rattle.std.proofs.lemmas.List.Elements.{All-append, All-nil}
use Rattle.std.specs.List.{enumerate_from, flat_map}
use Rattle.std.specs.Option.{option_map_or, option_or}
use Rattle.um_model.specs.Values.{DeckValue}
use Rattle.um_statements.specs.declared.fault.Fault.{Fault}
use Rattle.um_statements.specs.declared.fault.Fault.TheVariants.{Memory, NoEnd, TooLong}
use Rattle.um_statements.specs.Statements.{Statement, ArcTold, Bound, Column, EntryTold, MemberTold, Range, RowTold, Sense, Set, Side, Title}
use Rattle.um_statements.specs.Said.{Said, RowSaid, ColumnSaid, SetSaid, nothing_said}
use Rattle.um_statements.specs.CallRules.{Rule, fault_of, faults_in, rules_of, with_statement}
use Rattle.um_statements.specs.Tells.{Says, says_fault, statements}
use Rattle.um_statements.specs.Made.{deck_value, objective, sided_rows}
use Rattle.um_statements.specs.DeckRules.{column_rules, deck_fault, deck_rules, objective_rules, row_rules, set_rules}
use Rattle.um_statements.specs.WellSaid.{HasNumbers}
use Rattle.um_statements.specs.Laws.{IsDeckOfObjective}
use Rattle.um_statements.proofs.SaidKept.{said-all-law}
use Rattle.um_statements.proofs.MadeDeck.{made-deck-law}
use Rattle.um_decktext.specs.DeckLines.{Line, deck_lines}
use Rattle.um_decktext.specs.Places.{place_of}
use Rattle.um_decktext.specs.LinesSay.{line_says}
use Rattle.um_decktext.specs.DeckText.{DeckText, each_from, first_broken, is_end, known, line_fault, own_fault, text_deck, text_fault, told}
use Rattle.um_mps.specs.Reading.{counted_behind}
use Rattle.um_decktext.specs.LineByLine.{fault_behind}
use Rattle.um_mps.proofs.CountedLines.{counted_found}
use Rattle.um_decktext.proofs.FirstBroken.{first_found}
use Rattle.um_mps.proofs.ReaderSteps.{said_more}
use Rattle.um_mps.proofs.LoopSteps.{start_unbroken}
use Rattle.um_mps.proofs.SaysFine.{FineRules, IsFine, first_fine, line_fine, statements_fine}

none_some : {A : Type 0} (x : A) → None ≡ Some x → ⊥
none_some x e = cc

-- ---- numbers

each_fine : (before lines : List Line) → All HasNumbers (each_from (λ before line. statements (line_says (place_of before) line)) before lines)
each_fine before [] = All-nil HasNumbers
each_fine before (line ∷ lines) =
    All-append HasNumbers (statements (line_says (place_of before) line)) _ (statements_fine (line_says (place_of before) line) (line_fine (place_of before) line)) (each_fine (before ++ line ∷ []) lines)

told_numbers : (lines : List Line) → All HasNumbers (told lines)
unfolding told
told_numbers lines = each_fine [] lines

-- ---- a text without a broken rule

fine_parts : (before : List Line) (line : Line) → line_fault before line ≡ None
    → (own_fault before line ≡ None) × ((if is_end line then deck_fault (known (before ++ line ∷ [])) else None) ≡ None)
unfolding line_fault
fine_parts before line fine = by (own_fault before line) refl fine
  where
    by : (o : Option Fault) → own_fault before line ≡ o → option_or o (if is_end line then deck_fault (known (before ++ line ∷ [])) else None) ≡ None
        → (own_fault before line ≡ None) × ((if is_end line then deck_fault (known (before ++ line ∷ [])) else None) ≡ None)
    by None same rest = (same, rest)
    by (Some fault) same rest = absurd (none_some fault (sym rest))

abbrev IsWhole : List Line → Type 0
IsWhole lines = (faults_in nothing_said (told lines) ≡ None) × (deck_fault (known lines) ≡ None)

whole_behind : (before rest : List Line) → faults_in nothing_said (told before) ≡ None → fault_behind before rest ≡ None → IsWhole (counted_behind before rest)
whole_behind before [] unbroken fine = absurd (none_some _ (sym fine))
whole_behind before (line ∷ rest) unbroken fine = by (line_fault before line) refl (is_end line) refl fine (whole_behind (before ++ line ∷ []) rest)
  where
    by : (o : Option Fault) → line_fault before line ≡ o → (b : Bool) → is_end line ≡ b
        → option_or (option_map (λ fault. (length before + 1, fault)) o) (if b then None else fault_behind (before ++ line ∷ []) rest) ≡ None
        → (faults_in nothing_said (told (before ++ line ∷ [])) ≡ None → fault_behind (before ++ line ∷ []) rest ≡ None → IsWhole (counted_behind (before ++ line ∷ []) rest))
        → IsWhole (if b then before ++ line ∷ [] else counted_behind (before ++ line ∷ []) rest)
    by (Some fault) broken b end none more = absurd (none_some _ (sym none))
    by None whole true end none more =
        let parts = fine_parts before line whole in
        ((said_more before line unbroken parts.0).1, (rw end at parts.1))
    by None whole false end none more = more (said_more before line unbroken (fine_parts before line whole).0).1 none

text_lines : (bytes : List ℕ) → text_fault bytes ≡ None → fault_behind [] (deck_lines bytes) ≡ None
unfolding text_fault
text_lines bytes none = by (nat_lt 16777216 (length bytes)) none
  where
    by : (b : Bool) → (if b then Some (0, TooLong) else first_broken (deck_lines bytes)) ≡ None → fault_behind [] (deck_lines bytes) ≡ None
    by true e = absurd (none_some _ (sym e))
    by false e = sym (first_found (deck_lines bytes)) ∙ e

deck_is : (bytes : List ℕ) → text_deck bytes ≡ deck_value (known (counted_behind [] (deck_lines bytes)))
unfolding text_deck
deck_is bytes = ap (λ ls. deck_value (known ls)) (counted_found (deck_lines bytes))

pub formed-law : (bytes : List ℕ) (d : DeckValue) → DeckText bytes d → IsDeckOfObjective d
formed-law bytes d text =
    let lines : List Line = counted_behind [] (deck_lines bytes) in
    let whole : IsWhole lines = whole_behind [] (deck_lines bytes) start_unbroken (text_lines bytes text.unbroken) in
    subst IsDeckOfObjective (sym (text.deck ∙ deck_is bytes)) (made-deck-law (known lines) (said-all-law (told lines) (told_numbers lines) whole.0) whole.1)

-- ---- the first broken rule

statement_fine : (said : Said) (s : Statement) → FineRules (rules_of said s)
unfolding rules_of
statement_fine said (Title name) = tt
statement_fine said (Sense maximise) = tt
statement_fine said (RowTold kind name) = (λ same. cc, (λ same. cc, tt))
statement_fine said (Column name in_block) = (λ same. cc, (λ same. cc, tt))
statement_fine said (EntryTold row value) = (λ same. cc, (λ same. cc, tt))
statement_fine said (Side row value) = (λ same. cc, (λ same. cc, tt))
statement_fine said (Range row value) = (λ same. cc, (λ same. cc, tt))
statement_fine said (Bound kind column value) = (λ same. cc, (λ same. cc, (λ same. cc, (λ same. cc, tt))))
statement_fine said (Set kind name reference) = (λ same. cc, (λ same. cc, (λ same. cc, tt)))
statement_fine said (MemberTold column weight) = (λ same. cc, (λ same. cc, (λ same. cc, (λ same. cc, tt))))
statement_fine said (ArcTold row column value) = (λ same. cc, (λ same. cc, (λ same. cc, (λ same. cc, (λ same. cc, tt)))))

or_fine : (o p : Option Fault) → ((fault : Fault) → o ≡ Some fault → fault ≢ Memory) → ((fault : Fault) → p ≡ Some fault → fault ≢ Memory) → (fault : Fault) → option_or o p ≡ Some fault → fault ≢ Memory
or_fine None p first second fault is = second fault is
or_fine (Some f) p first second fault is = first fault is

told_rules : (said : Said) (told : List Statement) (fault : Fault) → faults_in said told ≡ Some fault → fault ≢ Memory
told_rules said [] fault is = absurd (none_some fault is)
told_rules said (s ∷ told) fault is = or_fine (fault_of said s) (faults_in (with_statement s said) told) (first_fine (rules_of said s) (statement_fine said s)) (told_rules (with_statement s said) told) fault is

says_rules : (said : Said) (says : Says) → IsFine says → (fault : Fault) → says_fault said says ≡ Some fault → fault ≢ Memory
says_rules said (Ok told) fine fault is = told_rules said told fault is
says_rules said (Err f) fine fault is = let same : f ≡ fault = cc in subst (λ g. g ≢ Memory) same fine

-- ---- the rules of the whole deck

rules_append : (xs ys : List Rule) → FineRules xs → FineRules ys → FineRules (xs ++ ys)
rules_append [] ys first second = second
rules_append (x ∷ xs) ys first second = (first.0, rules_append xs ys first.1 second)

rules_each : {X : Type 0} (rules : X → List Rule) → ((x : X) → FineRules (rules x)) → (xs : List X) → FineRules (flat_map rules xs)
rules_each rules fine [] = tt
rules_each rules fine (x ∷ xs) = rules_append (rules x) (flat_map rules xs) (fine x) (rules_each rules fine xs)

row_rules_fine : (said : Said) (p : ℕ × RowSaid) → FineRules (row_rules said p)
row_rules_fine said p = (λ same. cc, (λ same. cc, tt))

objective_fine : (said : Said) (o : Option (ℕ × RowSaid)) → FineRules (objective_rules said o)
objective_fine said None = (λ same. cc, tt)
objective_fine said (Some p) = row_rules_fine said p

column_rules_fine : (said : Said) (p : ℕ × ColumnSaid) → FineRules (column_rules said p)
column_rules_fine said p = (λ same. cc, (λ same. cc, (λ same. cc, (λ same. cc, (λ same. cc, (λ same. cc, tt))))))

set_rules_fine : (said : Said) (s : SetSaid) → FineRules (set_rules said s)
set_rules_fine said s = (λ same. cc, (λ same. cc, (λ same. cc, (λ same. cc, tt))))

deck_rules_fine : (said : Said) → FineRules (deck_rules said)
unfolding deck_rules
deck_rules_fine said =
    rules_append (objective_rules said (objective said)) _ (objective_fine said (objective said))
    (rules_append (flat_map (row_rules said) (sided_rows said)) _ (rules_each (row_rules said) (row_rules_fine said) (sided_rows said))
    (rules_append (flat_map (column_rules said) (enumerate_from 0 said.columns)) _ (rules_each (column_rules said) (column_rules_fine said) (enumerate_from 0 said.columns))
    (rules_each (set_rules said) (set_rules_fine said) said.sets)))

end_fine : (said : Said) (b : Bool) (fault : Fault) → (if b then deck_fault said else None) ≡ Some fault → fault ≢ Memory
end_fine said true fault is = first_fine (deck_rules said) (deck_rules_fine said) fault is
end_fine said false fault is = absurd (none_some fault is)

line_rules : (before : List Line) (line : Line) (fault : Fault) → line_fault before line ≡ Some fault → fault ≢ Memory
unfolding line_fault
line_rules before line fault is =
    or_fine (own_fault before line) (if is_end line then deck_fault (known (before ++ line ∷ [])) else None)
    (says_rules (known before) (line_says (place_of before) line) (line_fine (place_of before) line))
    (end_fine (known (before ++ line ∷ [])) (is_end line)) fault is

-- the rule of a line
rule_in : {o p : Option (ℕ × Fault)} (fault : Fault) → o ≡ p → option_map_or (λ (q : ℕ × Fault). q.1) o fault ≡ option_map_or (λ (q : ℕ × Fault). q.1) p fault
rule_in fault same = ap (λ o. option_map_or (λ (q : ℕ × Fault). q.1) o fault) same

rule_behind : (before rest : List Line) (number : ℕ) (fault : Fault) → fault_behind before rest ≡ Some (number, fault) → fault ≢ Memory
rule_behind before [] number fault is = let same : NoEnd ≡ fault = rule_in NoEnd is in subst (λ g. g ≢ Memory) same (λ e. cc)
rule_behind before (line ∷ rest) number fault is = by (line_fault before line) refl (is_end line) is (rule_behind (before ++ line ∷ []) rest number fault)
  where
    by : (o : Option Fault) → line_fault before line ≡ o → (b : Bool)
        → option_or (option_map (λ fault. (length before + 1, fault)) o) (if b then None else fault_behind (before ++ line ∷ []) rest) ≡ Some (number, fault)
        → (fault_behind (before ++ line ∷ []) rest ≡ Some (number, fault) → fault ≢ Memory) → fault ≢ Memory
    by (Some f) broken b e more = let same : f ≡ fault = rule_in f e in subst (λ g. g ≢ Memory) same (line_rules before line f broken)
    by None whole true e more = absurd (none_some _ e)
    by None whole false e more = more e

pub rule-law : (bytes : List ℕ) (line : ℕ) → text_fault bytes ≡ Some (line, Memory) → ⊥
unfolding text_fault
rule-law bytes line broken = by (nat_lt 16777216 (length bytes)) broken
  where
    by : (b : Bool) → (if b then Some (0, TooLong) else first_broken (deck_lines bytes)) ≡ Some (line, Memory) → ⊥
    by true e = let same : TooLong ≡ Memory = rule_in TooLong e in cc
    by false e = rule_behind [] (deck_lines bytes) line Memory (sym (first_found (deck_lines bytes)) ∙ e) refl
