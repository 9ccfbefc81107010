-- The normal text of a deck is a deck text of that deck: no line breaks a rule, and what is collected is that deck.
use Rattle.std.proofs.Common.{◌≡◌, ℕ, ◌≤◌, Bool, true, false, List, [], ◌∷◌, ◌++◌, append_assoc, length, map, Option, Some, None, Ok, refl, sym, ap, ◌∙◌, subst, codes, if◌then◌else◌}
use Rattle.std.specs.Option.{option_or}
use Rattle.std.specs.List.{flat_map}
use Rattle.std.proofs.lemmas.Bool.{cond-false, le-ltb}
use Rattle.std.proofs.lemmas.List.{append-nil}
use Rattle.um_model.specs.Values.{DeckValue}
use Rattle.um_model.specs.WellFormed.{IsDeck}
use Rattle.um_statements.specs.Laws.{IsDeckOfObjective}
use Rattle.um_statements.specs.declared.fault.Fault.{Fault}
use Rattle.um_statements.specs.Statements.{Name, Statement}
use Rattle.um_statements.specs.Said.{Said, nothing_said, collected}
use Rattle.um_statements.specs.CallRules.{fault_of, with_statement, faults_in, with_all}
use Rattle.um_statements.specs.DeckRules.{deck_fault}
use Rattle.um_statements.proofs.CollectedSteps.{collected-law}
use Rattle.um_statements.specs.Made.{deck_value}
use Rattle.um_decktext.specs.Words.{Words}
use Rattle.um_decktext.specs.DeckLines.{Line, Heading, Data, deck_lines}
use Rattle.um_statements.specs.Tells.{Says, statements, says_fault}
use Rattle.um_decktext.specs.Places.{place_of}
use Rattle.um_decktext.specs.LinesSay.{line_says}
use Rattle.um_decktext.specs.DeckText.{each_from, told, is_end, line_fault, counted, first_broken, text_fault, text_deck, DeckText}
use Rattle.um_decktext.specs.LineByLine.{fault_behind}
use Rattle.um_decktext.proofs.FirstBroken.{first_found}
use Rattle.um_make.specs.NormalLines.{title_words, sense_lines, section_of, columns_lines, back_lines, rows_data, columns_data, sides_data, ranges_data, bounds_data, sets_data, arcs_data, sides_of, ranges_of, column_bounds, normal_lines, normal_text}
use Rattle.um_round.proofs.EachItem.{Each}
use Rattle.um_round.proofs.NormalTold.{side_told, range_told, bound_told, sets_told, arc_told, section_told, front_told, columns_told, back_told, normal_told, normal_statements}
use Rattle.um_round.specs.Sayable.{HasWordNames}
use Rattle.um_round.proofs.NormalSaid.{Runs, HasObjectiveArcs, normal_said}
use Rattle.um_round.proofs.LinesTold.{oks, said_by, each_append}
use Rattle.um_round.proofs.WordLines.{normal-lines-law}
use Rattle.um_round.proofs.AllTold.{told-law}
use Rattle.um_round.proofs.AllRun.{run-law}
use Rattle.um_round.proofs.DeckFine.{deck-fine-law}
use Rattle.um_round.proofs.DeckBack.{deck-back-law}

-- ---- lists of answers

head_or : Says → List Says → Says
head_or other [] = other
head_or other (s ∷ says) = s

rest_of : List Says → List Says
rest_of [] = []
rest_of (s ∷ says) = says

same_head : (s t : Says) (ss ts : List Says) → s ∷ ss ≡ t ∷ ts → s ≡ t
unfolding head_or
same_head s t ss ts e = ap (head_or s) e

same_rest : (s t : Says) (ss ts : List Says) → s ∷ ss ≡ t ∷ ts → ss ≡ ts
unfolding rest_of
same_rest s t ss ts e = ap rest_of e

abbrev all_of : List (List Statement) → List Statement
all_of = flat_map (λ told. told)

told_from : (lines before : List Line) (tss : List (List Statement)) → said_by before lines ≡ oks tss → each_from (λ before line. statements (line_says (place_of before) line)) before lines ≡ all_of tss
told_from [] before [] e = refl
told_from [] before (t ∷ tss) e = cc
told_from (line ∷ lines) before [] e = cc
told_from (line ∷ lines) before (t ∷ tss) e =
    let rest = told_from lines (before ++ line ∷ []) tss (same_rest _ _ _ _ e) in
    ap (λ (s : Says). statements s ++ each_from (λ before line. statements (line_says (place_of before) line)) (before ++ line ∷ []) lines) (same_head _ _ _ _ e) ∙ ap (λ (more : List Statement). t ++ more) rest

-- ---- the last line

abbrev Ended : List Line → Type 0
Ended [] = ⊥
Ended (l ∷ []) = is_end l ≡ true
Ended (l ∷ (m ∷ ls)) = (is_end l ≡ false) × Ended (m ∷ ls)

ended_cons : (l : Line) (ls : List Line) → is_end l ≡ false → Ended ls → Ended (l ∷ ls)
ended_cons l [] f h = absurd h
ended_cons l (m ∷ ls) f h = (f, h)

ended_push : (xs ys : List Line) → Each (λ l. is_end l ≡ false) xs → Ended ys → Ended (xs ++ ys)
ended_push [] ys h k = k
ended_push (x ∷ xs) ys h k = ended_cons x (xs ++ ys) h.0 (ended_push xs ys h.1 k)

counted_all : (ls : List Line) → Ended ls → counted ls ≡ ls
unfolding counted
counted_all [] h = absurd h
counted_all (l ∷ []) h = rw h refl
counted_all (l ∷ (m ∷ ls)) h = rw h.0 (ap (λ (more : List Line). l ∷ more) (counted_all (m ∷ ls) h.1))

data_on : (wss : List Words) → Each (λ l. is_end l ≡ false) (map Data wss)
data_on [] = tt
data_on (ws ∷ wss) = (refl, data_on wss)

section_on : (title : Name) (wss : List Words) → is_end (Heading (title ∷ [])) ≡ false → Each (λ l. is_end l ≡ false) (section_of title wss)
section_on title [] e = tt
section_on title (ws ∷ wss) e = (e, data_on (ws ∷ wss))

title_on : (name : Name) → is_end (Heading (title_words name)) ≡ false
title_on [] = refl
title_on (b ∷ bs) = refl

sense_on : (maximise : Bool) → Each (λ l. is_end l ≡ false) (sense_lines maximise)
sense_on true = (refl, tt)
sense_on false = tt

normal_ended : (d : DeckValue) → Ended (normal_lines d)
unfolding normal_lines
normal_ended d =
    let back : Ended (back_lines d) =
    ended_push (section_of (codes "RHS") (sides_data d)) _ (section_on (codes "RHS") (sides_data d) refl)
    (ended_push (section_of (codes "RANGES") (ranges_data d)) _ (section_on (codes "RANGES") (ranges_data d) refl)
    (ended_push (section_of (codes "BOUNDS") (bounds_data d)) _ (section_on (codes "BOUNDS") (bounds_data d) refl)
    (ended_push (section_of (codes "SOS") (sets_data d)) _ (section_on (codes "SOS") (sets_data d) refl)
    (ended_push (section_of (codes "ARCS") (arcs_data d)) (Heading (codes "ENDATA" ∷ []) ∷ []) (section_on (codes "ARCS") (arcs_data d) refl) refl)))) in
    let middle : Ended (columns_lines d ++ back_lines d) = ended_push (columns_lines d) (back_lines d) (refl, data_on (columns_data d)) back in
    ended_cons (Heading (title_words d.name)) ((sense_lines d.maximise ++ section_of (codes "ROWS") (rows_data d)) ++ (columns_lines d ++ back_lines d)) (title_on d.name)
    (subst (λ (ls : List Line). Ended ls) (sym (append_assoc (sense_lines d.maximise) (section_of (codes "ROWS") (rows_data d)) (columns_lines d ++ back_lines d)))
    (ended_push (sense_lines d.maximise) _ (sense_on d.maximise) (ended_push (section_of (codes "ROWS") (rows_data d)) (columns_lines d ++ back_lines d) (section_on (codes "ROWS") (rows_data d) refl) middle)))

-- the last line says nothing
abbrev LastQuiet : List (List Statement) → Type 0
LastQuiet [] = ⊥
LastQuiet (t ∷ []) = t ≡ []
LastQuiet (t ∷ (u ∷ ts)) = LastQuiet (u ∷ ts)

quiet_cons : (t : List Statement) (ts : List (List Statement)) → LastQuiet ts → LastQuiet (t ∷ ts)
quiet_cons t [] h = absurd h
quiet_cons t (u ∷ ts) h = h

quiet_push : (xs ys : List (List Statement)) → LastQuiet ys → LastQuiet (xs ++ ys)
quiet_push [] ys h = h
quiet_push (x ∷ xs) ys h = quiet_cons x (xs ++ ys) (quiet_push xs ys h)

back_quiet : (a b c e f : List (List Statement)) → LastQuiet (a ++ (b ++ (c ++ (e ++ (f ++ [] ∷ [])))))
back_quiet a b c e f = quiet_push a _ (quiet_push b _ (quiet_push c _ (quiet_push e _ (quiet_push f ([] ∷ []) refl))))

-- ---- faults

faults_first : (xs ys : List Statement) (said : Said) → faults_in said (xs ++ ys) ≡ None → (faults_in said xs ≡ None) × (faults_in (with_all xs said) ys ≡ None)
faults_first [] ys said none = (refl, none)
faults_first (x ∷ xs) ys said none = by (fault_of said x) refl none (faults_first xs ys (with_statement x said))
  where
    by : (o : Option Fault) → fault_of said x ≡ o → option_or o (faults_in (with_statement x said) (xs ++ ys)) ≡ None
        → (faults_in (with_statement x said) (xs ++ ys) ≡ None → (faults_in (with_statement x said) xs ≡ None) × (faults_in (with_all xs (with_statement x said)) ys ≡ None))
        → (option_or (fault_of said x) (faults_in (with_statement x said) xs) ≡ None) × (faults_in (with_all xs (with_statement x said)) ys ≡ None)
    by None e none more = let rest = more none in (rw e rest.0, rest.1)
    by (Some f) e none more = cc

with_all_append : (xs ys : List Statement) (said : Said) → with_all (xs ++ ys) said ≡ with_all ys (with_all xs said)
with_all_append [] ys said = refl
with_all_append (x ∷ xs) ys said = with_all_append xs ys (with_statement x said)

told_push : (before : List Line) (line : Line) (t : List Statement) → line_says (place_of before) line ≡ Ok t → told (before ++ line ∷ []) ≡ told before ++ t
unfolding told
told_push before line t e =
    each_append (λ before line. statements (line_says (place_of before) line)) [] before (line ∷ [])
    ∙ ap (λ (more : List Statement). told before ++ more) (append-nil (statements (line_says (place_of before) line)) ∙ ap statements e)

line_fine : (before : List Line) (line : Line) (t : List Statement) (known : Said) → line_says (place_of before) line ≡ Ok t → collected (told before) ≡ known → faults_in known t ≡ None → is_end line ≡ false → line_fault before line ≡ None
unfolding line_fault
line_fine before line t known says same fine on = rw (says, same, fine, on) refl

end_fine : (before : List Line) (line : Line) (gone : List Statement) → line_says (place_of before) line ≡ Ok [] → told before ≡ gone → deck_fault (collected gone) ≡ None → line_fault before line ≡ None
unfolding line_fault
end_fine before line gone says same fine = by (is_end line) refl
  where
    here : told (before ++ line ∷ []) ≡ gone
    here = told_push before line [] says ∙ append-nil (told before) ∙ same

    by : (b : Bool) → is_end line ≡ b → option_or (says_fault (collected (told before)) (line_says (place_of before) line)) (if is_end line then deck_fault (collected (told (before ++ line ∷ []))) else None) ≡ None
    by true e = rw (says, e, here, fine) refl
    by false e = rw (says, e) refl

-- what is collected of the first statements, where all break no rule
first_collected : (all gone more : List Statement) → faults_in nothing_said all ≡ None → gone ++ more ≡ all → collected gone ≡ with_all gone nothing_said
first_collected all gone more fine e = collected-law gone (faults_first gone more nothing_said (ap (faults_in nothing_said) e ∙ fine)).0

module _ (all : List Statement) (said : Said) (runs : Runs nothing_said all said) (deck_fine : deck_fault said ≡ None) where
  fine_behind : (lines before : List Line) (tss : List (List Statement)) (gone : List Statement) → told before ≡ gone → said_by before lines ≡ oks tss → Ended lines → LastQuiet tss → gone ++ all_of tss ≡ all
      → faults_in (with_all gone nothing_said) (all_of tss) ≡ None → fault_behind before lines ≡ None
  fine_behind [] before tss gone t e ended last whole fine = absurd ended
  fine_behind (line ∷ lines) before [] gone t e ended last whole fine = absurd last
  fine_behind (line ∷ []) before (s ∷ (u ∷ tss)) gone t e ended last whole fine = cc
  fine_behind (line ∷ []) before (s ∷ []) gone t e ended last whole fine =
      let says : line_says (place_of before) line ≡ Ok [] = same_head _ _ _ _ e ∙ ap (λ (x : List Statement). Ok x) last in
      let nothing : all_of (s ∷ []) ≡ [] = append-nil s ∙ last in
      let same : gone ≡ all = sym (append-nil gone) ∙ ap (λ (x : List Statement). gone ++ x) (sym nothing) ∙ whole in
      let known : collected gone ≡ said = ap collected same ∙ collected-law all runs.fine ∙ runs.knows in
      rw (end_fine before line gone says t (ap deck_fault known ∙ deck_fine), ended) refl
  fine_behind (line ∷ (m ∷ lines)) before (s ∷ []) gone t e ended last whole fine = cc
  fine_behind (line ∷ (m ∷ lines)) before (s ∷ (u ∷ tss)) gone t e ended last whole fine =
      let says = same_head _ _ _ _ e in
      let apart = faults_first s (all_of (u ∷ tss)) (with_all gone nothing_said) fine in
      let same : collected (told before) ≡ with_all gone nothing_said = ap collected t ∙ first_collected all gone (all_of (s ∷ (u ∷ tss))) runs.fine whole in
      let here = line_fine before line s (with_all gone nothing_said) says same apart.0 ended.0 in
      let next = told_push before line s says ∙ ap (λ (x : List Statement). x ++ s) t in
      let rest = fine_behind (m ∷ lines) (before ++ line ∷ []) (u ∷ tss) (gone ++ s) next (same_rest _ _ _ _ e) ended.1 last (append_assoc gone s (all_of (u ∷ tss)) ∙ whole)
      (ap (λ (x : Said). faults_in x (all_of (u ∷ tss))) (with_all_append gone s nothing_said) ∙ apart.1) in
      rw (here, ended.0) rest

no_lines_told : told [] ≡ []
unfolding told
no_lines_told = refl

fault_of_lines : (d : DeckValue) (bytes : List ℕ) (lines : List Line) → deck_lines bytes ≡ lines → length bytes ≤ 16777216 → fault_behind [] lines ≡ None → text_fault bytes ≡ None
unfolding text_fault
fault_of_lines d bytes lines e short fine = cond-false _ _ _ (le-ltb 16777216 (length bytes) short) ∙ ap first_broken e ∙ first_found lines ∙ fine

deck_of_lines : (bytes : List ℕ) (lines : List Line) (all : List Statement) → deck_lines bytes ≡ lines → counted lines ≡ lines → told lines ≡ all → text_deck bytes ≡ deck_value (collected all)
unfolding text_deck
deck_of_lines bytes lines all e c t = ap (λ (ls : List Line). deck_value (collected (told (counted ls)))) e ∙ ap (λ (ls : List Line). deck_value (collected (told ls))) c ∙ ap (λ (x : List Statement). deck_value (collected x)) t

told_all : (lines : List Line) (tss : List (List Statement)) → said_by [] lines ≡ oks tss → told lines ≡ all_of tss
unfolding told
told_all lines tss e = told_from lines [] tss e

-- where what is known behind all lines breaks no rule and is this deck, the text is a text of this deck
round_from : (d : DeckValue) → IsDeck d → HasWordNames d → HasObjectiveArcs d → deck_fault (normal_said d) ≡ None → deck_value (normal_said d) ≡ d → length (normal_text d) ≤ 16777216 → DeckText (normal_text d) d
round_from d deck names arcs deck_fine deck_back short =
    let says = told-law d deck names in
    let runs = run-law d deck arcs in
    let ended = normal_ended d in
    let back = back_quiet (section_told (map side_told (sides_of d))) (section_told (map range_told (ranges_of d))) (section_told (map bound_told (flat_map column_bounds d.columns))) (section_told (sets_told d)) (section_told (map (arc_told d) d.arcs)) in
    let quiet = quiet_push (front_told d) _ (quiet_push ([] ∷ columns_told d) (back_told d) back) in
    let same : collected (normal_statements d) ≡ normal_said d = collected-law (normal_statements d) runs.fine ∙ runs.knows in
    let whole = fine_behind (normal_statements d) (normal_said d) runs deck_fine (normal_lines d) [] (normal_told d) [] no_lines_told says ended quiet refl runs.fine in
    record {
      unbroken = fault_of_lines d (normal_text d) (normal_lines d) (normal-lines-law d deck names) short whole;
      deck = sym (deck_of_lines (normal_text d) (normal_lines d) (normal_statements d) (normal-lines-law d deck names) (counted_all (normal_lines d) ended) (told_all (normal_lines d) (normal_told d) says) ∙ ap deck_value same ∙ deck_back);
    }

pub round-law : (d : DeckValue) → IsDeckOfObjective d → HasWordNames d → length (normal_text d) ≤ 16777216 → DeckText (normal_text d) d
round-law d deck names short =
    let formed = deck.formed in
    let arcs = deck.objective_arcs in
    round_from d formed names arcs (deck-fine-law d formed arcs) (deck-back-law d formed arcs) short
