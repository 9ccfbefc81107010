-- The place behind one line more.
use Rattle.std.proofs.Common.{◌≡◌, ◌+◌, ◌-◌, Bool, true, false, ◌||◌, ◌&&◌, not, cond, if◌then◌else◌, List, [], ◌∷◌, ◌++◌, length, length-append, reverse, drop, Option, Some, None, refl, sym, ap, ◌∙◌, arith}
use Rattle.std.proofs.lemmas.List.{append-nil, reverse-append, drop-append-le, drop_all}
use Rattle.std.proofs.lemmas.List.Elements.{filter_map-append}
use Rattle.std.proofs.lemmas.List.Folds.{list_any-append}
use Rattle.std.specs.List.{after_last, filter_map, last_or, list_any, prefix_len, suffix_len}
use Rattle.std.specs.Option.{option_and_then, option_map_or, option_or}
use Rattle.um_statements.specs.Statements.{Name}
use Rattle.um_statements.proofs.LastBounds.{last_push, last_of_push}
use Rattle.um_decktext.specs.SetLines.{weights_told}
use Rattle.um_decktext.specs.declared.section.Section.{Section}
use Rattle.um_decktext.specs.declared.section.Section.TheVariants as section
use Rattle.um_decktext.specs.Sections.{is_section}
use Rattle.um_decktext.specs.Words.{Words}
use Rattle.um_decktext.specs.DeckLines.{Line, Skipped, Heading, Data, data_now, data_words, has_section, heading_of, is_heading, section_now}
use Rattle.um_decktext.specs.LineWords.{is_marker, is_objective_line, opens}
use Rattle.um_decktext.specs.Places.{Place, column_of, first_line, is_open, last_column, place_of, set_in}
use Rattle.um_mps.specs.Behind.{behind, behind_data, behind_section}

-- ---- the lines behind the last heading

suffix_push : {X : Type 0} (q : X → Bool) (xs : List X) (x : X) → suffix_len q (xs ++ x ∷ []) ≡ prefix_len q (x ∷ reverse xs)
suffix_push q xs x = ap (prefix_len q) (reverse-append xs (x ∷ []))

after_mark : {X : Type 0} (p : X → Bool) (xs : List X) (x : X) → p x ≡ true → after_last p (xs ++ x ∷ []) ≡ []
after_mark p xs x e =
    let none : suffix_len (λ y. not (p y)) (xs ++ x ∷ []) ≡ 0 = suffix_push (λ y. not (p y)) xs x ∙ ap (λ b. cond (not b) (1 + prefix_len (λ y. not (p y)) (reverse xs)) 0) e in
    drop_all _ (xs ++ x ∷ []) (omega (arith, none))

after_other : {X : Type 0} (p : X → Bool) (xs : List X) (x : X) → p x ≡ false → after_last p (xs ++ x ∷ []) ≡ after_last p xs ++ x ∷ []
after_other p xs x e =
    let more : suffix_len (λ y. not (p y)) (xs ++ x ∷ []) ≡ 1 + suffix_len (λ y. not (p y)) xs = suffix_push (λ y. not (p y)) xs x ∙ ap (λ b. cond (not b) (1 + prefix_len (λ y. not (p y)) (reverse xs)) 0) e in
    let long : length (xs ++ x ∷ []) ≡ length xs + 1 = length-append xs (x ∷ []) in
    let same : length (xs ++ x ∷ []) - suffix_len (λ y. not (p y)) (xs ++ x ∷ []) ≡ length xs - suffix_len (λ y. not (p y)) xs = omega (arith, more, long) in
    ap (λ n. drop n (xs ++ x ∷ [])) same ∙ drop-append-le (length xs - suffix_len (λ y. not (p y)) xs) xs (x ∷ []) (omega arith)

pub data_behind_heading : (before : List Line) (ws : Words) → data_now (before ++ Heading ws ∷ []) ≡ []
unfolding data_now
data_behind_heading before ws = ap (filter_map data_words) (after_mark is_heading before (Heading ws) refl)

pub data_behind_skipped : (before : List Line) → data_now (before ++ Skipped ∷ []) ≡ data_now before
unfolding data_now
data_behind_skipped before =
    ap (filter_map data_words) (after_other is_heading before Skipped refl) ∙ filter_map-append data_words (after_last is_heading before) (Skipped ∷ []) ∙ append-nil _

pub data_behind_data : (before : List Line) (ws : Words) → data_now (before ++ Data ws ∷ []) ≡ data_now before ++ ws ∷ []
unfolding data_now
data_behind_data before ws =
    ap (filter_map data_words) (after_other is_heading before (Data ws) refl) ∙ filter_map-append data_words (after_last is_heading before) (Data ws ∷ [])

-- ---- sections

pub section_behind : (before : List Line) (line : Line) → section_now (before ++ line ∷ []) ≡ option_or (heading_of line) (section_now before)
unfolding section_now
section_behind before line = last_of_push heading_of before line

has_behind : (s : Section) (before : List Line) (line : Line) → has_section s (before ++ line ∷ []) ≡ (has_section s before || is_section s (heading_of line))
has_behind s before line = list_any-append (λ l. is_section s (heading_of l)) before (line ∷ []) ∙ or_false (has_section s before) (is_section s (heading_of line))
  where
    or_false : (a b : Bool) → (a || (b || false)) ≡ (a || b)
    or_false true b = refl
    or_false false true = refl
    or_false false false = refl

-- ---- the place by its parts

-- what the place is in this section, behind these lines of it
abbrev place_in : (now : Option Section) (has_rows has_columns : Bool) (lines : List Words) → Place
place_in now has_rows has_columns lines = record {
  section = now;
  has_rows = has_rows;
  has_columns = has_columns;
  has_objective = is_section section.Rows now && list_any is_objective_line lines;
  in_block = is_section section.Columns now && is_open lines;
  column = if is_section section.Columns now then last_column lines else None;
  used = option_and_then (set_in now) (first_line lines);
  weights = if is_section section.Sos now then last_or None (filter_map weights_told lines) else None;
}

place_is : (before : List Line) → place_of before ≡ place_in (section_now before) (has_section section.Rows before) (has_section section.Columns before) (data_now before)
unfolding place_of
place_is before = refl

parts_behind : (before : List Line) (line : Line) (lines : List Words) → data_now (before ++ line ∷ []) ≡ lines
    → place_of (before ++ line ∷ [])
    ≡ place_in (option_or (heading_of line) (section_now before)) (has_section section.Rows before || is_section section.Rows (heading_of line)) (has_section section.Columns before || is_section section.Columns (heading_of line)) lines
parts_behind before line lines same =
    place_is (before ++ line ∷ [])
    ∙ (λ i. place_in (section_behind before line i) (has_behind section.Rows before line i) (has_behind section.Columns before line i) (same i))

-- ---- each sort of lines

or_nothing : (b : Bool) → (b || false) ≡ b
or_nothing true = refl
or_nothing false = refl

behind_skipped : (before : List Line) → place_of (before ++ Skipped ∷ []) ≡ place_of before
behind_skipped before =
    parts_behind before Skipped (data_now before) (data_behind_skipped before)
    ∙ (λ i. place_in (section_now before) (or_nothing (has_section section.Rows before) i) (or_nothing (has_section section.Columns before) i) (data_now before))
    ∙ sym (place_is before)

-- a place without a set
abbrev setless : (now : Option Section) (a b has_objective in_block : Bool) (column : Option Name) (weights : Option Bool) → Place
setless now a b has_objective in_block column weights = record { section = now; has_rows = a; has_columns = b; has_objective = has_objective; in_block = in_block; column = column; used = None; weights = weights }

and_false : (b : Bool) → (b && false) ≡ false
and_false true = refl
and_false false = refl

either : {A : Type 0} (b : Bool) (x : A) → (if b then x else x) ≡ x
either true x = refl
either false x = refl

nothing_in : (now : Option Section) (a b : Bool) → place_in now a b [] ≡ setless now a b false false None None
nothing_in now a b = λ i.
    setless now a b (and_false (is_section section.Rows now) i) (and_false (is_section section.Columns now) i)
    (either (is_section section.Columns now) None i) (either (is_section section.Sos now) None i)

behind_head : (before : List Line) (ws : Words) → place_of (before ++ Heading ws ∷ []) ≡ behind (Heading ws) (place_of before)
behind_head before ws =
    parts_behind before (Heading ws) [] (data_behind_heading before ws)
    ∙ nothing_in _ _ _
    ∙ sym (ap (behind_section (heading_of (Heading ws))) (place_is before))

-- one line more of a section
any_push : (lines : List Words) (ws : Words) → list_any is_objective_line (lines ++ ws ∷ []) ≡ (list_any is_objective_line lines || is_objective_line ws)
any_push lines ws = list_any-append is_objective_line lines (ws ∷ []) ∙ ap (λ b. list_any is_objective_line lines || b) (or_nothing (is_objective_line ws))

open_push : (lines : List Words) (ws : Words) → is_open (lines ++ ws ∷ []) ≡ (if is_marker ws then opens ws else is_open lines)
open_push lines ws = ap (λ o. option_map_or opens o false) (last_of_push marker lines ws) ∙ by (is_marker ws)
  where
    marker : Words → Option Words
    marker ws = if is_marker ws then Some ws else None

    by : (b : Bool) → option_map_or opens (option_or (if b then Some ws else None) (last_or None (filter_map marker lines))) false ≡ (if b then opens ws else is_open lines)
    by true = refl
    by false = refl

column_push : (lines : List Words) (ws : Words) → last_column (lines ++ ws ∷ []) ≡ column_of ws
column_push lines ws = ap (option_and_then column_of) (last_push None lines ws)

data_push : (now : Option Section) (a b : Bool) (lines : List Words) (ws : Words) → place_in now a b (lines ++ ws ∷ []) ≡ behind_data now ws (place_in now a b lines)
data_push (Some section.Rows) a b [] ws = λ i. setless (Some section.Rows) a b (any_push [] ws i) false None None
data_push (Some section.Rows) a b (l ∷ lines) ws = λ i. setless (Some section.Rows) a b (any_push (l ∷ lines) ws i) false None None
data_push (Some section.Columns) a b [] ws = λ i. setless (Some section.Columns) a b false (open_push [] ws i) (column_push [] ws i) None
data_push (Some section.Columns) a b (l ∷ lines) ws = λ i. setless (Some section.Columns) a b false (open_push (l ∷ lines) ws i) (column_push (l ∷ lines) ws i) None
data_push (Some section.Sos) a b [] ws = λ i. setless (Some section.Sos) a b false false None (last_of_push weights_told [] ws i)
data_push (Some section.Sos) a b (l ∷ lines) ws = λ i. setless (Some section.Sos) a b false false None (last_of_push weights_told (l ∷ lines) ws i)
data_push other a b [] ws = refl
data_push other a b (l ∷ lines) ws = refl

section_is : (before : List Line) → (place_of before).section ≡ section_now before
section_is before = ap (λ (p : Place). p.section) (place_is before)

behind_words : (before : List Line) (ws : Words) → place_of (before ++ Data ws ∷ []) ≡ behind (Data ws) (place_of before)
behind_words before ws =
    parts_behind before (Data ws) (data_now before ++ ws ∷ []) (data_behind_data before ws)
    ∙ (λ i. place_in (section_now before) (or_nothing (has_section section.Rows before) i) (or_nothing (has_section section.Columns before) i) (data_now before ++ ws ∷ []))
    ∙ data_push (section_now before) (has_section section.Rows before) (has_section section.Columns before) (data_now before) ws
    ∙ sym (ap (behind (Data ws)) (place_is before))

-- the place behind one line more
pub place_behind : (before : List Line) (line : Line) → place_of (before ++ line ∷ []) ≡ behind line (place_of before)
place_behind before Skipped = behind_skipped before
place_behind before (Heading ws) = behind_head before ws
place_behind before (Data ws) = behind_words before ws
