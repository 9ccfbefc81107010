-- What lines say that stand one behind the other.
use Rattle.std.proofs.Common.{◌≡◌, suc, ◌-◌, ◌≤◌, Bool, true, false, ◌&&◌, ◌||◌, not, List, [], ◌∷◌, ◌++◌, append_assoc, length, length-append, drop, reverse, map, Option, Some, None, Ok, refl, sym, ap, ◌∙◌, subst, arith, if◌then◌else◌}
use Rattle.std.specs.List.{filter_map, list_any, last_or, after_last, suffix_len, prefix_len}
use Rattle.std.specs.Option.{option_and_then}
use Rattle.std.proofs.lemmas.List.{append-nil, reverse-append, drop_all, drop-append-le}
use Rattle.std.proofs.lemmas.List.Sums.{suffix_len-le-length}
use Rattle.std.proofs.lemmas.List.Elements.{filter_map-append}
use Rattle.std.proofs.lemmas.List.Folds.{list_any-append}
use Rattle.um_statements.specs.Statements.{Statement}
use Rattle.um_statements.proofs.Grouped.{quiet}
use Rattle.um_decktext.specs.declared.section.Section.{Section}
use Rattle.um_decktext.specs.declared.section.Section.TheVariants as section
use Rattle.um_decktext.specs.Sections.{is_section}
use Rattle.um_decktext.specs.Words.{Words}
use Rattle.um_decktext.specs.SetLines.{weights_told}
use Rattle.um_decktext.specs.DeckLines.{Line, Data, section_now, data_now, heading_of, data_words, is_heading, has_section}
use Rattle.um_statements.specs.Tells.{Says}
use Rattle.um_decktext.specs.LineWords.{is_objective_line}
use Rattle.um_decktext.specs.LinesSay.{line_says, data_line}
use Rattle.um_decktext.specs.Places.{Place, place_of, is_open, last_column, first_line, set_in}
use Rattle.um_decktext.specs.DeckText.{each_from}

abbrev pub oks : List (List Statement) → List Says
oks = map (λ told. Ok told)

-- what each of these lines says
abbrev pub said_by : List Line → List Line → List Says
said_by = each_from (λ before line. line_says (place_of before) line ∷ [])

-- the place in this section behind these of its data lines, where COLUMNS came or not
abbrev pub place_in : Section → Bool → List Words → Place
place_in s columns words = record {
  section = Some s;
  has_rows = true;
  has_columns = columns;
  has_objective = is_section section.Rows (Some s) && list_any is_objective_line words;
  in_block = is_section section.Columns (Some s) && is_open words;
  column = if is_section section.Columns (Some s) then last_column words else None;
  used = option_and_then (set_in (Some s)) (first_line words);
  weights = if is_section section.Sos (Some s) then last_or None (filter_map weights_told words) else None;
}

-- what each of these data lines of a section says
abbrev pub said_in : Section → Bool → List Words → List Words → List Says
said_in s columns = each_from (λ before ws. data_line (Some s) (place_in s columns before) ws ∷ [])

pub each_append : {A B : Type 0} (gives : List A → A → List B) (before xs ys : List A) → each_from gives before (xs ++ ys) ≡ each_from gives before xs ++ each_from gives (before ++ xs) ys
each_append gives before [] ys = ap (λ b. each_from gives b ys) (sym (append-nil before))
each_append {A = A} gives before (x ∷ xs) ys =
    let rest = each_append gives (before ++ x ∷ []) xs ys in
    let place : (before ++ x ∷ []) ++ xs ≡ before ++ x ∷ xs = append_assoc before (x ∷ []) xs in
    ap (λ more. gives before x ++ more) rest
    ∙ ap (λ (b : List A). gives before x ++ (each_from gives (before ++ x ∷ []) xs ++ each_from gives b ys)) place
    ∙ sym (append_assoc (gives before x) (each_from gives (before ++ x ∷ []) xs) (each_from gives (before ++ x ∷ xs) ys))

pub oks-append : (xs ys : List (List Statement)) → oks (xs ++ ys) ≡ oks xs ++ oks ys
oks-append [] ys = refl
oks-append (x ∷ xs) ys = ap (λ more. Ok x ∷ more) (oks-append xs ys)

-- ---- what is known of the lines before

pub last_push : {X : Type 0} (o : Option X) (xs : List X) (x : X) → last_or o (xs ++ x ∷ []) ≡ Some x
last_push o [] x = refl
last_push o (y ∷ xs) x = last_push (Some y) xs x

module _ {X : Type 0} (p : X → Bool) where
  prefix_push : (xs : List X) (x : X) → prefix_len p (x ∷ xs) ≡ (if p x then suc (prefix_len p xs) else 0)
  prefix_push xs x = by (p x) refl
    where
      by : (b : Bool) → p x ≡ b → prefix_len p (x ∷ xs) ≡ (if p x then suc (prefix_len p xs) else 0)
      by true e = rw e (omega arith)
      by false e = rw e refl

  suffix_push : (xs : List X) (x : X) → suffix_len p (xs ++ x ∷ []) ≡ (if p x then suc (suffix_len p xs) else 0)
  suffix_push xs x = ap (prefix_len p) (reverse-append xs (x ∷ [])) ∙ prefix_push (reverse xs) x

pub after_this : {X : Type 0} (p : X → Bool) (xs : List X) (x : X) → p x ≡ true → after_last p (xs ++ x ∷ []) ≡ []
after_this {X = X} p xs x t =
    let none : suffix_len (λ (y : X). not (p y)) (xs ++ x ∷ []) ≡ 0 = suffix_push (λ (y : X). not (p y)) xs x ∙ rw t refl in
    drop_all (length (xs ++ x ∷ []) - suffix_len (λ (y : X). not (p y)) (xs ++ x ∷ [])) (xs ++ x ∷ []) (omega (arith, none))

after_other : {X : Type 0} (p : X → Bool) (xs : List X) (x : X) → p x ≡ false → after_last p (xs ++ x ∷ []) ≡ after_last p xs ++ x ∷ []
after_other {X = X} p xs x f =
    let k = suffix_len (λ (y : X). not (p y)) xs in
    let more : suffix_len (λ (y : X). not (p y)) (xs ++ x ∷ []) ≡ suc k = suffix_push (λ (y : X). not (p y)) xs x ∙ rw f refl in
    let few : k ≤ length xs = suffix_len-le-length (λ (y : X). not (p y)) xs in
    let place : length (xs ++ x ∷ []) - suffix_len (λ (y : X). not (p y)) (xs ++ x ∷ []) ≡ length xs - k = omega (arith, more, length-append xs (x ∷ [])) in
    ap (λ n. drop n (xs ++ x ∷ [])) place ∙ drop-append-le (length xs - k) xs (x ∷ []) (omega arith)

-- the section, the data lines of the section so far, and whether ROWS and COLUMNS have come
pub record IsBehind (before : List Line) (s : Section) (words : List Words) (columns : Bool) : Type 0 where
  pub lines : data_now before ≡ words
  pub rows_came : has_section section.Rows before ≡ true
  pub columns_came : has_section section.Columns before ≡ columns
  pub section : section_now before ≡ Some s

pub place_is : (before : List Line) (s : Section) (words : List Words) (columns : Bool) → IsBehind before s words columns → place_of before ≡ place_in s columns words
unfolding place_of
place_is before s words columns b = rw (b.section, b.lines, b.rows_came, b.columns_came) refl

pub or_more : (a b : Bool) → a ≡ true → (a || b) ≡ true
or_more a b t = rw t refl

or_none : (a b : Bool) → b ≡ false → (a || b) ≡ a
or_none true b f = refl
or_none false b f = f

-- a data line more
pub behind_data : (before : List Line) (s : Section) (words : List Words) (columns : Bool) (ws : Words) → IsBehind before s words columns → IsBehind (before ++ Data ws ∷ []) s (words ++ ws ∷ []) columns
unfolding section_now data_now
behind_data before s words columns ws b = record {
  section = ap (last_or None) (quiet heading_of before (Data ws) refl) ∙ b.section;
  lines = ap (filter_map data_words) (after_other is_heading before (Data ws) refl) ∙ filter_map-append data_words (after_last is_heading before) (Data ws ∷ []) ∙ ap (λ (xs : List Words). xs ++ ws ∷ []) b.lines;
  rows_came = list_any-append _ before (Data ws ∷ []) ∙ or_more _ _ b.rows_came;
  columns_came = list_any-append _ before (Data ws ∷ []) ∙ or_none _ _ refl ∙ b.columns_came;
}

-- data lines are read in their section
pub data_said : (wss : List Words) (before : List Line) (s : Section) (words : List Words) (columns : Bool) → IsBehind before s words columns → said_by before (map Data wss) ≡ said_in s columns words wss
unfolding line_says
data_said [] before s words columns b = refl
data_said (ws ∷ wss) before s words columns b =
    let rest = data_said wss (before ++ Data ws ∷ []) s (words ++ ws ∷ []) columns (behind_data before s words columns ws b) in
    rw (place_is before s words columns b) (ap (λ (more : List Says). data_line (Some s) (place_in s columns words) ws ∷ more) rest)

pub behind_all : (wss : List Words) (before : List Line) (s : Section) (words : List Words) (columns : Bool) → IsBehind before s words columns → IsBehind (before ++ map Data wss) s (words ++ wss) columns
behind_all [] before s words columns b =
    let same : IsBehind before s words columns = b in
    subst (λ (ls : List Line). IsBehind ls s (words ++ []) columns) (sym (append-nil before)) (subst (λ (wss : List Words). IsBehind before s wss columns) (sym (append-nil words)) same)
behind_all (ws ∷ wss) before s words columns b =
    let rest = behind_all wss (before ++ Data ws ∷ []) s (words ++ ws ∷ []) columns (behind_data before s words columns ws b) in
    subst (λ (ls : List Line). IsBehind ls s (words ++ ws ∷ wss) columns) (append_assoc before (Data ws ∷ []) (map Data wss)) (subst (λ (vs : List Words). IsBehind ((before ++ Data ws ∷ []) ++ map Data wss) s vs columns) (append_assoc words (ws ∷ []) wss) rest)
