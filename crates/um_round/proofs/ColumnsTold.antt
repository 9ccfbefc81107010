-- What the lines of COLUMNS say.
use Rattle.std.proofs.Common.{◌≡◌, ◌≢◌, ℕ, suc, Bool, true, false, List, [], ◌∷◌, ◌++◌, append_assoc, length, map, Option, Some, None, Ok, AllPairs, All, inl, inr, pos, refl, sym, ap, ◌∙◌, subst, arith, codes, if◌then◌else◌}
use Rattle.std.specs.Bool.{⊤}
use Rattle.std.specs.Str.{bytes_eq}
use Rattle.std.specs.List.{filter_map, last_or, flat_map}
use Rattle.std.specs.Option.{option_map_or, option_and_then, option_eq}
use Rattle.std.proofs.lemmas.Bool.{cases_Bool}
use Rattle.std.proofs.lemmas.List.{append-nil}
use Rattle.std.proofs.lemmas.List.Elements.{filter_map-append}
use Rattle.std.proofs.lemmas.Slice.Eq.{bytes_eq-Decides}
use Rattle.um_model.specs.Values.{DeckValue, ColumnValue}
use Rattle.um_model.specs.WellFormed.{IsDeck, IsColumn}
use Rattle.um_model.specs.declared.deck.Kind.{Kind}
use Rattle.um_model.specs.declared.deck.Kind.TheVariants.{Continuous, Integer, Semi}
use Rattle.um_statements.specs.Statements.{Name, Statement, Column}
use Rattle.um_statements.proofs.Grouped.{quiet}
use Rattle.um_decktext.specs.declared.section.Section.TheVariants as section
use Rattle.um_decktext.specs.Words.{Words, first_word}
use Rattle.um_decktext.specs.DeckLines.{Line, Heading, Data}
use Rattle.um_statements.specs.Tells.{Says}
use Rattle.um_decktext.specs.LineWords.{is_marker, opens}
use Rattle.um_decktext.specs.Places.{is_open, column_of, last_column}
use Rattle.um_decktext.specs.LinesSay.{data_line, column_line}
use Rattle.um_make.specs.NormalLines.{Number, number_words, numbers_of, or_one, cost_numbers, entry_number, marker_words, marked, column_data, columns_data, columns_lines, rows_data}
use Rattle.um_round.proofs.EachItem.{Each, Each-from}
use Rattle.um_round.proofs.NormalTold.{entry_told, numbers_told, column_told_as, column_told, columns_told}
use Rattle.um_round.specs.Sayable.{HasWordNames}
use Rattle.um_round.proofs.LinesTold.{oks, said_by, place_in, said_in, each_append, oks-append, IsBehind, data_said, behind_all, last_push}
use Rattle.um_round.proofs.Headings.{columns_heading, behind_heading}
use Rattle.um_round.proofs.Numerals.{numeral-law}
use Rattle.um_round.proofs.WordLines.{IsFine, HasFineRows, fine_rows, fine_numbers}

-- ---- names

pub same_name : (name : Name) → bytes_eq name name ≡ true
same_name name = (bytes_eq-Decides name name).1 refl

pub other_name : (a b : Name) → a ≢ b → bytes_eq a b ≡ false
other_name a b other = elim (cases_Bool (bytes_eq a b)) [ inl same ↦ absurd (other ((bytes_eq-Decides a b).0 same)) | inr none ↦ none ]

-- the names differ, each from all later ones
abbrev pub Apart : {X : Type 0} → (X → Name) → List X → Type 0
Apart name [] = ⊤
Apart name (x ∷ xs) = Each (λ y. bytes_eq (name x) (name y) ≡ false) xs × Apart name xs

pub Apart-from : {X : Type 0} (name : X → Name) (xs : List X) → AllPairs (λ (a : X) (b : X). name a ≢ name b) xs → Apart name xs
Apart-from name [] h = tt
Apart-from {X = X} name (x ∷ xs) h = (by xs (λ k e p. h 0 (suc k) e (omega arith) (omega (arith, p))), Apart-from name xs (λ i j e p q. h (suc i) (suc j) e (omega (arith, p)) (omega (arith, q))))
  where
    by : (ys : List X) → All (λ (b : X). name x ≢ name b) ys → Each (λ y. bytes_eq (name x) (name y) ≡ false) ys
    by [] k = tt
    by (y ∷ ys) k = (other_name (name x) (name y) (k 0 y (omega arith)), by ys (λ i e p. k (suc i) e (omega (arith, p))))

-- ---- what is known behind lines of COLUMNS

abbrev marker_of : Words → Option Words
marker_of ws = if is_marker ws then Some ws else None

record IsAt (words : List Words) (opened : Bool) (last : Option Name) : Type 0 where
  opened_is : is_open words ≡ opened
  last_is : last_column words ≡ last

at_entry : (words : List Words) (opened : Bool) (last : Option Name) (ws : Words) → IsAt words opened last → is_marker ws ≡ false → IsAt (words ++ ws ∷ []) opened (Some (first_word ws))
at_entry words opened last ws at entry = record {
  opened_is = ap (λ (os : List Words). option_map_or opens (last_or None os) false) (quiet marker_of words ws (rw entry refl)) ∙ at.opened_is;
  last_is = ap (option_and_then column_of) (last_push None words ws) ∙ rw entry refl;
}

at_marker : (words : List Words) (opened : Bool) (last : Option Name) (end : List ℕ) → IsAt words opened last → IsAt (words ++ marker_words end ∷ []) (bytes_eq end (codes "'INTORG'")) None
at_marker words opened last end at = record {
  opened_is = ap (λ (os : List Words). option_map_or opens (last_or None os) false) (filter_map-append marker_of words (marker_words end ∷ [])) ∙ ap (λ o. option_map_or opens o false) (last_push None (filter_map marker_of words) (marker_words end));
  last_is = ap (option_and_then column_of) (last_push None words (marker_words end));
}

-- ---- lines read

record Reads (words wss : List Words) (told : List (List Statement)) (opened : Bool) (last : Option Name) : Type 0 where
  says : said_in section.Columns true words wss ≡ oks told
  behind : IsAt (words ++ wss) opened last

read_none : (words : List Words) (opened : Bool) (last : Option Name) → IsAt words opened last → Reads words [] [] opened last
read_none words opened last at = record { says = refl; behind = subst (λ (ws : List Words). IsAt ws opened last) (sym (append-nil words)) at }

read_one : (words : List Words) (ws : Words) (told : List Statement) (opened : Bool) (last : Option Name) → column_line (place_in section.Columns true words) ws ≡ Ok told → IsAt (words ++ ws ∷ []) opened last → Reads words (ws ∷ []) (told ∷ []) opened last
read_one words ws told opened last e at = record { says = ap (λ (s : Says). s ∷ []) e; behind = at }

read_both : (words xs ys : List Words) (told more : List (List Statement)) (opened next : Bool) (last end : Option Name) → Reads words xs told opened last → Reads (words ++ xs) ys more next end → Reads words (xs ++ ys) (told ++ more) next end
read_both words xs ys told more opened next last end a b = record {
  says = each_append (λ before ws. data_line (Some section.Columns) (place_in section.Columns true before) ws ∷ []) words xs ys ∙ ap (λ (s : List Says). s ++ said_in section.Columns true (words ++ xs) ys) a.says ∙ ap (λ (s : List Says). oks told ++ s) b.says ∙ sym (oks-append told more);
  behind = subst (λ (ws : List Words). IsAt ws next end) (append_assoc words xs ys) b.behind;
}

-- ---- a column

first_line : (words : List Words) (opened : Bool) (last : Option Name) (column : Name) (n : Number) → IsAt words opened last → option_eq bytes_eq last (Some column) ≡ false → IsFine n
    → column_line (place_in section.Columns true words) (number_words column n) ≡ Ok (Column column opened ∷ entry_told n)
first_line words opened last column n at fresh fine = rw (fine.no_marker, numeral-law n.1 n.2 fine.size fine.scale, at.last_is, fresh, at.opened_is) refl

more_line : (words : List Words) (opened : Bool) (column : Name) (n : Number) → IsAt words opened (Some column) → IsFine n → column_line (place_in section.Columns true words) (number_words column n) ≡ Ok (entry_told n)
more_line words opened column n at fine = rw (fine.no_marker, numeral-law n.1 n.2 fine.size fine.scale, at.last_is, same_name column) refl

more_lines : (ns : List Number) (words : List Words) (opened : Bool) (column : Name) → IsAt words opened (Some column) → Each IsFine ns → Reads words (map (number_words column) ns) (map entry_told ns) opened (Some column)
more_lines [] words opened column at fine = read_none words opened (Some column) at
more_lines (n ∷ ns) words opened column at fine =
    let next = at_entry words opened (Some column) (number_words column n) at fine.0.no_marker in
    read_both words (number_words column n ∷ []) (map (number_words column) ns) (entry_told n ∷ []) (map entry_told ns) opened opened (Some column) (Some column)
    (read_one words (number_words column n) (entry_told n) opened (Some column) (more_line words opened column n at fine.0) next)
    (more_lines ns (words ++ number_words column n ∷ []) opened column next fine.1)

column_lines : (n : Number) (ns : List Number) (words : List Words) (opened : Bool) (last : Option Name) (column : Name) → IsAt words opened last → option_eq bytes_eq last (Some column) ≡ false → Each IsFine (n ∷ ns)
    → Reads words (map (number_words column) (n ∷ ns)) (numbers_told column opened (n ∷ ns)) opened (Some column)
column_lines n ns words opened last column at fresh fine =
    let next = at_entry words opened last (number_words column n) at fine.0.no_marker in
    read_both words (number_words column n ∷ []) (map (number_words column) ns) ((Column column opened ∷ entry_told n) ∷ []) (map entry_told ns) opened opened (Some column) (Some column)
    (read_one words (number_words column n) (Column column opened ∷ entry_told n) opened (Some column) (first_line words opened last column n at fresh fine.0) next)
    (more_lines ns (words ++ number_words column n ∷ []) opened column next fine.1)

-- the column that the line before the next column is of: none behind a marker
abbrev last_of : Kind → Name → Option Name
last_of Integer column = None
last_of other column = Some column

column_read : (kind : Kind) (column : Name) (n : Number) (ns : List Number) (words : List Words) (last : Option Name) → IsAt words false last → option_eq bytes_eq last (Some column) ≡ false → Each IsFine (n ∷ ns)
    → Reads words (marked kind (map (number_words column) (n ∷ ns))) (column_told_as kind column (n ∷ ns)) false (last_of kind column)
column_read Continuous column n ns words last at fresh fine = column_lines n ns words false last column at fresh fine
column_read (Semi threshold) column n ns words last at fresh fine = column_lines n ns words false last column at fresh fine
column_read Integer column n ns words last at fresh fine =
    let first = marker_words (codes "'INTORG'") in
    let end = marker_words (codes "'INTEND'") in
    let lines = map (number_words column) (n ∷ ns) in
    let told = numbers_told column true (n ∷ ns) in
    let inside : IsAt (words ++ first ∷ []) true None = at_marker words false last (codes "'INTORG'") at in
    let opening : Reads words (first ∷ []) ([] ∷ []) true None = read_one words first [] true None (rw at.opened_is refl) inside in
    let middle : Reads (words ++ first ∷ []) lines told true (Some column) = column_lines n ns (words ++ first ∷ []) true None column inside refl fine in
    let behind = middle.behind in
    let closing : Reads ((words ++ first ∷ []) ++ lines) (end ∷ []) ([] ∷ []) false None =
    read_one ((words ++ first ∷ []) ++ lines) end [] false None (rw behind.opened_is refl) (at_marker ((words ++ first ∷ []) ++ lines) true (Some column) (codes "'INTEND'") behind) in
    read_both words (first ∷ []) (lines ++ end ∷ []) ([] ∷ []) (told ++ [] ∷ []) true false None None opening
    (read_both (words ++ first ∷ []) lines (end ∷ []) told ([] ∷ []) true false (Some column) None middle closing)

-- ---- all columns

abbrev FirstFresh : Option Name → List ColumnValue → Type 0
FirstFresh last [] = ⊤
FirstFresh last (c ∷ cs) = option_eq bytes_eq last (Some c.name) ≡ false

none_fresh : (cs : List ColumnValue) → FirstFresh None cs
none_fresh [] = tt
none_fresh (c ∷ cs) = refl

next_fresh : (name : Name) (cs : List ColumnValue) → Each (λ (c : ColumnValue). bytes_eq name c.name ≡ false) cs → FirstFresh (Some name) cs
next_fresh name [] h = tt
next_fresh name (c ∷ cs) h = h.0

kind_fresh : (kind : Kind) (name : Name) (cs : List ColumnValue) → Each (λ (c : ColumnValue). bytes_eq name c.name ≡ false) cs → FirstFresh (last_of kind name) cs
kind_fresh Continuous name cs h = next_fresh name cs h
kind_fresh (Semi threshold) name cs h = next_fresh name cs h
kind_fresh Integer name cs h = none_fresh cs

pub or_one_some : (ns : List Number) (n : Number) → (m : Number) × (ms : List Number) × (or_one ns n ≡ m ∷ ms)
or_one_some [] n = (n, [], refl)
or_one_some (m ∷ ms) n = (m, ms, refl)

record Closes (d : DeckValue) (words : List Words) (cs : List ColumnValue) : Type 0 where
  last : Option Name
  reads : Reads words (flat_map (column_data d) cs) (flat_map (column_told d) cs) false last

columns_read : (d : DeckValue) (cs : List ColumnValue) (words : List Words) (last : Option Name) → IsAt words false last → FirstFresh last cs → Apart (λ (c : ColumnValue). c.name) cs
    → Each (λ (c : ColumnValue). Each IsFine (numbers_of d c)) cs → Closes d words cs
columns_read d [] words last at fresh apart fine = record { last = last; reads = read_none words false last at }
columns_read d (c ∷ cs) words last at fresh apart fine =
    let some = or_one_some (cost_numbers d c ++ map (entry_number d.rows) c.entries) (d.objective_name, 0, pos 0) in
    let here : Reads words (column_data d c) (column_told d c) false (last_of c.kind c.name) =
    subst (λ (ns : List Number). Reads words (marked c.kind (map (number_words c.name) ns)) (column_told_as c.kind c.name ns) false (last_of c.kind c.name)) (sym some.2)
    (column_read c.kind c.name some.0 some.1 words last at fresh (subst (λ (ns : List Number). Each IsFine ns) some.2 fine.0)) in
    let rest = columns_read d cs (words ++ column_data d c) (last_of c.kind c.name) here.behind (kind_fresh c.kind c.name cs apart.0) apart.1 fine.1 in
    record { last = rest.last; reads = read_both words (column_data d c) (flat_map (column_data d) cs) (column_told d c) (flat_map (column_told d) cs) false false (last_of c.kind c.name) rest.last here rest.reads }

at_start : IsAt [] false None
at_start = record { opened_is = refl; last_is = refl }

all_fine : (d : DeckValue) → HasFineRows d → (cs : List ColumnValue) → Each (IsColumn (length d.rows)) cs → Each (λ (c : ColumnValue). Each IsFine (numbers_of d c)) cs
all_fine d fine [] h = tt
all_fine d fine (c ∷ cs) h = (fine_numbers d c fine h.0, all_fine d fine cs h.1)

none_before : (cs : List ColumnValue) → FirstFresh None cs
none_before [] = tt
none_before (c ∷ cs) = refl

closes : (d : DeckValue) → IsDeck d → HasWordNames d → Closes d [] d.columns
closes d deck named =
    columns_read d d.columns [] None at_start (none_before d.columns) (Apart-from (λ (c : ColumnValue). c.name) d.columns deck.column_names)
    (all_fine d (fine_rows d deck named) d.columns (Each-from (IsColumn (length d.rows)) d.columns deck.columns))

-- the last block of integer columns is closed
pub columns_closed : (d : DeckValue) → IsDeck d → HasWordNames d → is_open (columns_data d) ≡ false
columns_closed d deck named = (closes d deck named).reads.behind.opened_is

pub columns_behind : (d : DeckValue) (before : List Line) → IsBehind before section.Rows (rows_data d) false → IsBehind (before ++ columns_lines d) section.Columns (columns_data d) true
columns_behind d before b =
    let heading = Heading (codes "COLUMNS" ∷ []) in
    subst (λ (ls : List Line). IsBehind ls section.Columns (columns_data d) true) (append_assoc before (heading ∷ []) (map Data (columns_data d)))
    (behind_all (columns_data d) (before ++ heading ∷ []) section.Columns [] true (behind_heading before section.Rows section.Columns (rows_data d) false (codes "COLUMNS") b refl))

pub columns_said : (d : DeckValue) → IsDeck d → HasWordNames d → (before : List Line) → IsBehind before section.Rows (rows_data d) false → said_by before (columns_lines d) ≡ oks ([] ∷ columns_told d)
columns_said d deck named before b =
    let heading = Heading (codes "COLUMNS" ∷ []) in
    let behind = behind_heading before section.Rows section.Columns (rows_data d) false (codes "COLUMNS") b refl in
    let rest : said_by (before ++ heading ∷ []) (map Data (columns_data d)) ≡ oks (columns_told d) = data_said (columns_data d) (before ++ heading ∷ []) section.Columns [] true behind ∙ (closes d deck named).reads.says in
    ap (λ (s : Says). s ∷ said_by (before ++ heading ∷ []) (map Data (columns_data d))) (columns_heading d before b) ∙ ap (λ (more : List Says). Ok [] ∷ more) rest
