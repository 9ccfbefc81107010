-- The lines of a deck's normal text are lines of words.
use Rattle.std.proofs.Common.{◌≡◌, ℕ, zero, suc, ◌<◌, ◌≤◌, ◌^◌, Bool, true, false, not, List, [], ◌∷◌, ◌++◌, length, map, Option, Some, None, ℤ, pos, neg_ℤ, ◌≤ℤ◌, unsigned_abs, refl, ◌∙◌, arith, codes}
use Rattle.std.specs.List.{flat_map, list_all}
use Rattle.std.specs.Option.{ForSome}
use Rattle.std.specs.Bool.{⊤}
use Rattle.std.proofs.lemmas.Int.{ints}
use Rattle.std.proofs.lemmas.Bool.{and_parts, and_from, lt-ltb, not-true}
use Rattle.std.proofs.lemmas.List.Folds.{list_all-append, list_all-map}
use Rattle.um_model.specs.Values.{DeckValue, ColumnValue, SetValue}
use Rattle.um_model.specs.WellFormed.{IsDeck, IsRow, IsColumn, IsEntry, IsSet, IsMember, IsArc, KindFits, IsWithin}
use Rattle.um_model.specs.declared.deck.Row.{Row}
use Rattle.um_model.specs.declared.deck.Entry.{Entry}
use Rattle.um_model.specs.declared.deck.Arc.{Arc}
use Rattle.um_model.specs.declared.deck.Member.{Member}
use Rattle.um_model.specs.declared.deck.SetKind.{SetKind}
use Rattle.um_model.specs.declared.deck.SetKind.TheVariants.{S1, S2}
use Rattle.um_model.specs.declared.deck.Kind.{Kind}
use Rattle.um_model.specs.declared.deck.Kind.TheVariants.{Continuous, Integer, Semi}
use Rattle.um_text.specs.Words.{is_word, is_word_byte, has_bytes}
use Rattle.um_statements.specs.declared.parts.RowKind.{RowKind}
use Rattle.um_statements.specs.declared.parts.RowKind.TheVariants.{N, L, G, E}
use Rattle.um_statements.specs.declared.parts.BoundKind.{BoundKind}
use Rattle.um_statements.specs.declared.parts.BoundKind.TheVariants.{Up, Lo, Fx, Fr, Mi, Pl, Bv, Li, Ui, Sc}
use Rattle.um_statements.specs.Statements.{Name}
use Rattle.um_decktext.specs.Words.{Words}
use Rattle.um_decktext.specs.DeckLines.{Line, Heading, Data, deck_lines}
use Rattle.um_make.specs.NormalLines.{in_sense, is_zero_number, section_of, title_words, sense_lines, sides_kind, kind_word, row_words, rows_data, row_name, scale_of_row, Number, number_words, cost_numbers, entry_number, or_one, numbers_of, marker_words, marked, column_data, columns_data, first_side, side_numbers, constant_numbers, sides_of, sides_data, width, range_numbers, ranges_of, ranges_data, bound_name, BoundPart, bound_line_of, bound_words, ends_bounds, kind_bounds, column_bounds, bounds_data, set_word, column_name, member_words, set_data, sets_data, arc_number, arc_line_of, arc_words, arcs_data, front_lines, columns_lines, back_lines, normal_lines, normal_text}
use Rattle.um_make.specs.Numerals.{numeral}
use Rattle.um_round.specs.Sayable.{is_marker_word, HasWordNames}
use Rattle.um_round.proofs.EachItem.{Each, Each-append, Each-from, Each-true, Each-both, Each-map, Each-flat, Each-if}
use Rattle.um_round.proofs.LineBytes.{is_line, lines-law}
use Rattle.um_round.proofs.Numerals.{numeral_word}

abbrev is_words : Words → Bool
is_words ws = is_line (Data ws)

abbrev pub IsSmall : ℤ → Type 0
IsSmall z = unsigned_abs z < 10 ^ 30

small_word : (k : ℕ) (z : ℤ) → IsSmall z → is_word (numeral k z) ≡ true
small_word k z h = numeral_word k z (omega (arith, h))

pub small_in_sense : (maximise : Bool) (z : ℤ) → IsSmall z → IsSmall (in_sense maximise z)
small_in_sense true z h = omega (arith, ints, h)
small_in_sense false z h = h

-- ---- lists

two_words : (a b : List ℕ) → is_word a ≡ true → is_word b ≡ true → is_words (a ∷ b ∷ []) ≡ true
two_words a b s t = and_from _ _ s (and_from _ _ t refl)

three_words : (a b c : List ℕ) → is_word a ≡ true → is_word b ≡ true → is_word c ≡ true → is_words (a ∷ b ∷ c ∷ []) ≡ true
three_words a b c s t u = and_from _ _ s (and_from _ _ t (and_from _ _ u refl))

four_words : (a b c e : List ℕ) → is_word a ≡ true → is_word b ≡ true → is_word c ≡ true → is_word e ≡ true → is_words (a ∷ b ∷ c ∷ e ∷ []) ≡ true
four_words a b c e s t u v = and_from _ _ s (and_from _ _ t (and_from _ _ u (and_from _ _ v refl)))

both_data : (xs ys : List Words) → list_all is_words xs ≡ true → list_all is_words ys ≡ true → list_all is_words (xs ++ ys) ≡ true
both_data xs ys t u = list_all-append is_words xs ys ∙ and_from _ _ t u

all_words : (wss : List Words) → Each (λ ws. is_words ws ≡ true) wss → list_all is_words wss ≡ true
all_words [] h = refl
all_words (ws ∷ wss) h = and_from _ _ h.0 (all_words wss h.1)

-- ---- ROWS

kind_is_word : (k : RowKind) → is_word (kind_word k) ≡ true
kind_is_word N = refl
kind_is_word L = refl
kind_is_word G = refl
kind_is_word E = refl

row_in_words : (r : Row) → is_word r.name ≡ true → is_words (row_words r) ≡ true
row_in_words r t = two_words (kind_word (sides_kind r.low r.high)) r.name (kind_is_word (sides_kind r.low r.high)) t

rows_in_words : (rows : List Row) → list_all is_word (map (λ (r : Row). r.name) rows) ≡ true → list_all is_words (map row_words rows) ≡ true
rows_in_words [] t = refl
rows_in_words (r ∷ rows) t = let both = and_parts (is_word r.name) _ t in and_from _ _ (row_in_words r both.0) (rows_in_words rows both.1)

-- ---- COLUMNS

-- a number that is written as words, and read as itself
pub record IsFine (n : Number) : Type 0 where
  pub word : is_word n.0 ≡ true
  pub no_marker : is_marker_word n.0 ≡ false
  pub size : IsSmall n.2
  pub scale : n.1 ≤ 6

pub fine_words : (first : Name) (n : Number) → is_word first ≡ true → IsFine n → is_words (number_words first n) ≡ true
fine_words first n t f = three_words first n.0 (numeral n.1 n.2) t f.word (small_word n.1 n.2 f.size)

fine_lines : (first : Name) (ns : List Number) → is_word first ≡ true → Each IsFine ns → list_all is_words (map (number_words first) ns) ≡ true
fine_lines first ns t h = all_words (map (number_words first) ns) (Each-map IsFine (λ ws. is_words ws ≡ true) (number_words first) (λ n f. fine_words first n t f) ns h)

or_one_fine : (ns : List Number) (n : Number) → Each IsFine ns → IsFine n → Each IsFine (or_one ns n)
or_one_fine [] n h f = (f, tt)
or_one_fine (m ∷ more) n h f = h

marked_in_words : (kind : Kind) (wss : List Words) → list_all is_words wss ≡ true → list_all is_words (marked kind wss) ≡ true
marked_in_words Continuous wss t = t
marked_in_words Integer wss t = both_data wss (marker_words (codes "'INTEND'") ∷ []) t refl
marked_in_words (Semi threshold) wss t = t

-- what is known of the names of rows, and of the scale of each
pub record HasFineRows (d : DeckValue) : Type 0 where
  pub objective : is_word d.objective_name ≡ true
  pub no_marker : is_marker_word d.objective_name ≡ false
  pub scale : d.scale ≤ 6
  pub rows : Each (λ (r : Row). (is_word r.name ≡ true) × (is_marker_word r.name ≡ false) × IsRow r) d.rows

pub fine_rows : (d : DeckValue) → IsDeck d → HasWordNames d → HasFineRows d
fine_rows d deck named =
    let names = and_parts (is_word d.objective_name) _ named.rows in
    let others = and_parts (not (is_marker_word d.objective_name)) _ named.no_marker in
    record {
      objective = names.0;
      no_marker = not-true _ others.0;
      scale = deck.scale;
      rows = by d.rows names.1 others.1 (Each-from IsRow d.rows deck.rows);
    }
  where
    by : (rows : List Row) → list_all is_word (map (λ (r : Row). r.name) rows) ≡ true → list_all (λ name. not (is_marker_word name)) (map (λ (r : Row). r.name) rows) ≡ true → Each IsRow rows
        → Each (λ (r : Row). (is_word r.name ≡ true) × (is_marker_word r.name ≡ false) × IsRow r) rows
    by [] t u h = tt
    by (r ∷ rows) t u h =
        let word = and_parts (is_word r.name) _ t in
        let other = and_parts (not (is_marker_word r.name)) _ u in
        ((word.0, not-true _ other.0, h.0), by rows word.1 other.1 h.1)

pub fine_at : (rows : List Row) (i : ℕ) (z : ℤ) → i < length rows → Each (λ (r : Row). (is_word r.name ≡ true) × (is_marker_word r.name ≡ false) × IsRow r) rows → IsSmall z → IsFine (row_name rows i, scale_of_row rows i, z)
fine_at [] i z h k size = absurd (omega arith)
fine_at (r ∷ rows) zero z h k size = record { word = k.0.0; no_marker = k.0.1; size = size; scale = k.0.2.scale }
fine_at (r ∷ rows) (suc i) z h k size = let rest = fine_at rows i z (omega arith) k.1 size in record { word = rest.word; no_marker = rest.no_marker; size = rest.size; scale = rest.scale }

pub fine_numbers : (d : DeckValue) (c : ColumnValue) → HasFineRows d → IsColumn (length d.rows) c → Each IsFine (numbers_of d c)
fine_numbers d c fine is =
    let cost : IsSmall c.cost = omega (arith, is.cost) in
    let own : IsFine (d.objective_name, d.scale, in_sense d.maximise c.cost) = record { word = fine.objective; no_marker = fine.no_marker; size = small_in_sense d.maximise c.cost cost; scale = fine.scale } in
    let nothing : IsFine (d.objective_name, 0, pos 0) = record { word = fine.objective; no_marker = fine.no_marker; size = omega (arith, ints); scale = omega arith } in
    let entries = Each-map (IsEntry (length d.rows)) IsFine (entry_number d.rows) (λ (e : Entry) h. fine_at d.rows e.row e.value h.row fine.rows (omega (arith, h.size))) c.entries (Each-from (IsEntry (length d.rows)) c.entries is.entries) in
    or_one_fine (cost_numbers d c ++ map (entry_number d.rows) c.entries) (d.objective_name, 0, pos 0)
    (Each-append IsFine (cost_numbers d c) (map (entry_number d.rows) c.entries) (Each-if IsFine (is_zero_number (in_sense d.maximise c.cost)) (d.objective_name, d.scale, in_sense d.maximise c.cost) own) entries) nothing

column_in_words : (d : DeckValue) → HasFineRows d → (c : ColumnValue) → IsColumn (length d.rows) c → is_word c.name ≡ true → list_all is_words (column_data d c) ≡ true
column_in_words d fine c is name = marked_in_words c.kind (map (number_words c.name) (numbers_of d c)) (fine_lines c.name (numbers_of d c) name (fine_numbers d c fine is))

columns_in_words : (d : DeckValue) → HasFineRows d → (cs : List ColumnValue) → Each (IsColumn (length d.rows)) cs → Each (λ (c : ColumnValue). is_word c.name ≡ true) cs → list_all is_words (flat_map (column_data d) cs) ≡ true
columns_in_words d fine [] h k = refl
columns_in_words d fine (c ∷ cs) h k = both_data (column_data d c) (flat_map (column_data d) cs) (column_in_words d fine c h.0 k.0) (columns_in_words d fine cs h.1 k.1)

-- ---- RHS and RANGES

small_side : (low high : Option ℤ) → ForSome low (IsWithin (2 ^ 53)) → ForSome high (IsWithin (2 ^ 53)) → IsSmall (first_side low high)
small_side (Some low) high h k = omega (arith, h low refl)
small_side None (Some high) h k = omega (arith, k high refl)
small_side None None h k = omega (arith, ints)

small_width : (low high : Option ℤ) → ForSome low (IsWithin (2 ^ 53)) → ForSome high (IsWithin (2 ^ 53)) → IsSmall (width low high)
small_width (Some low) (Some high) h k = omega (arith, ints, h low refl, k high refl)
small_width (Some low) None h k = omega (arith, ints)
small_width None high h k = omega (arith, ints)

pub fine_sides : (d : DeckValue) → IsDeck d → HasFineRows d → Each IsFine (sides_of d)
fine_sides d deck fine =
    let constant_size : IsSmall d.constant = omega (arith, deck.constant) in
    let constant_sense = small_in_sense d.maximise d.constant constant_size in
    let z = neg_ℤ (in_sense d.maximise d.constant) in
    let constant : IsFine (d.objective_name, d.scale, z) = record { word = fine.objective; no_marker = fine.no_marker; size = omega (arith, ints, constant_sense); scale = fine.scale } in
    Each-append IsFine (flat_map side_numbers d.rows) (constant_numbers d)
    (Each-flat (λ (r : Row). (is_word r.name ≡ true) × (is_marker_word r.name ≡ false) × IsRow r) IsFine side_numbers
    (λ (r : Row) h. Each-if IsFine (is_zero_number (first_side r.low r.high)) (r.name, r.scale, first_side r.low r.high) (record { word = h.0; no_marker = h.1; size = small_side r.low r.high h.2.low h.2.high; scale = h.2.scale })) d.rows fine.rows)
    (Each-if IsFine (is_zero_number z) (d.objective_name, d.scale, z) constant)

pub fine_ranges : (d : DeckValue) → HasFineRows d → Each IsFine (ranges_of d)
fine_ranges d fine =
    Each-flat (λ (r : Row). (is_word r.name ≡ true) × (is_marker_word r.name ≡ false) × IsRow r) IsFine range_numbers
    (λ (r : Row) h. Each-if IsFine (is_zero_number (width r.low r.high)) (r.name, r.scale, width r.low r.high) (record { word = h.0; no_marker = h.1; size = small_width r.low r.high h.2.low h.2.high; scale = h.2.scale })) d.rows fine.rows

-- ---- BOUNDS

-- a bound that has a value where its kind needs one
abbrev pub FitsKind : BoundKind → Option ℤ → Type 0
FitsKind Fr None = ⊤
FitsKind Mi None = ⊤
FitsKind Lo (Some z) = IsSmall z
FitsKind Up (Some z) = IsSmall z
FitsKind Sc (Some z) = IsSmall z
FitsKind kind value = ⊥

pub record IsFineBound (b : BoundPart) : Type 0 where
  pub column : is_word b.0 ≡ true
  pub fits : FitsKind b.1 b.2

bound_named : (kind : BoundKind) → is_word (bound_name kind) ≡ true
bound_named Up = refl
bound_named Lo = refl
bound_named Fx = refl
bound_named Fr = refl
bound_named Mi = refl
bound_named Pl = refl
bound_named Bv = refl
bound_named Li = refl
bound_named Ui = refl
bound_named Sc = refl

value_small : (kind : BoundKind) (z : ℤ) → FitsKind kind (Some z) → IsSmall z
value_small Lo z h = h
value_small Up z h = h
value_small Sc z h = h
value_small other z h = absurd h

bound_in_words : (kind : BoundKind) (column : Name) (value : Option ℤ) → is_word column ≡ true → FitsKind kind value → is_words (bound_line_of kind column value) ≡ true
bound_in_words kind column None t h = three_words (bound_name kind) (codes "BND") column (bound_named kind) refl t
bound_in_words kind column (Some z) t h = four_words (bound_name kind) (codes "BND") column (numeral 3 z) (bound_named kind) refl t (small_word 3 z (value_small kind z h))

bounds_in_words : (bs : List BoundPart) → Each IsFineBound bs → list_all is_words (map bound_words bs) ≡ true
bounds_in_words bs h = all_words (map bound_words bs) (Each-map IsFineBound (λ ws. is_words ws ≡ true) bound_words (λ b f. bound_in_words b.1 b.0 b.2 f.column f.fits) bs h)

fine_ends : (column : Name) (low high : Option ℤ) → is_word column ≡ true → ForSome low (IsWithin (10 ^ 10)) → ForSome high (IsWithin (10 ^ 10)) → Each IsFineBound (ends_bounds column low high)
fine_ends column None None t h k = (record { column = t; fits = tt }, tt)
fine_ends column None (Some high) t h k = (record { column = t; fits = tt }, (record { column = t; fits = omega (arith, k high refl) }, tt))
fine_ends column (Some low) None t h k = Each-if IsFineBound (is_zero_number low) (column, Lo, Some low) (record { column = t; fits = omega (arith, h low refl) })
fine_ends column (Some low) (Some high) t h k = (record { column = t; fits = omega (arith, h low refl) }, (record { column = t; fits = omega (arith, k high refl) }, tt))

fine_kind : (column : Name) (kind : Kind) (low high : Option ℤ) → is_word column ≡ true → KindFits kind low high → ForSome low (IsWithin (10 ^ 10)) → ForSome high (IsWithin (10 ^ 10)) → Each IsFineBound (kind_bounds column kind low high)
fine_kind column Continuous low high t fits h k = fine_ends column low high t h k
fine_kind column Integer low high t fits h k = fine_ends column low high t h k
fine_kind column (Semi threshold) low None t fits h k = tt
fine_kind column (Semi threshold) low (Some high) t fits h k =
    let up : pos 0 ≤ℤ threshold = fits.2 in
    let below : threshold ≤ℤ high = fits.3 high refl in
    (record { column = t; fits = omega (arith, ints, up, below, k high refl) }, (record { column = t; fits = omega (arith, k high refl) }, tt))

pub fine_bounds : (d : DeckValue) → IsDeck d → HasWordNames d → Each IsFineBound (flat_map column_bounds d.columns)
fine_bounds d deck named =
    Each-flat (λ (c : ColumnValue). IsColumn (length d.rows) c × (is_word c.name ≡ true)) IsFineBound column_bounds
    (λ (c : ColumnValue) h. fine_kind c.name c.kind c.low c.high h.1 h.0.kind h.0.low h.0.high) d.columns
    (Each-both (IsColumn (length d.rows)) (λ (c : ColumnValue). is_word c.name ≡ true) d.columns (Each-from (IsColumn (length d.rows)) d.columns deck.columns) (Each-true (λ (c : ColumnValue). is_word c.name) d.columns named.columns))

-- ---- SOS

set_is_word : (k : SetKind) → is_word (set_word k) ≡ true
set_is_word S1 = refl
set_is_word S2 = refl

abbrev HasColumnWords : List ColumnValue → Type 0
HasColumnWords columns = Each (λ (c : ColumnValue). is_word c.name ≡ true) columns

column_named : (columns : List ColumnValue) (j : ℕ) → j < length columns → HasColumnWords columns → is_word (column_name columns j) ≡ true
column_named [] j h k = absurd (omega (arith, h))
column_named (c ∷ columns) zero h k = k.0
column_named (c ∷ columns) (suc j) h k = column_named columns j (omega (arith, h)) k.1

member_in_words : (d : DeckValue) → HasColumnWords d.columns → (m : Member) → IsMember d m → is_words (member_words d.columns m) ≡ true
member_in_words d columns m is = two_words (column_name d.columns m.column) (numeral 6 m.weight) (column_named d.columns m.column is.column columns) (small_word 6 m.weight (omega (arith, is.weight)))

set_in_words : (d : DeckValue) → HasColumnWords d.columns → (s : SetValue) → IsSet d s → is_word s.name ≡ true → Each (λ ws. is_words ws ≡ true) (set_data d.columns s)
set_in_words d columns s is name =
    (two_words (set_word s.kind) s.name (set_is_word s.kind) name, Each-map (IsMember d) (λ ws. is_words ws ≡ true) (member_words d.columns) (member_in_words d columns) s.members (Each-from (IsMember d) s.members is.members))

sets_in_words : (d : DeckValue) → IsDeck d → HasWordNames d → HasColumnWords d.columns → list_all is_words (sets_data d) ≡ true
sets_in_words d deck named columns =
    let each = Each-both (IsSet d) (λ (s : SetValue). is_word s.name ≡ true) d.sets (Each-from (IsSet d) d.sets deck.sets) (Each-true (λ (s : SetValue). is_word s.name) d.sets named.sets) in
    all_words (sets_data d) (Each-flat (λ (s : SetValue). IsSet d s × (is_word s.name ≡ true)) (λ ws. is_words ws ≡ true) (set_data d.columns) (λ s h. set_in_words d columns s h.0 h.1) d.sets each)

-- ---- ARCS

pub fine_arc : (d : DeckValue) → HasFineRows d → (row : Option ℕ) (z : ℤ) → ForSome row (λ i. i < length d.rows) → IsSmall z → IsFine (arc_number d row z)
fine_arc d fine None z h size = record { word = fine.objective; no_marker = fine.no_marker; size = small_in_sense d.maximise z size; scale = fine.scale }
fine_arc d fine (Some row) z h size = fine_at d.rows row z (h row refl) fine.rows size

arc_in_words : (column : Name) (n : Number) → is_word column ≡ true → IsFine n → is_words (arc_line_of column n) ≡ true
arc_in_words column n t fine = four_words (codes "Q") n.0 column (numeral n.1 n.2) refl fine.word t (small_word n.1 n.2 fine.size)

arcs_in_words : (d : DeckValue) → IsDeck d → HasFineRows d → HasColumnWords d.columns → list_all is_words (arcs_data d) ≡ true
arcs_in_words d deck fine columns =
    all_words (arcs_data d) (Each-map (IsArc d) (λ ws. is_words ws ≡ true) (arc_words d)
    (λ (a : Arc) is. arc_in_words (column_name d.columns a.column) (arc_number d a.row a.value) (column_named d.columns a.column is.column columns) (fine_arc d fine a.row a.value is.row (omega (arith, is.size)))) d.arcs (Each-from (IsArc d) d.arcs deck.arcs))

-- ---- lines

section_in_words : (title : Name) (wss : List Words) → is_line (Heading (title ∷ [])) ≡ true → list_all is_words wss ≡ true → list_all is_line (section_of title wss) ≡ true
section_in_words title [] h t = refl
section_in_words title (ws ∷ wss) h t = and_from _ _ h (list_all-map is_line Data (ws ∷ wss) ∙ t)

both_lines : (xs ys : List Line) → list_all is_line xs ≡ true → list_all is_line ys ≡ true → list_all is_line (xs ++ ys) ≡ true
both_lines xs ys t u = list_all-append is_line xs ys ∙ and_from _ _ t u

title_in_words : (name : Name) → list_all is_word_byte name ≡ true → is_line (Heading (title_words name)) ≡ true
title_in_words [] t = refl
title_in_words (b ∷ bs) t = and_from _ _ (and_from (has_bytes (b ∷ bs)) _ (some b bs) t) refl
  where
    some : (b : ℕ) (bs : List ℕ) → has_bytes (b ∷ bs) ≡ true
    some b bs = lt-ltb 0 (length (b ∷ bs)) (omega arith)

sense_in_words : (maximise : Bool) → list_all is_line (sense_lines maximise) ≡ true
sense_in_words true = refl
sense_in_words false = refl

pub lines_in_words : (d : DeckValue) → IsDeck d → HasWordNames d → list_all is_line (normal_lines d) ≡ true
unfolding normal_lines
lines_in_words d deck named =
    let fine = fine_rows d deck named in
    let names = and_parts (is_word d.objective_name) _ named.rows in
    let rows : list_all is_words (rows_data d) ≡ true = and_from _ _ (two_words (codes "N") d.objective_name refl fine.objective) (rows_in_words d.rows names.1) in
    let column_words = Each-true (λ (c : ColumnValue). is_word c.name) d.columns named.columns in
    let columns = columns_in_words d fine d.columns (Each-from (IsColumn (length d.rows)) d.columns deck.columns) column_words in
    let sides = fine_lines (codes "RHS") (sides_of d) refl (fine_sides d deck fine) in
    let ranges = fine_lines (codes "RNG") (ranges_of d) refl (fine_ranges d fine) in
    let bounds = bounds_in_words (flat_map column_bounds d.columns) (fine_bounds d deck named) in
    let back = both_lines (section_of (codes "RHS") (sides_data d)) _ (section_in_words (codes "RHS") (sides_data d) refl sides)
    (both_lines (section_of (codes "RANGES") (ranges_data d)) _ (section_in_words (codes "RANGES") (ranges_data d) refl ranges)
    (both_lines (section_of (codes "BOUNDS") (bounds_data d)) _ (section_in_words (codes "BOUNDS") (bounds_data d) refl bounds)
    (both_lines (section_of (codes "SOS") (sets_data d)) _ (section_in_words (codes "SOS") (sets_data d) refl (sets_in_words d deck named column_words))
    (both_lines (section_of (codes "ARCS") (arcs_data d)) _ (section_in_words (codes "ARCS") (arcs_data d) refl (arcs_in_words d deck fine column_words)) refl)))) in
    let middle : list_all is_line (columns_lines d) ≡ true = and_from _ _ refl (list_all-map is_line Data (columns_data d) ∙ columns) in
    let front : list_all is_line (front_lines d) ≡ true = and_from _ _ (title_in_words d.name named.name) (both_lines (sense_lines d.maximise) (section_of (codes "ROWS") (rows_data d)) (sense_in_words d.maximise) (section_in_words (codes "ROWS") (rows_data d) refl rows)) in
    both_lines (front_lines d) (columns_lines d ++ back_lines d) front (both_lines (columns_lines d) (back_lines d) middle back)

pub normal-lines-law : (d : DeckValue) → IsDeck d → HasWordNames d → deck_lines (normal_text d) ≡ normal_lines d
unfolding normal_text
normal-lines-law d deck named = lines-law (normal_lines d) (lines_in_words d deck named)
