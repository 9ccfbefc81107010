-- Parts of a normal text, one behind the other.
use Rattle.std.proofs.Common.{◌≡◌, ◌≢◌, ℕ, ◌+◌, ◌<◌, true, false, ◌||◌, List, [], ◌∷◌, ◌++◌, length, map, drop, get_or, append_assoc, append-nil, add-one, drop-cons, refl, sym, ap, ◌∙◌, codes}
use Rattle.std.specs.List.{flat_map, list_any}
use Rattle.std.proofs.lemmas.List.{map-append}
use Rattle.std.proofs.lemmas.List.Folds.{flat_map-map}
use Rattle.um_statements.specs.Statements.{Name}
use Rattle.um_decktext.specs.Words.{Words}
use Rattle.um_decktext.specs.DeckLines.{Line, Heading, Data}
use Rattle.um_model.specs.Values.{DeckValue, plain_column, plain_set}
use Rattle.um_model.specs.declared.deck.Column.{Column}
use Rattle.um_model.specs.declared.deck.Kind.TheVariants.{Integer}
use Rattle.um_model.specs.declared.deck.OrderedSet.{OrderedSet}
use Rattle.um_model.specs.declared.deck.Row.{Row}
use Rattle.um_text.specs.Texts.{line_rest, line_text, lines_text}
use Rattle.um_text.proofs.Puts.{lines_append, next_put}
use Rattle.um_make.specs.NormalLines.{arcs_data, back_lines, bound_words, bounds_data, column_bounds, column_data, columns_lines, constant_numbers, front_lines, line_words, marked, marker_words, normal_lines, normal_text, number_words, numbers_of, range_numbers, ranges_data, section_of, set_data, sets_data, side_numbers, sides_data}
use Rattle.um_make.specs.Printed.{data_text, has_some, text_of}

-- ---- one part behind the other

text_append : (xs ys : List Line) → text_of (xs ++ ys) ≡ text_of xs ++ text_of ys
text_append xs ys = ap lines_text (map-append line_words xs ys) ∙ lines_append (map line_words xs) (map line_words ys)

data_append : (xs ys : List Words) → data_text (xs ++ ys) ≡ data_text xs ++ data_text ys
data_append xs ys = ap text_of (map-append Data xs ys) ∙ text_append (map Data xs) (map Data ys)

next_part : (t u v : List ℕ) (xs ys : List Line) → u ≡ t ++ text_of xs → v ≡ u ++ text_of ys → v ≡ t ++ text_of (xs ++ ys)
next_part t u v xs ys e f = next_put t u v (text_of xs) (text_of ys) (text_of (xs ++ ys)) e f (text_append xs ys)

pub next_data : (t u v : List ℕ) (xs ys : List Words) → u ≡ t ++ data_text xs → v ≡ u ++ data_text ys → v ≡ t ++ data_text (xs ++ ys)
next_data t u v xs ys e f = next_put t u v (data_text xs) (data_text ys) (data_text (xs ++ ys)) e f (data_append xs ys)

heading_put : (t u : List ℕ) (ws : Words) → u ≡ t ++ line_text ws → u ≡ t ++ text_of (Heading ws ∷ [])
heading_put t u ws e = e ∙ ap (λ l. t ++ l) (sym (append-nil (line_text ws)))

-- the lines of an item are put, and those of the others are left
pub one_less : {X Y : Type 0} (f : Y → List Words) (g : X → Y) (xs : List X) (k : ℕ) (x : X) (t u w : List ℕ) → k < length xs → x ≡ get_or xs k x → u ≡ t ++ data_text (f (g x)) → t ++ data_text (flat_map f (map g (drop k xs))) ≡ w → u ++ data_text (flat_map f (map g (drop (k + 1) xs))) ≡ w
one_less f g xs k x t u w h is e left =
    let rest = drop (k + 1) xs in
    let first : drop k xs ≡ get_or xs k x ∷ drop (k + 1) xs = rw add-one (drop-cons xs k x h) in
    let cut : drop k xs ≡ x ∷ drop (k + 1) xs = first ∙ ap (λ y. y ∷ drop (k + 1) xs) (sym is) in
    ap (λ l. l ++ data_text (flat_map f (map g rest))) e
    ∙ append_assoc t (data_text (f (g x))) (data_text (flat_map f (map g rest)))
    ∙ ap (λ l. t ++ l) (sym (data_append (f (g x)) (flat_map f (map g rest))))
    ∙ ap (λ ys. t ++ data_text (flat_map f (map g ys))) (sym cut)
    ∙ left

-- ---- sections

pub no_section : (t : List ℕ) (title : Name) (wss : List Words) → has_some wss ≡ false → t ≡ t ++ text_of (section_of title wss)
no_section t title [] h = sym (append-nil t)
no_section t title (ws ∷ wss) h = absurd (cc)

pub section_put : (t u v : List ℕ) (title : Name) (wss : List Words) → has_some wss ≡ true → u ≡ t ++ line_text (title ∷ []) → v ≡ u ++ data_text wss → v ≡ t ++ text_of (section_of title wss)
section_put t u v title [] h e f = absurd (cc)
section_put t u v title (ws ∷ wss) h e f = next_part t u v (Heading (title ∷ []) ∷ []) (map Data (ws ∷ wss)) (heading_put t u (title ∷ []) e) f

some_append : {X : Type 0} (xs ys : List X) → has_some (xs ++ ys) ≡ (has_some xs || has_some ys)
some_append [] ys = refl
some_append (x ∷ xs) ys = refl

some_map : {X Y : Type 0} (f : X → Y) (xs : List X) → has_some (map f xs) ≡ has_some xs
some_map f [] = refl
some_map f (x ∷ xs) = refl

any_some : {X Y : Type 0} (f : X → List Y) (xs : List X) → has_some (flat_map f xs) ≡ list_any (λ x. has_some (f x)) xs
any_some f [] = refl
any_some f (x ∷ xs) = some_append (f x) (flat_map f xs) ∙ ap (λ b. has_some (f x) || b) (any_some f xs)

pub some_sides : (d : DeckValue) → has_some (sides_data d) ≡ (list_any (λ (r : Row). has_some (side_numbers r)) d.rows || has_some (constant_numbers d))
some_sides d =
    some_map (number_words (codes "RHS")) (flat_map side_numbers d.rows ++ constant_numbers d)
    ∙ some_append (flat_map side_numbers d.rows) (constant_numbers d)
    ∙ ap (λ b. b || has_some (constant_numbers d)) (any_some side_numbers d.rows)

pub some_ranges : (d : DeckValue) → has_some (ranges_data d) ≡ list_any (λ (r : Row). has_some (range_numbers r)) d.rows
some_ranges d = some_map (number_words (codes "RNG")) (flat_map range_numbers d.rows) ∙ any_some range_numbers d.rows

pub some_bounds : (d : DeckValue) (cs : List Column) → map plain_column cs ≡ d.columns → has_some (bounds_data d) ≡ list_any (λ (c : Column). has_some (column_bounds (plain_column c))) cs
some_bounds d cs e =
    some_map bound_words (flat_map column_bounds d.columns)
    ∙ ap (λ xs. has_some (flat_map column_bounds xs)) (sym e)
    ∙ ap has_some (flat_map-map column_bounds plain_column cs)
    ∙ any_some (λ (c : Column). column_bounds (plain_column c)) cs

pub some_sets : (d : DeckValue) (ss : List OrderedSet) → map plain_set ss ≡ d.sets → ss ≢ [] → has_some (sets_data d) ≡ true
some_sets d [] e some = absurd (some refl)
some_sets d (s ∷ ss) e some = ap (λ sets. has_some (flat_map (set_data d.columns) sets)) (sym e)

-- ---- right-hand sides

-- those of the rows, and then that of the objective
pub sides_put : (d : DeckValue) (t u v : List ℕ) → u ≡ t ++ data_text (map (number_words (codes "RHS")) (flat_map side_numbers d.rows)) → v ≡ u ++ data_text (map (number_words (codes "RHS")) (constant_numbers d)) → v ≡ t ++ data_text (sides_data d)
sides_put d t u v e f =
    let side_words = number_words (codes "RHS") in
    next_data t u v (map side_words (flat_map side_numbers d.rows)) (map side_words (constant_numbers d)) e f
    ∙ ap (λ wss. t ++ data_text wss) (sym (map-append side_words (flat_map side_numbers d.rows) (constant_numbers d)))

-- ---- columns

-- an integer column's lines stand between two markers
pub integer_put : (d : DeckValue) (c : Column) (t t1 t2 t3 : List ℕ) → c.kind ≡ Integer → t1 ≡ t ++ line_rest (marker_words (codes "'INTORG'")) → t2 ≡ t1 ++ data_text (map (number_words c.name) (numbers_of d (plain_column c))) → t3 ≡ t2 ++ line_rest (marker_words (codes "'INTEND'")) → t3 ≡ t ++ data_text (column_data d (plain_column c))
integer_put d c t t1 t2 t3 is e f g =
    let numbers = map (number_words c.name) (numbers_of d (plain_column c)) in
    let first : Words = marker_words (codes "'INTORG'") in
    let last : Words = marker_words (codes "'INTEND'") in
    let marker : t1 ≡ t ++ data_text (first ∷ []) = e ∙ ap (λ l. t ++ l) (sym (append-nil (line_rest first))) in
    let closed : t3 ≡ t2 ++ data_text (last ∷ []) = g ∙ ap (λ l. t2 ++ l) (sym (append-nil (line_rest last))) in
    next_data t t1 t3 (first ∷ []) (numbers ++ last ∷ []) marker (next_data t1 t2 t3 numbers (last ∷ []) f closed)
    ∙ ap (λ k. t ++ data_text (marked k numbers)) (sym is)

-- ---- the whole

pub back_put : (d : DeckValue) (t t1 t2 t3 t4 t5 t6 : List ℕ) → t1 ≡ t ++ text_of (section_of (codes "RHS") (sides_data d)) → t2 ≡ t1 ++ text_of (section_of (codes "RANGES") (ranges_data d)) → t3 ≡ t2 ++ text_of (section_of (codes "BOUNDS") (bounds_data d)) → t4 ≡ t3 ++ text_of (section_of (codes "SOS") (sets_data d)) → t5 ≡ t4 ++ text_of (section_of (codes "ARCS") (arcs_data d)) → t6 ≡ t5 ++ line_text (codes "ENDATA" ∷ []) → t6 ≡ t ++ text_of (back_lines d)
back_put d t t1 t2 t3 t4 t5 t6 e1 e2 e3 e4 e5 e6 =
    let end : List Line = Heading (codes "ENDATA" ∷ []) ∷ [] in
    let arcs = next_part t4 t5 t6 (section_of (codes "ARCS") (arcs_data d)) end e5 (heading_put t5 t6 (codes "ENDATA" ∷ []) e6) in
    let sets = next_part t3 t4 t6 (section_of (codes "SOS") (sets_data d)) _ e4 arcs in
    let bounds = next_part t2 t3 t6 (section_of (codes "BOUNDS") (bounds_data d)) _ e3 sets in
    let ranges = next_part t1 t2 t6 (section_of (codes "RANGES") (ranges_data d)) _ e2 bounds in
    next_part t t1 t6 (section_of (codes "RHS") (sides_data d)) _ e1 ranges

pub whole_text : (d : DeckValue) (t t1 t2 t3 : List ℕ) → t ≡ [] → t1 ≡ t ++ text_of (front_lines d) → t2 ≡ t1 ++ text_of (columns_lines d) → t3 ≡ t2 ++ text_of (back_lines d) → t3 ≡ normal_text d
unfolding normal_text normal_lines
whole_text d t t1 t2 t3 none e f g =
    let rest = next_part t1 t2 t3 (columns_lines d) (back_lines d) f g in
    let whole = next_part t t1 t3 (front_lines d) (columns_lines d ++ back_lines d) e rest in
    rw none at whole
