-- What the lines behind COLUMNS say.
use Rattle.std.proofs.Common.{◌≡◌, ℕ, ◌<◌, ◌≤◌, Bool, true, false, not, ◌&&◌, List, [], ◌∷◌, ◌++◌, append_assoc, map, Option, Some, None, is_some, ℤ, Ok, refl, sym, ap, ◌∙◌, subst, arith, codes, true≢false}
use Rattle.std.specs.List.{filter_map, flat_map, last_or, list_all}
use Rattle.std.proofs.lemmas.Bool.{and_left, and_parts, lt-ltb, not-true}
use Rattle.std.proofs.lemmas.List.{append-nil, map_push}
use Rattle.std.proofs.lemmas.List.Elements.{filter_map-append}
use Rattle.um_num.specs.declared.decimal.Decimal.{Decimal}
use Rattle.um_model.specs.Values.{DeckValue, ColumnValue, SetValue}
use Rattle.um_model.specs.WellFormed.{IsDeck, IsSet, IsMember, IsArc}
use Rattle.um_model.specs.declared.deck.Arc.{Arc}
use Rattle.um_model.specs.declared.deck.Member.{Member}
use Rattle.um_model.specs.declared.deck.SetKind.{SetKind}
use Rattle.um_model.specs.declared.deck.SetKind.TheVariants.{S1, S2}
use Rattle.um_statements.specs.declared.parts.BoundKind.{BoundKind}
use Rattle.um_statements.specs.declared.parts.BoundKind.TheVariants.{Up, Lo, Fr, Mi, Sc}
use Rattle.um_statements.specs.Statements.{Name, Statement, Side, Range, Set}
use Rattle.um_statements.proofs.Grouped.{quiet}
use Rattle.um_decktext.specs.declared.section.Section.{Section}
use Rattle.um_decktext.specs.declared.section.Section.TheVariants as section
use Rattle.um_decktext.specs.Sections.{section_called, rank, is_section}
use Rattle.um_decktext.specs.Words.{Words}
use Rattle.um_decktext.specs.SetLines.{set_kind, set_says, arc_says, weights_told}
use Rattle.um_decktext.specs.DeckLines.{Line, Heading, Data}
use Rattle.um_statements.specs.Tells.{Says}
use Rattle.um_decktext.specs.LineWords.{set_of_bound, set_of_pairs}
use Rattle.um_decktext.specs.Places.{place_of, is_open, is_used, set_in}
use Rattle.um_decktext.specs.LinesSay.{line_says, data_line, pairs_line, bound_line}
use Rattle.um_make.specs.NormalLines.{Number, number_words, section_of, sides_of, sides_data, ranges_of, ranges_data, BoundPart, bound_line_of, bound_words, column_bounds, bounds_data, set_word, column_name, member_words, set_data, sets_data, arc_number, arc_line_of, arc_words, arcs_data, back_lines}
use Rattle.um_round.proofs.EachItem.{Each, Each-append, Each-from}
use Rattle.um_round.proofs.NormalTold.{section_told, side_told, range_told, bound_told, member_told, set_told, sets_told, arc_told_of, arc_told, back_told}
use Rattle.um_round.specs.Numerals.{written}
use Rattle.um_round.specs.Sayable.{HasWordNames, is_set_word}
use Rattle.um_round.proofs.LinesTold.{oks, said_by, place_in, said_in, each_append, oks-append, IsBehind, data_said, behind_all, last_push}
use Rattle.um_round.proofs.Headings.{IsLater, later_heading, behind_heading}
use Rattle.um_round.proofs.ColumnsTold.{same_name}
use Rattle.um_round.proofs.Numerals.{numeral-law}
use Rattle.um_round.proofs.WordLines.{IsFine, IsSmall, HasFineRows, fine_rows, fine_sides, fine_ranges, FitsKind, IsFineBound, fine_bounds, fine_arc}

-- ---- a section that is left out where it has no line

-- where a section of a rank above `most` may begin
pub record IsReady (before : List Line) (most : ℕ) : Type 0 where
  pub last : Section
  pub words : List Words
  pub behind : IsBehind before last words true
  pub low : rank last ≤ most
  pub closed : (is_section section.Columns (Some last) && is_open words) ≡ false

pub record IsRead (before lines : List Line) (told : List (List Statement)) (most : ℕ) : Type 0 where
  pub says : said_by before lines ≡ oks told
  pub ready : IsReady (before ++ lines) most

module _ (before : List Line) (most : ℕ) (now : Section) (title : Name) (called : section_called title ≡ Some now) (later : IsLater now) (up : most < rank now) where
  heading_says : IsReady before most → line_says (place_of before) (Heading (title ∷ [])) ≡ Ok []
  heading_says r =
      later_heading before r.last now r.words title r.behind called (lt-ltb (rank r.last) (rank now) (omega (arith, r.low, up))) later r.closed

  section_read : (wss : List Words) (told : List (List Statement)) → said_in now true [] wss ≡ oks told → IsReady before most → IsRead before (section_of title wss) (section_told told) (rank now)
  section_read [] [] e r = record { says = refl; ready = subst (λ (ls : List Line). IsReady ls (rank now)) (sym (append-nil before)) (record { last = r.last; words = r.words; behind = r.behind; low = omega (arith, r.low, up); closed = r.closed }) }
  section_read [] (t ∷ told) e r = cc
  section_read (ws ∷ wss) [] e r = cc
  section_read (ws ∷ wss) (t ∷ told) e r =
      let heading = Heading (title ∷ []) in
      let behind : IsBehind (before ++ heading ∷ []) now [] true = behind_heading before r.last now r.words true title r.behind called in
      let rest : said_by (before ++ heading ∷ []) (map Data (ws ∷ wss)) ≡ oks (t ∷ told) = data_said (ws ∷ wss) (before ++ heading ∷ []) now [] true behind ∙ e in
      record {
        says = ap (λ (s : Says). s ∷ said_by (before ++ heading ∷ []) (map Data (ws ∷ wss))) (heading_says r) ∙ ap (λ (more : List Says). Ok [] ∷ more) rest;
        ready = record {
          last = now;
          words = ws ∷ wss;
          behind = subst (λ (ls : List Line). IsBehind ls now (ws ∷ wss) true) (append_assoc before (heading ∷ []) (map Data (ws ∷ wss))) (behind_all (ws ∷ wss) (before ++ heading ∷ []) now [] true behind);
          low = omega arith;
          closed = and_left _ _ later.columns;
        };
      }

-- ---- RHS and RANGES

-- lines of one set in a section of pairs
abbrev IsPairs : Section → Type 0
IsPairs s = (ws : Words) → set_in (Some s) ws ≡ Some (set_of_pairs ws)

pair_line : (s : Section) → IsPairs s → (says : Name → Decimal → Statement) (set : Name) (ms : List Number) (n : Number) → IsFine n → pairs_line says (place_in s true (map (number_words set) ms)) (number_words set n) ≡ Ok (says n.0 (written n.1 n.2) ∷ [])
pair_line s is says set [] n fine = rw (numeral-law n.1 n.2 fine.size fine.scale) refl
pair_line s is says set (m ∷ ms) n fine = rw (is (number_words set m), same_name set, numeral-law n.1 n.2 fine.size fine.scale) refl

sides_say : (set : Name) (ns ms : List Number) → Each IsFine ns → said_in section.Rhs true (map (number_words set) ms) (map (number_words set) ns) ≡ oks (map side_told ns)
sides_say set [] ms fine = refl
sides_say set (n ∷ ns) ms fine =
    ap (λ (s : Says). s ∷ said_in section.Rhs true (map (number_words set) ms ++ number_words set n ∷ []) (map (number_words set) ns)) (pair_line section.Rhs (λ ws. refl) Side set ms n fine.0)
    ∙ ap (λ (before : List Words). Ok (side_told n) ∷ said_in section.Rhs true before (map (number_words set) ns)) (sym (map_push (number_words set) ms n))
    ∙ ap (λ (more : List Says). Ok (side_told n) ∷ more) (sides_say set ns (ms ++ n ∷ []) fine.1)

ranges_say : (set : Name) (ns ms : List Number) → Each IsFine ns → said_in section.Ranges true (map (number_words set) ms) (map (number_words set) ns) ≡ oks (map range_told ns)
ranges_say set [] ms fine = refl
ranges_say set (n ∷ ns) ms fine =
    ap (λ (s : Says). s ∷ said_in section.Ranges true (map (number_words set) ms ++ number_words set n ∷ []) (map (number_words set) ns)) (pair_line section.Ranges (λ ws. refl) Range set ms n fine.0)
    ∙ ap (λ (before : List Words). Ok (range_told n) ∷ said_in section.Ranges true before (map (number_words set) ns)) (sym (map_push (number_words set) ms n))
    ∙ ap (λ (more : List Says). Ok (range_told n) ∷ more) (ranges_say set ns (ms ++ n ∷ []) fine.1)

-- ---- BOUNDS

set_is : (kind : BoundKind) (column : Name) (value : Option ℤ) → FitsKind kind value → set_of_bound (bound_line_of kind column value) ≡ Some (codes "BND")
set_is Fr column None h = refl
set_is Mi column None h = refl
set_is Lo column (Some z) h = refl
set_is Up column (Some z) h = refl
set_is Sc column (Some z) h = refl
set_is kind column value h = absurd h

used_is : (gone : List BoundPart) (b : BoundPart) → Each IsFineBound gone → IsFineBound b → is_used (place_in section.Bounds true (map bound_words gone)) (set_of_bound (bound_words b)) ≡ true
used_is [] b h k = refl
used_is (a ∷ gone) b h k = rw (set_is a.1 a.0 a.2 h.0.fits, set_is b.1 b.0 b.2 k.fits) refl

bound_says_as : (before : List Words) (kind : BoundKind) (column : Name) (value : Option ℤ) → FitsKind kind value → is_used (place_in section.Bounds true before) (set_of_bound (bound_line_of kind column value)) ≡ true
    → bound_line (place_in section.Bounds true before) (bound_line_of kind column value) ≡ Ok (bound_told (column, kind, value))
bound_says_as before Fr column None h used = rw used refl
bound_says_as before Mi column None h used = rw used refl
bound_says_as before Lo column (Some z) h used = rw (used, numeral-law 3 z h (omega arith)) refl
bound_says_as before Up column (Some z) h used = rw (used, numeral-law 3 z h (omega arith)) refl
bound_says_as before Sc column (Some z) h used = rw (used, numeral-law 3 z h (omega arith)) refl
bound_says_as before kind column value h used = absurd h

bounds_say : (bs gone : List BoundPart) → Each IsFineBound gone → Each IsFineBound bs → said_in section.Bounds true (map bound_words gone) (map bound_words bs) ≡ oks (map bound_told bs)
bounds_say [] gone h k = refl
bounds_say (b ∷ bs) gone h k =
    ap (λ (s : Says). s ∷ said_in section.Bounds true (map bound_words gone ++ bound_words b ∷ []) (map bound_words bs)) (bound_says_as (map bound_words gone) b.1 b.0 b.2 k.0.fits (used_is gone b h k.0))
    ∙ ap (λ (before : List Words). Ok (bound_told b) ∷ said_in section.Bounds true before (map bound_words bs)) (sym (map_push bound_words gone b))
    ∙ ap (λ (more : List Says). Ok (bound_told b) ∷ more) (bounds_say bs (gone ++ b ∷ []) (Each-append IsFineBound gone (b ∷ []) h (k.0, tt)) k.1)

-- ---- SOS

-- whether the members behind these lines have weights
abbrev weights_behind : List Words → Option Bool
weights_behind lines = last_or None (filter_map weights_told lines)

head_says : (wants : Option Bool) (kind : SetKind) (name : Name) → set_says wants (set_word kind ∷ name ∷ []) ≡ Ok (Set kind name None ∷ [])
head_says wants S1 name = refl
head_says wants S2 name = refl

head_weighs : (kind : SetKind) (name : Name) → weights_told (set_word kind ∷ name ∷ []) ≡ Some true
head_weighs S1 name = refl
head_weighs S2 name = refl

head_begins : (before : List Words) (kind : SetKind) (name : Name) → weights_behind (before ++ (set_word kind ∷ name ∷ []) ∷ []) ≡ Some true
head_begins before kind name =
    ap (last_or None) (filter_map-append weights_told before ((set_word kind ∷ name ∷ []) ∷ [])) ∙ rw (head_weighs kind name) (last_push None (filter_map weights_told before) true)

-- a member whose column's name begins no set, and whose weight is read as itself
record IsFineMember (columns : List ColumnValue) (m : Member) : Type 0 where
  begins_none : set_kind (column_name columns m.column) ≡ None
  size : IsSmall m.weight

no_kind : (o : Option SetKind) → is_some o ≡ false → o ≡ None
no_kind None h = refl
no_kind (Some kind) h = absurd (true≢false h)

member_says : (columns : List ColumnValue) (m : Member) → IsFineMember columns m → set_says (Some true) (member_words columns m) ≡ Ok (member_told columns m)
member_says columns m fine = rw (fine.begins_none, numeral-law 6 m.weight fine.size (omega arith)) refl

member_stays : (columns : List ColumnValue) (before : List Words) (m : Member) → IsFineMember columns m → weights_behind before ≡ Some true → weights_behind (before ++ member_words columns m ∷ []) ≡ Some true
member_stays columns before m fine weighs = ap (last_or None) (quiet weights_told before (member_words columns m) (rw fine.begins_none refl)) ∙ weighs

members_say : (columns : List ColumnValue) (ms : List Member) (before : List Words) → Each (IsFineMember columns) ms → weights_behind before ≡ Some true
    → said_in section.Sos true before (map (member_words columns) ms) ≡ oks (map (member_told columns) ms)
members_say columns [] before fine weighs = refl
members_say columns (m ∷ ms) before fine weighs =
    ap (λ (s : Says). s ∷ said_in section.Sos true (before ++ member_words columns m ∷ []) (map (member_words columns) ms)) (ap (λ wants. set_says wants (member_words columns m)) weighs ∙ member_says columns m fine.0)
    ∙ ap (λ (more : List Says). Ok (member_told columns m) ∷ more) (members_say columns ms (before ++ member_words columns m ∷ []) fine.1 (member_stays columns before m fine.0 weighs))

sets_say : (columns : List ColumnValue) (sets : List SetValue) (before : List Words) → Each (λ (s : SetValue). Each (IsFineMember columns) s.members) sets
    → said_in section.Sos true before (flat_map (set_data columns) sets) ≡ oks (flat_map (set_told columns) sets)
sets_say columns [] before fine = refl
sets_say columns (s ∷ sets) before fine =
    let head = set_word s.kind ∷ s.name ∷ [] in
    let here : said_in section.Sos true before (set_data columns s) ≡ oks (set_told columns s) =
    ap (λ (x : Says). x ∷ said_in section.Sos true (before ++ head ∷ []) (map (member_words columns) s.members)) (head_says (weights_behind before) s.kind s.name)
    ∙ ap (λ (more : List Says). Ok (Set s.kind s.name None ∷ []) ∷ more) (members_say columns s.members (before ++ head ∷ []) fine.0 (head_begins before s.kind s.name)) in
    each_append (λ before ws. data_line (Some section.Sos) (place_in section.Sos true before) ws ∷ []) before (set_data columns s) (flat_map (set_data columns) sets)
    ∙ ap (λ (x : List Says). x ++ said_in section.Sos true (before ++ set_data columns s) (flat_map (set_data columns) sets)) here
    ∙ ap (λ (x : List Says). oks (set_told columns s) ++ x) (sets_say columns sets (before ++ set_data columns s) fine.1)
    ∙ sym (oks-append (set_told columns s) (flat_map (set_told columns) sets))

fine_members : (d : DeckValue) (sets : List SetValue) → Each (IsSet d) sets → list_all (λ (s : SetValue). list_all (λ (m : Member). not (is_set_word (column_name d.columns m.column))) s.members) sets ≡ true
    → Each (λ (s : SetValue). Each (IsFineMember d.columns) s.members) sets
fine_members d [] h t = tt
fine_members d (s ∷ sets) h t =
    let both = and_parts (list_all (λ (m : Member). not (is_set_word (column_name d.columns m.column))) s.members) _ t in
    (by s.members (Each-from (IsMember d) s.members h.0.members) both.0, fine_members d sets h.1 both.1)
  where
    by : (ms : List Member) → Each (IsMember d) ms → list_all (λ (m : Member). not (is_set_word (column_name d.columns m.column))) ms ≡ true → Each (IsFineMember d.columns) ms
    by [] h t = tt
    by (m ∷ ms) h t =
        let both = and_parts (not (is_set_word (column_name d.columns m.column))) _ t in
        (record { begins_none = no_kind _ (not-true _ both.0); size = omega (arith, h.0.weight) }, by ms h.1 both.1)

-- ---- ARCS

arc_line_says : (column : Name) (n : Number) → IsFine n → arc_says (arc_line_of column n) ≡ Ok (arc_told_of column n)
arc_line_says column n fine = rw (numeral-law n.1 n.2 fine.size fine.scale) refl

arcs_say : (d : DeckValue) → HasFineRows d → (arcs : List Arc) (before : List Words) → Each (IsArc d) arcs → said_in section.Arcs true before (map (arc_words d) arcs) ≡ oks (map (arc_told d) arcs)
arcs_say d fine [] before h = refl
arcs_say d fine (a ∷ arcs) before h =
    let number = fine_arc d fine a.row a.value h.0.row (omega (arith, h.0.size)) in
    ap (λ (s : Says). s ∷ said_in section.Arcs true (before ++ arc_words d a ∷ []) (map (arc_words d) arcs)) (arc_line_says (column_name d.columns a.column) (arc_number d a.row a.value) number)
    ∙ ap (λ (more : List Says). Ok (arc_told d a) ∷ more) (arcs_say d fine arcs (before ++ arc_words d a ∷ []) h.1)

-- ---- all

pub back_said : (d : DeckValue) → IsDeck d → HasWordNames d → (before : List Line) → IsReady before 3 → said_by before (back_lines d) ≡ oks (back_told d)
back_said d deck named before ready =
    let fine = fine_rows d deck named in
    let s1 = section_of (codes "RHS") (sides_data d) in
    let s2 = section_of (codes "RANGES") (ranges_data d) in
    let s3 = section_of (codes "BOUNDS") (bounds_data d) in
    let s4 = section_of (codes "SOS") (sets_data d) in
    let s5 = section_of (codes "ARCS") (arcs_data d) in
    let b1 = before ++ s1 in
    let b2 = b1 ++ s2 in
    let b3 = b2 ++ s3 in
    let b4 = b3 ++ s4 in
    let b5 = b4 ++ s5 in
    let r1 = section_read before 3 section.Rhs (codes "RHS") refl (record { name = refl; objsense = refl; columns = refl }) (omega arith) (sides_data d) (map side_told (sides_of d)) (sides_say (codes "RHS") (sides_of d) [] (fine_sides d deck fine)) ready in
    let r2 = section_read b1 4 section.Ranges (codes "RANGES") refl (record { name = refl; objsense = refl; columns = refl }) (omega arith) (ranges_data d) (map range_told (ranges_of d)) (ranges_say (codes "RNG") (ranges_of d) [] (fine_ranges d fine)) r1.ready in
    let r3 = section_read b2 5 section.Bounds (codes "BOUNDS") refl (record { name = refl; objsense = refl; columns = refl }) (omega arith) (bounds_data d) (map bound_told (flat_map column_bounds d.columns)) (bounds_say (flat_map column_bounds d.columns) [] tt (fine_bounds d deck named)) r2.ready in
    let r4 = section_read b3 6 section.Sos (codes "SOS") refl (record { name = refl; objsense = refl; columns = refl }) (omega arith) (sets_data d) (sets_told d) (sets_say d.columns d.sets [] (fine_members d d.sets (Each-from (IsSet d) d.sets deck.sets) named.members)) r3.ready in
    let r5 = section_read b4 7 section.Arcs (codes "ARCS") refl (record { name = refl; objsense = refl; columns = refl }) (omega arith) (arcs_data d) (map (arc_told d) d.arcs) (arcs_say d fine d.arcs [] (Each-from (IsArc d) d.arcs deck.arcs)) r4.ready in
    let last : said_by b5 (Heading (codes "ENDATA" ∷ []) ∷ []) ≡ oks ([] ∷ []) = ap (λ (s : Says). s ∷ []) (heading_says b5 8 section.Endata (codes "ENDATA") refl (record { name = refl; objsense = refl; columns = refl }) (omega arith) r5.ready) in
    both before s1 _ (section_told (map side_told (sides_of d))) _ r1.says
    (both b1 s2 _ (section_told (map range_told (ranges_of d))) _ r2.says
    (both b2 s3 _ (section_told (map bound_told (flat_map column_bounds d.columns))) _ r3.says
    (both b3 s4 _ (section_told (sets_told d)) _ r4.says
    (both b4 s5 _ (section_told (map (arc_told d) d.arcs)) _ r5.says last))))
  where
    both : (before xs ys : List Line) (told more : List (List Statement)) → said_by before xs ≡ oks told → said_by (before ++ xs) ys ≡ oks more → said_by before (xs ++ ys) ≡ oks (told ++ more)
    both before xs ys told more a b = each_append (λ before line. line_says (place_of before) line ∷ []) before xs ys ∙ ap (λ (s : List Says). s ++ said_by (before ++ xs) ys) a ∙ ap (λ (s : List Says). oks told ++ s) b ∙ sym (oks-append told more)
