-- The statements of COLUMNS break no rule.
use Rattle.std.proofs.Common.{◌≡◌, ℕ, zero, suc, ◌+◌, ◌<◌, ◌≤◌, Bool, true, false, List, [], ◌∷◌, ◌++◌, append_assoc, length, length-append, map, position, Some, pos, refl, sym, ap, ◌∙◌, subst, arith, slice_index_or, AllPairs, if◌then◌else◌}
use Rattle.std.specs.Bool.{⊤}
use Rattle.std.specs.Str.{bytes_eq}
use Rattle.std.specs.List.{list_any, position_or_len, flat_map}
use Rattle.std.proofs.lemmas.Bool.{or_from, lt-leb, ne_eqb}
use Rattle.std.proofs.lemmas.List.{append-nil, length-map}
use Rattle.std.proofs.lemmas.Grind.{flat_map-append}
use Rattle.std.proofs.lemmas.List.Folds.{list_any-append}
use Rattle.um_model.specs.Values.{DeckValue, ColumnValue}
use Rattle.um_model.specs.WellFormed.{IsDeck, IsColumn, IsEntry}
use Rattle.um_model.specs.declared.deck.Row.{Row}
use Rattle.um_model.specs.declared.deck.Entry.{Entry}
use Rattle.um_model.specs.declared.deck.Kind.{Kind}
use Rattle.um_model.specs.declared.deck.Kind.TheVariants.{Continuous, Integer, Semi}
use Rattle.um_statements.specs.declared.parts.EntryPart.{EntryPart}
use Rattle.um_statements.specs.declared.parts.Ends.{Ends}
use Rattle.um_statements.specs.Statements.{Name, Statement, Column, EntryTold}
use Rattle.um_statements.specs.Said.{Said, RowSaid, ColumnSaid, row_place}
use Rattle.um_statements.specs.CallRules.{rules_of, with_statement, holds_row, last_has, change_last, bare_ends}
use Rattle.um_make.specs.NormalLines.{Number, in_sense, is_zero_number, or_one, cost_numbers, entry_number, numbers_of, row_name}
use Rattle.um_round.proofs.EachItem.{Each, Each-append, Each-from}
use Rattle.um_round.proofs.NormalTold.{entry_told, numbers_told, column_told_as, column_told, columns_told}
use Rattle.um_round.specs.Numerals.{written}
use Rattle.um_round.proofs.NormalSaid.{Runs, row_bare, bare_rows, part_of, column_bare, is_integer, behind_rows, behind_columns}
use Rattle.um_round.proofs.Runs.{run_none, run_one, run_both}
use Rattle.um_round.proofs.ColumnsTold.{Apart, Apart-from, same_name, or_one_some}
use Rattle.um_round.proofs.RowsRun.{place_on, position_none, position_at, other_way}

-- ---- the last item

pub last_has_push : {X : Type 0} (test : X → Bool) (xs : List X) (x : X) → last_has test (xs ++ x ∷ []) ≡ test x
last_has_push test [] x = refl
last_has_push test (y ∷ []) x = refl
last_has_push test (y ∷ (z ∷ xs)) x = last_has_push test (z ∷ xs) x

pub change_last_push : {X : Type 0} (change : X → X) (xs : List X) (x : X) → change_last change (xs ++ x ∷ []) ≡ xs ++ change x ∷ []
change_last_push change [] x = refl
change_last_push change (y ∷ []) x = refl
change_last_push {X = X} change (y ∷ (z ∷ xs)) x = ap (λ (more : List X). y ∷ more) (change_last_push change (z ∷ xs) x)

-- ---- a column

abbrev column_as : Name → Ends → List EntryPart → ColumnSaid
column_as name ends entries = record { name = name; ends = ends; entries = entries }

abbrev part : ℕ → Number → EntryPart
part place n = record { row = place; value = written n.1 n.2 }

module _ (title : Name) (maximise : Bool) (rows : List RowSaid) where
  abbrev state : List ColumnSaid → Said
  state columns = record { name = title; maximise = maximise; rows = rows; columns = columns; sets = []; arcs = [] }

  entry_run : (done : List ColumnSaid) (name : Name) (ends : Ends) (got : List EntryPart) (n : Number) (place : ℕ) → row_place rows n.0 ≡ Some place → holds_row place got ≡ false
      → Runs (state (done ++ column_as name ends got ∷ [])) (entry_told n) (state (done ++ column_as name ends (got ++ part place n ∷ []) ∷ []))
  unfolding rules_of with_statement
  entry_run done name ends got n place is fresh =
      run_one (state (done ++ column_as name ends got ∷ [])) (EntryTold n.0 (written n.1 n.2)) (state (done ++ column_as name ends (got ++ part place n ∷ []) ∷ []))
      (rw (is, last_has_push (λ (c : ColumnSaid). holds_row place c.entries) done (column_as name ends got), fresh) refl)
      (ap state (rw is (change_last_push _ done (column_as name ends got))))

  -- each of these numbers is of a known row in which the column has nothing yet
  abbrev CanCome : List EntryPart → List Number → Type 0
  CanCome got [] = ⊤
  CanCome got (n ∷ ns) = (place : ℕ) × ((row_place rows n.0 ≡ Some place) × (holds_row place got ≡ false)) × CanCome (got ++ part place n ∷ []) ns

  entries_run : (ns : List Number) (done : List ColumnSaid) (name : Name) (ends : Ends) (got : List EntryPart) → CanCome got ns
      → Runs (state (done ++ column_as name ends got ∷ [])) (flat_map (λ told. told) (map entry_told ns)) (state (done ++ column_as name ends (got ++ flat_map (part_of rows) ns) ∷ []))
  entries_run [] done name ends got can = subst (λ (es : List EntryPart). Runs (state (done ++ column_as name ends got ∷ [])) [] (state (done ++ column_as name ends es ∷ []))) (sym (append-nil got)) (run_none (state (done ++ column_as name ends got ∷ [])))
  entries_run (n ∷ ns) done name ends got can =
      let place = can.0 in
      let is = can.1.0 in
      let here = entry_run done name ends got n place is can.1.1 in
      let rest = entries_run ns done name ends (got ++ part place n ∷ []) can.2 in
      let parts : (got ++ part place n ∷ []) ++ flat_map (part_of rows) ns ≡ got ++ flat_map (part_of rows) (n ∷ ns) = append_assoc got (part place n ∷ []) (flat_map (part_of rows) ns) ∙ rw is refl in
      run_both (state (done ++ column_as name ends got ∷ [])) (state (done ++ column_as name ends (got ++ part place n ∷ []) ∷ [])) (state (done ++ column_as name ends (got ++ flat_map (part_of rows) (n ∷ ns)) ∷ [])) (entry_told n) (flat_map (λ told. told) (map entry_told ns)) here
      (subst (λ (es : List EntryPart). Runs (state (done ++ column_as name ends (got ++ part place n ∷ []) ∷ [])) (flat_map (λ told. told) (map entry_told ns)) (state (done ++ column_as name ends es ∷ []))) parts rest)

  abbrev column_names : List ColumnSaid → List Name
  column_names = map (λ (c : ColumnSaid). c.name)

  begin_run : (done : List ColumnSaid) (name : Name) (integer : Bool) → list_any (bytes_eq name) (column_names done) ≡ false → length done < 4096
      → Runs (state done) (Column name integer ∷ []) (state (done ++ column_as name (bare_ends integer) [] ∷ []))
  unfolding rules_of with_statement
  begin_run done name integer fresh few =
      run_one (state done) (Column name integer) (state (done ++ column_as name (bare_ends integer) [] ∷ []))
      (rw (position_none (bytes_eq name) (column_names done) fresh, lt-leb 4096 (length done) few) refl) refl

  column_run : (done : List ColumnSaid) (name : Name) (integer : Bool) (n : Number) (ns : List Number) → list_any (bytes_eq name) (column_names done) ≡ false → length done < 4096 → CanCome [] (n ∷ ns)
      → Runs (state done) (flat_map (λ told. told) (numbers_told name integer (n ∷ ns))) (state (done ++ column_as name (bare_ends integer) (flat_map (part_of rows) (n ∷ ns)) ∷ []))
  column_run done name integer n ns fresh few can =
      run_both (state done) (state (done ++ column_as name (bare_ends integer) [] ∷ [])) (state (done ++ column_as name (bare_ends integer) (flat_map (part_of rows) (n ∷ ns)) ∷ [])) (Column name integer ∷ []) (flat_map (λ told. told) (map entry_told (n ∷ ns)))
      (begin_run done name integer fresh few) (entries_run (n ∷ ns) done name (bare_ends integer) [] can)

-- ---- all columns

kind_told : (kind : Kind) (name : Name) (ns : List Number) → flat_map (λ told. told) (column_told_as kind name ns) ≡ flat_map (λ told. told) (numbers_told name (is_integer kind) ns)
kind_told Continuous name ns = refl
kind_told (Semi threshold) name ns = refl
kind_told Integer name ns = flat_map-append (λ told. told) (numbers_told name true ns) ([] ∷ []) ∙ append-nil (flat_map (λ told. told) (numbers_told name true ns))

module _ (d : DeckValue) where
  abbrev here : List ColumnSaid → Said
  here = state d.name d.maximise (bare_rows d)

  abbrev Comes : List EntryPart → List Number → Type 0
  Comes = CanCome d.name d.maximise (bare_rows d)

  one_run : (done : List ColumnSaid) (c : ColumnValue) → list_any (bytes_eq c.name) (map (λ (c : ColumnSaid). c.name) done) ≡ false → length done < 4096 → Comes [] (numbers_of d c)
      → Runs (here done) (flat_map (λ told. told) (column_told d c)) (here (done ++ column_bare d c ∷ []))
  one_run done c fresh few can =
      let some = or_one_some (cost_numbers d c ++ map (entry_number d.rows) c.entries) (d.objective_name, 0, pos 0) in
      let run = column_run d.name d.maximise (bare_rows d) done c.name (is_integer c.kind) some.0 some.1 fresh few (subst (λ (ns : List Number). Comes [] ns) some.2 can) in
      let all = subst (λ (ns : List Number). Runs (here done) (flat_map (λ told. told) (numbers_told c.name (is_integer c.kind) ns)) (here (done ++ column_as c.name (bare_ends (is_integer c.kind)) (flat_map (part_of (bare_rows d)) ns) ∷ []))) (sym some.2) run in
      subst (λ (told : List Statement). Runs (here done) told (here (done ++ column_bare d c ∷ []))) (sym (kind_told c.kind c.name (numbers_of d c))) all

  abbrev FreshColumns : List ColumnSaid → List ColumnValue → Type 0
  FreshColumns done cs = Each (λ (c : ColumnValue). list_any (bytes_eq c.name) (map (λ (c : ColumnSaid). c.name) done) ≡ false) cs

  names_push : (done : List ColumnSaid) (new : ColumnSaid) → map (λ (c : ColumnSaid). c.name) (done ++ new ∷ []) ≡ map (λ (c : ColumnSaid). c.name) done ++ new.name ∷ []
  names_push [] new = refl
  names_push (x ∷ done) new = ap (λ (ns : List Name). x.name ∷ ns) (names_push done new)

  fresh_push : (done : List ColumnSaid) (new : ColumnSaid) (cs : List ColumnValue) → FreshColumns done cs → Each (λ (c : ColumnValue). bytes_eq new.name c.name ≡ false) cs → FreshColumns (done ++ new ∷ []) cs
  fresh_push done new [] fresh apart = tt
  fresh_push done new (c ∷ cs) fresh apart =
      (ap (list_any (bytes_eq c.name)) (names_push done new) ∙ list_any-append (bytes_eq c.name) (map (λ (c : ColumnSaid). c.name) done) (new.name ∷ []) ∙ or_from _ _ fresh.0 (or_from _ _ (other_way new.name c.name apart.0) refl), fresh_push done new cs fresh.1 apart.1)

  columns_run : (cs : List ColumnValue) (done : List ColumnSaid) → FreshColumns done cs → Apart (λ (c : ColumnValue). c.name) cs → length done + length cs ≤ 4096 → Each (λ (c : ColumnValue). Comes [] (numbers_of d c)) cs
      → Runs (here done) (flat_map (λ told. told) (flat_map (column_told d) cs)) (here (done ++ map (column_bare d) cs))
  columns_run [] done fresh apart few can = subst (λ (cs : List ColumnSaid). Runs (here done) [] (here cs)) (sym (append-nil done)) (run_none (here done))
  columns_run (c ∷ cs) done fresh apart few can =
      let new = column_bare d c in
      let first = one_run done c fresh.0 (omega (arith, few)) can.0 in
      let rest = columns_run cs (done ++ new ∷ []) (fresh_push done new cs fresh.1 apart.0) apart.1 (omega (arith, few, length-append done (new ∷ []))) can.1 in
      let end = subst (λ (xs : List ColumnSaid). Runs (here (done ++ new ∷ [])) (flat_map (λ told. told) (flat_map (column_told d) cs)) (here xs)) (append_assoc done (new ∷ []) (map (column_bare d) cs)) rest in
      subst (λ (told : List Statement). Runs (here done) told (here (done ++ map (column_bare d) (c ∷ cs)))) (sym (flat_map-append (λ told. told) (column_told d c) (flat_map (column_told d) cs)))
      (run_both (here done) (here (done ++ new ∷ [])) (here (done ++ map (column_bare d) (c ∷ cs))) (flat_map (λ told. told) (column_told d c)) (flat_map (λ told. told) (flat_map (column_told d) cs)) first end)

-- ---- the places of rows

each_at : (P : Name → Type 0) (ns : List Name) (i : ℕ) → i < length ns → Each P ns → P (slice_index_or ns i [])
each_at P [] i h k = absurd (omega arith)
each_at P (n ∷ ns) zero h k = k.0
each_at P (n ∷ ns) (suc i) h k = each_at P ns i (omega (arith, h)) k.1

pub place_of_name : (ns : List Name) (i : ℕ) → i < length ns → Apart (λ n. n) ns → position_or_len (bytes_eq (slice_index_or ns i [])) ns ≡ i
place_of_name [] i h apart = absurd (omega arith)
place_of_name (n ∷ ns) zero h apart = rw (same_name n) refl
place_of_name (n ∷ ns) (suc i) h apart =
    let other = other_way n (slice_index_or ns i []) (each_at (λ y. bytes_eq n y ≡ false) ns i (omega (arith, h)) apart.0) in
    place_on (bytes_eq (slice_index_or ns i [])) n ns other ∙ ap suc (place_of_name ns i (omega (arith, h)) apart.1)

names_bare : (rows : List Row) → map (λ (r : RowSaid). r.name) (map row_bare rows) ≡ map (λ (r : Row). r.name) rows
names_bare [] = refl
names_bare (r ∷ rows) = ap (λ (ns : List Name). r.name ∷ ns) (names_bare rows)

pub objective_at : (d : DeckValue) → row_place (bare_rows d) d.objective_name ≡ Some 0
objective_at d =
    let names = d.objective_name ∷ map (λ (r : RowSaid). r.name) (map row_bare d.rows) in
    position_at (bytes_eq d.objective_name) names 0 (rw (same_name d.objective_name) refl) (omega arith)

pub row_at : (d : DeckValue) (i : ℕ) → i < length d.rows → Apart (λ n. n) (d.objective_name ∷ map (λ (r : Row). r.name) d.rows) → row_place (bare_rows d) (row_name d.rows i) ≡ Some (suc i)
row_at d i h apart =
    let names = d.objective_name ∷ map (λ (r : Row). r.name) d.rows in
    let size = length-map d.rows (λ (r : Row). r.name) in
    ap (λ (ns : List Name). position (bytes_eq (row_name d.rows i)) (d.objective_name ∷ ns)) (names_bare d.rows)
    ∙ position_at (bytes_eq (row_name d.rows i)) names (suc i) (place_of_name names (suc i) (omega (arith, h, size)) apart) (omega (arith, h, size))

-- ---- the numbers of a column

none_holds : (got : List EntryPart) (k p : ℕ) → Each (λ (g : EntryPart). g.row < k) got → k ≤ p → holds_row p got ≡ false
none_holds [] k p below h = refl
none_holds (g ∷ got) k p below h = let low = below.0 in or_from _ _ (ne_eqb g.row p (λ e. absurd (omega (arith, e, low, h)))) (none_holds got k p below.1 h)

still_below : (got : List EntryPart) (k m : ℕ) → Each (λ (g : EntryPart). g.row < k) got → k ≤ m → Each (λ (g : EntryPart). g.row < m) got
still_below [] k m below h = tt
still_below (g ∷ got) k m below h = let low = below.0 in (omega (arith, low, h), still_below got k m below.1 h)

abbrev RisesFrom : ℕ → List Entry → Type 0
RisesFrom k [] = ⊤
RisesFrom k (e ∷ es) = (k ≤ suc e.row) × RisesFrom (suc (suc e.row)) es

rises : (k : ℕ) (e : Entry) (es : List Entry) → k ≤ suc e.row → AllPairs (λ (a : Entry) (b : Entry). a.row < b.row) (e ∷ es) → RisesFrom k (e ∷ es)
rises k e [] h p = (h, tt)
rises k e (x ∷ es) h p =
    let next : e.row < x.row = p 0 1 e (omega arith) (omega arith) in
    (h, rises (suc (suc e.row)) x es (omega (arith, next)) (λ i j y a b. p (suc i) (suc j) y (omega (arith, a)) (omega (arith, b))))

rises_all : (es : List Entry) → AllPairs (λ (a : Entry) (b : Entry). a.row < b.row) es → RisesFrom 1 es
rises_all [] p = tt
rises_all (e ∷ es) p = rises 1 e es (omega arith) p

module _ (d : DeckValue) (apart : Apart (λ n. n) (d.objective_name ∷ map (λ (r : Row). r.name) d.rows)) where
  come_entries : (es : List Entry) (got : List EntryPart) (k : ℕ) → Each (λ (g : EntryPart). g.row < k) got → RisesFrom k es → Each (IsEntry (length d.rows)) es → CanCome d.name d.maximise (bare_rows d) got (map (entry_number d.rows) es)
  come_entries [] got k below rise within = tt
  come_entries (e ∷ es) got k below rise within =
      let n = entry_number d.rows e in
      let up = rise.0 in (
        suc e.row,
        (row_at d e.row within.0.row apart, none_holds got k (suc e.row) below up),
        come_entries es (got ++ part (suc e.row) n ∷ []) (suc (suc e.row)) (Each-append (λ (g : EntryPart). g.row < suc (suc e.row)) got (part (suc e.row) n ∷ []) (still_below got k (suc (suc e.row)) below (omega (arith, up))) (omega arith, tt)) rise.1 within.1,
      )

  come_numbers : (c : ColumnValue) → IsColumn (length d.rows) c → CanCome d.name d.maximise (bare_rows d) [] (numbers_of d c)
  come_numbers c is = by (is_zero_number (in_sense d.maximise c.cost)) c.entries (Each-from (IsEntry (length d.rows)) c.entries is.entries) (rises_all c.entries is.rise)
    where
      by : (b : Bool) (es : List Entry) → Each (IsEntry (length d.rows)) es → RisesFrom 1 es
          → CanCome d.name d.maximise (bare_rows d) [] (or_one ((if b then [] else (d.objective_name, d.scale, in_sense d.maximise c.cost) ∷ []) ++ map (entry_number d.rows) es) (d.objective_name, 0, pos 0))
      by true [] within rise = (0, (objective_at d, refl), tt)
      by true (e ∷ es) within rise = come_entries (e ∷ es) [] 1 tt rise within
      by false es within rise = (0, (objective_at d, refl), come_entries es (part 0 (d.objective_name, d.scale, in_sense d.maximise c.cost) ∷ []) 1 (omega arith, tt) rise within)

all_come : (d : DeckValue) → Apart (λ n. n) (d.objective_name ∷ map (λ (r : Row). r.name) d.rows) → (cs : List ColumnValue) → Each (IsColumn (length d.rows)) cs → Each (λ (c : ColumnValue). CanCome d.name d.maximise (bare_rows d) [] (numbers_of d c)) cs
all_come d apart [] h = tt
all_come d apart (c ∷ cs) h = (come_numbers d apart c h.0, all_come d apart cs h.1)

none_yet : (cs : List ColumnValue) → Each (λ (c : ColumnValue). list_any (bytes_eq c.name) [] ≡ false) cs
none_yet [] = tt
none_yet (c ∷ cs) = (refl, none_yet cs)

pub columns-run-law : (d : DeckValue) → IsDeck d → Runs (behind_rows d) (flat_map (λ told. told) (columns_told d)) (behind_columns d)
columns-run-law d deck =
    let apart = Apart-from (λ (y : Name). y) (d.objective_name ∷ map (λ (r : Row). r.name) d.rows) deck.row_names in
    columns_run d d.columns [] (none_yet d.columns) (Apart-from (λ (c : ColumnValue). c.name) d.columns deck.column_names) (omega (arith, deck.column_count)) (all_come d apart d.columns (Each-from (IsColumn (length d.rows)) d.columns deck.columns))
