-- The statements of ROWS break no rule.
use Rattle.std.proofs.Common.{◌≡◌, ℕ, suc, ◌+◌, ◌<◌, ◌≤◌, Bool, true, false, not, List, [], ◌∷◌, ◌++◌, append_assoc, length, length-append, map, count_by, position, Some, None, refl, sym, ap, ◌∙◌, subst, arith, inl, inr, true≢false, if◌then◌else◌}
use Rattle.std.specs.Str.{bytes_eq}
use Rattle.std.specs.List.{list_any, position_or_len, flat_map, fold}
use Rattle.std.proofs.lemmas.Bool.{cases_Bool, cond-true, cond-false, and_right, or_from, or_parts, lt-leb, le-ltb, lt-ltb}
use Rattle.std.proofs.lemmas.List.{append-nil}
use Rattle.std.proofs.lemmas.List.Folds.{list_any-append}
use Rattle.std.proofs.lemmas.Slice.Eq.{bytes_eq-Decides}
use Rattle.um_model.specs.Values.{DeckValue}
use Rattle.um_model.specs.WellFormed.{IsDeck}
use Rattle.um_model.specs.declared.deck.Row.{Row}
use Rattle.um_statements.specs.declared.parts.RowKind.{RowKind}
use Rattle.um_statements.specs.declared.parts.RowKind.TheVariants.{N}
use Rattle.um_statements.specs.Statements.{Name, RowTold}
use Rattle.um_statements.specs.Said.{Said, RowSaid}
use Rattle.um_statements.specs.CallRules.{rules_of, with_statement, is_n}
use Rattle.um_make.specs.NormalLines.{sides_kind}
use Rattle.um_round.proofs.EachItem.{Each}
use Rattle.um_round.proofs.NormalTold.{row_told, rows_told}
use Rattle.um_round.proofs.NormalSaid.{Runs, bare, row_bare, behind_rows}
use Rattle.um_round.proofs.Runs.{run_none, run_one, run_both}
use Rattle.um_round.proofs.ColumnsTold.{Apart, Apart-from}

-- ---- places of names

pub place_on : {X : Type 0} (p : X → Bool) (x : X) (xs : List X) → p x ≡ false → position_or_len p (x ∷ xs) ≡ suc (position_or_len p xs)
place_on p x xs e = rw e (omega arith)

no_place : {X : Type 0} (p : X → Bool) (xs : List X) → list_any p xs ≡ false → position_or_len p xs ≡ length xs
no_place p [] none = refl
no_place p (x ∷ xs) none = let both = or_parts (p x) (list_any p xs) none in place_on p x xs both.0 ∙ ap suc (no_place p xs both.1)

pub position_none : {X : Type 0} (p : X → Bool) (xs : List X) → list_any p xs ≡ false → position p xs ≡ None
position_none p xs none = cond-false _ _ _ (le-ltb (position_or_len p xs) (length xs) (omega (arith, no_place p xs none)))

pub position_at : {X : Type 0} (p : X → Bool) (xs : List X) (i : ℕ) → position_or_len p xs ≡ i → i < length xs → position p xs ≡ Some i
position_at p xs i e h = cond-true _ _ _ (lt-ltb (position_or_len p xs) (length xs) (omega (arith, e, h))) ∙ ap Some e

pub other_way : (a b : Name) → bytes_eq a b ≡ false → bytes_eq b a ≡ false
other_way a b none = elim (cases_Bool (bytes_eq b a)) [ inl same ↦ absurd (true≢false (sym ((bytes_eq-Decides a b).1 (sym ((bytes_eq-Decides b a).0 same))) ∙ none)) | inr other ↦ other ]

-- ---- counts

fold_push : {X Y : Type 0} (f : Y → X → Y) (a : Y) (xs : List X) (x : X) → fold f a (xs ++ x ∷ []) ≡ f (fold f a xs) x
fold_push f a [] x = refl
fold_push f a (y ∷ ys) x = fold_push f (f a y) ys x

count_push : {X : Type 0} (p : X → Bool) (xs : List X) (x : X) → count_by p (xs ++ x ∷ []) ≤ count_by p xs + 1
count_push p xs x = by (p x) refl
  where
    less : (b : Bool) (m n : ℕ) → m ≡ n + (if b then 1 else 0) → m ≤ n + 1
    less true m n e = omega (arith, e)
    less false m n e = omega (arith, e)

    by : (b : Bool) → p x ≡ b → count_by p (xs ++ x ∷ []) ≤ count_by p xs + 1
    by b e =
        let all : count_by p (xs ++ x ∷ []) ≡ count_by p xs + (if b then 1 else 0) = fold_push (λ n y. n + (if p y then 1 else 0)) 0 xs x ∙ ap (λ c. count_by p xs + (if c then 1 else 0)) e in
        less b (count_by p (xs ++ x ∷ [])) (count_by p xs) all

-- ---- rows

abbrev state : Name → Bool → List RowSaid → Said
state name maximise rows = record { name = name; maximise = maximise; rows = rows; columns = []; sets = []; arcs = [] }

abbrev names : List RowSaid → List Name
names = map (λ (r : RowSaid). r.name)

abbrev is_sided : RowSaid → Bool
is_sided r = not (is_n r.kind)

names_push : (rows : List RowSaid) (r : RowSaid) → names (rows ++ r ∷ []) ≡ names rows ++ r.name ∷ []
names_push [] r = refl
names_push (x ∷ rows) r = ap (λ (ns : List Name). x.name ∷ ns) (names_push rows r)

row_run : (title : Name) (maximise : Bool) (done : List RowSaid) (kind : RowKind) (name : Name) → list_any (bytes_eq name) (names done) ≡ false → length done < 1024 → count_by is_sided done < 512
    → Runs (state title maximise done) (RowTold kind name ∷ []) (state title maximise (done ++ bare kind name ∷ []))
unfolding rules_of with_statement
row_run title maximise done kind name fresh few fewer =
    run_one (state title maximise done) (RowTold kind name) (state title maximise (done ++ bare kind name ∷ []))
    (rw (position_none (bytes_eq name) (names done) fresh, lt-leb 1024 (length done) few, and_right (not (is_n kind)) _ (lt-leb 512 (count_by is_sided done) fewer)) refl) refl

abbrev Fresh : List RowSaid → List Row → Type 0
Fresh done rows = Each (λ (r : Row). list_any (bytes_eq r.name) (names done) ≡ false) rows

fresh_push : (done : List RowSaid) (new : RowSaid) (rows : List Row) → Fresh done rows → Each (λ (r : Row). bytes_eq new.name r.name ≡ false) rows → Fresh (done ++ new ∷ []) rows
fresh_push done new [] fresh apart = tt
fresh_push done new (r ∷ rows) fresh apart =
    (ap (list_any (bytes_eq r.name)) (names_push done new) ∙ list_any-append (bytes_eq r.name) (names done) (new.name ∷ []) ∙ or_from _ _ fresh.0 (or_from _ _ (other_way new.name r.name apart.0) refl), fresh_push done new rows fresh.1 apart.1)

rows_run : (title : Name) (maximise : Bool) (rows : List Row) (done : List RowSaid) → Fresh done rows → Apart (λ (r : Row). r.name) rows → length done + length rows ≤ 513 → count_by is_sided done + length rows ≤ 512
    → Runs (state title maximise done) (flat_map (λ told. told) (map row_told rows)) (state title maximise (done ++ map row_bare rows))
rows_run title maximise [] done fresh apart few fewer = subst (λ (rs : List RowSaid). Runs (state title maximise done) [] (state title maximise rs)) (sym (append-nil done)) (run_none (state title maximise done))
rows_run title maximise (r ∷ rows) done fresh apart few fewer =
    let new = row_bare r in
    let here = row_run title maximise done (sides_kind r.low r.high) r.name fresh.0 (omega (arith, few)) (omega (arith, fewer)) in
    let rest = rows_run title maximise rows (done ++ new ∷ []) (fresh_push done new rows fresh.1 apart.0) apart.1 (omega (arith, few, length-append done (new ∷ []))) (omega (arith, fewer, count_push is_sided done new)) in
    let end = subst (λ (rs : List RowSaid). Runs (state title maximise (done ++ new ∷ [])) (flat_map (λ told. told) (map row_told rows)) (state title maximise rs)) (append_assoc done (new ∷ []) (map row_bare rows)) rest in
    run_both (state title maximise done) (state title maximise (done ++ new ∷ [])) (state title maximise (done ++ map row_bare (r ∷ rows))) (row_told r) (flat_map (λ told. told) (map row_told rows)) here end

first_row : (title : Name) (maximise : Bool) (name : Name) → Runs (state title maximise []) (RowTold N name ∷ []) (state title maximise (bare N name ∷ []))
unfolding rules_of with_statement
first_row title maximise name = run_one (state title maximise []) (RowTold N name) (state title maximise (bare N name ∷ [])) refl refl

first_fresh : (name : Name) (rows : List Row) → Each (λ y. bytes_eq name y ≡ false) (map (λ (r : Row). r.name) rows) → Fresh (bare N name ∷ []) rows
first_fresh name [] h = tt
first_fresh name (r ∷ rows) h = (or_from _ _ (other_way name r.name h.0) refl, first_fresh name rows h.1)

apart_rows : (rows : List Row) → Apart (λ y. y) (map (λ (r : Row). r.name) rows) → Apart (λ (r : Row). r.name) rows
apart_rows [] h = tt
apart_rows (r ∷ rows) h = (by rows h.0, apart_rows rows h.1)
  where
    by : (rows : List Row) → Each (λ y. bytes_eq r.name y ≡ false) (map (λ (r : Row). r.name) rows) → Each (λ (y : Row). bytes_eq r.name y.name ≡ false) rows
    by [] h = tt
    by (x ∷ rows) h = (h.0, by rows h.1)

pub rows-run-law : (d : DeckValue) → IsDeck d → Runs (state d.name d.maximise []) (flat_map (λ told. told) (rows_told d)) (behind_rows d)
rows-run-law d deck =
    let apart = Apart-from (λ (y : Name). y) (d.objective_name ∷ map (λ (r : Row). r.name) d.rows) deck.row_names in
    run_both (state d.name d.maximise []) (state d.name d.maximise (bare N d.objective_name ∷ [])) (behind_rows d) (RowTold N d.objective_name ∷ []) (flat_map (λ told. told) (map row_told d.rows))
    (first_row d.name d.maximise d.objective_name)
    (rows_run d.name d.maximise d.rows (bare N d.objective_name ∷ []) (first_fresh d.objective_name d.rows apart.0) (apart_rows d.rows apart.1) (omega (arith, deck.row_count)) (omega (arith, deck.row_count)))
