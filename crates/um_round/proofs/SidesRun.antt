-- One right-hand side or range: it changes the row of its name alone.
use Rattle.std.proofs.Common.{◌≡◌, ℕ, suc, Bool, true, false, List, [], ◌∷◌, ◌++◌, length, length-append, map, slice_get, Option, Some, None, ℤ, neg_ℤ, append_assoc, subst, refl, sym, ap, ◌∙◌, arith, if◌then◌else◌}
use Rattle.std.specs.Str.{bytes_eq}
use Rattle.std.specs.List.{position_or_len, flat_map}
use Rattle.std.proofs.lemmas.Grind.{flat_map-append}
use Rattle.std.proofs.lemmas.List.{length-map}
use Rattle.um_num.specs.declared.decimal.Decimal.{Decimal}
use Rattle.um_model.specs.Values.{DeckValue}
use Rattle.um_model.specs.WellFormed.{IsDeck}
use Rattle.um_model.specs.declared.deck.Row.{Row}
use Rattle.um_statements.specs.declared.parts.RowKind.TheVariants.{N}
use Rattle.um_make.specs.NormalLines.{in_sense, is_zero_number, sides_kind, first_side, width, unless_zero, side_numbers, constant_numbers, sides_of, range_numbers, ranges_of}
use Rattle.um_round.proofs.EachItem.{Each, Each-append}
use Rattle.um_round.proofs.NormalTold.{side_told, range_told}
use Rattle.um_round.specs.Numerals.{written}
use Rattle.um_statements.specs.declared.parts.RowKind.{RowKind}
use Rattle.um_statements.specs.Statements.{Name, Statement, Side, Range}
use Rattle.um_statements.specs.Said.{Said, RowSaid, ColumnSaid, row_place}
use Rattle.um_statements.specs.CallRules.{rules_of, with_statement, change_rows}
use Rattle.um_round.proofs.NormalSaid.{Runs, bare, row_bare, told_number, row_known, row_sided, objective_known, column_bare, behind_columns, behind_sides, behind_ranges}
use Rattle.um_round.proofs.Runs.{run_none, run_one, run_both}
use Rattle.um_round.proofs.ColumnsTold.{Apart, Apart-from, same_name}
use Rattle.um_round.proofs.RowsRun.{place_on, position_at, other_way}

abbrev Others : Name → List RowSaid → Type 0
Others name rows = Each (λ (r : RowSaid). bytes_eq name r.name ≡ false) rows

abbrev names : List RowSaid → List Name
names = map (λ (r : RowSaid). r.name)

middle_place : (front : List RowSaid) (r : RowSaid) (back : List RowSaid) → Others r.name front → position_or_len (bytes_eq r.name) (names (front ++ r ∷ back)) ≡ length front
middle_place [] r back apart = rw (same_name r.name) refl
middle_place (x ∷ front) r back apart = place_on (bytes_eq r.name) x.name (names (front ++ r ∷ back)) apart.0 ∙ ap suc (middle_place front r back apart.1)

pub middle_at : (front : List RowSaid) (r : RowSaid) (back : List RowSaid) → Others r.name front → row_place (front ++ r ∷ back) r.name ≡ Some (length front)
middle_at front r back apart = position_at (bytes_eq r.name) (names (front ++ r ∷ back)) (length front) (middle_place front r back apart) (omega (arith, length-map (front ++ r ∷ back) (λ (r : RowSaid). r.name), length-append front (r ∷ back)))

pub middle_get : (front : List RowSaid) (r : RowSaid) (back : List RowSaid) → slice_get (front ++ r ∷ back) (length front) ≡ Some r
middle_get [] r back = refl
middle_get (x ∷ front) r back = middle_get front r back

others_stay : (name : Name) (change : RowSaid → RowSaid) (rows : List RowSaid) → Others name rows → change_rows name change rows ≡ rows
others_stay name change [] apart = refl
others_stay name change (r ∷ rows) apart = rw apart.0 (ap (λ (rs : List RowSaid). r ∷ rs) (others_stay name change rows apart.1))

pub middle_changed : (change : RowSaid → RowSaid) (front : List RowSaid) (r : RowSaid) (back : List RowSaid) → Others r.name front → Others r.name back → change_rows r.name change (front ++ r ∷ back) ≡ front ++ change r ∷ back
middle_changed change [] r back apart behind = rw (same_name r.name) (ap (λ (rs : List RowSaid). change r ∷ rs) (others_stay r.name change back behind))
middle_changed change (x ∷ front) r back apart behind = rw apart.0 (ap (λ (rs : List RowSaid). x ∷ rs) (middle_changed change front r back apart.1 behind))

module _ (title : Name) (maximise : Bool) (columns : List ColumnSaid) where
  abbrev state : List RowSaid → Said
  state rows = record { name = title; maximise = maximise; rows = rows; columns = columns; sets = []; arcs = [] }

  abbrev row_as : Name → RowKind → Option Decimal → Option Decimal → RowSaid
  row_as name kind side range = record { name = name; kind = kind; side = side; range = range }

  pub side_run : (front : List RowSaid) (name : Name) (kind : RowKind) (range : Option Decimal) (back : List RowSaid) (value : Decimal) → Others name front → Others name back
      → Runs (state (front ++ row_as name kind None range ∷ back)) (Side name value ∷ []) (state (front ++ row_as name kind (Some value) range ∷ back))
  unfolding rules_of with_statement
  side_run front name kind range back value before behind =
      let r = row_as name kind None range in
      run_one (state (front ++ r ∷ back)) (Side name value) (state (front ++ row_as name kind (Some value) range ∷ back))
      (rw (middle_at front r back before, middle_get front r back) refl) (ap state (middle_changed _ front r back before behind))

  pub range_run : (front : List RowSaid) (name : Name) (kind : RowKind) (side : Option Decimal) (back : List RowSaid) (value : Decimal) → Others name front → Others name back
      → Runs (state (front ++ row_as name kind side None ∷ back)) (Range name value ∷ []) (state (front ++ row_as name kind side (Some value) ∷ back))
  unfolding rules_of with_statement
  range_run front name kind side back value before behind =
      let r = row_as name kind side None in
      run_one (state (front ++ r ∷ back)) (Range name value) (state (front ++ row_as name kind side (Some value) ∷ back))
      (rw (middle_at front r back before, middle_get front r back) refl) (ap state (middle_changed _ front r back before behind))

  -- ---- one row after the other

  module _ (f g : Row → RowSaid) (told : Row → List Statement) (own : (r : Row) → ((f r).name ≡ r.name) × ((g r).name ≡ r.name))
      (step : (front : List RowSaid) (r : Row) (back : List RowSaid) → Others r.name front → Others r.name back → Runs (state (front ++ f r ∷ back)) (told r) (state (front ++ g r ∷ back))) where
    all_others : (name : Name) (rows : List Row) → Each (λ (r : Row). bytes_eq name r.name ≡ false) rows → Others name (map f rows)
    all_others name [] h = tt
    all_others name (r ∷ rows) h = (ap (bytes_eq name) (own r).0 ∙ h.0, all_others name rows h.1)

    others_push : (front : List RowSaid) (r : Row) (rows : List Row) → Each (λ (x : Row). Others x.name front) rows → Each (λ (x : Row). bytes_eq r.name x.name ≡ false) rows → Each (λ (x : Row). Others x.name (front ++ g r ∷ [])) rows
    others_push front r [] h k = tt
    others_push front r (x ∷ rows) h k = (Each-append (λ (y : RowSaid). bytes_eq x.name y.name ≡ false) front (g r ∷ []) h.0 (ap (bytes_eq x.name) (own r).1 ∙ other_way r.name x.name k.0, tt), others_push front r rows h.1 k.1)

    pub row_by_row : (rows : List Row) (front : List RowSaid) → Each (λ (x : Row). Others x.name front) rows → Apart (λ (r : Row). r.name) rows → Runs (state (front ++ map f rows)) (flat_map told rows) (state (front ++ map g rows))
    row_by_row [] front others apart = run_none (state (front ++ []))
    row_by_row (r ∷ rows) front others apart =
        let here = step front r (map f rows) others.0 (all_others r.name rows apart.0) in
        let rest = row_by_row rows (front ++ g r ∷ []) (others_push front r rows others.1 apart.0) apart.1 in
        let moved = subst (λ (rs : List RowSaid). Runs (state rs) (flat_map told rows) (state ((front ++ g r ∷ []) ++ map g rows))) (append_assoc front (g r ∷ []) (map f rows)) rest in
        let end = subst (λ (rs : List RowSaid). Runs (state (front ++ g r ∷ map f rows)) (flat_map told rows) (state rs)) (append_assoc front (g r ∷ []) (map g rows)) moved in
        run_both (state (front ++ map f (r ∷ rows))) (state (front ++ g r ∷ map f rows)) (state (front ++ map g (r ∷ rows))) (told r) (flat_map told rows) here end

  -- a number that has no line where it is 0
  side_or_none : (front : List RowSaid) (name : Name) (kind : RowKind) (scale : ℕ) (z : ℤ) (back : List RowSaid) → Others name front → Others name back
      → Runs (state (front ++ row_as name kind None None ∷ back)) (flat_map side_told (unless_zero (name, scale, z))) (state (front ++ row_as name kind (told_number scale z) None ∷ back))
  side_or_none front name kind scale z back before behind = by (is_zero_number z)
    where
      by : (b : Bool) → Runs (state (front ++ row_as name kind None None ∷ back)) (flat_map side_told (if b then [] else (name, scale, z) ∷ [])) (state (front ++ row_as name kind (if b then None else Some (written scale z)) None ∷ back))
      by true = run_none (state (front ++ row_as name kind None None ∷ back))
      by false = side_run front name kind None back (written scale z) before behind

  range_or_none : (front : List RowSaid) (name : Name) (kind : RowKind) (side : Option Decimal) (scale : ℕ) (z : ℤ) (back : List RowSaid) → Others name front → Others name back
      → Runs (state (front ++ row_as name kind side None ∷ back)) (flat_map range_told (unless_zero (name, scale, z))) (state (front ++ row_as name kind side (told_number scale z) ∷ back))
  range_or_none front name kind side scale z back before behind = by (is_zero_number z)
    where
      by : (b : Bool) → Runs (state (front ++ row_as name kind side None ∷ back)) (flat_map range_told (if b then [] else (name, scale, z) ∷ [])) (state (front ++ row_as name kind side (if b then None else Some (written scale z)) ∷ back))
      by true = run_none (state (front ++ row_as name kind side None ∷ back))
      by false = range_run front name kind side back (written scale z) before behind

-- ---- all rows

pub flat_flat : {X Y Z : Type 0} (f : Y → List Z) (g : X → List Y) (xs : List X) → flat_map f (flat_map g xs) ≡ flat_map (λ x. flat_map f (g x)) xs
flat_flat f g [] = refl
flat_flat {Z = Z} f g (x ∷ xs) = flat_map-append f (g x) (flat_map g xs) ∙ ap (λ (zs : List Z). flat_map f (g x) ++ zs) (flat_flat f g xs)

-- the rows' names differ from the objective's, and from each other
record HasApartRows (d : DeckValue) : Type 0 where
  objective : Each (λ (r : Row). bytes_eq d.objective_name r.name ≡ false) d.rows
  rows : Apart (λ (r : Row). r.name) d.rows

apart_rows : (d : DeckValue) → IsDeck d → HasApartRows d
apart_rows d deck =
    let apart = Apart-from (λ (y : Name). y) (d.objective_name ∷ map (λ (r : Row). r.name) d.rows) deck.row_names in
    record { objective = one d.objective_name d.rows apart.0; rows = each d.rows apart.1 }
  where
    one : (name : Name) (rows : List Row) → Each (λ y. bytes_eq name y ≡ false) (map (λ (r : Row). r.name) rows) → Each (λ (r : Row). bytes_eq name r.name ≡ false) rows
    one name [] h = tt
    one name (r ∷ rows) h = (h.0, one name rows h.1)

    each : (rows : List Row) → Apart (λ (y : Name). y) (map (λ (r : Row). r.name) rows) → Apart (λ (r : Row). r.name) rows
    each [] h = tt
    each (r ∷ rows) h = (one r.name rows h.0, each rows h.1)

behind_objective : (first : RowSaid) (rows : List Row) → Each (λ (r : Row). bytes_eq first.name r.name ≡ false) rows → Each (λ (x : Row). Others x.name (first ∷ [])) rows
behind_objective first [] h = tt
behind_objective first (r ∷ rows) h = ((other_way first.name r.name h.0, tt), behind_objective first rows h.1)

sided_others : (name : Name) (rows : List Row) → Each (λ (r : Row). bytes_eq name r.name ≡ false) rows → Others name (map row_sided rows)
sided_others name [] h = tt
sided_others name (r ∷ rows) h = (h.0, sided_others name rows h.1)

pub sides-run-law : (d : DeckValue) → IsDeck d → Runs (behind_columns d) (flat_map side_told (sides_of d)) (behind_sides d)
sides-run-law d deck =
    let apart = apart_rows d deck in
    let columns = map (column_bare d) d.columns in
    let at : List RowSaid → Said = state d.name d.maximise columns in
    let first = bare N d.objective_name in
    let rows = row_by_row d.name d.maximise columns row_bare row_sided (λ r. flat_map side_told (side_numbers r)) (λ r. (refl, refl))
    (λ front r back before behind. side_or_none d.name d.maximise columns front r.name (sides_kind r.low r.high) r.scale (first_side r.low r.high) back before behind)
    d.rows (first ∷ []) (behind_objective first d.rows apart.objective) apart.rows in
    let last = side_or_none d.name d.maximise columns [] d.objective_name N d.scale (neg_ℤ (in_sense d.maximise d.constant)) (map row_sided d.rows) tt (sided_others d.objective_name d.rows apart.objective) in
    let told : flat_map side_told (sides_of d) ≡ flat_map (λ (r : Row). flat_map side_told (side_numbers r)) d.rows ++ flat_map side_told (constant_numbers d) =
    flat_map-append side_told (flat_map side_numbers d.rows) (constant_numbers d) ∙ ap (λ (x : List Statement). x ++ flat_map side_told (constant_numbers d)) (flat_flat side_told side_numbers d.rows) in
    subst (λ (x : List Statement). Runs (behind_columns d) x (behind_sides d)) (sym told)
    (run_both (behind_columns d) (at (first ∷ map row_sided d.rows)) (behind_sides d) (flat_map (λ (r : Row). flat_map side_told (side_numbers r)) d.rows) (flat_map side_told (constant_numbers d)) rows last)

pub ranges-run-law : (d : DeckValue) → IsDeck d → Runs (behind_sides d) (flat_map range_told (ranges_of d)) (behind_ranges d)
ranges-run-law d deck =
    let apart = apart_rows d deck in
    let columns = map (column_bare d) d.columns in
    let first = objective_known d in
    let rows = row_by_row d.name d.maximise columns row_sided row_known (λ r. flat_map range_told (range_numbers r)) (λ r. (refl, refl))
    (λ front r back before behind. range_or_none d.name d.maximise columns front r.name (sides_kind r.low r.high) (told_number r.scale (first_side r.low r.high)) r.scale (width r.low r.high) back before behind)
    d.rows (first ∷ []) (behind_objective first d.rows apart.objective) apart.rows in
    subst (λ (x : List Statement). Runs (behind_sides d) x (behind_ranges d)) (sym (flat_flat range_told range_numbers d.rows)) rows
