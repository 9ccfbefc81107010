-- The statements of BOUNDS break no rule.
use Rattle.std.proofs.Common.{◌≡◌, ℕ, suc, ◌≤◌, ◌^◌, Bool, true, false, ◌&&◌, ◌||◌, not, int_le, List, [], ◌∷◌, ◌++◌, append_assoc, length, length-append, map, slice_get, Option, Some, None, option_map, ℤ, pos, negsuc, neg_ℤ, ◌+ℤ◌, ◌≤ℤ◌, unsigned_abs, refl, sym, ap, ◌∙◌, subst, arith}
use Rattle.std.specs.Str.{bytes_eq}
use Rattle.std.specs.Option.{option_map_or, ForSome}
use Rattle.std.specs.List.{list_any, position_or_len, flat_map}
use Rattle.std.proofs.lemmas.Int.{ints}
use Rattle.std.proofs.lemmas.Bool.{and_left, and_right, or_from, le-leb, not_from_true}
use Rattle.std.proofs.lemmas.List.{append-nil, length-map}
use Rattle.std.proofs.lemmas.List.Folds.{list_any-append}
use Rattle.um_num.specs.declared.decimal.Decimal.{Decimal}
use Rattle.um_model.specs.Values.{DeckValue, ColumnValue}
use Rattle.um_model.specs.WellFormed.{IsDeck, IsColumn, KindFits, IsWithin}
use Rattle.um_model.specs.declared.deck.Kind.{Kind}
use Rattle.um_model.specs.declared.deck.Kind.TheVariants.{Continuous, Integer, Semi}
use Rattle.um_statements.specs.declared.parts.BoundKind.{BoundKind}
use Rattle.um_statements.specs.declared.parts.BoundKind.TheVariants.{Lo}
use Rattle.um_statements.specs.declared.parts.Ends.{Ends}
use Rattle.um_statements.specs.declared.parts.EntryPart.{EntryPart}
use Rattle.um_statements.specs.Statements.{Name, Statement, Bound}
use Rattle.um_statements.specs.Scaled.{is_whole_at, at_least_zero}
use Rattle.um_statements.specs.Said.{Said, RowSaid, ColumnSaid, column_place, ends_of, makes_integer, makes_semi}
use Rattle.um_statements.specs.CallRules.{rules_of, with_statement, change_columns, bare_ends, is_large_bound, mixes}
use Rattle.um_statements.proofs.LastBounds.{ends-law}
use Rattle.um_make.specs.NormalLines.{BoundPart, is_zero_number, ends_bounds, kind_bounds, column_bounds}
use Rattle.um_round.proofs.EachItem.{Each, Each-append, Each-from, Each-if}
use Rattle.um_round.proofs.NormalTold.{bound_told}
use Rattle.um_round.specs.Numerals.{written}
use Rattle.um_round.proofs.NormalSaid.{Runs, is_integer, column_bare, column_known, rows_known, behind_ranges, behind_bounds}
use Rattle.um_round.proofs.Runs.{run_none, run_one, run_both}
use Rattle.um_round.proofs.Numerals.{scaled_back, decimals_most}
use Rattle.um_round.proofs.ColumnsTold.{Apart, Apart-from, same_name}
use Rattle.um_round.proofs.RowsRun.{place_on, position_at, other_way}
use Rattle.um_round.proofs.SidesRun.{flat_flat}

-- ---- a column among others

abbrev Others : Name → List ColumnSaid → Type 0
Others name columns = Each (λ (c : ColumnSaid). bytes_eq name c.name ≡ false) columns

abbrev names : List ColumnSaid → List Name
names = map (λ (c : ColumnSaid). c.name)

middle_place : (front : List ColumnSaid) (c : ColumnSaid) (back : List ColumnSaid) → Others c.name front → position_or_len (bytes_eq c.name) (names (front ++ c ∷ back)) ≡ length front
middle_place [] c back apart = rw (same_name c.name) refl
middle_place (x ∷ front) c back apart = place_on (bytes_eq c.name) x.name (names (front ++ c ∷ back)) apart.0 ∙ ap suc (middle_place front c back apart.1)

middle_at : (front : List ColumnSaid) (c : ColumnSaid) (back : List ColumnSaid) → Others c.name front → column_place (front ++ c ∷ back) c.name ≡ Some (length front)
middle_at front c back apart = position_at (bytes_eq c.name) (names (front ++ c ∷ back)) (length front) (middle_place front c back apart) (omega (arith, length-map (front ++ c ∷ back) (λ (c : ColumnSaid). c.name), length-append front (c ∷ back)))

middle_get : (front : List ColumnSaid) (c : ColumnSaid) (back : List ColumnSaid) → slice_get (front ++ c ∷ back) (length front) ≡ Some c
middle_get [] c back = refl
middle_get (x ∷ front) c back = middle_get front c back

others_stay : (name : Name) (change : ColumnSaid → ColumnSaid) (columns : List ColumnSaid) → Others name columns → change_columns name change columns ≡ columns
others_stay name change [] apart = refl
others_stay name change (c ∷ columns) apart = rw apart.0 (ap (λ (cs : List ColumnSaid). c ∷ cs) (others_stay name change columns apart.1))

middle_changed : (change : ColumnSaid → ColumnSaid) (front : List ColumnSaid) (c : ColumnSaid) (back : List ColumnSaid) → Others c.name front → Others c.name back → change_columns c.name change (front ++ c ∷ back) ≡ front ++ change c ∷ back
middle_changed change [] c back apart behind = rw (same_name c.name) (ap (λ (cs : List ColumnSaid). change c ∷ cs) (others_stay c.name change back behind))
middle_changed change (x ∷ front) c back apart behind = rw apart.0 (ap (λ (cs : List ColumnSaid). x ∷ cs) (middle_changed change front c back apart.1 behind))

-- ---- values

pub whole_if : (p : ℤ) (k : ℕ) → at_least_zero (neg_ℤ p) ≤ k → int_le (pos 0) (p +ℤ pos k) ≡ true
whole_if p k h = no_less (p +ℤ pos k) (by p k h)
  where
    no_less : (z : ℤ) → pos 0 ≤ℤ z → int_le (pos 0) z ≡ true
    no_less (pos n) h = le-leb 0 n (omega arith)
    no_less (negsuc n) h = absurd (omega (arith, ints, h))

    by : (p : ℤ) (k : ℕ) → at_least_zero (neg_ℤ p) ≤ k → pos 0 ≤ℤ (p +ℤ pos k)
    by (pos n) k h = omega (arith, ints)
    by (negsuc n) k h = omega (arith, ints, h)

not_fine : (value : Option ℤ) → option_map_or (λ v. not (is_whole_at 3 v)) (option_map (written 3) value) false ≡ false
not_fine None = refl
not_fine (Some z) = not_from_true _ (whole_if (written 3 z).power 3 (decimals_most 3 z))

not_large : (kind : BoundKind) (value : Option ℤ) → ForSome value (IsWithin (10 ^ 10)) → option_map_or (is_large_bound kind) (option_map (written 3) value) false ≡ false
not_large kind None h = refl
not_large kind (Some z) h = and_right _ _ (not_from_true _ (rw (scaled_back 3 z) (le-leb (unsigned_abs z) (10 ^ 10) (h z refl))))

-- ---- one bound

-- a bound that mixes no kinds, with a value of at most 10 ^ 7
record IsMild (integer : Bool) (name : Name) (b : BoundPart) : Type 0 where
  own : b.0 ≡ name
  size : ForSome b.2 (IsWithin (10 ^ 10))
  not_integer : makes_integer b.1 ≡ false
  not_semi : (makes_semi b.1 && integer) ≡ false

abbrev pair_of : BoundPart → BoundKind × Option Decimal
pair_of b = (b.1, option_map (written 3) b.2)

abbrev IsQuiet : List (BoundKind × Option Decimal) → Type 0
IsQuiet gone = list_any (λ (b : BoundKind × Option Decimal). makes_integer b.0) gone ≡ false

or_false : (b c : Bool) → c ≡ false → (b || c) ≡ b
or_false true c e = refl
or_false false c e = e

module _ (title : Name) (maximise : Bool) (rows : List RowSaid) where
  abbrev state : List ColumnSaid → Said
  state columns = record { name = title; maximise = maximise; rows = rows; columns = columns; sets = []; arcs = [] }

  abbrev column_as : Name → Ends → List EntryPart → ColumnSaid
  column_as name ends entries = record { name = name; ends = ends; entries = entries }

  one_bound : (front : List ColumnSaid) (name : Name) (integer : Bool) (gone : List (BoundKind × Option Decimal)) (entries : List EntryPart) (back : List ColumnSaid) (b : BoundPart) → IsMild integer name b → IsQuiet gone → Others name front → Others name back
      → Runs (state (front ++ column_as name (ends_of integer gone) entries ∷ back)) (Bound b.1 name (option_map (written 3) b.2) ∷ []) (state (front ++ column_as name (ends_of integer (gone ++ pair_of b ∷ [])) entries ∷ back))
  unfolding rules_of with_statement
  one_bound front name integer gone entries back b mild quiet before behind =
      let c = column_as name (ends_of integer gone) entries in
      let value = option_map (written 3) b.2 in
      let kinds : mixes b.1 c ≡ false = or_from _ _ (ap (λ x. makes_semi b.1 && x) (or_false integer _ quiet) ∙ mild.not_semi) (and_left _ _ mild.not_integer) in
      run_one (state (front ++ c ∷ back)) (Bound b.1 name value) (state (front ++ column_as name (ends_of integer (gone ++ pair_of b ∷ [])) entries ∷ back))
      (rw (middle_at front c back before, middle_get front c back, not_fine b.2, not_large b.1 b.2 mild.size, kinds) refl)
      (ap state (middle_changed _ front c back before behind ∙ ap (λ (ends : Ends). front ++ column_as name ends entries ∷ back) (sym (ends-law integer gone b.1 value))))

  quiet_push : (gone : List (BoundKind × Option Decimal)) (integer : Bool) (name : Name) (b : BoundPart) → IsMild integer name b → IsQuiet gone → IsQuiet (gone ++ pair_of b ∷ [])
  quiet_push gone integer name b mild quiet = list_any-append (λ (b : BoundKind × Option Decimal). makes_integer b.0) gone (pair_of b ∷ []) ∙ or_from _ _ quiet (or_from _ _ mild.not_integer refl)

  -- ---- the bounds of a column

  its_bounds : (bs : List BoundPart) (front : List ColumnSaid) (name : Name) (integer : Bool) (gone : List (BoundKind × Option Decimal)) (entries : List EntryPart) (back : List ColumnSaid) → Each (IsMild integer name) bs → IsQuiet gone → Others name front → Others name back
      → Runs (state (front ++ column_as name (ends_of integer gone) entries ∷ back)) (flat_map bound_told bs) (state (front ++ column_as name (ends_of integer (gone ++ map pair_of bs)) entries ∷ back))
  its_bounds [] front name integer gone entries back mild quiet before behind =
      subst (λ (g : List (BoundKind × Option Decimal)). Runs (state (front ++ column_as name (ends_of integer gone) entries ∷ back)) [] (state (front ++ column_as name (ends_of integer g) entries ∷ back))) (sym (append-nil gone))
      (run_none (state (front ++ column_as name (ends_of integer gone) entries ∷ back)))
  its_bounds (b ∷ bs) front name integer gone entries back mild quiet before behind =
      let at : List (BoundKind × Option Decimal) → Said = λ g. state (front ++ column_as name (ends_of integer g) entries ∷ back) in
      let here = one_bound front name integer gone entries back b mild.0 quiet before behind in
      let named : Runs (at gone) (bound_told b) (at (gone ++ pair_of b ∷ [])) = subst (λ n. Runs (at gone) (Bound b.1 n (option_map (written 3) b.2) ∷ []) (at (gone ++ pair_of b ∷ []))) (sym mild.0.own) here in
      let rest = its_bounds bs front name integer (gone ++ pair_of b ∷ []) entries back mild.1 (quiet_push gone integer name b mild.0 quiet) before behind in
      let end = subst (λ (g : List (BoundKind × Option Decimal)). Runs (at (gone ++ pair_of b ∷ [])) (flat_map bound_told bs) (at g)) (append_assoc gone (pair_of b ∷ []) (map pair_of bs)) rest in
      run_both (at gone) (at (gone ++ pair_of b ∷ [])) (at (gone ++ map pair_of (b ∷ bs))) (bound_told b) (flat_map bound_told bs) named end

-- ---- the bounds of a well-formed column

mild_ends : (integer : Bool) (name : Name) (low high : Option ℤ) → ForSome low (IsWithin (10 ^ 10)) → ForSome high (IsWithin (10 ^ 10)) → Each (IsMild integer name) (ends_bounds name low high)
mild_ends integer name None None h k = (record { own = refl; size = none; not_integer = refl; not_semi = refl }, tt)
  where
    none : ForSome None (IsWithin (10 ^ 10))
    none z e = cc
mild_ends integer name None (Some high) h k = (record { own = refl; size = h; not_integer = refl; not_semi = refl }, (record { own = refl; size = k; not_integer = refl; not_semi = refl }, tt))
mild_ends integer name (Some low) None h k = Each-if (IsMild integer name) (is_zero_number low) (name, Lo, Some low) (record { own = refl; size = h; not_integer = refl; not_semi = refl })
mild_ends integer name (Some low) (Some high) h k = (record { own = refl; size = h; not_integer = refl; not_semi = refl }, (record { own = refl; size = k; not_integer = refl; not_semi = refl }, tt))

-- a semicontinuous column isn't integer, and its threshold is no greater than its high end
mild_kind : (kind : Kind) (name : Name) (low high : Option ℤ) → KindFits kind low high → ForSome low (IsWithin (10 ^ 10)) → ForSome high (IsWithin (10 ^ 10)) → Each (IsMild (is_integer kind) name) (kind_bounds name kind low high)
mild_kind Continuous name low high fits h k = mild_ends false name low high h k
mild_kind Integer name low high fits h k = mild_ends true name low high h k
mild_kind (Semi threshold) name low None fits h k = tt
mild_kind (Semi threshold) name low (Some high) fits h k =
    let up : pos 0 ≤ℤ threshold = fits.2 in
    let below : threshold ≤ℤ high = fits.3 high refl in
    let most : unsigned_abs high ≤ 10 ^ 10 = k high refl in
    let size : unsigned_abs threshold ≤ 10 ^ 10 = omega (arith, ints, up, below, most) in
    (record { own = refl; size = within threshold size; not_integer = refl; not_semi = refl }, (record { own = refl; size = k; not_integer = refl; not_semi = refl }, tt))
  where
    within : (z : ℤ) → unsigned_abs z ≤ 10 ^ 10 → ForSome (Some z) (IsWithin (10 ^ 10))
    within z h y e = let same : z ≡ y = cc in rw (← same) h

-- ---- all columns

module _ (d : DeckValue) where
  abbrev at : List ColumnSaid → Said
  at = state d.name d.maximise (rows_known d)

  bare_is : (integer : Bool) → bare_ends integer ≡ ends_of integer []
  bare_is true = refl
  bare_is false = refl

  bare_column : (c : ColumnValue) → column_bare d c ≡ record { name = c.name; ends = ends_of (is_integer c.kind) []; entries = (column_bare d c).entries }
  bare_column c = ap (λ (ends : Ends). record { name = c.name; ends = ends; entries = (column_bare d c).entries }) (bare_is (is_integer c.kind))

  all_others : (name : Name) (cs : List ColumnValue) → Each (λ (c : ColumnValue). bytes_eq name c.name ≡ false) cs → Others name (map (column_bare d) cs)
  all_others name [] h = tt
  all_others name (c ∷ cs) h = (h.0, all_others name cs h.1)

  others_push : (front : List ColumnSaid) (c : ColumnValue) (cs : List ColumnValue) → Each (λ (x : ColumnValue). Others x.name front) cs → Each (λ (x : ColumnValue). bytes_eq c.name x.name ≡ false) cs → Each (λ (x : ColumnValue). Others x.name (front ++ column_known d c ∷ [])) cs
  others_push front c [] h k = tt
  others_push front c (x ∷ cs) h k = (Each-append (λ (y : ColumnSaid). bytes_eq x.name y.name ≡ false) front (column_known d c ∷ []) h.0 (other_way c.name x.name k.0, tt), others_push front c cs h.1 k.1)

  column_by_column : (cs : List ColumnValue) (front : List ColumnSaid) → Each (IsColumn (length d.rows)) cs → Each (λ (x : ColumnValue). Others x.name front) cs → Apart (λ (c : ColumnValue). c.name) cs
      → Runs (at (front ++ map (column_bare d) cs)) (flat_map (λ c. flat_map bound_told (column_bounds c)) cs) (at (front ++ map (column_known d) cs))
  column_by_column [] front is others apart = run_none (at (front ++ []))
  column_by_column (c ∷ cs) front is others apart =
      let back = map (column_bare d) cs in
      let told = flat_map bound_told (column_bounds c) in
      let more = flat_map (λ (c : ColumnValue). flat_map bound_told (column_bounds c)) cs in
      let run = its_bounds d.name d.maximise (rows_known d) (column_bounds c) front c.name (is_integer c.kind) [] (column_bare d c).entries back (mild_kind c.kind c.name c.low c.high is.0.kind is.0.low is.0.high) refl others.0 (all_others c.name cs apart.0) in
      let here = subst (λ (x : ColumnSaid). Runs (at (front ++ x ∷ back)) told (at (front ++ column_known d c ∷ back))) (sym (bare_column c)) run in
      let rest = column_by_column cs (front ++ column_known d c ∷ []) is.1 (others_push front c cs others.1 apart.0) apart.1 in
      let moved = subst (λ (x : List ColumnSaid). Runs (at x) more (at ((front ++ column_known d c ∷ []) ++ map (column_known d) cs))) (append_assoc front (column_known d c ∷ []) back) rest in
      let end = subst (λ (x : List ColumnSaid). Runs (at (front ++ column_known d c ∷ back)) more (at x)) (append_assoc front (column_known d c ∷ []) (map (column_known d) cs)) moved in
      run_both (at (front ++ map (column_bare d) (c ∷ cs))) (at (front ++ column_known d c ∷ back)) (at (front ++ map (column_known d) (c ∷ cs))) told more here end

none_before : (cs : List ColumnValue) → Each (λ (x : ColumnValue). Others x.name []) cs
none_before [] = tt
none_before (c ∷ cs) = (tt, none_before cs)

pub bounds-run-law : (d : DeckValue) → IsDeck d → Runs (behind_ranges d) (flat_map bound_told (flat_map column_bounds d.columns)) (behind_bounds d)
bounds-run-law d deck =
    subst (λ (x : List Statement). Runs (behind_ranges d) x (behind_bounds d)) (sym (flat_flat bound_told column_bounds d.columns))
    (column_by_column d d.columns [] (Each-from (IsColumn (length d.rows)) d.columns deck.columns) (none_before d.columns) (Apart-from (λ (c : ColumnValue). c.name) d.columns deck.column_names))
