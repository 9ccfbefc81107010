-- What was said keeps its form behind more columns, entries and bounds.
use Rattle.std.proofs.Common.{◌≡◌, ◌≢◌, ℕ, suc, ◌+◌, ◌<◌, ◌≤◌, Bool, true, false, not, ◌&&◌, nat_le, nat_eq, List, [], ◌∷◌, ◌++◌, map, length, get_or, count_by, slice_get, All, AllPairs, Option, None, Some, is_some, option_map, option_and_then, refl, sym, ap, subst, ◌∙◌, true≢false, arith, if◌then◌else◌}
use Rattle.std.specs.Option.{option_map_or}
use Rattle.std.specs.List.{range_with_len, list_any}
use Rattle.std.specs.Str.{bytes_eq}
use Rattle.std.proofs.lemmas.List.{length_push, length-map, get_or-map}
use Rattle.std.proofs.lemmas.List.Elements.{All-nil, All-map, All-push, All-weaker}
use Rattle.std.proofs.lemmas.List.Quantifiers.{all_pairs_push, position-Some}
use Rattle.um_num.specs.declared.decimal.Decimal.{Decimal}
use Rattle.um_statements.specs.declared.parts.BoundKind.{BoundKind}
use Rattle.um_statements.specs.declared.parts.EntryPart.{EntryPart}
use Rattle.um_statements.specs.declared.parts.ArcPart.{ArcPart}
use Rattle.um_statements.specs.Statements.{Name}
use Rattle.um_statements.specs.Said.{ColumnSaid, place_in}
use Rattle.um_statements.specs.CallRules.{bare_ends, with_bound, mixes, is_large_bound, change_columns, change_last, option_list, holds_row, last_has}
use Rattle.um_statements.specs.WellSaid.{IsNumber, IsEntrySaid, IsColumnSaid, AreColumns, IsArcSaid, AreArcs, keeps_arc}
use Rattle.um_statements.proofs.ListFacts.{pairs_none, none_pass}
use Rattle.um_statements.proofs.Tests.{other_number, same_number}
use Rattle.um_statements.proofs.PushedLists.{count_push, pairs_push_map, new_name, place_stands, got, map_kept, length_last, map_last_kept, all_last, range_push}
use Rattle.um_statements.proofs.KeptEnds.{bound_kept}
use Rattle.um_statements.proofs.KeptRows.{not_full}

-- the place of a name is within the list
pub place_within : {X : Type 0} (name_of : X → Name) (xs : List X) (name : Name) (i : ℕ) → place_in (map name_of xs) name ≡ Some i → i < length xs
place_within name_of xs name i at = subst (λ n. i < n) (length-map xs name_of) (position-Some (bytes_eq name) (map name_of xs) i [] at).0

-- ---- a column

pub columns_kept : (rows : ℕ) (columns : List ColumnSaid) (name : Name) (in_block : Bool) → is_some (place_in (map (λ (c : ColumnSaid). c.name) columns) name) ≡ false → nat_le 4096 (length columns) ≡ false → AreColumns rows columns
    → AreColumns rows (columns ++ record { name = name; ends = bare_ends in_block; entries = [] } ∷ [])
columns_kept rows columns name in_block new room is =
    let column : ColumnSaid = record { name = name; ends = bare_ends in_block; entries = [] } in
    let fits = not_full 4096 (length columns) room in
    let long = length_push columns column in
    record {
      names = pairs_push_map (λ (a : Name) (b : Name). a ≢ b) (λ (c : ColumnSaid). c.name) columns column is.names (new_name (map (λ (c : ColumnSaid). c.name) columns) name new);
      count = omega (arith, fits, long);
      each = All-push (IsColumnSaid rows) columns column is.each (record {
        bounds = record { unmixed = refl; low_size = λ z e. cc; high_size = λ z e. cc; threshold_size = λ z e. cc };
        parts = All-nil (IsEntrySaid rows);
        distinct = pairs_none (λ (a : EntryPart) (b : EntryPart). a.row ≢ b.row);
      });
    }

-- a new column has no arc
none_keeps : (objective : Option ℕ) (n : ℕ) (arcs : List ArcPart) → All (IsArcSaid objective n) arcs → keeps_arc arcs n ≡ false
none_keeps objective n arcs each = none arcs (λ k d within. (each k d within).place)
  where
    apart : (a : ℕ) (b : Bool) → a < n → (nat_eq a n && b) ≡ false
    apart a b low = by (nat_eq a n) refl
      where
        by : (t : Bool) → nat_eq a n ≡ t → (t && b) ≡ false
        by true same = let equal = same_number a n same in absurd (omega (arith, low, equal))
        by false same = refl

    none : (xs : List ArcPart) → All (λ (a : ArcPart). a.column < n) xs → keeps_arc xs n ≡ false
    none xs low = nothing_passes _ xs (λ k d within. apart _ _ (low k d within))
      where
        nothing_passes : {X : Type 0} (p : X → Bool) (ys : List X) → All (λ y. p y ≡ false) ys → list_any p ys ≡ false
        nothing_passes p [] h = refl
        nothing_passes p (y ∷ ys) h = rw (h 0 y (omega arith)) (nothing_passes p ys (λ k d within. h (suc k) d (omega (arith, within))))

-- so as many columns have an arc as before
pub same_arc_columns : (objective : Option ℕ) (columns : List ColumnSaid) (c : ColumnSaid) (arcs : List ArcPart) → All (IsArcSaid objective (length columns)) arcs
    → count_by (keeps_arc arcs) (range_with_len 0 (length (columns ++ c ∷ []))) ≡ count_by (keeps_arc arcs) (range_with_len 0 (length columns))
same_arc_columns objective columns c arcs each =
    let n : ℕ = length columns in
    let long : length (columns ++ c ∷ []) ≡ suc n = let push = length_push columns c in omega (arith, push) in
    let zeros : 0 + n ≡ n = omega arith in
    let more : range_with_len 0 (length (columns ++ c ∷ [])) ≡ range_with_len 0 n ++ n ∷ []
    = ap (range_with_len 0) long ∙ (range_push 0 n ∙ ap (λ (k : ℕ). range_with_len 0 n ++ k ∷ []) zeros) in
    let counted : count_by (keeps_arc arcs) (range_with_len 0 n ++ n ∷ []) ≡ count_by (keeps_arc arcs) (range_with_len 0 n) + 0
    = count_push (keeps_arc arcs) (range_with_len 0 n) n ∙ ap (λ (b : Bool). count_by (keeps_arc arcs) (range_with_len 0 n) + (if b then 1 else 0)) (none_keeps objective n arcs each) in
    let last : count_by (keeps_arc arcs) (range_with_len 0 n) + 0 ≡ count_by (keeps_arc arcs) (range_with_len 0 n) = omega arith in
    ap (count_by (keeps_arc arcs)) more ∙ (counted ∙ last)

pub more_arc_columns : (objective : Option ℕ) (columns : List ColumnSaid) (c : ColumnSaid) (arcs : List ArcPart) → AreArcs objective (length columns) arcs → AreArcs objective (length (columns ++ c ∷ [])) arcs
more_arc_columns objective columns c arcs is =
    let n : ℕ = length columns in
    let long : length (columns ++ c ∷ []) ≡ suc n = let push = length_push columns c in omega (arith, push) in
    record {
      each = All-weaker (IsArcSaid objective n) (IsArcSaid objective (length (columns ++ c ∷ [])))
          (λ a one. record { row_place = one.row_place; place = let low = one.place in omega (arith, low, long); number = one.number }) arcs is.each;
      distinct = is.distinct;
      count = subst (λ m. m ≤ 64) (sym (same_arc_columns objective columns c arcs is.each)) is.count;
    }

-- ---- an entry

abbrev pub with_entry : Option ℕ → Decimal → ColumnSaid → ColumnSaid
with_entry found value c = record c { entries = c.entries ++ option_list (option_map (λ place. record { row = place; value = value }) found) }

entry_kept : (rows place : ℕ) (value : Decimal) → place < rows → IsNumber value → (c : ColumnSaid) → holds_row place c.entries ≡ false → IsColumnSaid rows c → IsColumnSaid rows (with_entry (Some place) value c)
entry_kept rows place value within number c new is = record {
  bounds = is.bounds;
  parts = All-push (IsEntrySaid rows) c.entries (record { row = place; value = value }) is.parts (record { place = within; number = number });
  distinct = all_pairs_push (λ (a : EntryPart) (b : EntryPart). a.row ≢ b.row) c.entries (record { row = place; value = value }) is.distinct
      (λ k d inside. other_number _ place (none_pass (λ (e : EntryPart). nat_eq e.row place) c.entries new k d inside));
}

pub entries_kept : (rows : ℕ) (columns : List ColumnSaid) (found : Option ℕ) (value : Decimal) → IsNumber value → not (is_some found) ≡ false → ((i : ℕ) → found ≡ Some i → i < rows)
    → option_map_or (λ place. last_has (λ (c : ColumnSaid). holds_row place c.entries) columns) found false ≡ false → AreColumns rows columns → AreColumns rows (change_last (with_entry found value) columns)
entries_kept rows columns None value number known within new is = absurd (true≢false known)
entries_kept rows columns (Some place) value number known within new is = record {
  names = subst (AllPairs (λ (a : Name) (b : Name). a ≢ b)) (sym (map_last_kept (λ (c : ColumnSaid). c.name) (with_entry (Some place) value) (λ c. refl) columns)) is.names;
  count = subst (λ n. n ≤ 4096) (sym (length_last (with_entry (Some place) value) columns)) is.count;
  each = all_last (IsColumnSaid rows) (λ (c : ColumnSaid). holds_row place c.entries) (with_entry (Some place) value) (λ c none one. entry_kept rows place value (within place refl) number c none one) columns new is.each;
}

-- ---- a bound

module _ (kind : BoundKind) (column : Name) (value : Option Decimal) where
  abbrev bounded : ColumnSaid → ColumnSaid
  bounded c = if bytes_eq column c.name then record c { ends = with_bound kind value c.ends } else c

  bounded_name : (c : ColumnSaid) → (bounded c).name ≡ c.name
  bounded_name c = by (bytes_eq column c.name)
    where
      by : (b : Bool) → (if b then record c { ends = with_bound kind value c.ends } else c).name ≡ c.name
      by true = refl
      by false = refl

  pub bounded_count : (columns : List ColumnSaid) → length (change_columns column (λ c. record c { ends = with_bound kind value c.ends }) columns) ≡ length columns
  bounded_count columns = length-map columns bounded

  -- the column of the name is the one that was looked at
  looked_at : (columns : List ColumnSaid) → AllPairs (λ (a : Name) (b : Name). a ≢ b) (map (λ (c : ColumnSaid). c.name) columns)
      → option_map_or (mixes kind) (option_and_then (slice_get columns) (place_in (map (λ (c : ColumnSaid). c.name) columns) column)) false ≡ false
      → (k : ℕ) (d : ColumnSaid) → k < length columns → bytes_eq column (get_or columns k d).name ≡ true → mixes kind (get_or columns k d) ≡ false
  looked_at columns names unmixed k d within same =
      let name_at = get_or-map (λ (c : ColumnSaid). c.name) columns k d d.name within in
      let inside : k < length (map (λ (c : ColumnSaid). c.name) columns) = subst (λ n. k < n) (sym (length-map columns (λ (c : ColumnSaid). c.name))) within in
      let place = place_stands (map (λ (c : ColumnSaid). c.name) columns) column k d.name names inside (ap (bytes_eq column) name_at ∙ same) in
      let there : option_and_then (slice_get columns) (place_in (map (λ (c : ColumnSaid). c.name) columns) column) ≡ Some (get_or columns k d) = ap (option_and_then (slice_get columns)) place ∙ got columns k d within in
      sym (ap (λ (o : Option ColumnSaid). option_map_or (mixes kind) o false) there) ∙ unmixed

  pub bounds_kept : (rows : ℕ) (columns : List ColumnSaid) → option_map_or (is_large_bound kind) value false ≡ false
      → option_map_or (mixes kind) (option_and_then (slice_get columns) (place_in (map (λ (c : ColumnSaid). c.name) columns) column)) false ≡ false
      → AreColumns rows columns → AreColumns rows (change_columns column (λ c. record c { ends = with_bound kind value c.ends }) columns)
  bounds_kept rows columns fits unmixed is = record {
    names = subst (AllPairs (λ (a : Name) (b : Name). a ≢ b)) (sym (map_kept (λ (c : ColumnSaid). c.name) bounded bounded_name columns)) is.names;
    count = subst (λ n. n ≤ 4096) (sym (length-map columns bounded)) is.count;
    each = All-map (IsColumnSaid rows) bounded columns (λ k d within. one (get_or columns k d) (is.each k d within) (looked_at columns is.names unmixed k d within));
  }
    where
      one : (c : ColumnSaid) → IsColumnSaid rows c → (bytes_eq column c.name ≡ true → mixes kind c ≡ false) → IsColumnSaid rows (bounded c)
      one c is looked = by (bytes_eq column c.name) refl
        where
          by : (b : Bool) → bytes_eq column c.name ≡ b → IsColumnSaid rows (if b then record c { ends = with_bound kind value c.ends } else c)
          by true same = record { bounds = bound_kept kind value c.ends fits (looked same) is.bounds; parts = is.parts; distinct = is.distinct }
          by false same = is
