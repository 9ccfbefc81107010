-- What was said keeps its form behind more rows, and the other parts keep theirs.
use Rattle.std.proofs.Common.{◌≡◌, ◌≢◌, ℕ, ◌+◌, ◌<◌, ◌≤◌, Bool, true, false, not, ◌&&◌, ◌||◌, cond, nat_le, List, [], ◌∷◌, ◌++◌, map, length, count_by, AllPairs, Option, None, Some, is_some, refl, sym, ap, subst, ◌∙◌, arith, if◌then◌else◌}
use Rattle.std.specs.Option.{ForSome, option_or}
use Rattle.std.specs.Str.{bytes_eq}
use Rattle.std.proofs.lemmas.List.{length_push, length-map}
use Rattle.std.proofs.lemmas.List.Elements.{All-map, All-push, All-weaker}
use Rattle.std.proofs.lemmas.Bool.Decides.{nat_tests}
use Rattle.um_num.specs.declared.decimal.Decimal.{Decimal}
use Rattle.um_statements.specs.declared.parts.RowKind.{RowKind}
use Rattle.um_statements.specs.declared.parts.ArcPart.{ArcPart}
use Rattle.um_statements.specs.Statements.{Name}
use Rattle.um_statements.specs.Said.{RowSaid, ColumnSaid, SetSaid, place_in}
use Rattle.um_statements.specs.CallRules.{is_n, objective_place, change_rows}
use Rattle.um_statements.specs.WellSaid.{IsNumber, IsRowSaid, AreRows, IsEntrySaid, IsColumnSaid, AreColumns, IsMemberSaid, IsSetSaid, AreSets, IsArcSaid, AreArcs}
use Rattle.um_statements.proofs.KnownNames.{position_more}
use Rattle.um_statements.proofs.Tests.{or_false}
use Rattle.um_statements.proofs.PushedLists.{count_push, pairs_push_map, new_name, map_kept, place_kept, count_kept}

-- ---- more rows and columns leave the other parts

pub more_rows_columns : (rows more : ℕ) (columns : List ColumnSaid) → rows ≤ more → AreColumns rows columns → AreColumns more columns
more_rows_columns rows more columns le is = record {
  names = is.names;
  count = is.count;
  each = All-weaker (IsColumnSaid rows) (IsColumnSaid more)
      (λ c one. record { bounds = one.bounds; distinct = one.distinct; parts = All-weaker (IsEntrySaid rows) (IsEntrySaid more) (λ e part. record { place = let low = part.place in omega (arith, low, le); number = part.number }) c.entries one.parts }) columns is.each;
}

pub more_sets : (rows more columns wider : ℕ) (sets : List SetSaid) → rows ≤ more → columns ≤ wider → AreSets rows columns sets → AreSets more wider sets
more_sets rows more columns wider sets le le2 is = record {
  names = is.names;
  count = is.count;
  each = All-weaker (IsSetSaid rows columns) (IsSetSaid more wider)
      (λ s one. record {
        weights_row = λ r e. let low = one.weights_row r e in omega (arith, low, le);
        distinct = one.distinct;
        parts = All-weaker (IsMemberSaid columns) (IsMemberSaid wider) (λ m part. record { place = let low = part.place in omega (arith, low, le2); size = part.size }) s.members one.parts;
      }) sets is.each;
}

pub more_arc_rows : (rows : List RowSaid) (r : RowSaid) (columns : ℕ) (arcs : List ArcPart) → AreArcs (objective_place rows) columns arcs → AreArcs (objective_place (rows ++ r ∷ [])) columns arcs
more_arc_rows rows r columns arcs is = record {
  each = All-weaker (IsArcSaid (objective_place rows) columns) (IsArcSaid (objective_place (rows ++ r ∷ [])) columns)
      (λ a one. record { row_place = position_more (λ (x : RowSaid). is_n x.kind) rows (r ∷ []) (ap is_some one.row_place) ∙ one.row_place; place = one.place; number = one.number }) arcs is.each;
  distinct = is.distinct;
  count = is.count;
}

-- ---- a row

pub not_full : (a b : ℕ) → nat_le a b ≡ false → b < a
not_full a b h = grind (arith, nat_tests)

pub rows_kept : (rows : List RowSaid) (kind : RowKind) (name : Name) → is_some (place_in (map (λ (r : RowSaid). r.name) rows) name) ≡ false
    → (nat_le 1024 (length rows) || (not (is_n kind) && nat_le 512 (count_by (λ (r : RowSaid). not (is_n r.kind)) rows))) ≡ false → AreRows rows
    → AreRows (rows ++ record { name = name; kind = kind; side = None; range = None } ∷ [])
rows_kept rows kind name new room is =
    let row : RowSaid = record { name = name; kind = kind; side = None; range = None } in
    let both = or_false (nat_le 1024 (length rows)) (not (is_n kind) && nat_le 512 (count_by (λ (r : RowSaid). not (is_n r.kind)) rows)) room in
    let fits = not_full 1024 (length rows) both.0 in
    let long = length_push rows row in
    record {
      names = pairs_push_map (λ (a : Name) (b : Name). a ≢ b) (λ (r : RowSaid). r.name) rows row is.names (new_name (map (λ (r : RowSaid). r.name) rows) name new);
      count = omega (arith, fits, long);
      sided = subst (λ n. n ≤ 512) (sym (count_push (λ (r : RowSaid). not (is_n r.kind)) rows row)) (counted (not (is_n kind)) (count_by (λ (r : RowSaid). not (is_n r.kind)) rows) is.sided both.1);
      each = All-push IsRowSaid rows row is.each (record { side_number = λ v e. cc; range_number = λ v e. cc });
    }
  where
    counted : (b : Bool) (n : ℕ) → n ≤ 512 → (b && nat_le 512 n) ≡ false → n + cond b 1 0 ≤ 512
    counted true n le full = let fits = not_full 512 n full in omega (arith, fits)
    counted false n le full = omega (arith, le)

-- ---- a side or a range

module _ (row : Name) (change : RowSaid → RowSaid) (same_name : (r : RowSaid) → (change r).name ≡ r.name) (same_kind : (r : RowSaid) → (change r).kind ≡ r.kind) (fine : (r : RowSaid) → IsRowSaid r → IsRowSaid (change r)) where
  abbrev changed : RowSaid → RowSaid
  changed r = if bytes_eq row r.name then change r else r

  name_kept : (r : RowSaid) → (changed r).name ≡ r.name
  name_kept r = by (bytes_eq row r.name)
    where
      by : (b : Bool) → (if b then change r else r).name ≡ r.name
      by true = same_name r
      by false = refl

  pub kind_kept : (r : RowSaid) → (changed r).kind ≡ r.kind
  kind_kept r = by (bytes_eq row r.name)
    where
      by : (b : Bool) → (if b then change r else r).kind ≡ r.kind
      by true = same_kind r
      by false = refl

  row_kept : (r : RowSaid) → IsRowSaid r → IsRowSaid (changed r)
  row_kept r is = by (bytes_eq row r.name)
    where
      by : (b : Bool) → IsRowSaid (if b then change r else r)
      by true = fine r is
      by false = is

  pub changed_rows : (rows : List RowSaid) → AreRows rows → AreRows (change_rows row change rows)
  changed_rows rows is = record {
    names = subst (AllPairs (λ (a : Name) (b : Name). a ≢ b)) (sym (map_kept (λ (r : RowSaid). r.name) changed name_kept rows)) is.names;
    count = subst (λ n. n ≤ 1024) (sym (length-map rows changed)) is.count;
    sided = subst (λ n. n ≤ 512) (sym (count_kept (λ (r : RowSaid). not (is_n r.kind)) changed (λ r. ap (λ (k : RowKind). not (is_n k)) (kind_kept r)) rows)) is.sided;
    each = All-map IsRowSaid changed rows (All-weaker IsRowSaid (λ r. IsRowSaid (changed r)) row_kept rows is.each);
  }

  pub changed_count : (rows : List RowSaid) → length (change_rows row change rows) ≡ length rows
  changed_count rows = length-map rows changed

  pub changed_objective : (rows : List RowSaid) → objective_place (change_rows row change rows) ≡ objective_place rows
  changed_objective rows = place_kept (λ (r : RowSaid). is_n r.kind) changed (λ r. ap is_n (kind_kept r)) rows

pub side_fine : (value : Decimal) → IsNumber value → (r : RowSaid) → IsRowSaid r → IsRowSaid (record r { side = option_or r.side (Some value) })
side_fine value number r is = record { side_number = by r.side is.side_number; range_number = is.range_number }
  where
    by : (o : Option Decimal) → ForSome o IsNumber → ForSome (option_or o (Some value)) IsNumber
    by None h = λ v e. let same : value ≡ v = cc in subst IsNumber same number
    by (Some w) h = h

pub range_fine : (value : Decimal) → IsNumber value → (r : RowSaid) → IsRowSaid r → IsRowSaid (record r { range = option_or r.range (Some value) })
range_fine value number r is = record { range_number = by r.range is.range_number; side_number = is.side_number }
  where
    by : (o : Option Decimal) → ForSome o IsNumber → ForSome (option_or o (Some value)) IsNumber
    by None h = λ v e. let same : value ≡ v = cc in subst IsNumber same number
    by (Some w) h = h
