-- What is known of a column in each row: the numbers that its lines told.
use Rattle.std.proofs.Common.{◌≡◌, ◌≢◌, ℕ, zero, suc, ◌*◌, ◌^◌, nat_eq, Bool, true, false, cond, List, [], ◌∷◌, ◌++◌, map, filter_map, find, length, Option, Some, None, option_map, ℤ, pos, negsuc, neg_ℤ, ◌+ℤ◌, unsigned_abs, refl, sym, ap, ◌∙◌, arith, if◌then◌else◌}
use Rattle.std.specs.List.{flat_map, cons_option}
use Rattle.std.proofs.lemmas.Bool.Decides.{nat_tests}
use Rattle.um_num.specs.declared.decimal.Decimal.{Decimal}
use Rattle.um_model.specs.Values.{DeckValue, ColumnValue}
use Rattle.um_model.specs.WellFormed.{IsEntry, AtPlace}
use Rattle.um_model.specs.declared.deck.Row.{Row}
use Rattle.um_model.specs.declared.deck.Arc.{Arc}
use Rattle.um_model.specs.declared.deck.Entry.{Entry}
use Rattle.um_statements.specs.declared.parts.EntryPart.{EntryPart}
use Rattle.um_statements.specs.declared.parts.ArcPart.{ArcPart}
use Rattle.um_statements.specs.CallRules.{is_zero as is_nothing}
use Rattle.um_statements.specs.Scaled.{at_least_zero}
use Rattle.um_statements.specs.Made.{entry_in, arcs_in, nothing}
use Rattle.um_statements.proofs.Tests.{scaled_size}
use Rattle.um_make.specs.NormalLines.{in_sense, is_zero_number, or_one, entry_number, scale_of_row}
use Rattle.um_round.specs.Numerals.{written}
use Rattle.um_round.proofs.EachItem.{Each}
use Rattle.um_round.proofs.NormalSaid.{bare_rows, part_of, column_known, arc_known, normal_said}
use Rattle.um_round.proofs.Numerals.{nothing_normal, scaled_back}
use Rattle.um_round.proofs.ColumnsTold.{Apart}
use Rattle.um_round.proofs.ColumnsRun.{objective_at, row_at}

-- ---- lists

-- what is given of each item, under a function
pub given_map : {X Y Z : Type 0} (f : Y → Z) (g : X → Option Y) (xs : List X) → filter_map (λ x. option_map f (g x)) xs ≡ map f (filter_map g xs)
given_map f g [] = refl
given_map {X = X} {Y = Y} {Z = Z} f g (x ∷ xs) = by (g x) (given_map f g xs)
  where
    by : (o : Option Y) → filter_map (λ x. option_map f (g x)) xs ≡ map f (filter_map g xs) → cons_option (option_map f o) (filter_map (λ x. option_map f (g x)) xs) ≡ map f (cons_option o (filter_map g xs))
    by None rest = rest
    by (Some y) rest = ap (λ (zs : List Z). f y ∷ zs) rest

-- two functions that give the same of each item, one behind a map
pub given_same : {X Y Z : Type 0} (f : Y → Option Z) (m : X → Y) (g : X → Option Z) (xs : List X) → Each (λ x. f (m x) ≡ g x) xs → filter_map f (map m xs) ≡ filter_map g xs
given_same f m g [] h = refl
given_same {Z = Z} f m g (x ∷ xs) h = ap (λ o. cons_option o (filter_map f (map m xs))) h.0 ∙ ap (λ (zs : List Z). cons_option (g x) zs) (given_same f m g xs h.1)

-- ---- zero

pub written_zero : (k : ℕ) → written k (pos 0) ≡ nothing
written_zero k = nothing_normal false (neg_ℤ (pos k))

pub zero_is : (z : ℤ) → is_zero_number z ≡ true → z ≡ pos 0
zero_is (pos n) t = let none : n ≡ 0 = grind (arith, nat_tests) in ap pos none
zero_is (negsuc n) t = grind (arith, nat_tests)

-- a number that isn't 0 is not written as 0
pub not_nothing : (k : ℕ) (z : ℤ) → z ≢ pos 0 → is_nothing (written k z) ≡ false
not_nothing k z some = by (is_nothing (written k z)) refl
  where
    nil : (z : ℤ) → unsigned_abs z ≡ 0 → z ≡ pos 0
    nil (pos n) e = ap pos e
    nil (negsuc n) e = absurd (omega (arith, e))

    by : (t : Bool) → is_nothing (written k z) ≡ t → t ≡ false
    by false e = refl
    by true e =
        let v = written k z in
        let none : unsigned_abs v.digits ≡ 0 = grind (arith, nat_tests) in
        let product : unsigned_abs z ≡ unsigned_abs v.digits * 10 ^ at_least_zero (v.power +ℤ pos k) = sym (ap unsigned_abs (scaled_back k z)) ∙ scaled_size v k in
        let zero_times : unsigned_abs v.digits * 10 ^ at_least_zero (v.power +ℤ pos k) ≡ 0 = ap (λ n. n * 10 ^ at_least_zero (v.power +ℤ pos k)) none ∙ omega arith in
        absurd (some (nil z (product ∙ zero_times)))

-- ---- one column

-- the value of the first part in this row
abbrev value_in : ℕ → List EntryPart → Option Decimal
value_in place es = option_map (λ (e : EntryPart). e.value) (find (λ (e : EntryPart). nat_eq e.row place) es)

-- the entry in this row
abbrev pub entry_at : ℕ → List Entry → Option Entry
entry_at i es = find (λ (e : Entry). nat_eq e.row i) es

-- the number in the objective, where one is told: a column without any number tells a 0 there
abbrev pub cost_told : Bool → ℤ → List Entry → Option ℤ
cost_told true z [] = Some (pos 0)
cost_told true z (e ∷ es) = None
cost_told false z es = Some z

later_place : (a b : ℕ) → nat_eq (suc a) (suc b) ≡ nat_eq a b
later_place a b = by (nat_eq a b) refl
  where
    by : (t : Bool) → nat_eq a b ≡ t → nat_eq (suc a) (suc b) ≡ t
    by true e = grind (arith, nat_tests)
    by false e = grind (arith, nat_tests)

not_first : (a : ℕ) → nat_eq (suc a) 0 ≡ false
not_first a = grind (arith, nat_tests)

not_later : (b : ℕ) → nat_eq 0 (suc b) ≡ false
not_later b = grind (arith, nat_tests)

module _ (d : DeckValue) where
  abbrev part_at : Entry → EntryPart
  part_at e = record { row = suc e.row; value = written (scale_of_row d.rows e.row) e.value }

  abbrev pub cost_of : ColumnValue → ℤ
  cost_of c = in_sense d.maximise c.cost

  abbrev cost_part : ℕ → ℤ → EntryPart
  cost_part k z = record { row = 0; value = written k z }

  abbrev parts_as : Bool → ℤ → List Entry → List EntryPart
  parts_as true z [] = cost_part 0 (pos 0) ∷ []
  parts_as true z (e ∷ es) = map part_at (e ∷ es)
  parts_as false z es = cost_part d.scale z ∷ map part_at es

  module _ (apart : Apart (λ n. n) (d.objective_name ∷ map (λ (r : Row). r.name) d.rows)) where
    entry_parts : (es : List Entry) → Each (IsEntry (length d.rows)) es → flat_map (part_of (bare_rows d)) (map (entry_number d.rows) es) ≡ map part_at es
    entry_parts [] h = refl
    entry_parts (e ∷ es) h = rw (row_at d e.row h.0.row apart) (ap (λ (more : List EntryPart). part_at e ∷ more) (entry_parts es h.1))

    parts_are : (c : ColumnValue) → Each (IsEntry (length d.rows)) c.entries → (column_known d c).entries ≡ parts_as (is_zero_number (cost_of c)) (cost_of c) c.entries
    parts_are c h = by (is_zero_number (cost_of c)) c.entries h
      where
        by : (b : Bool) (es : List Entry) → Each (IsEntry (length d.rows)) es
            → flat_map (part_of (bare_rows d)) (or_one ((if b then [] else (d.objective_name, d.scale, cost_of c) ∷ []) ++ map (entry_number d.rows) es) (d.objective_name, 0, pos 0)) ≡ parts_as b (cost_of c) es
        by true [] h = rw (objective_at d) refl
        by true (e ∷ es) h = entry_parts (e ∷ es) h
        by false es h = rw (objective_at d) (ap (λ (more : List EntryPart). cost_part d.scale (cost_of c) ∷ more) (entry_parts es h))

  -- ---- in a row

  value_at : (i : ℕ) (es : List Entry) → value_in (suc i) (map part_at es) ≡ option_map (λ (e : Entry). written (scale_of_row d.rows i) e.value) (entry_at i es)
  value_at i [] = refl
  value_at i (e ∷ es) = rw (later_place e.row i) (by (nat_eq e.row i) refl (value_at i es))
    where
      by : (t : Bool) → nat_eq e.row i ≡ t → value_in (suc i) (map part_at es) ≡ option_map (λ (e : Entry). written (scale_of_row d.rows i) e.value) (entry_at i es)
          → option_map (λ (e : EntryPart). e.value) (cond t (Some (part_at e)) (find (λ (e : EntryPart). nat_eq e.row (suc i)) (map part_at es))) ≡ option_map (λ (e : Entry). written (scale_of_row d.rows i) e.value) (cond t (Some e) (entry_at i es))
      by true same rest = let is : e.row ≡ i = grind (arith, nat_tests) in ap (λ j. Some (written (scale_of_row d.rows j) e.value)) is
      by false other rest = rest

  value_as : (b : Bool) (z : ℤ) (i : ℕ) (es : List Entry) → value_in (suc i) (parts_as b z es) ≡ option_map (λ (e : Entry). written (scale_of_row d.rows i) e.value) (entry_at i es)
  value_as true z i [] = rw (not_later i) refl
  value_as true z i (e ∷ es) = value_at i (e ∷ es)
  value_as false z i es = rw (not_later i) (value_at i es)

  -- ---- in the objective

  none_first : (es : List Entry) → value_in 0 (map part_at es) ≡ None
  none_first [] = refl
  none_first (e ∷ es) = rw (not_first e.row) (none_first es)

  cost_as : (b : Bool) (z : ℤ) (es : List Entry) → value_in 0 (parts_as b z es) ≡ option_map (written d.scale) (cost_told b z es)
  cost_as true z [] = ap (λ (v : Decimal). Some v) (written_zero 0 ∙ sym (written_zero d.scale))
  cost_as true z (e ∷ es) = none_first (e ∷ es)
  cost_as false z es = refl

  module _ (apart : Apart (λ n. n) (d.objective_name ∷ map (λ (r : Row). r.name) d.rows)) where
    pub known_value : (c : ColumnValue) → Each (IsEntry (length d.rows)) c.entries → (i : ℕ) → entry_in (suc i) (column_known d c) ≡ option_map (λ (e : Entry). written (scale_of_row d.rows i) e.value) (entry_at i c.entries)
    known_value c h i = ap (value_in (suc i)) (parts_are apart c h) ∙ value_as (is_zero_number (cost_of c)) (cost_of c) i c.entries

    pub known_cost : (c : ColumnValue) → Each (IsEntry (length d.rows)) c.entries → entry_in 0 (column_known d c) ≡ option_map (written d.scale) (cost_told (is_zero_number (cost_of c)) (cost_of c) c.entries)
    known_cost c h = ap (value_in 0) (parts_are apart c h) ∙ cost_as (is_zero_number (cost_of c)) (cost_of c) c.entries

-- the scale of the row at a place
pub scale_at : (rows : List Row) (i : ℕ) (r : Row) → AtPlace rows i r → scale_of_row rows i ≡ r.scale
scale_at [] i r at = cc
scale_at (x ∷ rows) zero r at = let same : x ≡ r = cc in ap (λ (y : Row). y.scale) same
scale_at (x ∷ rows) (suc i) r at = scale_at rows i r at

-- ---- arcs

-- the numbers of the arcs, in the deck's sense
abbrev pub arc_numbers : DeckValue → List ℤ
arc_numbers d = map (λ (a : Arc). in_sense d.maximise a.value) d.arcs

-- all arcs are in the objective
pub objective_arcs : (d : DeckValue) → arcs_in (normal_said d) 0 ≡ map (written d.scale) (arc_numbers d)
objective_arcs d = by d.arcs
  where
    by : (arcs : List Arc) → filter_map (λ (a : ArcPart). if nat_eq a.row 0 then Some a.value else None) (map (arc_known d) arcs) ≡ map (written d.scale) (map (λ (a : Arc). in_sense d.maximise a.value) arcs)
    by [] = refl
    by (a ∷ arcs) = ap (λ (vs : List Decimal). written d.scale (in_sense d.maximise a.value) ∷ vs) (by arcs)

-- and none is in a row
pub row_arcs : (d : DeckValue) (i : ℕ) → arcs_in (normal_said d) (suc i) ≡ []
row_arcs d i = by d.arcs
  where
    by : (arcs : List Arc) → filter_map (λ (a : ArcPart). if nat_eq a.row (suc i) then Some a.value else None) (map (arc_known d) arcs) ≡ []
    by [] = refl
    by (a ∷ arcs) = rw (not_later i) (by arcs)
