-- The numbers of rows without a fault are whole and small at their scales.
use Rattle.std.proofs.Common.{◌≡◌, ℕ, ◌+◌, ◌<◌, ◌≤◌, ◌^◌, Bool, true, false, not, nat_eq, cond, List, [], ◌∷◌, length, get_or, find, option_map, None, Some, All, refl, subst, arith, pos, ◌+ℤ◌, ◌≤ℤ◌, if◌then◌else◌}
use Rattle.std.specs.Option.{ForSome}
use Rattle.std.specs.List.{Contains, enumerate_from}
use Rattle.std.proofs.lemmas.List.Elements.{All-head, All-tail, All-contains, All-filter}
use Rattle.std.proofs.lemmas.List.{get_or_default}
use Rattle.um_num.specs.declared.decimal.Decimal.{Decimal}
use Rattle.um_statements.specs.declared.parts.EntryPart.{EntryPart}
use Rattle.um_statements.specs.declared.parts.ArcPart.{ArcPart}
use Rattle.um_statements.specs.Said.{Said, RowSaid, ColumnSaid}
use Rattle.um_statements.specs.Scaled.{IsShortDecimal, least_scale, is_within_at}
use Rattle.um_statements.specs.CallRules.{is_n, first_fault}
use Rattle.um_statements.specs.Made.{entry_in, coefficients, arcs_in, row_scale, objective, sided_rows}
use Rattle.um_statements.specs.DeckRules.{row_rules}
use Rattle.um_statements.specs.WellSaid.{IsSaid, IsEntrySaid, IsColumnSaid}
use Rattle.um_statements.proofs.ListFacts.{numbered, all_found, place_found, given_pass, given_all, all_given}
use Rattle.um_statements.proofs.DeckFine.{rules_of_each}
use Rattle.um_statements.proofs.MadeColumns.{row_facts}
use Rattle.um_statements.proofs.MadeArcs.{is_same}
use Rattle.um_made.specs.ColumnWords.{Fits, entry_at}
use Rattle.um_made.specs.RowWords.{HaveNoFault}
use Rattle.um_made.proofs.RowRules.{scale_parts, all_whole}

-- ---- small numbers

-- what holds of each entry holds of the one in a row
pub entry_holds : (P : Decimal → Type 0) (row : ℕ) (es : List EntryPart) → All (λ (e : EntryPart). P e.value) es → ForSome (entry_at row es) P
entry_holds P row [] all = λ v is. cc
entry_holds P row (e ∷ es) all = by (nat_eq e.row row) (All-head (λ (x : EntryPart). P x.value) e es all) (entry_holds P row es (All-tail (λ (x : EntryPart). P x.value) e es all))
  where
    by : (b : Bool) → P e.value → ForSome (entry_at row es) P → ForSome (option_map (λ (x : EntryPart). x.value) (cond b (Some e) (find (λ (x : EntryPart). nat_eq x.row row) es))) P
    by true here rest = λ v is. let same : e.value ≡ v = cc in subst P same here
    by false here rest = rest

entries_small : (n : ℕ) (es : List EntryPart) → All (IsEntrySaid n) es → All (λ (e : EntryPart). IsShortDecimal e.value) es
entries_small n es all = λ k d within. (all k d within).number.small

pub coefficients_small : (said : Said) → IsSaid said → (row : ℕ) → All IsShortDecimal (coefficients said row)
coefficients_small said well row =
    all_given IsShortDecimal (entry_in row) said.columns
    (λ k d within. entry_holds IsShortDecimal row (get_or said.columns k d).entries (entries_small (length said.rows) (get_or said.columns k d).entries (well.column_part.each k d within).parts))

pub arcs_small : (said : Said) → IsSaid said → (row : ℕ) → All IsShortDecimal (arcs_in said row)
arcs_small said well row =
    all_given IsShortDecimal (λ (a : ArcPart). if nat_eq a.row row then Some a.value else None) said.arcs
    (λ k d within. by (get_or said.arcs k d) (nat_eq (get_or said.arcs k d).row row) (well.arc_part.each k d within).number.small)
  where
    by : (a : ArcPart) (b : Bool) → IsShortDecimal a.value → ForSome (if b then Some a.value else None) IsShortDecimal
    by a true small = λ v is. let same : a.value ≡ v = cc in subst IsShortDecimal same small
    by a false small = λ v is. cc

-- ---- places

pub sided_within : (said : Said) → All (λ (p : ℕ × RowSaid). p.0 < length said.rows) (sided_rows said)
sided_within said =
    All-filter (λ (p : ℕ × RowSaid). not (is_n p.1.kind)) (λ (p : ℕ × RowSaid). p.0 < length said.rows) (enumerate_from 0 said.rows)
    (numbered (λ (p : ℕ × RowSaid). p.0 < length said.rows) 0 said.rows (λ k d within. omega (arith, within)))

pub objective_within : (said : Said) (p : ℕ × RowSaid) → objective said ≡ Some p → p.0 < length said.rows
objective_within said p is =
    all_found (λ (q : ℕ × RowSaid). q.0 < length said.rows) (λ (q : ℕ × RowSaid). is_n q.1.kind) (enumerate_from 0 said.rows) p is
    (numbered (λ (q : ℕ × RowSaid). q.0 < length said.rows) 0 said.rows (λ k d within. omega (arith, within)))

-- ---- fine rows

pub objective_fine : (said : Said) (p : ℕ × RowSaid) → HaveNoFault said → objective said ≡ Some p → first_fault (row_rules said p) ≡ None
objective_fine said p fine is = rw is at fine.objective_fine

pub rows_fine : (said : Said) → HaveNoFault said → All (λ (p : ℕ × RowSaid). first_fault (row_rules said p) ≡ None) (sided_rows said)
rows_fine said fine = rules_of_each (row_rules said) (sided_rows said) fine.rows_fine

coefficients_below : (said : Said) (p : ℕ × RowSaid) → least_scale (coefficients said p.0) ≤ row_scale said p.0 p.1
coefficients_below said p = let parts = scale_parts (coefficients said p.0) (arcs_in said p.0) p.1 in rw parts (omega arith)

arcs_below : (said : Said) (p : ℕ × RowSaid) → least_scale (arcs_in said p.0) ≤ row_scale said p.0 p.1
arcs_below said p = let parts = scale_parts (coefficients said p.0) (arcs_in said p.0) p.1 in rw parts (omega arith)

-- what a column has in a row at a scale of the row's coefficients is whole
pub coefficient_whole : (said : Said) (row scale : ℕ) (c : ColumnSaid) → least_scale (coefficients said row) ≤ scale → Contains said.columns c → ForSome (entry_in row c) (λ (v : Decimal). pos 0 ≤ℤ (v.power +ℤ pos scale))
coefficient_whole said row scale c low inside =
    All-contains (λ (x : ColumnSaid). ForSome (entry_in row x) (λ (v : Decimal). pos 0 ≤ℤ (v.power +ℤ pos scale))) said.columns c
    (given_all (λ (v : Decimal). pos 0 ≤ℤ (v.power +ℤ pos scale)) (entry_in row) said.columns (all_whole scale (coefficients said row) low)) inside

pub coefficient_small : (said : Said) → IsSaid said → (row : ℕ) (c : ColumnSaid) → Contains said.columns c → ForSome (entry_in row c) IsShortDecimal
coefficient_small said well row c inside =
    All-contains (λ (x : ColumnSaid). ForSome (entry_in row x) IsShortDecimal) said.columns c (given_all IsShortDecimal (entry_in row) said.columns (coefficients_small said well row)) inside

pub coefficient_fits : (said : Said) → IsSaid said → (p : ℕ × RowSaid) → first_fault (row_rules said p) ≡ None → (c : ColumnSaid) → Contains said.columns c → ForSome (entry_in p.0 c) (Fits (2 ^ 31) (row_scale said p.0 p.1))
coefficient_fits said well p fine c inside = λ v is.
    let facts = row_facts said p fine in
    let within = All-contains (λ (x : ColumnSaid). ForSome (entry_in p.0 x) (λ (w : Decimal). is_within_at (2 ^ 31) (row_scale said p.0 p.1) w ≡ true)) said.columns c
    (given_pass (is_within_at (2 ^ 31) (row_scale said p.0 p.1)) (entry_in p.0) said.columns facts.costs) inside in
    record {
      small = coefficient_small said well p.0 c inside v is;
      whole = coefficient_whole said p.0 (row_scale said p.0 p.1) c (coefficients_below said p) inside v is;
      within = within v is;
    }

-- an arc at the scale of the objective
pub arc_fits : (said : Said) → IsSaid said → (p : ℕ × RowSaid) → objective said ≡ Some p → first_fault (row_rules said p) ≡ None → (k : ℕ) (d : ArcPart) → k < length said.arcs → Fits (2 ^ 24) (row_scale said p.0 p.1) (get_or said.arcs k d).value
arc_fits said well p is fine k d inside =
    let a : ArcPart = get_or said.arcs k d in
    let facts = row_facts said p fine in
    let here : a.row ≡ p.0 = place_found (λ (r : RowSaid). is_n r.kind) said.rows p a.row is (well.arc_part.each k d inside).row_place in
    let gives : (if nat_eq a.row p.0 then Some a.value else None) ≡ Some a.value = rw (is_same a.row p.0 here) refl in
    let within = given_pass (is_within_at (2 ^ 24) (row_scale said p.0 p.1)) (λ (x : ArcPart). if nat_eq x.row p.0 then Some x.value else None) said.arcs facts.arcs k d inside in
    let whole = given_all (λ (v : Decimal). pos 0 ≤ℤ (v.power +ℤ pos (row_scale said p.0 p.1))) (λ (x : ArcPart). if nat_eq x.row p.0 then Some x.value else None) said.arcs
    (all_whole (row_scale said p.0 p.1) (arcs_in said p.0) (arcs_below said p)) k d inside in
    record {
      small = (well.arc_part.each k d inside).number.small;
      whole = whole a.value gives;
      within = within a.value gives;
    }

-- the row at the place of the objective
pub objective_row : (said : Said) (p : ℕ × RowSaid) → objective said ≡ Some p → (d : RowSaid) → get_or said.rows p.0 d ≡ p.1
objective_row said p is =
    all_found (λ (q : ℕ × RowSaid). (d : RowSaid) → get_or said.rows q.0 d ≡ q.1) (λ (q : ℕ × RowSaid). is_n q.1.kind) (enumerate_from 0 said.rows) p is
    (numbered (λ (q : ℕ × RowSaid). (d : RowSaid) → get_or said.rows q.0 d ≡ q.1) 0 said.rows
    (λ k e within d. let same : 0 + k ≡ k = omega arith in rw same (get_or_default said.rows k d e within)))

-- what is known of a column that was said
pub column_known : (said : Said) → IsSaid said → (c : ColumnSaid) → Contains said.columns c → IsColumnSaid (length said.rows) c
column_known said well c inside = All-contains (IsColumnSaid (length said.rows)) said.columns c well.column_part.each inside
