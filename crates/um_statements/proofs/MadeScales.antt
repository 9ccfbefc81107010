-- The scales of the deck of what was said are the least ones.
use Rattle.std.proofs.Common.{◌≡◌, ◌≢◌, ℕ, ◌≤◌, ◌<◌, Bool, true, false, not, nat_eq, neg_ℤ, [], ◌∷◌, ◌++◌, length, get_or, find, All, Option, None, Some, option_map, unwrap_or, refl, sym, subst, ◌∙◌, true≢false, arith, if◌then◌else◌}
use Rattle.std.specs.Option.{ForSome}
use Rattle.std.specs.List.{enumerate_from}
use Rattle.std.proofs.lemmas.List.Elements.{All-nil, All-cons, All-append, All-filter, filter_passes}
use Rattle.um_num.specs.declared.decimal.Decimal.{Decimal}
use Rattle.um_model.specs.Values.{ColumnValue}
use Rattle.um_model.specs.WellFormed.{IsMultipleOfTen, RowOfTens, ObjectiveOfTens, AtPlace}
use Rattle.um_model.specs.declared.deck.Row.{Row}
use Rattle.um_model.specs.declared.deck.Entry.{Entry}
use Rattle.um_model.specs.declared.deck.Arc.{Arc}
use Rattle.um_statements.specs.declared.parts.EntryPart.{EntryPart}
use Rattle.um_statements.specs.declared.parts.ArcPart.{ArcPart}
use Rattle.um_statements.specs.Said.{Said, RowSaid, ColumnSaid}
use Rattle.um_statements.specs.Scaled.{times_ten}
use Rattle.um_statements.specs.CallRules.{is_n, is_zero}
use Rattle.um_statements.specs.Made.{nothing, for_minimising, coefficients, arcs_in, entry_in, numbers_beside, objective, objective_scale, sided_rows, row_scale, row_made, side_at, range_at, entry_made, column_made, arc_made, deck_value}
use Rattle.um_statements.specs.WellSaid.{IsSaid, IsNumber, IsRowSaid, IsColumnSaid, IsEntrySaid}
use Rattle.um_statements.proofs.ListFacts.{numbered, at_number, numbers_rise, all_given, given_all, unmapped, placed, place_found, found, found_apart, all_found}
use Rattle.um_statements.proofs.DeckFine.{IsFine}
use Rattle.um_statements.proofs.Tests.{same_number}
use Rattle.um_statements.proofs.LeastScales.{GoesDown, least-scale, zero_multiple, minimised_multiple, negated_multiple, none_goes_down, sides_multiple}

-- ---- numbers that were said

-- what a column has in a row was said
entry_number : (rows : ℕ) (c : ColumnSaid) → IsColumnSaid rows c → (row : ℕ) → ForSome (entry_in row c) IsNumber
entry_number rows c is row v e = by (find (λ (x : EntryPart). nat_eq x.row row) c.entries) refl e
  where
    by : (o : Option EntryPart) → find (λ (x : EntryPart). nat_eq x.row row) c.entries ≡ o → option_map (λ (x : EntryPart). x.value) o ≡ Some v → IsNumber v
    by None at e = cc
    by (Some x) at e = let same : x.value ≡ v = cc in subst IsNumber same (all_found (IsEntrySaid rows) (λ (y : EntryPart). nat_eq y.row row) c.entries x at is.parts).number

option_down : (scale : ℕ) (o : Option Decimal) → ForSome o IsNumber → ForSome (option_map (λ v. times_ten v scale) o) IsMultipleOfTen → GoesDown scale (unwrap_or o nothing)
option_down scale None number tens = none_goes_down scale
option_down scale (Some v) number tens = ((number v refl).normal, tens (times_ten v scale) refl)

-- ---- rows

sided_said : (said : Said) → IsSaid said → All (λ (p : ℕ × RowSaid). IsRowSaid p.1) (sided_rows said)
sided_said said is =
    All-filter (λ (p : ℕ × RowSaid). not (is_n p.1.kind)) (λ (p : ℕ × RowSaid). IsRowSaid p.1) (enumerate_from 0 said.rows)
    (numbered (λ (p : ℕ × RowSaid). IsRowSaid p.1) 0 said.rows (λ k d within. is.row_part.each k d within))

-- a sided row is not at the place of the objective
sided_elsewhere : (said : Said) (q : ℕ × RowSaid) → objective said ≡ Some q → All (λ (p : ℕ × RowSaid). q.0 ≢ p.0) (sided_rows said)
sided_elsewhere said q is =
    found_apart (λ (a : ℕ × RowSaid) (b : ℕ × RowSaid). a.0 ≢ b.0) (λ a b apart same. apart (sym same)) (λ (p : ℕ × RowSaid). is_n p.1.kind) (enumerate_from 0 said.rows) q is
    (λ i j d lt within same. let rise = numbers_rise 0 said.rows i j d lt within in omega (arith, rise, same))

turned_false : (b : Bool) → not b ≡ true → b ≡ false
turned_false true h = absurd (true≢false (sym h))
turned_false false h = refl

beside_down : (scale : ℕ) (r : RowSaid) → is_n r.kind ≡ false → GoesDown scale (unwrap_or r.side nothing) → GoesDown scale (unwrap_or r.range nothing) → All (GoesDown scale) (numbers_beside r)
beside_down scale r sided side range =
    subst (λ (b : Bool). All (GoesDown scale) (unwrap_or r.side nothing ∷ (if b then [] else unwrap_or r.range nothing ∷ []))) (sym sided)
    (All-cons (GoesDown scale) (unwrap_or r.side nothing) (unwrap_or r.range nothing ∷ []) side (All-cons (GoesDown scale) (unwrap_or r.range nothing) [] range (All-nil (GoesDown scale))))

beside_objective : (scale : ℕ) (r : RowSaid) → is_n r.kind ≡ true → GoesDown scale (unwrap_or r.side nothing) → All (GoesDown scale) (numbers_beside r)
beside_objective scale r kind side =
    subst (λ (b : Bool). All (GoesDown scale) (unwrap_or r.side nothing ∷ (if b then [] else unwrap_or r.range nothing ∷ []))) (sym kind)
    (All-cons (GoesDown scale) (unwrap_or r.side nothing) [] side (All-nil (GoesDown scale)))

side_down : (scale : ℕ) (o : Option Decimal) → ForSome o IsNumber → IsMultipleOfTen (times_ten (unwrap_or o nothing) scale) → GoesDown scale (unwrap_or o nothing)
side_down scale None number tens = none_goes_down scale
side_down scale (Some v) number tens = ((number v refl).normal, tens)

row_down : (said : Said) → IsSaid said → IsFine said → (k : ℕ) (d : ℕ × RowSaid) → k < length (sided_rows said)
    → 1 ≤ row_scale said (get_or (sided_rows said) k d).0 (get_or (sided_rows said) k d).1 → RowOfTens (deck_value said) k (row_made said (get_or (sided_rows said) k d)) → ⊥
unfolding deck_value
row_down said is fine k d within some tens =
    let p : ℕ × RowSaid = get_or (sided_rows said) k d in
    let scale : ℕ = row_scale said p.0 p.1 in
    let sided : is_n p.1.kind ≡ false = turned_false (is_n p.1.kind) (filter_passes (λ (q : ℕ × RowSaid). not (is_n q.1.kind)) (enumerate_from 0 said.rows) k d within) in
    let sides = sides_multiple p.1.kind (side_at p.1 scale) (range_at p.1 scale) sided tens.low tens.high in
    let numbers = sided_said said is k d within in
    let beside : All (GoesDown scale) (numbers_beside p.1)
    = beside_down scale p.1 sided (side_down scale p.1.side numbers.side_number sides.0) (option_down scale p.1.range numbers.range_number sides.1) in
    let costs : All (GoesDown scale) (coefficients said p.0)
    = all_given (GoesDown scale) (entry_in p.0) said.columns
    (λ i c inside v at.
    let x : ColumnSaid = get_or said.columns i c in
    let entries = unmapped (λ (y : ColumnValue). All (λ (e : Entry). e.row ≡ k → IsMultipleOfTen e.value) y.entries) (column_made said) said.columns tens.entries i c inside in
    let given = at_number (λ (q : ℕ × (ℕ × RowSaid)). ForSome (entry_made said x q) (λ (e : Entry). e.row ≡ k → IsMultipleOfTen e.value)) (sided_rows said)
    (given_all (λ (e : Entry). e.row ≡ k → IsMultipleOfTen e.value) (entry_made said x) (enumerate_from 0 (sided_rows said)) entries) k d within in
    ((entry_number (length said.rows) x (is.column_part.each i c inside) p.0 v at).normal, entry_tens said x k p v at given)) in
    let arcs : All (GoesDown scale) (arcs_in said p.0)
    = all_given (GoesDown scale) (λ (a : ArcPart). if nat_eq a.row p.0 then Some a.value else None) said.arcs
    (λ i a inside v at.
    let q : ℕ × RowSaid = fine.objective_row.0 in
    let place : (get_or said.arcs i a).row ≡ q.0 = place_found (λ (r : RowSaid). is_n r.kind) said.rows q (get_or said.arcs i a).row fine.objective_row.1 (is.arc_part.each i a inside).row_place in
    absurd (sided_elsewhere said q fine.objective_row.1 k d within (sym place ∙ same_place (get_or said.arcs i a).row p.0 (get_or said.arcs i a).value v at))) in
    least-scale (coefficients said p.0 ++ (arcs_in said p.0 ++ numbers_beside p.1)) some
    (All-append (GoesDown scale) (coefficients said p.0) (arcs_in said p.0 ++ numbers_beside p.1) costs (All-append (GoesDown scale) (arcs_in said p.0) (numbers_beside p.1) arcs beside))
  where
    same_place : (a b : ℕ) (x v : Decimal) → (if nat_eq a b then Some x else None) ≡ Some v → a ≡ b
    same_place a b x v e = by (nat_eq a b) refl e
      where
        by : (t : Bool) → nat_eq a b ≡ t → (if t then Some x else None) ≡ Some v → a ≡ b
        by true same e = same_number a b same
        by false same e = cc

    entry_tens : (said : Said) (c : ColumnSaid) (k : ℕ) (p : ℕ × RowSaid) (v : Decimal) → entry_in p.0 c ≡ Some v → ForSome (entry_made said c (k, p)) (λ (e : Entry). e.row ≡ k → IsMultipleOfTen e.value)
        → IsMultipleOfTen (times_ten v (row_scale said p.0 p.1))
    entry_tens said c k p v at given = by (is_zero v) refl
      where
        by : (b : Bool) → is_zero v ≡ b → IsMultipleOfTen (times_ten v (row_scale said p.0 p.1))
        by true zero_is = zero_multiple v (row_scale said p.0 p.1) zero_is
        by false zero_is = given (record { row = k; value = times_ten v (row_scale said p.0 p.1) }) (rw (at, zero_is) refl) refl

pub made_least_scales : (said : Said) → IsSaid said → IsFine said → (row : ℕ) (r : Row) → AtPlace (deck_value said).rows row r → 1 ≤ r.scale → ¬ RowOfTens (deck_value said) row r
unfolding deck_value
made_least_scales said is fine row r at some tens =
    let there = placed (λ k (p : ℕ × RowSaid). 1 ≤ row_scale said p.0 p.1 → RowOfTens (deck_value said) k (row_made said p) → ⊥) (row_made said) (sided_rows said) (row_down said is fine) row r at in
    there.1 (subst (λ (x : Row). 1 ≤ x.scale) there.2 some) (subst (RowOfTens (deck_value said) row) there.2 tens)

-- ---- the objective

pub made_least_scale : (said : Said) → IsSaid said → IsFine said → 1 ≤ (deck_value said).scale → ¬ ObjectiveOfTens (deck_value said)
unfolding deck_value
made_least_scale said is fine some tens =
    let q : ℕ × RowSaid = fine.objective_row.0 in
    let scale : ℕ = row_scale said q.0 q.1 in
    let scale_is : objective_scale said ≡ scale = rw fine.objective_row.1 refl in
    let kind : is_n q.1.kind ≡ true = found (λ (p : ℕ × RowSaid). is_n p.1.kind) (enumerate_from 0 said.rows) q fine.objective_row.1 in
    let number : IsRowSaid q.1 = all_found (λ (p : ℕ × RowSaid). IsRowSaid p.1) (λ (p : ℕ × RowSaid). is_n p.1.kind) (enumerate_from 0 said.rows) q fine.objective_row.1
    (numbered (λ (p : ℕ × RowSaid). IsRowSaid p.1) 0 said.rows (λ k d within. is.row_part.each k d within)) in
    let side : IsMultipleOfTen (side_at q.1 scale) = negated_multiple (side_at q.1 scale) (minimised_multiple said.maximise (neg_ℤ (side_at q.1 scale)) (rw fine.objective_row.1 at tens.constant)) in
    let costs : All (GoesDown scale) (coefficients said q.0)
    = all_given (GoesDown scale) (entry_in q.0) said.columns
    (λ i c inside v at.
    let x : ColumnSaid = get_or said.columns i c in
    let cost = unmapped (λ (y : ColumnValue). IsMultipleOfTen y.cost) (column_made said) said.columns tens.costs i c inside in
    ((entry_number (length said.rows) x (is.column_part.each i c inside) q.0 v at).normal, minimised_multiple said.maximise (times_ten v scale) (rw (fine.objective_row.1, at) at cost))) in
    let arcs : All (GoesDown scale) (arcs_in said q.0)
    = all_given (GoesDown scale) (λ (a : ArcPart). if nat_eq a.row q.0 then Some a.value else None) said.arcs
    (λ i a inside v at.
    let x : ArcPart = get_or said.arcs i a in
    let given = given_all (λ (y : Arc). y.row ≡ None → IsMultipleOfTen y.value) (arc_made said) said.arcs tens.arcs i a inside in
    let same : x.value ≡ v = same_value (nat_eq x.row q.0) x.value v at in
    subst (GoesDown scale) same ((is.arc_part.each i a inside).number.normal, subst (λ s. IsMultipleOfTen (times_ten x.value s)) scale_is (arc_tens said x given))) in
    least-scale (coefficients said q.0 ++ (arcs_in said q.0 ++ numbers_beside q.1)) (subst (λ n. 1 ≤ n) scale_is some)
    (All-append (GoesDown scale) (coefficients said q.0) (arcs_in said q.0 ++ numbers_beside q.1) costs
    (All-append (GoesDown scale) (arcs_in said q.0) (numbers_beside q.1) arcs
    (beside_objective scale q.1 kind (side_down scale q.1.side number.side_number side))))
  where
    same_value : (b : Bool) (x v : Decimal) → (if b then Some x else None) ≡ Some v → x ≡ v
    same_value true x v e = cc
    same_value false x v e = cc

    arc_tens : (said : Said) (a : ArcPart) → ForSome (arc_made said a) (λ (y : Arc). y.row ≡ None → IsMultipleOfTen y.value) → IsMultipleOfTen (times_ten a.value (objective_scale said))
    arc_tens said a given = by (is_zero a.value) refl
      where
        by : (b : Bool) → is_zero a.value ≡ b → IsMultipleOfTen (times_ten a.value (objective_scale said))
        by true zero_is = zero_multiple a.value (objective_scale said) zero_is
        by false zero_is = minimised_multiple said.maximise (times_ten a.value (objective_scale said)) (given (record { row = None; column = a.column; value = for_minimising said.maximise (times_ten a.value (objective_scale said)) }) (rw zero_is refl) refl)
