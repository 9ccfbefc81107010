-- The arcs of the deck of what was said.
use Rattle.std.proofs.Common.{◌≡◌, ◌≢◌, ℕ, ◌≤◌, ◌<◌, ◌^◌, Bool, true, false, not, ◌&&◌, ◌||◌, nat_eq, ℤ, List, [], ◌∷◌, map, length, get_or, filter_map, count_by, All, AllPairs, None, Some, refl, sym, ap, subst, ◌∙◌, arith, if◌then◌else◌}
use Rattle.std.specs.Option.{ForSome}
use Rattle.std.specs.List.{range_with_len, cons_option}
use Rattle.std.proofs.lemmas.List.{length-map}
use Rattle.std.proofs.lemmas.Bool.Decides.{nat_tests}
use Rattle.um_model.specs.Values.{ColumnValue}
use Rattle.um_model.specs.WellFormed.{IsArc, IsWithin, HasTwoEnds, AtPlace, has_arc, arc_columns}
use Rattle.um_model.specs.declared.deck.Kind.TheVariants.{Continuous, Integer, Semi}
use Rattle.um_model.specs.declared.deck.Arc.{Arc}
use Rattle.um_statements.specs.declared.parts.Ends.{Ends}
use Rattle.um_statements.specs.declared.parts.ArcPart.{ArcPart}
use Rattle.um_statements.specs.Said.{Said, RowSaid, ColumnSaid}
use Rattle.um_statements.specs.Scaled.{times_ten, is_within_at}
use Rattle.um_statements.specs.CallRules.{is_n, is_zero, has_kept_arc}
use Rattle.um_statements.specs.Made.{for_minimising, objective_scale, row_scale, low_end, high_end, kind_of, column_made, arc_made, deck_value}
use Rattle.um_statements.specs.DeckRules.{needs_ends, is_member, is_above}
use Rattle.um_statements.specs.WellSaid.{IsSaid, keeps_arc}
use Rattle.um_statements.proofs.ListFacts.{all_given, pairs_given, given_pass, any_at, placed, place_found, count_placed}
use Rattle.um_statements.proofs.DeckFine.{IsFine}
use Rattle.um_statements.proofs.Tests.{or_false, and_false, is_most, all_within, minimised_size, minimised_not_zero, scaled_not_zero}
use Rattle.um_statements.proofs.MadeColumns.{row_facts, ColumnFacts, columns_fine, two_ends}

-- ---- one arc

arc_gives : (said : Said) (a : ArcPart) (e : Arc) → arc_made said a ≡ Some e → (is_zero a.value ≡ false) × (e ≡ record { row = None; column = a.column; value = for_minimising said.maximise (times_ten a.value (objective_scale said)) })
arc_gives said a e is = by (is_zero a.value) refl is
  where
    by : (b : Bool) → is_zero a.value ≡ b → (if b then None else Some (record { row = None; column = a.column; value = for_minimising said.maximise (times_ten a.value (objective_scale said)) })) ≡ Some e
        → (is_zero a.value ≡ false) × (e ≡ record { row = None; column = a.column; value = for_minimising said.maximise (times_ten a.value (objective_scale said)) })
    by true zero_is is = cc
    by false zero_is is = (zero_is, cc)

pub is_same : (a b : ℕ) → a ≡ b → nat_eq a b ≡ true
is_same a b h = grind (arith, nat_tests)

-- an arc that is kept makes its column one with an arc
arc_kept : (said : Said) (k : ℕ) (d : ArcPart) → k < length said.arcs → is_zero (get_or said.arcs k d).value ≡ false → has_kept_arc said (get_or said.arcs k d).column ≡ true
arc_kept said k d within some =
    any_at (λ (a : ArcPart). nat_eq a.column (get_or said.arcs k d).column && not (is_zero a.value)) said.arcs k d within
    (rw (is_same (get_or said.arcs k d).column (get_or said.arcs k d).column refl, some) refl)

or_last : (a : Bool) → (a || true) ≡ true
or_last true = refl
or_last false = refl

kept_needs : (said : Said) (j : ℕ) (ends : Ends) → has_kept_arc said j ≡ true → needs_ends said j ends ≡ true
kept_needs said j ends kept = rw kept (or_last (ends.integer || ends.semi || is_member said j))

no_semi_kind : (ends : Ends) (t : ℤ) → ends.semi ≡ false → kind_of ends ≢ Semi t
no_semi_kind ends t none is = by ends.integer (rw none at is)
  where
    by : (b : Bool) → (if b then Integer else Continuous) ≡ Semi t → ⊥
    by true is = cc
    by false is = cc

-- the number of an arc, at the scale of the objective
arc_size : (said : Said) → IsSaid said → IsFine said → (k : ℕ) (d : ArcPart) → k < length said.arcs → IsWithin (2 ^ 24) (times_ten (get_or said.arcs k d).value (objective_scale said))
arc_size said is fine k d within =
    let p : ℕ × RowSaid = fine.objective_row.0 in
    let a : ArcPart = get_or said.arcs k d in
    let at : a.row ≡ p.0 = place_found (λ (r : RowSaid). is_n r.kind) said.rows p a.row fine.objective_row.1 (is.arc_part.each k d within).row_place in
    let fits = given_pass (is_within_at (2 ^ 24) (row_scale said p.0 p.1)) (λ (b : ArcPart). if nat_eq b.row p.0 then Some b.value else None) said.arcs (row_facts said p fine.objective_row.2).arcs k d within in
    rw fine.objective_row.1 (is_most _ (2 ^ 24) (fits a.value (rw (is_same a.row p.0 at) refl)))

-- ---- all arcs

deck_arc : (said : Said) → IsSaid said → IsFine said → (k : ℕ) (d : ArcPart) → k < length said.arcs → ForSome (arc_made said (get_or said.arcs k d)) (IsArc (deck_value said))
unfolding deck_value
deck_arc said is fine k d within e made =
    let a : ArcPart = get_or said.arcs k d in
    let gives = arc_gives said a e made in
    let kept = arc_kept said k d within gives.0 in
    let there : (c : ColumnValue) → AtPlace (map (column_made said) said.columns) a.column c → (x : ColumnSaid) × ColumnFacts said a.column x.ends × (c ≡ column_made said x)
    = placed (λ j (x : ColumnSaid). ColumnFacts said j x.ends) (column_made said) said.columns (columns_fine said fine) a.column in
    let sizes : (x : ColumnSaid) → ColumnFacts said a.column x.ends → (is_above 8000000 (low_end x.ends) ≡ false) × (is_above 8000000 (high_end x.ends) ≡ false)
    = λ x facts. or_false (is_above 8000000 (low_end x.ends)) (is_above 8000000 (high_end x.ends)) (and_false (has_kept_arc said a.column) _ facts.small_ends kept) in
    subst (IsArc (deck_value said)) (sym gives.1)
    (record {
      row = λ r none. cc;
      column = subst (λ n. a.column < n) (sym (length-map said.columns (column_made said))) (is.arc_part.each k d within).place;
      nonzero = minimised_not_zero said.maximise (times_ten a.value (objective_scale said)) (scaled_not_zero a.value (objective_scale said) gives.0);
      size = minimised_size said.maximise (2 ^ 24) (times_ten a.value (objective_scale said)) (arc_size said is fine k d within);
      ends = λ c at. let x = there c at in subst (λ (v : ColumnValue). HasTwoEnds v.low v.high) (sym x.2) (two_ends said a.column x.0.ends x.1 (kept_needs said a.column x.0.ends kept));
      low = λ c at. let x = there c at in subst (λ (v : ColumnValue). ForSome v.low (IsWithin 8000000)) (sym x.2) (all_within 8000000 (low_end x.0.ends) (sizes x.0 x.1).0);
      high = λ c at. let x = there c at in subst (λ (v : ColumnValue). ForSome v.high (IsWithin 8000000)) (sym x.2) (all_within 8000000 (high_end x.0.ends) (sizes x.0 x.1).1);
      kind = λ c t at. let x = there c at in
          subst (λ (v : ColumnValue). v.kind ≢ Semi t) (sym x.2)
          (no_semi_kind x.0.ends t (or_false (is_member said a.column) x.0.ends.semi (and_false (has_kept_arc said a.column) (is_member said a.column || x.0.ends.semi) x.1.arc_alone kept)).1);
    })

pub made_arcs : (said : Said) → IsSaid said → IsFine said → All (IsArc (deck_value said)) (deck_value said).arcs
unfolding deck_value
made_arcs said is fine = all_given (IsArc (deck_value said)) (arc_made said) said.arcs (deck_arc said is fine)

pub made_objective_arcs : (said : Said) → All (λ (a : Arc). a.row ≡ None) (deck_value said).arcs
unfolding deck_value
made_objective_arcs said = all_given (λ (a : Arc). a.row ≡ None) (arc_made said) said.arcs (λ k d within e made. ap (λ (b : Arc). b.row) (arc_gives said (get_or said.arcs k d) e made).1)

pub made_distinct_arcs : (said : Said) → IsSaid said → AllPairs (λ (a : Arc) (b : Arc). (a.row ≡ b.row) → a.column ≢ b.column) (deck_value said).arcs
unfolding deck_value
made_distinct_arcs said is =
    pairs_given (λ (a : Arc) (b : Arc). (a.row ≡ b.row) → a.column ≢ b.column) (arc_made said) said.arcs
    (λ i j d lt within a made b made2 rows columns.
    let x : ArcPart = get_or said.arcs i d in
    let y : ArcPart = get_or said.arcs j d in
    let first = (is.arc_part.each i d (omega (arith, lt, within))).row_place in
    let second = (is.arc_part.each j d within).row_place in
    let same : x.row ≡ y.row = cc in
    is.arc_part.distinct i j d lt within same (sym (ap (λ (e : Arc). e.column) (arc_gives said x a made).1) ∙ columns ∙ ap (λ (e : Arc). e.column) (arc_gives said y b made2).1))

-- ---- how many columns have arcs

and_first : (b : Bool) → (b && true) ≡ b
and_first true = refl
and_first false = refl

and_none : (b : Bool) → (b && false) ≡ false
and_none true = refl
and_none false = refl

pub same_arcs : (said : Said) (arcs : List ArcPart) (j : ℕ) → has_arc (filter_map (arc_made said) arcs) j ≡ keeps_arc arcs j
same_arcs said [] j = refl
same_arcs said (a ∷ arcs) j = by (is_zero a.value) (same_arcs said arcs j)
  where
    by : (b : Bool) → has_arc (filter_map (arc_made said) arcs) j ≡ keeps_arc arcs j
        → has_arc (cons_option (if b then None else Some (record { row = None; column = a.column; value = for_minimising said.maximise (times_ten a.value (objective_scale said)) })) (filter_map (arc_made said) arcs)) j
        ≡ ((nat_eq a.column j && not b) || keeps_arc arcs j)
    by true more = rw (and_none (nat_eq a.column j)) more
    by false more = rw (and_first (nat_eq a.column j), more) refl

pub made_arc_columns : (said : Said) → IsSaid said → arc_columns (deck_value said) ≤ 64
unfolding deck_value
made_arc_columns said is =
    let placed_count = count_placed (has_arc (filter_map (arc_made said) said.arcs)) (map (column_made said) said.columns) in
    let long = ap (λ n. count_by (has_arc (filter_map (arc_made said) said.arcs)) (range_with_len 0 n)) (length-map said.columns (column_made said)) in
    let kept : count_by (has_arc (filter_map (arc_made said) said.arcs)) (range_with_len 0 (length said.columns)) ≡ count_by (keeps_arc said.arcs) (range_with_len 0 (length said.columns))
    = ap (λ (q : ℕ → Bool). count_by q (range_with_len 0 (length said.columns))) (λ i j. same_arcs said said.arcs j i) in
    subst (λ n. n ≤ 64) (sym (placed_count ∙ long ∙ kept)) is.arc_part.count
