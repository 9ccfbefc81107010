-- The statements of ARCS break no rule.
use Rattle.std.proofs.Common.{◌≡◌, ◌≢◌, ℕ, suc, ◌<◌, ◌≤◌, Bool, true, false, ◌&&◌, ◌||◌, not, nat_eq, nat_le, ◌==◌, List, [], ◌∷◌, ◌++◌, append_assoc, length, map, filter, count_by, cond, Option, Some, None, ℤ, refl, sym, ap, ◌∙◌, subst, arith, AllPairs, All, true≢false}
use Rattle.std.specs.Bool.{⊤}
use Rattle.std.specs.Str.{bytes_eq}
use Rattle.std.specs.List.{list_any, flat_map, range_with_len}
use Rattle.std.proofs.lemmas.Bool.{and_left, and_right, or_from, or_right, lt-leb, ne_eqb, eqb-true, eq-eqb, false≢true}
use Rattle.std.proofs.lemmas.List.{append-nil, length-map, map_push}
use Rattle.std.proofs.lemmas.List.Sums.{length-filter}
use Rattle.std.proofs.lemmas.List.Folds.{list_any-append}
use Rattle.um_model.specs.Values.{DeckValue}
use Rattle.um_model.specs.WellFormed.{IsDeck, IsArc, has_arc}
use Rattle.um_model.specs.declared.deck.Arc.{Arc}
use Rattle.um_statements.specs.declared.parts.ArcPart.{ArcPart}
use Rattle.um_statements.specs.Statements.{ArcTold}
use Rattle.um_statements.specs.Said.{Said, RowSaid, row_place}
use Rattle.um_statements.specs.CallRules.{rules_of, with_statement, is_at, is_n, is_zero, objective_place, has_kept_arc, said_arc_columns}
use Rattle.um_statements.proofs.ListFacts.{count_placed}
use Rattle.um_statements.proofs.PushedLists.{count_one_more}
use Rattle.um_make.specs.NormalLines.{in_sense, column_name}
use Rattle.um_round.specs.Numerals.{written}
use Rattle.um_round.proofs.NormalTold.{arc_told}
use Rattle.um_round.proofs.NormalSaid.{Runs, HasObjectiveArcs, column_known, rows_known, set_known, arc_known, behind_sets, normal_said}
use Rattle.um_round.proofs.Runs.{run_none, run_one, run_both}
use Rattle.um_round.proofs.EachItem.{Each, Each-append, Each-from}
use Rattle.um_round.proofs.ColumnsTold.{same_name}
use Rattle.um_round.proofs.RowsRun.{position_at}
use Rattle.um_round.proofs.SetsRun.{column_at}

-- ---- counts

fewer_kept : (p q : ℕ → Bool) → ((k : ℕ) → p k ≡ true → q k ≡ true) → (ks : List ℕ) → length (filter p ks) ≤ length (filter q ks)
fewer_kept p q passes [] = omega arith
fewer_kept p q passes (k ∷ ks) = by (p k) refl (q k) refl (fewer_kept p q passes ks)
  where
    by : (a : Bool) → p k ≡ a → (b : Bool) → q k ≡ b → length (filter p ks) ≤ length (filter q ks) → length (cond a (k ∷ filter p ks) (filter p ks)) ≤ length (cond b (k ∷ filter q ks) (filter q ks))
    by true e true f more = omega (arith, more)
    by true e false f more = absurd (true≢false (sym (passes k e) ∙ f))
    by false e true f more = omega (arith, more)
    by false e false f more = more

-- a test that passes whatever another passes, and one number more
fewer_pass : (p q : ℕ → Bool) → ((k : ℕ) → p k ≡ true → q k ≡ true) → (j n : ℕ) → j < n → p j ≡ false → q j ≡ true → count_by p (range_with_len 0 n) < count_by q (range_with_len 0 n)
fewer_pass p q passes j n within none here =
    let more : ℕ → Bool = λ k. p k || nat_eq j k in
    let ks = range_with_len 0 n in
    let one = count_one_more p j n within none in
    let most = fewer_kept more q still ks in
    omega (arith, one, most, length-filter more ks, length-filter q ks)
  where
    still : (k : ℕ) → (p k || nat_eq j k) ≡ true → q k ≡ true
    still k e = by (p k) refl e
      where
        by : (b : Bool) → p k ≡ b → (b || nat_eq j k) ≡ true → q k ≡ true
        by true f e = passes k f
        by false f e = ap q (sym (eqb-true j k e)) ∙ here

-- ---- arcs

module _ (d : DeckValue) (deck : IsDeck d) where
  abbrev at : List ArcPart → Said
  at arcs = record { name = d.name; maximise = d.maximise; rows = rows_known d; columns = map (column_known d) d.columns; sets = map set_known d.sets; arcs = arcs }

  abbrev known : List Arc → List ArcPart
  known = map (arc_known d)

  objective_at : row_place (rows_known d) d.objective_name ≡ Some 0
  objective_at = position_at (bytes_eq d.objective_name) (map (λ (r : RowSaid). r.name) (rows_known d)) 0 (rw (same_name d.objective_name) refl) (omega arith)

  first_n : objective_place (rows_known d) ≡ Some 0
  first_n = position_at (λ (r : RowSaid). is_n r.kind) (rows_known d) 0 refl (omega arith)

  -- an arc that is kept so far is one of the deck
  kept_is : (front : List Arc) (j : ℕ) → has_kept_arc (at (known front)) j ≡ true → list_any (λ (a : Arc). a.column == j) front ≡ true
  kept_is [] j e = absurd (false≢true e)
  kept_is (a ∷ front) j e = by (nat_eq a.column j) refl (kept_is front j) e
    where
      by : (b : Bool) → nat_eq a.column j ≡ b → (has_kept_arc (at (known front)) j ≡ true → list_any (λ (a : Arc). a.column == j) front ≡ true)
          → ((b && not (is_zero (written d.scale (in_sense d.maximise a.value)))) || has_kept_arc (at (known front)) j) ≡ true → (nat_eq a.column j || list_any (λ (a : Arc). a.column == j) front) ≡ true
      by true n rest e = rw n refl
      by false n rest e = rw n (rest e)

  not_full : (front : List Arc) (a : Arc) (back : List Arc) → front ++ a ∷ back ≡ d.arcs → a.column < length d.columns → has_kept_arc (at (known front)) a.column ≡ false → said_arc_columns (at (known front)) < 64
  not_full front a back all within fresh =
      let in_deck : (j : ℕ) → has_kept_arc (at (known front)) j ≡ true → has_arc d.arcs j ≡ true = λ j e.
      sym (ap (λ (xs : List Arc). has_arc xs j) all) ∙ list_any-append (λ (x : Arc). x.column == j) front (a ∷ back) ∙ ap (λ b. b || has_arc (a ∷ back) j) (kept_is front j e) in
      let here : has_arc d.arcs a.column ≡ true = sym (ap (λ (xs : List Arc). has_arc xs a.column) all) ∙ list_any-append (λ (x : Arc). x.column == a.column) front (a ∷ back) ∙ or_right _ _ (ap (λ b. b || has_arc back a.column) (eq-eqb a.column a.column refl)) in
      let fewer = fewer_pass (has_kept_arc (at (known front))) (has_arc d.arcs) in_deck a.column (length d.columns) within fresh here in
      let most = deck.arc_column_count in
      let kept : said_arc_columns (at (known front)) ≡ count_by (has_kept_arc (at (known front))) (range_with_len 0 (length d.columns)) = ap (λ n. count_by (has_kept_arc (at (known front))) (range_with_len 0 n)) (length-map d.columns (column_known d)) in
      let placed = count_placed (has_arc d.arcs) d.columns in
      omega (arith, fewer, most, kept, placed)

  full_rule : (nothing : Bool) (front : List Arc) (a : Arc) (back : List Arc) → front ++ a ∷ back ≡ d.arcs → a.column < length d.columns
      → (not nothing && not (has_kept_arc (at (known front)) a.column) && nat_le 64 (said_arc_columns (at (known front)))) ≡ false
  full_rule nothing front a back all within = by (has_kept_arc (at (known front)) a.column) refl
    where
      by : (b : Bool) → has_kept_arc (at (known front)) a.column ≡ b → (not nothing && not (has_kept_arc (at (known front)) a.column) && nat_le 64 (said_arc_columns (at (known front)))) ≡ false
      by true e = rw e (and_left (not nothing && false) (nat_le 64 (said_arc_columns (at (known front)))) (and_right (not nothing) false refl))
      by false e = and_right _ _ (lt-leb 64 (said_arc_columns (at (known front))) (not_full front a back all within e))

  none_twice : (front : List Arc) (j : ℕ) → Each (λ (x : Arc). x.column ≢ j) front → list_any (λ (x : ArcPart). is_at (Some 0) x.row && is_at (Some j) x.column) (known front) ≡ false
  none_twice [] j h = refl
  none_twice (x ∷ front) j h = or_from _ _ (ne_eqb j x.column (λ e. h.0 (sym e))) (none_twice front j h.1)

  one_arc : (front : List Arc) (column : ℕ) (value : ℤ) (back : List Arc) → front ++ record { row = None; column = column; value = value } ∷ back ≡ d.arcs → column < length d.columns → Each (λ (x : Arc). x.column ≢ column) front
      → Runs (at (known front)) (arc_told d (record { row = None; column = column; value = value })) (at (known (front ++ record { row = None; column = column; value = value } ∷ [])))
  unfolding rules_of with_statement
  one_arc front column value back all within others =
      let a : Arc = record { row = None; column = column; value = value } in
      let v = written d.scale (in_sense d.maximise value) in
      let place = column_at d deck column within in
      let pushed : known front ++ arc_known d a ∷ [] ≡ known (front ++ a ∷ []) = sym (map_push (arc_known d) front a) in
      run_one (at (known front)) (ArcTold d.objective_name (column_name d.columns column) v) (at (known (front ++ a ∷ [])))
      (rw (objective_at, place, first_n, none_twice front column others, full_rule (is_zero v) front a back all within) refl)
      (rw (objective_at, place) (ap at pushed))

  abbrev NotIn : List Arc → List Arc → Type 0
  NotIn front rest = Each (λ (a : Arc). Each (λ (x : Arc). x.column ≢ a.column) front) rest

  abbrev Differ : List Arc → Type 0
  Differ [] = ⊤
  Differ (a ∷ rest) = Each (λ (x : Arc). a.column ≢ x.column) rest × Differ rest

  not_in_push : (front : List Arc) (a : Arc) (rest : List Arc) → NotIn front rest → Each (λ (x : Arc). a.column ≢ x.column) rest → NotIn (front ++ a ∷ []) rest
  not_in_push front a [] h k = tt
  not_in_push front a (x ∷ rest) h k = (Each-append (λ (y : Arc). y.column ≢ x.column) front (a ∷ []) h.0 (k.0, tt), not_in_push front a rest h.1 k.1)

  differ_from : (rest : List Arc) → Each (λ (a : Arc). a.row ≡ None) rest → AllPairs (λ (a : Arc) (b : Arc). (a.row ≡ b.row) → a.column ≢ b.column) rest → Differ rest
  differ_from [] only h = tt
  differ_from (a ∷ rest) only h =
      (by rest only.1 (λ k e p. h 0 (suc k) e (omega arith) (omega (arith, p))), differ_from rest only.1 (λ i j e p q. h (suc i) (suc j) e (omega (arith, p)) (omega (arith, q))))
    where
      by : (xs : List Arc) → Each (λ (x : Arc). x.row ≡ None) xs → All (λ (b : Arc). (a.row ≡ b.row) → a.column ≢ b.column) xs → Each (λ (x : Arc). a.column ≢ x.column) xs
      by [] p k = tt
      by (x ∷ xs) p k = (k 0 x (omega arith) (only.0 ∙ sym p.0), by xs p.1 (λ i e q. k (suc i) e (omega (arith, q))))

  arcs_run : (rest front : List Arc) → front ++ rest ≡ d.arcs → Each (λ (a : Arc). a.row ≡ None) rest → Each (IsArc d) rest → NotIn front rest → Differ rest → Runs (at (known front)) (flat_map (arc_told d) rest) (at (known (front ++ rest)))
  arcs_run [] front all only is others differ = subst (λ (xs : List Arc). Runs (at (known front)) [] (at (known xs))) (sym (append-nil front)) (run_none (at (known front)))
  arcs_run (a ∷ rest) front all only is others differ =
      let none = only.0 in
      let whole : record { row = None; column = a.column; value = a.value } ≡ a = ap (λ (r : Option ℕ). record { row = r; column = a.column; value = a.value }) (sym none) in
      let here : Runs (at (known front)) (arc_told d a) (at (known (front ++ a ∷ []))) =
      subst (λ (x : Arc). Runs (at (known front)) (arc_told d x) (at (known (front ++ x ∷ [])))) whole (one_arc front a.column a.value rest (ap (λ (x : Arc). front ++ x ∷ rest) whole ∙ all) is.0.column others.0) in
      let next = arcs_run rest (front ++ a ∷ []) (append_assoc front (a ∷ []) rest ∙ all) only.1 is.1 (not_in_push front a rest others.1 differ.0) differ.1 in
      let end = subst (λ (xs : List Arc). Runs (at (known (front ++ a ∷ []))) (flat_map (arc_told d) rest) (at (known xs))) (append_assoc front (a ∷ []) rest) next in
      run_both (at (known front)) (at (known (front ++ a ∷ []))) (at (known (front ++ a ∷ rest))) (arc_told d a) (flat_map (arc_told d) rest) here end

  none_yet : (rest : List Arc) → NotIn [] rest
  none_yet [] = tt
  none_yet (a ∷ rest) = (tt, none_yet rest)

pub arcs-run-law : (d : DeckValue) → IsDeck d → HasObjectiveArcs d → Runs (behind_sets d) (flat_map (arc_told d) d.arcs) (normal_said d)
arcs-run-law d deck only =
    let none = Each-from (λ (a : Arc). a.row ≡ None) d.arcs only in
    arcs_run d deck d.arcs [] refl none (Each-from (IsArc d) d.arcs deck.arcs) (none_yet d deck d.arcs) (differ_from d deck d.arcs none deck.distinct_arcs)
