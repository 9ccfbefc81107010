-- What is known behind a deck's normal text breaks no rule of a whole deck.
use Rattle.std.proofs.Common.{◌≡◌, ℕ, suc, ◌+◌, ◌^◌, ◌≤◌, nat_eq, nat_le, nat_lt, Bool, true, false, not, cond, List, [], ◌∷◌, ◌++◌, map, filter_map, length, Option, Some, None, option_map, ℤ, pos, neg_ℤ, unsigned_abs, refl, ap, ◌∙◌, subst, arith}
use Rattle.std.specs.List.{list_all, enumerate_from, flat_map, cons_option}
use Rattle.std.specs.Option.{ForSome}
use Rattle.std.proofs.lemmas.Int.{ints}
use Rattle.std.proofs.lemmas.Bool.{and_from, or_from, le-leb}
use Rattle.std.proofs.lemmas.Bool.Decides.{nat_tests}
use Rattle.um_num.specs.declared.decimal.Decimal.{Decimal}
use Rattle.um_model.specs.Values.{DeckValue, ColumnValue}
use Rattle.um_model.specs.WellFormed.{IsDeck, IsRow, IsColumn, IsEntry, IsArc, IsWithin, AtPlace}
use Rattle.um_model.specs.declared.deck.Row.{Row}
use Rattle.um_model.specs.declared.deck.Entry.{Entry}
use Rattle.um_model.specs.declared.deck.Arc.{Arc}
use Rattle.um_statements.specs.Said.{Said, RowSaid}
use Rattle.um_statements.specs.Scaled.{times_ten, is_within_at}
use Rattle.um_statements.specs.CallRules.{first_fault}
use Rattle.um_statements.specs.Made.{coefficients, arcs_in, low_side, high_side, side_at, range_at, sided_rows, objective, row_scale as made_scale}
use Rattle.um_statements.specs.DeckRules.{is_above, has_large_number, row_rules, objective_rules, column_rules, set_rules, deck_rules, deck_fault}
use Rattle.um_statements.proofs.Tests.{minimised_size, negated_size}
use Rattle.um_make.specs.NormalLines.{in_sense, is_zero_number, sides_kind, first_side}
use Rattle.um_round.specs.Numerals.{written}
use Rattle.um_round.proofs.EachItem.{Each, Each-from, Each-map, each_at_place}
use Rattle.um_round.proofs.NormalSaid.{normal_said, row_known, objective_known, HasObjectiveArcs}
use Rattle.um_round.proofs.Numerals.{scaled_back}
use Rattle.um_round.proofs.KnownNumbers.{entry_at, cost_told, cost_of, arc_numbers, objective_arcs, row_arcs}
use Rattle.um_round.proofs.KnownScales.{values, costs, row_numbers, objective_numbers, row_scale_is, objective_scale_is, number_is}
use Rattle.um_round.proofs.RowsBack.{rows_but_first, side_is, low_is, high_is}
use Rattle.um_round.proofs.RulesFine.{both_fine, not_above, one_above}
use Rattle.um_round.proofs.ColumnsFine.{columns_fine}
use Rattle.um_round.proofs.SetsFine.{sets_fine}

-- ---- sizes

-- numbers that were written at a scale are as large as they are
all_small : (most k : ℕ) (zs : List ℤ) → Each (IsWithin most) zs → list_all (is_within_at most k) (map (written k) zs) ≡ true
all_small most k [] h = refl
all_small most k (z ∷ zs) h = and_from _ _ (ap (λ x. nat_le (unsigned_abs x) most) (scaled_back k z) ∙ le-leb (unsigned_abs z) most h.0) (all_small most k zs h.1)

given_each : {X Y : Type 0} (P : Y → Type 0) (f : X → Option Y) (xs : List X) → Each (λ x. ForSome (f x) P) xs → Each P (filter_map f xs)
given_each P f [] h = tt
given_each {X = X} {Y = Y} P f (x ∷ xs) h = by (f x) h.0 (given_each P f xs h.1)
  where
    by : (o : Option Y) → ForSome o P → Each P (filter_map f xs) → Each P (cons_option o (filter_map f xs))
    by None a rest = rest
    by (Some y) a rest = (a y refl, rest)

value_small : (most i : ℕ) (es : List Entry) → Each (λ (e : Entry). IsWithin most e.value) es → ForSome (option_map (λ (e : Entry). e.value) (entry_at i es)) (IsWithin most)
value_small most i [] h = λ x e. cc
value_small most i (e ∷ es) h = by (nat_eq e.row i) (value_small most i es h.1)
  where
    by : (t : Bool) → ForSome (option_map (λ (e : Entry). e.value) (entry_at i es)) (IsWithin most) → ForSome (option_map (λ (e : Entry). e.value) (cond t (Some e) (entry_at i es))) (IsWithin most)
    by true rest = λ x same. let is : e.value ≡ x = cc in subst (IsWithin most) is h.0
    by false rest = rest

cost_small : (most : ℕ) (b : Bool) (z : ℤ) (es : List Entry) → IsWithin most z → ForSome (cost_told b z es) (IsWithin most)
cost_small most true z [] h x same = let is : pos 0 ≡ x = cc in subst (IsWithin most) is (omega arith)
cost_small most true z (e ∷ es) h x same = cc
cost_small most false z es h x same = let is : z ≡ x = cc in subst (IsWithin most) is h

-- ---- rows

first_small : (low high : Option ℤ) → ForSome low (IsWithin (2 ^ 53)) → ForSome high (IsWithin (2 ^ 53)) → IsWithin (2 ^ 53) (first_side low high)
first_small (Some low) high h k = h low refl
first_small None (Some high) h k = k high refl
first_small None None h k = omega (arith, ints)

-- a row whose scale and numbers are such
two_rules : (said : Said) (p : ℕ × RowSaid) (k : ℕ) → made_scale said p.0 p.1 ≡ k → k ≤ 6 → has_large_number said p.0 p.1 k ≡ false → first_fault (row_rules said p) ≡ None
two_rules said p k scale fine small =
    let coarse : nat_lt 6 k ≡ false = grind (arith, nat_tests) in
    rw (scale, coarse, small) refl

module _ (d : DeckValue) (deck : IsDeck d) (in_objective : HasObjectiveArcs d) where
  columns_each : Each (IsColumn (length d.rows)) d.columns
  columns_each = Each-from (IsColumn (length d.rows)) d.columns deck.columns

  values_small : (i : ℕ) → Each (IsWithin (2 ^ 31)) (values d deck in_objective i)
  values_small i = given_each (IsWithin (2 ^ 31)) (λ (c : ColumnValue). option_map (λ (e : Entry). e.value) (entry_at i c.entries)) d.columns (by d.columns columns_each)
    where
      sizes : (es : List Entry) → Each (IsEntry (length d.rows)) es → Each (λ (e : Entry). IsWithin (2 ^ 31) e.value) es
      sizes [] h = tt
      sizes (e ∷ es) h = (h.0.size, sizes es h.1)

      by : (cs : List ColumnValue) → Each (IsColumn (length d.rows)) cs → Each (λ (c : ColumnValue). ForSome (option_map (λ (e : Entry). e.value) (entry_at i c.entries)) (IsWithin (2 ^ 31))) cs
      by [] h = tt
      by (c ∷ cs) h = (value_small (2 ^ 31) i c.entries (sizes c.entries (Each-from (IsEntry (length d.rows)) c.entries h.0.entries)), by cs h.1)

  costs_small : Each (IsWithin (2 ^ 31)) (costs d deck in_objective)
  costs_small = given_each (IsWithin (2 ^ 31)) (λ (c : ColumnValue). cost_told (is_zero_number (cost_of d c)) (cost_of d c) c.entries) d.columns (by d.columns columns_each)
    where
      by : (cs : List ColumnValue) → Each (IsColumn (length d.rows)) cs → Each (λ (c : ColumnValue). ForSome (cost_told (is_zero_number (cost_of d c)) (cost_of d c) c.entries) (IsWithin (2 ^ 31))) cs
      by [] h = tt
      by (c ∷ cs) h = (cost_small (2 ^ 31) (is_zero_number (cost_of d c)) (cost_of d c) c.entries (minimised_size d.maximise (2 ^ 31) c.cost h.0.cost), by cs h.1)

  arcs_small : Each (IsWithin (2 ^ 24)) (arc_numbers d)
  arcs_small = Each-map (IsArc d) (IsWithin (2 ^ 24)) (λ (a : Arc). in_sense d.maximise a.value) (λ a is. minimised_size d.maximise (2 ^ 24) a.value is.size) d.arcs (Each-from (IsArc d) d.arcs deck.arcs)

  row_fine : (i : ℕ) (r : Row) → AtPlace d.rows i r → first_fault (row_rules (normal_said d) (suc i, row_known r)) ≡ None
  row_fine i r at =
      let is = each_at_place IsRow d.rows i r (Each-from IsRow d.rows deck.rows) at in
      let numbers : list_all (is_within_at (2 ^ 31) r.scale) (coefficients (normal_said d) (suc i)) ≡ true = ap (list_all (is_within_at (2 ^ 31) r.scale)) (row_numbers d deck in_objective i r at) ∙ all_small (2 ^ 31) r.scale (values d deck in_objective i) (values_small i) in
      let arcs : not (list_all (is_within_at (2 ^ 24) r.scale) (arcs_in (normal_said d) (suc i))) ≡ false = ap (λ (vs : List Decimal). not (list_all (is_within_at (2 ^ 24) r.scale) vs)) (row_arcs d i) in
      let side : is_above (2 ^ 53) (Some (side_at (row_known r) r.scale)) ≡ false = ap (λ z. is_above (2 ^ 53) (Some z)) (side_is r) ∙ one_above (2 ^ 53) (first_side r.low r.high) (first_small r.low r.high is.low is.high) in
      let low : is_above (2 ^ 53) (low_side (sides_kind r.low r.high) (side_at (row_known r) r.scale) (range_at (row_known r) r.scale)) ≡ false = ap (is_above (2 ^ 53)) (low_is r) ∙ not_above (2 ^ 53) r.low is.low in
      let high : is_above (2 ^ 53) (high_side (sides_kind r.low r.high) (side_at (row_known r) r.scale) (range_at (row_known r) r.scale)) ≡ false = ap (is_above (2 ^ 53)) (high_is r is) ∙ not_above (2 ^ 53) r.high is.high in
      two_rules (normal_said d) (suc i, row_known r) r.scale (row_scale_is d deck in_objective i r at) is.scale (or_from _ _ (or_from _ _ (or_from _ _ (or_from _ _ (ap not numbers) arcs) side) low) high)

  rows_from : (n : ℕ) (rows : List Row) → ((i : ℕ) (r : Row) → AtPlace rows i r → (m : ℕ) → m ≡ n + i → first_fault (row_rules (normal_said d) (m, row_known r)) ≡ None) → first_fault (flat_map (row_rules (normal_said d)) (enumerate_from n (map row_known rows))) ≡ None
  rows_from n [] h = refl
  rows_from n (r ∷ rows) h =
      both_fine (row_rules (normal_said d) (n, row_known r)) (flat_map (row_rules (normal_said d)) (enumerate_from (n + 1) (map row_known rows))) (h 0 r refl n (omega arith)) (rows_from (n + 1) rows (λ i x at m e. h (suc i) x at m (omega (arith, e))))

  rows_fine : first_fault (flat_map (row_rules (normal_said d)) (sided_rows (normal_said d))) ≡ None
  rows_fine = ap (λ (ps : List (ℕ × RowSaid)). first_fault (flat_map (row_rules (normal_said d)) ps)) (rows_but_first d)
      ∙ rows_from 1 d.rows (λ i r at m e. let up : suc i ≡ m = omega (arith, e) in subst (λ k. first_fault (row_rules (normal_said d) (k, row_known r)) ≡ None) up (row_fine i r at))

  objective_fine : first_fault (row_rules (normal_said d) (0, objective_known d)) ≡ None
  objective_fine =
      let z = neg_ℤ (in_sense d.maximise d.constant) in
      let numbers : list_all (is_within_at (2 ^ 31) d.scale) (coefficients (normal_said d) 0) ≡ true = ap (list_all (is_within_at (2 ^ 31) d.scale)) (objective_numbers d deck in_objective) ∙ all_small (2 ^ 31) d.scale (costs d deck in_objective) costs_small in
      let arcs : list_all (is_within_at (2 ^ 24) d.scale) (arcs_in (normal_said d) 0) ≡ true = ap (list_all (is_within_at (2 ^ 24) d.scale)) (objective_arcs d) ∙ all_small (2 ^ 24) d.scale (arc_numbers d) arcs_small in
      let side : is_above (2 ^ 53) (Some (side_at (objective_known d) d.scale)) ≡ false = ap (λ v. is_above (2 ^ 53) (Some (times_ten v d.scale))) (number_is d.scale z) ∙ ap (λ x. is_above (2 ^ 53) (Some x)) (scaled_back d.scale z) ∙ one_above (2 ^ 53) z (negated_size (2 ^ 53) (in_sense d.maximise d.constant) (minimised_size d.maximise (2 ^ 53) d.constant deck.constant)) in
      two_rules (normal_said d) (0, objective_known d) d.scale (objective_scale_is d deck in_objective) deck.scale (or_from _ _ (or_from _ _ (or_from _ _ (or_from _ _ (ap not numbers) (ap not arcs)) side) refl) refl)

-- ---- all

pub deck-fine-law : (d : DeckValue) → IsDeck d → HasObjectiveArcs d → deck_fault (normal_said d) ≡ None
unfolding deck_rules
deck-fine-law d deck in_objective =
    let said = normal_said d in
    both_fine (objective_rules said (objective said)) (flat_map (row_rules said) (sided_rows said) ++ (flat_map (column_rules said) (enumerate_from 0 said.columns) ++ flat_map (set_rules said) said.sets)) (objective_fine d deck in_objective)
    (both_fine (flat_map (row_rules said) (sided_rows said)) (flat_map (column_rules said) (enumerate_from 0 said.columns) ++ flat_map (set_rules said) said.sets) (rows_fine d deck in_objective)
    (both_fine (flat_map (column_rules said) (enumerate_from 0 said.columns)) (flat_map (set_rules said) said.sets) (columns_fine d deck in_objective) (sets_fine d deck)))
