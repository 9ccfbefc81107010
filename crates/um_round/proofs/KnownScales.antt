-- The scales of rows and objective are those at which their numbers were written.
use Rattle.std.proofs.Common.{◌≡◌, ℕ, suc, ◌<◌, ◌≤◌, nat_eq, Bool, true, false, cond, List, [], ◌∷◌, ◌++◌, map, filter_map, slice_index_or, get_or, length, Option, Some, None, option_map, unwrap_or, ℤ, pos, negsuc, neg_ℤ, ◌-ℤ◌, All, AllPairs, refl, sym, ap, ◌∙◌, subst, arith, if◌then◌else◌}
use Rattle.std.specs.Option.{ForSome}
use Rattle.std.proofs.lemmas.Int.{ints}
use Rattle.std.proofs.lemmas.Bool.Decides.{nat_tests}
use Rattle.std.proofs.lemmas.List.Elements.{All-nil, All-cons, All-head, All-tail}
use Rattle.um_num.specs.declared.decimal.Decimal.{Decimal}
use Rattle.um_model.specs.Values.{DeckValue, ColumnValue}
use Rattle.um_model.specs.WellFormed.{IsDeck, IsColumn, IsEntry, IsMultipleOfTen, AtPlace}
use Rattle.um_model.specs.declared.deck.Row.{Row}
use Rattle.um_model.specs.declared.deck.Arc.{Arc}
use Rattle.um_model.specs.declared.deck.Entry.{Entry}
use Rattle.um_statements.specs.CallRules.{is_n}
use Rattle.um_statements.specs.Scaled.{least_scale}
use Rattle.um_statements.specs.Made.{entry_in, nothing, coefficients, arcs_in, numbers_beside, row_scale as made_scale}
use Rattle.um_statements.proofs.LeastScales.{minimised_multiple, negated_multiple}
use Rattle.um_statements.proofs.ListFacts.{given_all, unmapped}
use Rattle.um_make.specs.NormalLines.{in_sense, is_zero_number, is_same, sides_kind, first_side, width, scale_of_row}
use Rattle.um_round.specs.Numerals.{written}
use Rattle.um_round.proofs.EachItem.{Each, Each-from, each_all}
use Rattle.um_round.proofs.NormalSaid.{normal_said, told_number, row_known, objective_known, column_known, HasObjectiveArcs}
use Rattle.um_round.proofs.ColumnsTold.{Apart, Apart-from}
use Rattle.um_round.proofs.ScalesBack.{scale-law}
use Rattle.um_round.proofs.KnownNumbers.{given_map, given_same, written_zero, zero_is, entry_at, cost_told, cost_of, known_value, known_cost, scale_at, arc_numbers, objective_arcs, row_arcs}

-- ---- numbers beside

-- a number that has no line is 0, which is written the same at all scales
pub number_is : (k : ℕ) (z : ℤ) → unwrap_or (told_number k z) nothing ≡ written k z
number_is k z = by (is_zero_number z) refl
  where
    by : (b : Bool) → is_zero_number z ≡ b → unwrap_or (if b then None else Some (written k z)) nothing ≡ written k z
    by true e = sym (ap (written k) (zero_is z e) ∙ written_zero k)
    by false e = refl

pub never_n : (low high : Option ℤ) → is_n (sides_kind low high) ≡ false
never_n None high = refl
never_n (Some low) None = refl
never_n (Some low) (Some high) = by (is_same low high) refl
  where
    by : (b : Bool) → is_same low high ≡ b → is_n (sides_kind (Some low) (Some high)) ≡ false
    by true e = rw e refl
    by false e = rw e refl

abbrev beside : Row → List ℤ
beside r = first_side r.low r.high ∷ width r.low r.high ∷ []

row_beside : (r : Row) → numbers_beside (row_known r) ≡ map (written r.scale) (beside r)
row_beside r = rw (never_n r.low r.high, number_is r.scale (first_side r.low r.high), number_is r.scale (width r.low r.high)) refl

map_both : {X Y : Type 0} (f : X → Y) (xs ys : List X) → map f (xs ++ ys) ≡ map f xs ++ map f ys
map_both f [] ys = refl
map_both {Y = Y} f (x ∷ xs) ys = ap (λ (zs : List Y). f x ∷ zs) (map_both f xs ys)

All-first : {X : Type 0} (P : X → Type 0) (xs ys : List X) → All P (xs ++ ys) → All P xs
All-first P [] ys h = All-nil P
All-first P (x ∷ xs) ys h = All-cons P x xs (All-head P x (xs ++ ys) h) (All-first P xs ys (All-tail P x (xs ++ ys) h))

All-last : {X : Type 0} (P : X → Type 0) (xs ys : List X) → All P (xs ++ ys) → All P ys
All-last P [] ys h = h
All-last P (x ∷ xs) ys h = All-last P xs ys (All-tail P x (xs ++ ys) h)

-- ---- multiples of ten

tens_sum : (low high : ℤ) → IsMultipleOfTen low → IsMultipleOfTen (high -ℤ low) → IsMultipleOfTen high
tens_sum (pos a) (pos b) x y = omega (arith, ints, x, y)
tens_sum (pos a) (negsuc b) x y = omega (arith, ints, x, y)
tens_sum (negsuc a) (pos b) x y = omega (arith, ints, x, y)
tens_sum (negsuc a) (negsuc b) x y = omega (arith, ints, x, y)

some_is : (P : ℤ → Type 0) (z : ℤ) → P z → ForSome (Some z) P
some_is P z h x e = let same : z ≡ x = cc in subst P same h

none_is : (P : ℤ → Type 0) → ForSome None P
none_is P x e = cc

low_tens : (low high : Option ℤ) → IsMultipleOfTen (first_side low high) → ForSome low IsMultipleOfTen
low_tens None high h = none_is IsMultipleOfTen
low_tens (Some low) high h = some_is IsMultipleOfTen low h

high_tens : (low high : Option ℤ) → IsMultipleOfTen (first_side low high) → IsMultipleOfTen (width low high) → ForSome high IsMultipleOfTen
high_tens None None h k = none_is IsMultipleOfTen
high_tens (Some low) None h k = none_is IsMultipleOfTen
high_tens None (Some high) h k = some_is IsMultipleOfTen high h
high_tens (Some low) (Some high) h k = some_is IsMultipleOfTen high (tens_sum low high h k)

-- where the entry in a row is a multiple of ten, no other is in that row
row_tens : (i : ℕ) (es : List Entry) → AllPairs (λ (a : Entry) (b : Entry). a.row < b.row) es → ForSome (option_map (λ (e : Entry). e.value) (entry_at i es)) IsMultipleOfTen → All (λ (e : Entry). e.row ≡ i → IsMultipleOfTen e.value) es
row_tens i [] rise h = All-nil (λ (e : Entry). e.row ≡ i → IsMultipleOfTen e.value)
row_tens i (e ∷ es) rise h = by (nat_eq e.row i) refl h (row_tens i es (λ a b x p q. rise (suc a) (suc b) x (omega (arith, p)) (omega (arith, q))))
  where
    by : (t : Bool) → nat_eq e.row i ≡ t → ForSome (option_map (λ (e : Entry). e.value) (cond t (Some e) (entry_at i es))) IsMultipleOfTen
        → (ForSome (option_map (λ (e : Entry). e.value) (entry_at i es)) IsMultipleOfTen → All (λ (e : Entry). e.row ≡ i → IsMultipleOfTen e.value) es) → All (λ (e : Entry). e.row ≡ i → IsMultipleOfTen e.value) (e ∷ es)
    by true t h rest =
        let is : e.row ≡ i = grind (arith, nat_tests) in
        All-cons (λ (e : Entry). e.row ≡ i → IsMultipleOfTen e.value) e es (λ same. h e.value refl)
        (λ k x p same. let up : e.row < (slice_index_or es k x).row = rise 0 (suc k) x (omega arith) (omega (arith, p)) in absurd (omega (arith, up, same, is)))
    by false t h rest = All-cons (λ (e : Entry). e.row ≡ i → IsMultipleOfTen e.value) e es (λ same. absurd (grind (arith, nat_tests))) (rest h)

-- ---- the deck

module _ (d : DeckValue) (deck : IsDeck d) (in_objective : HasObjectiveArcs d) where
  pub apart : Apart (λ n. n) (d.objective_name ∷ map (λ (r : Row). r.name) d.rows)
  apart = Apart-from (λ y. y) (d.objective_name ∷ map (λ (r : Row). r.name) d.rows) deck.row_names

  -- the values in a row
  abbrev pub values : ℕ → List ℤ
  values i = filter_map (λ (c : ColumnValue). option_map (λ (e : Entry). e.value) (entry_at i c.entries)) d.columns

  -- the numbers in the objective
  abbrev pub costs : List ℤ
  costs = filter_map (λ (c : ColumnValue). cost_told (is_zero_number (cost_of d c)) (cost_of d c) c.entries) d.columns

  entries_within : (cs : List ColumnValue) → Each (IsColumn (length d.rows)) cs → Each (λ (c : ColumnValue). Each (IsEntry (length d.rows)) c.entries) cs
  entries_within [] h = tt
  entries_within (c ∷ cs) h = (Each-from (IsEntry (length d.rows)) c.entries h.0.entries, entries_within cs h.1)

  pub within : Each (λ (c : ColumnValue). Each (IsEntry (length d.rows)) c.entries) d.columns
  within = entries_within d.columns (Each-from (IsColumn (length d.rows)) d.columns deck.columns)

  values_known : (i : ℕ) (cs : List ColumnValue) → Each (λ (c : ColumnValue). Each (IsEntry (length d.rows)) c.entries) cs → Each (λ (c : ColumnValue). entry_in (suc i) (column_known d c) ≡ option_map (λ (e : Entry). written (scale_of_row d.rows i) e.value) (entry_at i c.entries)) cs
  values_known i [] h = tt
  values_known i (c ∷ cs) h = (known_value d apart c h.0 i, values_known i cs h.1)

  costs_known : (cs : List ColumnValue) → Each (λ (c : ColumnValue). Each (IsEntry (length d.rows)) c.entries) cs → Each (λ (c : ColumnValue). entry_in 0 (column_known d c) ≡ option_map (written d.scale) (cost_told (is_zero_number (cost_of d c)) (cost_of d c) c.entries)) cs
  costs_known [] h = tt
  costs_known (c ∷ cs) h = (known_cost d apart c h.0, costs_known cs h.1)

  twice : (k : ℕ) (o : Option Entry) → option_map (λ (e : Entry). written k e.value) o ≡ option_map (written k) (option_map (λ (e : Entry). e.value) o)
  twice k None = refl
  twice k (Some e) = refl

  all_twice : (k i : ℕ) (cs : List ColumnValue) → filter_map (λ (c : ColumnValue). option_map (λ (e : Entry). written k e.value) (entry_at i c.entries)) cs ≡ filter_map (λ (c : ColumnValue). option_map (written k) (option_map (λ (e : Entry). e.value) (entry_at i c.entries))) cs
  all_twice k i cs = ap (λ (f : ColumnValue → Option Decimal). filter_map f cs) (λ j c. twice k (entry_at i c.entries) j)

  pub row_numbers : (i : ℕ) (r : Row) → AtPlace d.rows i r → coefficients (normal_said d) (suc i) ≡ map (written r.scale) (values i)
  row_numbers i r at =
      let scale = scale_at d.rows i r at in
      given_same (entry_in (suc i)) (column_known d) (λ (c : ColumnValue). option_map (λ (e : Entry). written (scale_of_row d.rows i) e.value) (entry_at i c.entries)) d.columns (values_known i d.columns within)
      ∙ all_twice (scale_of_row d.rows i) i d.columns
      ∙ given_map (written (scale_of_row d.rows i)) (λ (c : ColumnValue). option_map (λ (e : Entry). e.value) (entry_at i c.entries)) d.columns
      ∙ ap (λ k. map (written k) (values i)) scale

  pub objective_numbers : coefficients (normal_said d) 0 ≡ map (written d.scale) costs
  objective_numbers =
      given_same (entry_in 0) (column_known d) (λ (c : ColumnValue). option_map (written d.scale) (cost_told (is_zero_number (cost_of d c)) (cost_of d c) c.entries)) d.columns (costs_known d.columns within)
      ∙ given_map (written d.scale) (λ (c : ColumnValue). cost_told (is_zero_number (cost_of d c)) (cost_of d c) c.entries) d.columns

  -- no arc is in a row
  other_arcs : (i : ℕ) → All (λ (a : Arc). a.row ≡ Some i → IsMultipleOfTen a.value) d.arcs
  other_arcs i = λ k x within same. let other : None ≡ Some i = sym (in_objective k x within) ∙ same in cc

  entries_tens : (i : ℕ) (cs : List ColumnValue) → Each (IsColumn (length d.rows)) cs → All IsMultipleOfTen (filter_map (λ (c : ColumnValue). option_map (λ (e : Entry). e.value) (entry_at i c.entries)) cs)
      → All (λ (c : ColumnValue). All (λ (e : Entry). e.row ≡ i → IsMultipleOfTen e.value) c.entries) cs
  entries_tens i cs is tens = each_all (λ (c : ColumnValue). All (λ (e : Entry). e.row ≡ i → IsMultipleOfTen e.value) c.entries) cs (by cs is (Each-from (λ (c : ColumnValue). ForSome (option_map (λ (e : Entry). e.value) (entry_at i c.entries)) IsMultipleOfTen) cs (given_all IsMultipleOfTen (λ (c : ColumnValue). option_map (λ (e : Entry). e.value) (entry_at i c.entries)) cs tens)))
    where
      by : (cs : List ColumnValue) → Each (IsColumn (length d.rows)) cs → Each (λ (c : ColumnValue). ForSome (option_map (λ (e : Entry). e.value) (entry_at i c.entries)) IsMultipleOfTen) cs → Each (λ (c : ColumnValue). All (λ (e : Entry). e.row ≡ i → IsMultipleOfTen e.value) c.entries) cs
      by [] is h = tt
      by (c ∷ cs) is h = (row_tens i c.entries is.0.rise h.0, by cs is.1 h.1)

  pub row_scale_is : (i : ℕ) (r : Row) → AtPlace d.rows i r → made_scale (normal_said d) (suc i) (row_known r) ≡ r.scale
  row_scale_is i r at =
      let all : coefficients (normal_said d) (suc i) ++ (arcs_in (normal_said d) (suc i) ++ numbers_beside (row_known r)) ≡ map (written r.scale) (values i ++ beside r) =
      ap (λ (vs : List Decimal). vs ++ (arcs_in (normal_said d) (suc i) ++ numbers_beside (row_known r))) (row_numbers i r at)
      ∙ ap (λ (vs : List Decimal). map (written r.scale) (values i) ++ (vs ++ numbers_beside (row_known r))) (row_arcs d i)
      ∙ ap (λ (vs : List Decimal). map (written r.scale) (values i) ++ vs) (row_beside r) ∙ sym (map_both (written r.scale) (values i) (beside r)) in
      ap least_scale all ∙ scale-law r.scale (values i ++ beside r) some
    where
      some : 1 ≤ r.scale → All IsMultipleOfTen (values i ++ beside r) → ⊥
      some most tens =
          let last = All-last IsMultipleOfTen (values i) (beside r) tens in
          let first = All-head IsMultipleOfTen (first_side r.low r.high) (width r.low r.high ∷ []) last in
          let wide = All-head IsMultipleOfTen (width r.low r.high) [] (All-tail IsMultipleOfTen (first_side r.low r.high) (width r.low r.high ∷ []) last) in
          deck.least_scales i r at most (record {
            low = low_tens r.low r.high first;
            high = high_tens r.low r.high first wide;
            entries = entries_tens i d.columns (Each-from (IsColumn (length d.rows)) d.columns deck.columns) (All-first IsMultipleOfTen (values i) (beside r) tens);
            arcs = other_arcs i;
          })

  -- ---- the objective

  abbrev rhs : ℤ
  rhs = neg_ℤ (in_sense d.maximise d.constant)

  cost_tens : (z : ℤ) (es : List Entry) → ForSome (cost_told (is_zero_number z) z es) IsMultipleOfTen → IsMultipleOfTen z
  cost_tens z es = by (is_zero_number z) refl
    where
      by : (b : Bool) → is_zero_number z ≡ b → ForSome (cost_told b z es) IsMultipleOfTen → IsMultipleOfTen z
      by true e h = subst IsMultipleOfTen (sym (zero_is z e)) refl
      by false e h = h z refl

  costs_tens : (cs : List ColumnValue) → All IsMultipleOfTen (filter_map (λ (c : ColumnValue). cost_told (is_zero_number (cost_of d c)) (cost_of d c) c.entries) cs) → All (λ (c : ColumnValue). IsMultipleOfTen c.cost) cs
  costs_tens cs tens = each_all (λ (c : ColumnValue). IsMultipleOfTen c.cost) cs (by cs (Each-from (λ (c : ColumnValue). ForSome (cost_told (is_zero_number (cost_of d c)) (cost_of d c) c.entries) IsMultipleOfTen) cs (given_all IsMultipleOfTen (λ (c : ColumnValue). cost_told (is_zero_number (cost_of d c)) (cost_of d c) c.entries) cs tens)))
    where
      by : (cs : List ColumnValue) → Each (λ (c : ColumnValue). ForSome (cost_told (is_zero_number (cost_of d c)) (cost_of d c) c.entries) IsMultipleOfTen) cs → Each (λ (c : ColumnValue). IsMultipleOfTen c.cost) cs
      by [] h = tt
      by (c ∷ cs) h = (minimised_multiple d.maximise c.cost (cost_tens (cost_of d c) c.entries h.0), by cs h.1)

  arcs_tens : All IsMultipleOfTen (arc_numbers d) → All (λ (a : Arc). a.row ≡ None → IsMultipleOfTen a.value) d.arcs
  arcs_tens tens = λ k x within same. minimised_multiple d.maximise (get_or d.arcs k x).value (unmapped IsMultipleOfTen (λ (a : Arc). in_sense d.maximise a.value) d.arcs tens k x within)

  pub objective_scale_is : made_scale (normal_said d) 0 (objective_known d) ≡ d.scale
  objective_scale_is =
      let all : coefficients (normal_said d) 0 ++ (arcs_in (normal_said d) 0 ++ numbers_beside (objective_known d)) ≡ map (written d.scale) (costs ++ (arc_numbers d ++ rhs ∷ [])) =
      ap (λ (vs : List Decimal). vs ++ (arcs_in (normal_said d) 0 ++ numbers_beside (objective_known d))) objective_numbers
      ∙ ap (λ (vs : List Decimal). map (written d.scale) costs ++ (vs ++ numbers_beside (objective_known d))) (objective_arcs d)
      ∙ ap (λ (v : Decimal). map (written d.scale) costs ++ (map (written d.scale) (arc_numbers d) ++ v ∷ [])) (number_is d.scale rhs)
      ∙ ap (λ (vs : List Decimal). map (written d.scale) costs ++ vs) (sym (map_both (written d.scale) (arc_numbers d) (rhs ∷ [])))
      ∙ sym (map_both (written d.scale) costs (arc_numbers d ++ rhs ∷ [])) in
      ap least_scale all ∙ scale-law d.scale (costs ++ (arc_numbers d ++ rhs ∷ [])) some
    where
      some : 1 ≤ d.scale → All IsMultipleOfTen (costs ++ (arc_numbers d ++ rhs ∷ [])) → ⊥
      some most tens =
          let beside = All-last IsMultipleOfTen costs (arc_numbers d ++ rhs ∷ []) tens in
          let last = All-head IsMultipleOfTen rhs [] (All-last IsMultipleOfTen (arc_numbers d) (rhs ∷ []) beside) in
          deck.least_scale most (record {
            constant = minimised_multiple d.maximise d.constant (negated_multiple (in_sense d.maximise d.constant) last);
            costs = costs_tens d.columns (All-first IsMultipleOfTen costs (arc_numbers d ++ rhs ∷ []) tens);
            arcs = arcs_tens (All-first IsMultipleOfTen (arc_numbers d) (rhs ∷ []) beside);
          })
