-- The entries that are known of a column are those of the deck.
use Rattle.std.proofs.Common.{◌≡◌, ◌≢◌, ℕ, zero, suc, ◌+◌, ◌<◌, ◌≤◌, nat_eq, Bool, true, false, cond, List, [], ◌∷◌, map, filter_map, length, Option, Some, None, option_map, pos, AllPairs, refl, ap, ◌∙◌, subst, arith, if◌then◌else◌}
use Rattle.std.specs.Bool.{⊤}
use Rattle.std.specs.List.{enumerate_from, range_with_len, cons_option}
use Rattle.std.specs.Option.{option_and_then}
use Rattle.std.proofs.lemmas.Bool.Decides.{nat_tests}
use Rattle.um_num.specs.declared.decimal.Decimal.{Decimal}
use Rattle.um_model.specs.Values.{DeckValue, ColumnValue}
use Rattle.um_model.specs.WellFormed.{IsDeck, IsColumn, IsEntry, AtPlace}
use Rattle.um_model.specs.declared.deck.Row.{Row}
use Rattle.um_model.specs.declared.deck.Entry.{Entry}
use Rattle.um_statements.specs.Said.{RowSaid}
use Rattle.um_statements.specs.CallRules.{is_zero as is_nothing}
use Rattle.um_statements.specs.Scaled.{times_ten}
use Rattle.um_statements.specs.Made.{entry_in, entry_made, sided_rows, row_scale as made_scale}
use Rattle.um_statements.proofs.Tests.{other_number}
use Rattle.um_round.specs.Numerals.{written}
use Rattle.um_round.proofs.EachItem.{Each, Each-from}
use Rattle.um_round.proofs.NormalSaid.{normal_said, row_known, column_known, HasObjectiveArcs}
use Rattle.um_round.proofs.Numerals.{scaled_back}
use Rattle.um_round.proofs.KnownNumbers.{not_nothing, entry_at, known_value, scale_at}
use Rattle.um_round.proofs.KnownScales.{apart, row_scale_is}
use Rattle.um_round.proofs.RowsBack.{rows_but_first}

-- ---- a list that rises, looked up row by row

abbrev Rising : ℕ → List Entry → Type 0
Rising n [] = ⊤
Rising n (e ∷ es) = (n ≤ e.row) × Rising (suc e.row) es

rising : (n : ℕ) (e : Entry) (es : List Entry) → n ≤ e.row → AllPairs (λ (a : Entry) (b : Entry). a.row < b.row) (e ∷ es) → Rising n (e ∷ es)
rising n e [] h p = (h, tt)
rising n e (x ∷ es) h p =
    let next : e.row < x.row = p 0 1 e (omega arith) (omega arith) in
    (h, rising (suc e.row) x es (omega (arith, next)) (λ i j y a b. p (suc i) (suc j) y (omega (arith, a)) (omega (arith, b))))

rising_all : (es : List Entry) → AllPairs (λ (a : Entry) (b : Entry). a.row < b.row) es → Rising 0 es
rising_all [] p = tt
rising_all (e ∷ es) p = rising 0 e es (omega arith) p

lower : (n m : ℕ) (es : List Entry) → n ≤ m → Rising m es → Rising n es
lower n m [] h r = tt
lower n m (e ∷ es) h r = let low = r.0 in (omega (arith, h, low), r.1)

none_below : (n m : ℕ) (es : List Entry) → n < m → Rising m es → entry_at n es ≡ None
none_below n m [] h r = refl
none_below n m (e ∷ es) h r =
    let low = r.0 in
    let other : nat_eq e.row n ≡ false = grind (arith, nat_tests) in
    rw other (none_below n (suc e.row) es (omega (arith, h, low)) r.1)

-- no later row has the first entry
passed : (n len : ℕ) (e : Entry) (es : List Entry) → e.row < n → filter_map (λ k. entry_at k (e ∷ es)) (range_with_len n len) ≡ filter_map (λ k. entry_at k es) (range_with_len n len)
passed n zero e es h = refl
passed n (suc len) e es h =
    let other : nat_eq e.row n ≡ false = grind (arith, nat_tests) in
    rw other (ap (λ (more : List Entry). cons_option (entry_at n es) more) (passed (n + 1) len e es (omega (arith, h))))

further : (n len : ℕ) (xs : List Entry) → Each (λ (e : Entry). e.row < n + suc len) xs → Each (λ (e : Entry). e.row < (n + 1) + len) xs
further n len [] k = tt
further n len (x ∷ xs) k = let high = k.0 in (omega (arith, high), further n len xs k.1)

picked : (n len : ℕ) (es : List Entry) → Rising n es → Each (λ (e : Entry). e.row < n + len) es → filter_map (λ k. entry_at k es) (range_with_len n len) ≡ es
picked n zero [] r h = refl
picked n zero (e ∷ es) r h = let low = r.0 in let high = h.0 in absurd (omega (arith, low, high))
picked n (suc len) [] r h = picked (n + 1) len [] tt tt
picked n (suc len) (e ∷ es) r h = by (nat_eq e.row n) refl
    (λ up. picked (n + 1) len es up (further n len es h.1))
    (λ up. picked (n + 1) len (e ∷ es) up (further n len (e ∷ es) h))
  where
    by : (t : Bool) → nat_eq e.row n ≡ t
        → (Rising (n + 1) es → filter_map (λ k. entry_at k es) (range_with_len (n + 1) len) ≡ es)
        → (Rising (n + 1) (e ∷ es) → filter_map (λ k. entry_at k (e ∷ es)) (range_with_len (n + 1) len) ≡ e ∷ es)
        → cons_option (cond t (Some e) (entry_at n es)) (filter_map (λ k. entry_at k (e ∷ es)) (range_with_len (n + 1) len)) ≡ e ∷ es
    by true t rest same =
        let is : e.row ≡ n = grind (arith, nat_tests) in
        ap (λ (more : List Entry). e ∷ more) (passed (n + 1) len e es (omega (arith, is)) ∙ rest (lower (n + 1) (suc e.row) es (omega (arith, is)) r.1))
    by false t rest same =
        let low = r.0 in
        let other : e.row ≢ n = other_number e.row n t in
        let up : n < e.row = grind (arith, low, other) in
        ap (λ o. cons_option o (filter_map (λ k. entry_at k (e ∷ es)) (range_with_len (n + 1) len))) (none_below n (suc e.row) es (omega (arith, up)) r.1)
        ∙ same (omega (arith, up), r.1)

-- ---- an entry

abbrev kept : ℕ → ℕ → Decimal → Option Entry
kept m k v = if is_nothing v then None else Some (record { row = m; value = times_ten v k })

-- what is found in a row is made as it is
found_back : (m k : ℕ) (es : List Entry) → Each (λ (e : Entry). e.value ≢ pos 0) es → option_and_then (kept m k) (option_map (λ (e : Entry). written k e.value) (entry_at m es)) ≡ entry_at m es
found_back m k [] h = refl
found_back m k (e ∷ es) h = by (nat_eq e.row m) refl (found_back m k es h.1)
  where
    by : (t : Bool) → nat_eq e.row m ≡ t → option_and_then (kept m k) (option_map (λ (e : Entry). written k e.value) (entry_at m es)) ≡ entry_at m es
        → option_and_then (kept m k) (option_map (λ (e : Entry). written k e.value) (cond t (Some e) (entry_at m es))) ≡ cond t (Some e) (entry_at m es)
    by true t rest =
        let is : m ≡ e.row = grind (arith, nat_tests) in
        let back = scaled_back k e.value in
        rw (not_nothing k e.value h.0) (λ i. Some (record { row = is i; value = back i }))
    by false t rest = rest

module _ (d : DeckValue) (deck : IsDeck d) (in_objective : HasObjectiveArcs d) (c : ColumnValue) (is : IsColumn (length d.rows) c) where
  entries_each : Each (IsEntry (length d.rows)) c.entries
  entries_each = Each-from (IsEntry (length d.rows)) c.entries is.entries

  nonzero : (es : List Entry) → Each (IsEntry (length d.rows)) es → Each (λ (e : Entry). e.value ≢ pos 0) es
  nonzero [] h = tt
  nonzero (e ∷ es) h = (h.0.nonzero, nonzero es h.1)

  inside : (es : List Entry) → Each (IsEntry (length d.rows)) es → Each (λ (e : Entry). e.row < 0 + length d.rows) es
  inside [] h = tt
  inside (e ∷ es) h = let low = h.0.row in (omega (arith, low), inside es h.1)

  made_entry : (m : ℕ) (r : Row) → AtPlace d.rows m r → entry_made (normal_said d) (column_known d c) (m, (suc m, row_known r)) ≡ entry_at m c.entries
  made_entry m r at =
      let value : entry_in (suc m) (column_known d c) ≡ option_map (λ (e : Entry). written r.scale e.value) (entry_at m c.entries) =
      known_value d (apart d deck in_objective) c entries_each m ∙ ap (λ k. option_map (λ (e : Entry). written k e.value) (entry_at m c.entries)) (scale_at d.rows m r at) in
      ap (λ o. option_and_then (kept m (made_scale (normal_said d) (suc m) (row_known r))) o) value
      ∙ ap (λ k. option_and_then (kept m k) (option_map (λ (e : Entry). written r.scale e.value) (entry_at m c.entries))) (row_scale_is d deck in_objective m r at)
      ∙ found_back m r.scale c.entries (nonzero c.entries entries_each)

  entries_from : (n : ℕ) (rows : List Row) → ((i : ℕ) (r : Row) → AtPlace rows i r → (m : ℕ) → m ≡ n + i → entry_made (normal_said d) (column_known d c) (m, (m + 1, row_known r)) ≡ entry_at m c.entries)
      → filter_map (entry_made (normal_said d) (column_known d c)) (enumerate_from n (enumerate_from (n + 1) (map row_known rows))) ≡ filter_map (λ k. entry_at k c.entries) (range_with_len n (length rows))
  entries_from n [] h = refl
  entries_from n (r ∷ rows) h =
      ap (λ o. cons_option o (filter_map (entry_made (normal_said d) (column_known d c)) (enumerate_from (n + 1) (enumerate_from ((n + 1) + 1) (map row_known rows))))) (h 0 r refl n (omega arith))
      ∙ ap (λ (more : List Entry). cons_option (entry_at n c.entries) more) (entries_from (n + 1) rows (λ i x at m e. h (suc i) x at m (omega (arith, e))))

  pub entries_back : filter_map (entry_made (normal_said d) (column_known d c)) (enumerate_from 0 (sided_rows (normal_said d))) ≡ c.entries
  entries_back =
      ap (λ (ps : List (ℕ × RowSaid)). filter_map (entry_made (normal_said d) (column_known d c)) (enumerate_from 0 ps)) (rows_but_first d)
      ∙ entries_from 0 d.rows (λ i r at m e.
      let same : i ≡ m = omega (arith, e) in
      let up : suc m ≡ m + 1 = omega arith in
      subst (λ k. entry_made (normal_said d) (column_known d c) (m, (k, row_known r)) ≡ entry_at m c.entries) up (made_entry m r (subst (λ k. AtPlace d.rows k r) same at)))
      ∙ picked 0 (length d.rows) c.entries (rising_all c.entries is.rise) (inside c.entries entries_each)
