-- The statements of SOS break no rule.
use Rattle.std.proofs.Common.{◌≡◌, ◌≢◌, ℕ, suc, ◌+◌, ◌*◌, ◌<◌, ◌≤◌, ◌^◌, Bool, true, false, List, [], ◌∷◌, ◌++◌, append_assoc, length, length-append, map, position, Some, None, unsigned_abs, refl, sym, ap, ◌∙◌, subst, arith, AllPairs}
use Rattle.std.specs.Bool.{⊤}
use Rattle.std.specs.Str.{bytes_eq}
use Rattle.std.specs.List.{list_any, flat_map}
use Rattle.std.proofs.lemmas.Bool.{or_from, le-leb, lt-leb, ne_eqb}
use Rattle.std.proofs.lemmas.List.{append-nil, length-map}
use Rattle.std.proofs.lemmas.List.Folds.{list_any-append}
use Rattle.std.proofs.lemmas.Grind.{flat_map-append}
use Rattle.um_model.specs.Values.{DeckValue, ColumnValue, SetValue}
use Rattle.um_model.specs.WellFormed.{IsDeck, IsSet, IsMember}
use Rattle.um_model.specs.declared.deck.Member.{Member}
use Rattle.um_model.specs.declared.deck.SetKind.{SetKind}
use Rattle.um_statements.specs.declared.parts.MemberPart.{MemberPart}
use Rattle.um_statements.specs.Statements.{Name, Statement, Set, MemberTold}
use Rattle.um_statements.specs.Scaled.{is_whole_at, is_within_at}
use Rattle.um_statements.specs.Said.{Said, ColumnSaid, SetSaid, column_place}
use Rattle.um_statements.specs.CallRules.{rules_of, with_statement, is_at}
use Rattle.um_make.specs.NormalLines.{column_name}
use Rattle.um_round.specs.Numerals.{written}
use Rattle.um_round.proofs.NormalTold.{member_told, set_told, sets_told}
use Rattle.um_round.proofs.NormalSaid.{Runs, column_known, rows_known, member_known, set_known, behind_bounds, behind_sets}
use Rattle.um_round.proofs.Runs.{run_none, run_one, run_both}
use Rattle.um_round.proofs.Numerals.{scaled_back, decimals_most}
use Rattle.um_round.proofs.EachItem.{Each, Each-from}
use Rattle.um_round.proofs.ColumnsTold.{Apart, Apart-from}
use Rattle.um_round.proofs.RowsRun.{position_at, other_way}
use Rattle.um_round.proofs.ColumnsRun.{place_of_name, last_has_push, change_last_push}
use Rattle.um_round.proofs.BoundsRun.{whole_if}

-- ---- the place of a column

names_known : (d : DeckValue) (cs : List ColumnValue) → map (λ (c : ColumnSaid). c.name) (map (column_known d) cs) ≡ map (λ (c : ColumnValue). c.name) cs
names_known d [] = refl
names_known d (c ∷ cs) = ap (λ (ns : List Name). c.name ∷ ns) (names_known d cs)

names_apart : (cs : List ColumnValue) → Apart (λ (c : ColumnValue). c.name) cs → Apart (λ (n : Name). n) (map (λ (c : ColumnValue). c.name) cs)
names_apart [] h = tt
names_apart (c ∷ cs) h = (by cs h.0, names_apart cs h.1)
  where
    by : (cs : List ColumnValue) → Each (λ (x : ColumnValue). bytes_eq c.name x.name ≡ false) cs → Each (λ (n : Name). bytes_eq c.name n ≡ false) (map (λ (c : ColumnValue). c.name) cs)
    by [] h = tt
    by (x ∷ cs) h = (h.0, by cs h.1)

pub column_at : (d : DeckValue) → IsDeck d → (j : ℕ) → j < length d.columns → column_place (map (column_known d) d.columns) (column_name d.columns j) ≡ Some j
column_at d deck j h =
    let names = map (λ (c : ColumnValue). c.name) d.columns in
    let size = length-map d.columns (λ (c : ColumnValue). c.name) in
    let apart = names_apart d.columns (Apart-from (λ (c : ColumnValue). c.name) d.columns deck.column_names) in
    ap (position (bytes_eq (column_name d.columns j))) (names_known d d.columns)
    ∙ position_at (bytes_eq (column_name d.columns j)) names j (place_of_name names j (omega (arith, h, size)) apart) (omega (arith, h, size))

-- ---- one set

module _ (d : DeckValue) (deck : IsDeck d) where
  abbrev at : List SetSaid → Said
  at sets = record { name = d.name; maximise = d.maximise; rows = rows_known d; columns = map (column_known d) d.columns; sets = sets; arcs = [] }

  abbrev set_as : Name → SetKind → List MemberPart → SetSaid
  set_as name kind members = record { name = name; kind = kind; reference = None; members = members }

  abbrev has_place : ℕ → List MemberPart → Bool
  has_place j got = list_any (λ (m : MemberPart). is_at (Some j) m.column) got

  member_run : (done : List SetSaid) (name : Name) (kind : SetKind) (got : List MemberPart) (m : Member) → IsMember d m → has_place m.column got ≡ false
      → Runs (at (done ++ set_as name kind got ∷ [])) (member_told d.columns m) (at (done ++ set_as name kind (got ++ member_known m ∷ []) ∷ []))
  unfolding rules_of with_statement
  member_run done name kind got m is fresh =
      let place = column_at d deck m.column is.column in
      let size : unsigned_abs m.weight ≤ 2 ^ 31 * 10 ^ 6 = is.weight in
      let whole : is_whole_at 6 (written 6 m.weight) ≡ true = whole_if (written 6 m.weight).power 6 (decimals_most 6 m.weight) in
      let within : is_within_at (2 ^ 31 * 10 ^ 6) 6 (written 6 m.weight) ≡ true = rw (scaled_back 6 m.weight) (le-leb (unsigned_abs m.weight) (2 ^ 31 * 10 ^ 6) size) in
      let last = last_has_push (λ (s : SetSaid). list_any (λ (x : MemberPart). is_at (Some m.column) x.column) s.members) done (set_as name kind got) in
      run_one (at (done ++ set_as name kind got ∷ [])) (MemberTold (column_name d.columns m.column) (Some (written 6 m.weight))) (at (done ++ set_as name kind (got ++ member_known m ∷ []) ∷ []))
      (rw (place, last, fresh, whole, within) refl)
      (ap at (rw (place, scaled_back 6 m.weight) (change_last_push _ done (set_as name kind got))))

  abbrev CanJoin : List MemberPart → List Member → Type 0
  CanJoin got [] = ⊤
  CanJoin got (m ∷ ms) = IsMember d m × (has_place m.column got ≡ false) × CanJoin (got ++ member_known m ∷ []) ms

  members_run : (ms : List Member) (done : List SetSaid) (name : Name) (kind : SetKind) (got : List MemberPart) → CanJoin got ms
      → Runs (at (done ++ set_as name kind got ∷ [])) (flat_map (λ told. told) (map (member_told d.columns) ms)) (at (done ++ set_as name kind (got ++ map member_known ms) ∷ []))
  members_run [] done name kind got can = subst (λ (g : List MemberPart). Runs (at (done ++ set_as name kind got ∷ [])) [] (at (done ++ set_as name kind g ∷ []))) (sym (append-nil got)) (run_none (at (done ++ set_as name kind got ∷ [])))
  members_run (m ∷ ms) done name kind got can =
      let next = got ++ member_known m ∷ [] in
      let here = member_run done name kind got m can.0 can.1 in
      let rest = members_run ms done name kind next can.2 in
      let end = subst (λ (g : List MemberPart). Runs (at (done ++ set_as name kind next ∷ [])) (flat_map (λ told. told) (map (member_told d.columns) ms)) (at (done ++ set_as name kind g ∷ []))) (append_assoc got (member_known m ∷ []) (map member_known ms)) rest in
      run_both (at (done ++ set_as name kind got ∷ [])) (at (done ++ set_as name kind next ∷ [])) (at (done ++ set_as name kind (got ++ map member_known (m ∷ ms)) ∷ [])) (member_told d.columns m) (flat_map (λ told. told) (map (member_told d.columns) ms)) here end

  head_run : (done : List SetSaid) (name : Name) (kind : SetKind) → list_any (λ (s : SetSaid). bytes_eq name s.name) done ≡ false → length done < 256 → Runs (at done) (Set kind name None ∷ []) (at (done ++ set_as name kind [] ∷ []))
  unfolding rules_of with_statement
  head_run done name kind fresh few = run_one (at done) (Set kind name None) (at (done ++ set_as name kind [] ∷ [])) (rw (fresh, lt-leb 256 (length done) few) refl) refl

  -- ---- the members of a well-formed set

  abbrev NotIn : List MemberPart → List Member → Type 0
  NotIn got ms = Each (λ (m : Member). has_place m.column got ≡ false) ms

  not_in_push : (got : List MemberPart) (m : Member) (ms : List Member) → NotIn got ms → Each (λ (x : Member). m.column ≢ x.column) ms → NotIn (got ++ member_known m ∷ []) ms
  not_in_push got m [] h k = tt
  not_in_push got m (x ∷ ms) h k =
      (list_any-append (λ (y : MemberPart). is_at (Some x.column) y.column) got (member_known m ∷ []) ∙ or_from _ _ h.0 (or_from _ _ (ne_eqb x.column m.column (λ e. k.0 (sym e))) refl), not_in_push got m ms h.1 k.1)

  abbrev Differ : List Member → Type 0
  Differ [] = ⊤
  Differ (m ∷ ms) = Each (λ (x : Member). m.column ≢ x.column) ms × Differ ms

  differ_from : (ms : List Member) → AllPairs (λ (a : Member) (b : Member). a.column ≢ b.column) ms → Differ ms
  differ_from [] h = tt
  differ_from (m ∷ ms) h =
      (Each-from (λ (x : Member). m.column ≢ x.column) ms (λ k e p. h 0 (suc k) e (omega arith) (omega (arith, p))), differ_from ms (λ i j e p q. h (suc i) (suc j) e (omega (arith, p)) (omega (arith, q))))

  can_join : (ms : List Member) (got : List MemberPart) → Each (IsMember d) ms → NotIn got ms → Differ ms → CanJoin got ms
  can_join [] got is fresh differ = tt
  can_join (m ∷ ms) got is fresh differ = (is.0, fresh.0, can_join ms (got ++ member_known m ∷ []) is.1 (not_in_push got m ms fresh.1 differ.0) differ.1)

  none_in : (ms : List Member) → NotIn [] ms
  none_in [] = tt
  none_in (m ∷ ms) = (refl, none_in ms)

  -- ---- all sets

  abbrev FreshSets : List SetSaid → List SetValue → Type 0
  FreshSets done sets = Each (λ (s : SetValue). list_any (λ (x : SetSaid). bytes_eq s.name x.name) done ≡ false) sets

  fresh_push : (done : List SetSaid) (new : SetSaid) (sets : List SetValue) → FreshSets done sets → Each (λ (s : SetValue). bytes_eq new.name s.name ≡ false) sets → FreshSets (done ++ new ∷ []) sets
  fresh_push done new [] h k = tt
  fresh_push done new (s ∷ sets) h k = (list_any-append (λ (x : SetSaid). bytes_eq s.name x.name) done (new ∷ []) ∙ or_from _ _ h.0 (or_from _ _ (other_way new.name s.name k.0) refl), fresh_push done new sets h.1 k.1)

  sets_run : (sets : List SetValue) (done : List SetSaid) → Each (IsSet d) sets → FreshSets done sets → Apart (λ (s : SetValue). s.name) sets → length done + length sets ≤ 256
      → Runs (at done) (flat_map (λ told. told) (flat_map (set_told d.columns) sets)) (at (done ++ map set_known sets))
  sets_run [] done is fresh apart few = subst (λ (x : List SetSaid). Runs (at done) [] (at x)) (sym (append-nil done)) (run_none (at done))
  sets_run (s ∷ sets) done is fresh apart few =
      let new = set_known s in
      let more = flat_map (λ told. told) (flat_map (set_told d.columns) sets) in
      let head = head_run done s.name s.kind fresh.0 (omega (arith, few)) in
      let members = members_run s.members done s.name s.kind [] (can_join s.members [] (Each-from (IsMember d) s.members is.0.members) (none_in s.members) (differ_from s.members is.0.columns)) in
      let here : Runs (at done) (flat_map (λ told. told) (set_told d.columns s)) (at (done ++ new ∷ [])) =
      run_both (at done) (at (done ++ set_as s.name s.kind [] ∷ [])) (at (done ++ new ∷ [])) (Set s.kind s.name None ∷ []) (flat_map (λ told. told) (map (member_told d.columns) s.members)) head members in
      let rest = sets_run sets (done ++ new ∷ []) is.1 (fresh_push done new sets fresh.1 apart.0) apart.1 (omega (arith, few, length-append done (new ∷ []))) in
      let end = subst (λ (x : List SetSaid). Runs (at (done ++ new ∷ [])) more (at x)) (append_assoc done (new ∷ []) (map set_known sets)) rest in
      subst (λ (x : List Statement). Runs (at done) x (at (done ++ map set_known (s ∷ sets)))) (sym (flat_map-append (λ told. told) (set_told d.columns s) (flat_map (set_told d.columns) sets)))
      (run_both (at done) (at (done ++ new ∷ [])) (at (done ++ map set_known (s ∷ sets))) (flat_map (λ told. told) (set_told d.columns s)) more here end)

  none_yet : (sets : List SetValue) → FreshSets [] sets
  none_yet [] = tt
  none_yet (s ∷ sets) = (refl, none_yet sets)

pub sets-run-law : (d : DeckValue) → IsDeck d → Runs (behind_bounds d) (flat_map (λ told. told) (sets_told d)) (behind_sets d)
sets-run-law d deck = sets_run d deck d.sets [] (Each-from (IsSet d) d.sets deck.sets) (none_yet d deck d.sets) (Apart-from (λ (s : SetValue). s.name) d.sets deck.set_names) (omega (arith, deck.set_count))
