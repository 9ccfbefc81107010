-- The numbers of rows, one entry or arc more.
use Rattle.std.proofs.Common.{◌≡◌, ◌≢◌, ℕ, ◌+◌, ◌<◌, Bool, true, false, nat_eq, cond, List, [], ◌∷◌, ◌++◌, length, get_or, set, take, find, filter_map, option_map, Option, None, Some, All, AllPairs, refl, sym, ap, ◌∙◌, subst, arith, pos, length-set, append_assoc, if◌then◌else◌}
use Rattle.std.proofs.lemmas.List.{get_or-set_same, get_or-set_other, get_or-take, get_or_default, append-nil, length-take, length_push}
use Rattle.std.proofs.lemmas.List.Elements.{All-nil, All-head, All-tail, All-push}
use Rattle.um_num.specs.declared.decimal.Decimal.{Decimal}
use Rattle.um_statements.specs.declared.parts.EntryPart.{EntryPart}
use Rattle.um_statements.specs.declared.parts.ArcPart.{ArcPart}
use Rattle.um_statements.specs.Said.{ColumnSaid}
use Rattle.um_statements.specs.CallRules.{option_list}
use Rattle.um_statements.specs.Made.{entry_in}
use Rattle.um_statements.proofs.Tests.{same_number, other_number}
use Rattle.um_made.specs.declared.numbers.RowNumbers.{RowNumbers}
use Rattle.um_made.specs.ColumnWords.{entry_at, AreSlots}
use Rattle.um_made.specs.NumberSteps.{AreEmpty, PutsEntries, PutsColumns, PutsArcs, arc_at}
use Rattle.um_made.proofs.Walks.{given_push}

-- what stands in for an item past the end of a list
abbrev pub no_number : Decimal
no_number = record { digits = pos 0; power = pos 0 }

abbrev pub no_entry : EntryPart
no_entry = record { row = 0; value = no_number }

abbrev pub no_arc : ArcPart
no_arc = record { row = 0; column = 0; value = no_number }

-- ---- entries

same_test : (n : ℕ) → nat_eq n n ≡ true
same_test n = by (nat_eq n n) refl
  where
    by : (b : Bool) → nat_eq n n ≡ b → b ≡ true
    by true is = refl
    by false is = absurd (other_number n n is refl)

other_test : (m n : ℕ) → m ≢ n → nat_eq m n ≡ false
other_test m n apart = by (nat_eq m n) refl
  where
    by : (b : Bool) → nat_eq m n ≡ b → b ≡ false
    by true is = absurd (apart (same_number m n is))
    by false is = refl

-- no entry stands in the row
pub none_found : (row : ℕ) (es : List EntryPart) → All (λ (e : EntryPart). e.row ≢ row) es → entry_at row es ≡ None
none_found row [] all = refl
none_found row (e ∷ es) all =
    rw (other_test e.row row (All-head (λ (x : EntryPart). x.row ≢ row) e es all)) (none_found row es (All-tail (λ (x : EntryPart). x.row ≢ row) e es all))

-- of distinct rows, that of an entry is not among those before it
pub entry_fresh : (es : List EntryPart) (i : ℕ) (d : EntryPart) → i < length es → AllPairs (λ (a : EntryPart) (b : EntryPart). a.row ≢ b.row) es → entry_at (get_or es i d).row (take i es) ≡ None
entry_fresh es i d within apart =
    none_found (get_or es i d).row (take i es)
    (λ k e inside.
    let before : k < i = omega (arith, inside, length-take {A = EntryPart}) in
    rw (get_or-take i es k e before) (subst (λ (x : EntryPart). (get_or es k e).row ≢ x.row) (get_or_default es i e d within) (apart k i e before within)))

pub entry_here : (row : ℕ) (es : List EntryPart) (e : EntryPart) → entry_at row es ≡ None → nat_eq e.row row ≡ true → entry_at row (es ++ e ∷ []) ≡ Some e.value
entry_here row [] e none is = rw is refl
entry_here row (x ∷ es) e none is = by (nat_eq x.row row) none (λ h. entry_here row es e h is)
  where
    by : (b : Bool) → option_map (λ (a : EntryPart). a.value) (cond b (Some x) (find (λ (a : EntryPart). nat_eq a.row row) es)) ≡ None
        → (entry_at row es ≡ None → entry_at row (es ++ e ∷ []) ≡ Some e.value)
        → option_map (λ (a : EntryPart). a.value) (cond b (Some x) (find (λ (a : EntryPart). nat_eq a.row row) (es ++ e ∷ []))) ≡ Some e.value
    by true none more = cc
    by false none more = more none

pub entry_other : (row : ℕ) (es : List EntryPart) (e : EntryPart) → nat_eq e.row row ≡ false → entry_at row (es ++ e ∷ []) ≡ entry_at row es
entry_other row [] e is = rw is refl
entry_other row (x ∷ es) e is = by (nat_eq x.row row) (entry_other row es e is)
  where
    by : (b : Bool) → entry_at row (es ++ e ∷ []) ≡ entry_at row es
        → option_map (λ (a : EntryPart). a.value) (cond b (Some x) (find (λ (a : EntryPart). nat_eq a.row row) (es ++ e ∷ []))) ≡ option_map (λ (a : EntryPart). a.value) (cond b (Some x) (find (λ (a : EntryPart). nat_eq a.row row) es))
    by true more = refl
    by false more = more

-- ---- one entry more

pub puts_none : (rows : List RowNumbers) → PutsEntries [] rows rows
puts_none rows = record { count_stays = refl; each = λ i d within. sym (append-nil (get_or rows i d).coefficients.items); arcs_stay = λ i d within. refl }

pub puts_entry : (es : List EntryPart) (e : EntryPart) (old now : List RowNumbers) (r : RowNumbers) → entry_at e.row es ≡ None → e.row < length old → PutsEntries es old now
    → ((d : RowNumbers) → r.coefficients.items ≡ (get_or now e.row d).coefficients.items ++ e.value ∷ []) → ((d : RowNumbers) → r.arcs.items ≡ (get_or now e.row d).arcs.items) → PutsEntries (es ++ e ∷ []) old (set now e.row r)
puts_entry es e old now r fresh within puts coefficients arcs = record {
  count_stays = length-set now e.row r ∙ puts.count_stays;
  each = λ i d inside. by i d inside (nat_eq e.row i) refl;
  arcs_stay = λ i d inside. arcs_by i d inside (nat_eq e.row i) refl;
}
  where
    by : (i : ℕ) (d : RowNumbers) → i < length old → (b : Bool) → nat_eq e.row i ≡ b
        → (get_or (set now e.row r) i d).coefficients.items ≡ (get_or old i d).coefficients.items ++ option_list (entry_at i (es ++ e ∷ []))
    by i d inside true is =
        let same : e.row ≡ i = same_number e.row i is in
        let inner : e.row < length now = rw puts.count_stays within in
        let here : (get_or (set now e.row r) e.row d).coefficients.items ≡ r.coefficients.items = ap (λ (x : RowNumbers). x.coefficients.items) (get_or-set_same now e.row r d inner) in
        let before : (get_or now e.row d).coefficients.items ≡ (get_or old e.row d).coefficients.items = puts.each e.row d within ∙ (ap (λ o. (get_or old e.row d).coefficients.items ++ option_list o) fresh ∙ append-nil (get_or old e.row d).coefficients.items) in
        let all : (get_or (set now e.row r) e.row d).coefficients.items ≡ (get_or old e.row d).coefficients.items ++ option_list (entry_at e.row (es ++ e ∷ []))
        = here ∙ (coefficients d ∙ (ap (λ (vs : List Decimal). vs ++ e.value ∷ []) before ∙ sym (ap (λ o. (get_or old e.row d).coefficients.items ++ option_list o) (entry_here e.row es e fresh (same_test e.row))))) in
        subst (λ k. (get_or (set now e.row r) k d).coefficients.items ≡ (get_or old k d).coefficients.items ++ option_list (entry_at k (es ++ e ∷ []))) same all
    by i d inside false is =
        let apart : i ≢ e.row = λ x. other_number e.row i is (sym x) in
        ap (λ (x : RowNumbers). x.coefficients.items) (get_or-set_other now e.row i r d apart) ∙ (puts.each i d inside ∙ sym (ap (λ o. (get_or old i d).coefficients.items ++ option_list o) (entry_other i es e is)))

    arcs_by : (i : ℕ) (d : RowNumbers) → i < length old → (b : Bool) → nat_eq e.row i ≡ b → (get_or (set now e.row r) i d).arcs.items ≡ (get_or old i d).arcs.items
    arcs_by i d inside true is =
        let same : e.row ≡ i = same_number e.row i is in
        let inner : e.row < length now = rw puts.count_stays within in
        subst (λ k. (get_or (set now e.row r) k d).arcs.items ≡ (get_or old k d).arcs.items) same
        (ap (λ (x : RowNumbers). x.arcs.items) (get_or-set_same now e.row r d inner) ∙ (arcs d ∙ puts.arcs_stay e.row d within))
    arcs_by i d inside false is =
        let apart : i ≢ e.row = λ x. other_number e.row i is (sym x) in
        ap (λ (x : RowNumbers). x.arcs.items) (get_or-set_other now e.row i r d apart) ∙ puts.arcs_stay i d inside

-- ---- one column more

pub puts_no_column : (count : ℕ) (rows : List RowNumbers) → AreEmpty count rows → PutsColumns count [] rows
puts_no_column count rows empty = record { count_is = empty.count_is; each = empty.no_coefficients; no_arcs = empty.no_arcs }

pub puts_column : (count : ℕ) (cs : List ColumnSaid) (c : ColumnSaid) (old new : List RowNumbers) → PutsColumns count cs old → PutsEntries c.entries old new → PutsColumns count (cs ++ c ∷ []) new
puts_column count cs c old new before puts = record {
  count_is = puts.count_stays ∙ before.count_is;
  each = λ i d within.
      let inside : i < length old = rw (← puts.count_stays) within in
      puts.each i d inside ∙ (ap (λ (vs : List Decimal). vs ++ option_list (entry_at i c.entries)) (before.each i d inside) ∙ sym (given_push (entry_in i) cs c));
  no_arcs = λ i d within.
      let inside : i < length old = rw (← puts.count_stays) within in
      puts.arcs_stay i d inside ∙ before.no_arcs i d inside;
}

-- ---- one arc more

pub puts_no_arc : (rows : List RowNumbers) → PutsArcs [] rows rows
puts_no_arc rows = record { count_stays = refl; each = λ i d within. sym (append-nil (get_or rows i d).arcs.items); coefficients_stay = λ i d within. refl }

pub puts_arc : (arcs : List ArcPart) (a : ArcPart) (old now : List RowNumbers) (r : RowNumbers) → a.row < length old → PutsArcs arcs old now
    → ((d : RowNumbers) → r.arcs.items ≡ (get_or now a.row d).arcs.items ++ a.value ∷ []) → ((d : RowNumbers) → r.coefficients.items ≡ (get_or now a.row d).coefficients.items) → PutsArcs (arcs ++ a ∷ []) old (set now a.row r)
puts_arc arcs a old now r within puts more coefficients = record {
  count_stays = length-set now a.row r ∙ puts.count_stays;
  each = λ i d inside. by i d inside (nat_eq a.row i) refl;
  coefficients_stay = λ i d inside. coefficients_by i d inside (nat_eq a.row i) refl;
}
  where
    given : (i : ℕ) (b : Bool) → nat_eq a.row i ≡ b → filter_map (arc_at i) (arcs ++ a ∷ []) ≡ filter_map (arc_at i) arcs ++ option_list (if b then Some a.value else None)
    given i b is = given_push (arc_at i) arcs a ∙ ap (λ c. filter_map (arc_at i) arcs ++ option_list (if c then Some a.value else None)) is

    by : (i : ℕ) (d : RowNumbers) → i < length old → (b : Bool) → nat_eq a.row i ≡ b
        → (get_or (set now a.row r) i d).arcs.items ≡ (get_or old i d).arcs.items ++ filter_map (arc_at i) (arcs ++ a ∷ [])
    by i d inside true is =
        let same : a.row ≡ i = same_number a.row i is in
        let inner : a.row < length now = rw puts.count_stays within in
        let here : (get_or (set now a.row r) a.row d).arcs.items ≡ r.arcs.items = ap (λ (x : RowNumbers). x.arcs.items) (get_or-set_same now a.row r d inner) in
        let all : (get_or (set now a.row r) a.row d).arcs.items ≡ (get_or old a.row d).arcs.items ++ filter_map (arc_at a.row) (arcs ++ a ∷ [])
        = here ∙ (more d ∙ (ap (λ (vs : List Decimal). vs ++ a.value ∷ []) (puts.each a.row d within) ∙ (append_assoc (get_or old a.row d).arcs.items (filter_map (arc_at a.row) arcs) (a.value ∷ []) ∙ sym (ap (λ (vs : List Decimal). (get_or old a.row d).arcs.items ++ vs) (given a.row true (same_test a.row)))))) in
        subst (λ k. (get_or (set now a.row r) k d).arcs.items ≡ (get_or old k d).arcs.items ++ filter_map (arc_at k) (arcs ++ a ∷ [])) same all
    by i d inside false is =
        let apart : i ≢ a.row = λ x. other_number a.row i is (sym x) in
        ap (λ (x : RowNumbers). x.arcs.items) (get_or-set_other now a.row i r d apart)
        ∙ (puts.each i d inside ∙ sym (ap (λ (vs : List Decimal). (get_or old i d).arcs.items ++ vs) (given i false is ∙ append-nil (filter_map (arc_at i) arcs))))

    coefficients_by : (i : ℕ) (d : RowNumbers) → i < length old → (b : Bool) → nat_eq a.row i ≡ b → (get_or (set now a.row r) i d).coefficients.items ≡ (get_or old i d).coefficients.items
    coefficients_by i d inside true is =
        let same : a.row ≡ i = same_number a.row i is in
        let inner : a.row < length now = rw puts.count_stays within in
        subst (λ k. (get_or (set now a.row r) k d).coefficients.items ≡ (get_or old k d).coefficients.items) same
        (ap (λ (x : RowNumbers). x.coefficients.items) (get_or-set_same now a.row r d inner) ∙ (coefficients d ∙ puts.coefficients_stay a.row d within))
    coefficients_by i d inside false is =
        let apart : i ≢ a.row = λ x. other_number a.row i is (sym x) in
        ap (λ (x : RowNumbers). x.coefficients.items) (get_or-set_other now a.row i r d apart) ∙ puts.coefficients_stay i d inside

-- ---- slots

pub no_slots : (count : ℕ) (slots : List (Option Decimal)) → length slots ≡ count → ((i : ℕ) → i < count → get_or slots i None ≡ None) → AreSlots [] count slots
no_slots count slots count_is none = record { length_is = count_is; each = none }

pub one_slot : (es : List EntryPart) (e : EntryPart) (count : ℕ) (slots : List (Option Decimal)) → entry_at e.row es ≡ None → e.row < count → AreSlots es count slots → AreSlots (es ++ e ∷ []) count (set slots e.row (Some e.value))
one_slot es e count slots fresh within are = record {
  length_is = length-set slots e.row (Some e.value) ∙ are.length_is;
  each = λ i inside. by i inside (nat_eq e.row i) refl;
}
  where
    by : (i : ℕ) → i < count → (b : Bool) → nat_eq e.row i ≡ b → get_or (set slots e.row (Some e.value)) i None ≡ entry_at i (es ++ e ∷ [])
    by i inside true is =
        let same : e.row ≡ i = same_number e.row i is in
        subst (λ k. get_or (set slots e.row (Some e.value)) k None ≡ entry_at k (es ++ e ∷ [])) same
        (get_or-set_same slots e.row (Some e.value) None (rw are.length_is within) ∙ sym (entry_here e.row es e fresh (same_test e.row)))
    by i inside false is =
        let apart : i ≢ e.row = λ x. other_number e.row i is (sym x) in
        get_or-set_other slots e.row i (Some e.value) None apart ∙ (are.each i inside ∙ sym (entry_other i es e is))

-- ---- rows in which nothing stands

abbrev NoCoefficients : RowNumbers → Type 0
NoCoefficients r = r.coefficients.items ≡ []

abbrev NoArcs : RowNumbers → Type 0
NoArcs r = r.arcs.items ≡ []

pub empty_none : (rows : List RowNumbers) → rows ≡ [] → AreEmpty 0 rows
empty_none rows none = record {
  count_is = ap length none;
  no_coefficients = subst (All NoCoefficients) (sym none) (All-nil NoCoefficients);
  no_arcs = subst (All NoArcs) (sym none) (All-nil NoArcs);
}

pub empty_more : (n : ℕ) (rows more : List RowNumbers) (r : RowNumbers) → more ≡ rows ++ r ∷ [] → AreEmpty n rows → r.coefficients.items ≡ [] → r.arcs.items ≡ [] → AreEmpty (n + 1) more
empty_more n rows more r is empty coefficients arcs = record {
  count_is = ap length is ∙ (length_push rows r ∙ ap (λ m. m + 1) empty.count_is);
  no_coefficients = subst (All NoCoefficients) (sym is) (All-push NoCoefficients rows r empty.no_coefficients coefficients);
  no_arcs = subst (All NoArcs) (sym is) (All-push NoArcs rows r empty.no_arcs arcs);
}

-- all parts put together
pub numbers_are : (count : ℕ) (columns : List ColumnSaid) (arcs : List ArcPart) (old new : List RowNumbers) → PutsColumns count columns old → PutsArcs arcs old new
    → (length new ≡ count) × ((i : ℕ) (d : RowNumbers) → i < length new → (get_or new i d).coefficients.items ≡ filter_map (entry_in i) columns) × ((i : ℕ) (d : RowNumbers) → i < length new → (get_or new i d).arcs.items ≡ filter_map (arc_at i) arcs)
numbers_are count columns arcs old new before puts = (
  puts.count_stays ∙ before.count_is,
  λ i d within. let inside : i < length old = rw (← puts.count_stays) within in puts.coefficients_stay i d inside ∙ before.each i d inside,
  λ i d within. let inside : i < length old = rw (← puts.count_stays) within in puts.each i d inside ∙ ap (λ (vs : List Decimal). vs ++ filter_map (arc_at i) arcs) (before.no_arcs i d inside),
)
