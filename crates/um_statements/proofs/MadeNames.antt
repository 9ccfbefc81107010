-- The names, the counts and the rows of the deck of what was said.
use Rattle.std.proofs.Common.{◌≡◌, ◌≢◌, ℕ, ◌≤◌, Bool, true, false, not, ◌∷◌, map, length, get_or, All, AllPairs, count_by, Some, refl, sym, subst, ◌∙◌, true≢false}
use Rattle.std.specs.List.{enumerate_from}
use Rattle.std.proofs.lemmas.List.{length-map}
use Rattle.std.proofs.lemmas.List.Elements.{All-map, filter_passes}
use Rattle.std.proofs.lemmas.List.Kept.{AllPairs-cons, AllPairs-filter}
use Rattle.std.proofs.lemmas.List.Sums.{length-filter}
use Rattle.um_model.specs.Values.{ColumnValue, SetValue}
use Rattle.um_model.specs.WellFormed.{IsRow}
use Rattle.um_model.specs.declared.deck.Row.{Row}
use Rattle.um_statements.specs.Statements.{Name}
use Rattle.um_statements.specs.Said.{Said, RowSaid, ColumnSaid, SetSaid}
use Rattle.um_statements.specs.CallRules.{is_n}
use Rattle.um_statements.specs.Made.{objective, sided_rows, row_made, column_made, set_made, deck_value}
use Rattle.um_statements.specs.WellSaid.{AreRows, IsSaid}
use Rattle.um_statements.proofs.ListFacts.{pairs_map, pairs_unmapped, pairs_numbered, count_numbered, found_apart}
use Rattle.um_statements.proofs.DeckFine.{IsFine}
use Rattle.um_statements.proofs.MadeRows.{made-row-law}

abbrev RowsApart : ℕ × RowSaid → ℕ × RowSaid → Type 0
RowsApart p q = p.1.name ≢ q.1.name

numbered_apart : (said : Said) → AreRows said.rows → AllPairs RowsApart (enumerate_from 0 said.rows)
numbered_apart said rows =
    pairs_numbered (λ (a : RowSaid) (b : RowSaid). a.name ≢ b.name) 0 said.rows (pairs_unmapped (λ (a : Name) (b : Name). a ≢ b) (λ (r : RowSaid). r.name) said.rows rows.names)

turned : (p q : ℕ × RowSaid) → RowsApart p q → RowsApart q p
turned p q apart same = apart (sym same)

objective_name_is : (said : Said) (p : ℕ × RowSaid) → objective said ≡ Some p → (deck_value said).objective_name ≡ p.1.name
unfolding deck_value
objective_name_is said p is = rw is refl

with_rows : (said : Said) (p : ℕ × RowSaid) → All (RowsApart p) (sided_rows said) → AllPairs RowsApart (sided_rows said) → AllPairs (λ (a : Name) (b : Name). a ≢ b) (p.1.name ∷ map (λ (r : Row). r.name) (deck_value said).rows)
unfolding deck_value
with_rows said p behind rest =
    AllPairs-cons (λ (a : Name) (b : Name). a ≢ b) p.1.name (map (λ (r : Row). r.name) (map (row_made said) (sided_rows said)))
    (All-map (λ (n : Name). p.1.name ≢ n) (λ (r : Row). r.name) (map (row_made said) (sided_rows said)) (All-map (λ (r : Row). p.1.name ≢ r.name) (row_made said) (sided_rows said) behind))
    (pairs_map (λ (a : Name) (b : Name). a ≢ b) (λ (r : Row). r.name) (map (row_made said) (sided_rows said)) (pairs_map (λ (a : Row) (b : Row). a.name ≢ b.name) (row_made said) (sided_rows said) rest))

pub made_row_names : (said : Said) → IsSaid said → IsFine said → AllPairs (λ (a : Name) (b : Name). a ≢ b) ((deck_value said).objective_name ∷ map (λ (r : Row). r.name) (deck_value said).rows)
made_row_names said is fine =
    let p : ℕ × RowSaid = fine.objective_row.0 in
    let all = numbered_apart said is.row_part in
    let behind : All (RowsApart p) (sided_rows said) = found_apart RowsApart turned (λ (q : ℕ × RowSaid). is_n q.1.kind) (enumerate_from 0 said.rows) p fine.objective_row.1 all in
    let rest : AllPairs RowsApart (sided_rows said) = AllPairs-filter RowsApart (λ (q : ℕ × RowSaid). not (is_n q.1.kind)) (enumerate_from 0 said.rows) all in
    subst (λ (n : Name). AllPairs (λ (a : Name) (b : Name). a ≢ b) (n ∷ map (λ (r : Row). r.name) (deck_value said).rows)) (sym (objective_name_is said p fine.objective_row.1))
    (with_rows said p behind rest)

pub made_column_names : (said : Said) → IsSaid said → AllPairs (λ (a : ColumnValue) (b : ColumnValue). a.name ≢ b.name) (deck_value said).columns
unfolding deck_value
made_column_names said is =
    pairs_map (λ (a : ColumnValue) (b : ColumnValue). a.name ≢ b.name) (column_made said) said.columns
    (pairs_unmapped (λ (a : Name) (b : Name). a ≢ b) (λ (c : ColumnSaid). c.name) said.columns is.column_part.names)

pub made_set_names : (said : Said) → IsSaid said → AllPairs (λ (a : SetValue) (b : SetValue). a.name ≢ b.name) (deck_value said).sets
unfolding deck_value
made_set_names said is =
    pairs_map (λ (a : SetValue) (b : SetValue). a.name ≢ b.name) (set_made said) said.sets
    (pairs_unmapped (λ (a : Name) (b : Name). a ≢ b) (λ (s : SetSaid). s.name) said.sets is.set_part.names)

-- ---- counts

pub made_row_count : (said : Said) → IsSaid said → length (deck_value said).rows ≤ 512
unfolding deck_value
made_row_count said is =
    let long : length (map (row_made said) (sided_rows said)) ≡ length (sided_rows said) = length-map (sided_rows said) (row_made said) in
    let sided : length (sided_rows said) ≡ count_by (λ (q : ℕ × RowSaid). not (is_n q.1.kind)) (enumerate_from 0 said.rows) = length-filter (λ (q : ℕ × RowSaid). not (is_n q.1.kind)) (enumerate_from 0 said.rows) in
    let count = count_numbered (λ (r : RowSaid). not (is_n r.kind)) 0 said.rows in
    subst (λ n. n ≤ 512) (sym (long ∙ sided ∙ count)) is.row_part.sided

pub made_column_count : (said : Said) → IsSaid said → length (deck_value said).columns ≤ 4096
unfolding deck_value
made_column_count said is = subst (λ n. n ≤ 4096) (sym (length-map said.columns (column_made said))) is.column_part.count

pub made_set_count : (said : Said) → IsSaid said → length (deck_value said).sets ≤ 256
unfolding deck_value
made_set_count said is = subst (λ n. n ≤ 256) (sym (length-map said.sets (set_made said))) is.set_part.count

-- ---- rows

turned_false : (b : Bool) → not b ≡ true → b ≡ false
turned_false true h = absurd (true≢false (sym h))
turned_false false h = refl

pub made_rows : (said : Said) → IsFine said → All IsRow (deck_value said).rows
unfolding deck_value
made_rows said fine =
    All-map IsRow (row_made said) (sided_rows said)
    (λ k d within. made-row-law said (get_or (sided_rows said) k d) (turned_false _ (filter_passes (λ (q : ℕ × RowSaid). not (is_n q.1.kind)) (enumerate_from 0 said.rows) k d within)) (fine.each_row k d within))
