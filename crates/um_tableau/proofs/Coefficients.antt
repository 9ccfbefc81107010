-- What terms by rising row have in a row.
use Rattle.std.proofs.Common.{◌≡◌, ◌≢◌, ℕ, zero, suc, ◌<◌, ℤ, pos, ◌+ℤ◌, List, [], ◌∷◌, length, map, slice_index_or, arith, sym, ◌∙◌, ap, subst, refl}
use Rattle.std.specs.Prelude.{All, AllPairs, if◌then◌else◌}
use Rattle.std.proofs.lemmas.Int.{ints}
use Rattle.std.proofs.lemmas.List.{get_or-map}
use Rattle.std.proofs.lemmas.List.Elements.{All-get_or}
use Rattle.um_num.specs.Listed.{Listed}
use Rattle.um_num.specs.Numbers.{IsInRange}
use Rattle.um_lp.specs.States.{coefficient, ColumnData, no_data}
use Rattle.um_lp.specs.Relaxations.{columns_of, AreTerms}
use Rattle.um_lp.specs.declared.relaxation.Term.{Term}
use Rattle.um_lp.proofs.Rows.{by_row}
use Rattle.um_tableau.specs.Frames.{items_of, cost_in, AreRisingTerms}
use Rattle.um_lines.specs.Lines.{AreInRange}
use Rattle.um_tableau.proofs.FrameLemmas.{length-same, column_at}

-- where no term is in the row there is 0
pub coefficient_none : (terms : List Term) (row : ℕ) → ((k : ℕ) (d : Term) → k < length terms → (slice_index_or terms k d).row ≢ row) → coefficient terms row ≡ pos 0
coefficient_none [] row h = refl
coefficient_none (t ∷ ts) row h =
    let rest : coefficient ts row ≡ pos 0 = coefficient_none ts row (λ k d l. h (suc k) d (omega arith)) in
    by_row (λ b. (if b then t.value else pos 0) +ℤ coefficient ts row ≡ pos 0) t.row row
    (λ e. absurd (h 0 t (omega arith) e))
    (λ d. ap (λ (z : ℤ). pos 0 +ℤ z) rest)

-- where one is, there is its value
pub coefficient_found : (terms : List Term) (row i : ℕ) (d : Term) → AllPairs (λ (a : Term) (b : Term). a.row < b.row) terms → i < length terms → (slice_index_or terms i d).row ≡ row → coefficient terms row ≡ (slice_index_or terms i d).value
coefficient_found [] row i d rise l e = absurd (omega arith)
coefficient_found (t ∷ ts) row zero d rise l e =
    let rest : coefficient ts row ≡ pos 0 = coefficient_none ts row (λ k f m q. let up : t.row < (slice_index_or ts k f).row = rise 0 (suc k) f (omega arith) (omega arith) in omega arith) in
    by_row (λ b. (if b then t.value else pos 0) +ℤ coefficient ts row ≡ t.value) t.row row
    (λ s. ap (λ (z : ℤ). t.value +ℤ z) rest ∙ (omega (arith, ints)))
    (λ n. absurd (n e))
coefficient_found (t ∷ ts) row (suc i) d rise l e =
    let up : t.row < (slice_index_or ts i d).row = rise 0 (suc i) d (omega arith) l in
    let rest : coefficient ts row ≡ (slice_index_or ts i d).value = coefficient_found ts row i d (λ a b f m n. rise (suc a) (suc b) f (omega arith) (omega arith)) (omega arith) e in
    by_row (λ b. (if b then t.value else pos 0) +ℤ coefficient ts row ≡ (slice_index_or ts i d).value) t.row row
    (λ s. absurd (omega arith))
    (λ n. ap (λ (z : ℤ). pos 0 +ℤ z) rest ∙ (omega (arith, ints)))

-- the costs of the columns
pub costs_of : (costs : List ℤ) (terms : List (Listed Term)) → length terms ≡ length costs → map cost_in (columns_of costs terms) ≡ costs
costs_of [] terms e = refl
costs_of (c ∷ cs) [] e = absurd (omega arith)
costs_of (c ∷ cs) (t ∷ ts) e = ap (λ (rest : List ℤ). c ∷ rest) (costs_of cs ts (omega arith))

-- numbers in range, place by place
pub in_range_at : (nums : List ℤ) → All IsInRange nums → AreInRange nums
in_range_at nums h j l = All-get_or IsInRange nums j (pos 0) l h

-- the terms of a relaxation rise, and so do copies
pub rising_terms : (rows : ℕ) (xs ys : List (Listed Term)) → map items_of xs ≡ map items_of ys → All (λ (l : Listed Term). AreTerms rows l.items) ys → All (λ (l : Listed Term). AreRisingTerms l.items) xs
rising_terms rows xs ys e h k d l =
    let long : length xs ≡ length ys = length-same xs ys e in
    let same : (slice_index_or xs k d).items ≡ (slice_index_or ys k d).items =
    sym (get_or-map items_of xs k d [] l) ∙ ap (λ (lists : List (List Term)). slice_index_or lists k []) e ∙ get_or-map items_of ys k d [] (omega arith) in
    let there : AreTerms rows (slice_index_or ys k d).items = h k d (omega arith) in
    subst (λ (terms : List Term). AreRisingTerms terms) (sym same) (record { rise = there.rise; range = there.range })

-- what a column has in a row, by the terms of its list
pub coefficient_at : (costs : List ℤ) (terms : List (Listed Term)) (columns : List ColumnData) (j : ℕ) (v : Listed Term) (row : ℕ) → columns_of costs terms ≡ columns → length terms ≡ length costs → j < length costs → v ≡ slice_index_or terms j v
    → coefficient (slice_index_or columns j no_data).terms row ≡ coefficient v.items row
coefficient_at costs terms columns j v row e same l read =
    ap (λ (cs : List ColumnData). coefficient (slice_index_or cs j no_data).terms row) (sym e)
    ∙ ap (λ (column : ColumnData). coefficient column.terms row) (column_at costs terms j v same l)
    ∙ ap (λ (x : Listed Term). coefficient x.items row) (sym read)
