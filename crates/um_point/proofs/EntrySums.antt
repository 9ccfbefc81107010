-- What the entries of a deck give to the sums of its rows.
use Rattle.std.proofs.Common.{◌≡◌, ◌≢◌, ℕ, ◌+◌, ◌^◌, ◌<◌, ◌≤◌, ℤ, pos, ◌+ℤ◌, ◌*ℤ◌, List, length, map, get_or, take, refl, sym, ap, subst, arith, unsigned_abs}
use Rattle.std.specs.Prelude.{◌==◌, if◌then◌else◌, All}
use Rattle.std.proofs.lemmas.Bool.{eq-eqb, ne_eqb}
use Rattle.std.proofs.lemmas.Int.{ints}
use Rattle.std.proofs.lemmas.List.{take_all}
use Rattle.um_laws.specs.Sums.{sum_of, dot}
use Rattle.um_laws.proofs.Polynomials.{term, ◌⊕◌, ◌⊗◌, same}
use Rattle.um_laws.proofs.SumLaws.{sum_of_more}
use Rattle.um_laws.proofs.WholeLaws.{*ℤ-+ℤ, *ℤ_comm}
use Rattle.um_model.specs.Values.{ColumnValue, plain_column}
use Rattle.um_model.specs.WellFormed.{IsWithin}
use Rattle.um_model.specs.Feasible.{coefficient, part}
use Rattle.um_model.specs.declared.deck.Column.{Column}
use Rattle.um_model.specs.declared.deck.Entry.{Entry}
use Rattle.um_deck.proofs.BoundedSums.{abs_product, dot_more}
use Rattle.um_deck.proofs.ListParts.{All-of_map}
use Rattle.um_point.specs.RowSums.{HaveGrown}
use Rattle.um_point.specs.SmallPoints.{FitsIn36Bits, IsSmallColumn}
use Rattle.um_point.proofs.RowSteps.{sum_size, dot_size, chosen_size, grown_size}

-- ---- entries

-- what an entry gives to a row
abbrev pub entry_in : ℕ → Entry → ℤ
entry_in row e = if e.row == row then e.value else pos 0

entry_same : (e : Entry) → entry_in e.row e ≡ e.value
entry_same e = rw (eq-eqb e.row e.row refl) refl

entry_other : (row : ℕ) (e : Entry) → row ≢ e.row → entry_in row e ≡ pos 0
entry_other row e h = rw (ne_eqb e.row row (λ s. h (sym s))) refl

times_sum : (a b f : ℤ) → (a +ℤ b) *ℤ f ≡ a *ℤ f +ℤ b *ℤ f
times_sum a b f = omega (arith, ints, *ℤ-+ℤ f a b, *ℤ_comm f (a +ℤ b), *ℤ_comm f a, *ℤ_comm f b)

-- an entry more gives its value times the factor to its row, and nothing to the others
module _ (es : List Entry) (factor : ℤ) (i : ℕ) (d : Entry) (inside : i < length es) where
  pub entry_here : sum_of (entry_in (get_or es i d).row) (take (i + 1) es) *ℤ factor ≡ sum_of (entry_in (get_or es i d).row) (take i es) *ℤ factor +ℤ (get_or es i d).value *ℤ factor
  entry_here =
      let more = sum_of_more (entry_in (get_or es i d).row) es i d inside in
      rw (more, entry_same (get_or es i d)) (times_sum (sum_of (entry_in (get_or es i d).row) (take i es)) (get_or es i d).value factor)

  pub entry_there : (row : ℕ) → row ≢ (get_or es i d).row → sum_of (entry_in row) (take (i + 1) es) *ℤ factor ≡ sum_of (entry_in row) (take i es) *ℤ factor
  entry_there row other =
      let more = sum_of_more (entry_in row) es i d inside in
      rw (more, entry_other row (get_or es i d) other) (omega (arith, ints, times_sum (sum_of (entry_in row) (take i es)) (pos 0) factor))

-- the size of what the first entries give
pub entries_size : (row : ℕ) (es : List Entry) (n : ℕ) → n ≤ length es → length es ≤ 512 → All (λ (e : Entry). IsWithin (2 ^ 31) e.value) es → unsigned_abs (sum_of (entry_in row) (take n es)) ≤ 2 ^ 40
entries_size row es n l few h =
    let size = sum_size (entry_in row) es n (2 ^ 31) l (λ k d within. chosen_size ((get_or es k d).row == row) (get_or es k d).value (2 ^ 31) (h k d within)) in
    omega (arith, size, l, few)

-- a row's sum among the first entries is well inside the range
pub entry_room : (es : List Entry) (factor : ℤ) (n : ℕ) (d : Entry) (before now : List ℤ) → n < length es → length es ≤ 512 → All (λ (e : Entry). IsWithin (2 ^ 31) e.value) es → unsigned_abs factor ≤ 2 ^ 72
    → (get_or es n d).row < length before → All (IsWithin (2 ^ 124)) before → HaveGrown (λ row. sum_of (entry_in row) (take n es) *ℤ factor) before now → unsigned_abs (part now (get_or es n d).row) < 2 ^ 126
entry_room es factor n d before now l few h f inside sizes grown =
    let row : ℕ = (get_or es n d).row in
    let term = abs_product (sum_of (entry_in row) (take n es)) factor (2 ^ 40) (2 ^ 72) (entries_size row es n (omega arith) few h) f in
    grown_size (λ r. sum_of (entry_in r) (take n es) *ℤ factor) before now row inside grown sizes (omega (arith, term))

-- ---- columns

pub coefficient_size : (row : ℕ) (c : ColumnValue) → IsSmallColumn c → unsigned_abs (coefficient row c) ≤ 2 ^ 40
coefficient_size row c h =
    let all : take (length c.entries) c.entries ≡ c.entries = take_all (length c.entries) c.entries (omega arith) in
    subst (λ (es : List Entry). unsigned_abs (sum_of (entry_in row) es) ≤ 2 ^ 40) all (entries_size row c.entries (length c.entries) (omega arith) h.few h.entries)

-- what the first columns give to a row
abbrev pub columns_give : List Column → List ℤ → ℤ → ℕ → ℕ → ℤ
columns_give columns parts den n row = den *ℤ dot (λ (c : Column). coefficient row (plain_column c)) (take n columns) parts

pub columns_size : (columns : List Column) (parts : List ℤ) (den : ℤ) (n row : ℕ) → n ≤ length columns → length columns ≤ 4096 → All IsSmallColumn (map plain_column columns) → All FitsIn36Bits parts → FitsIn36Bits den
    → unsigned_abs (columns_give columns parts den n row) ≤ 2 ^ 124
columns_size columns parts den n row l few small parts_small den_small =
    let each = All-of_map IsSmallColumn plain_column columns small in
    let sum =
    dot_size (λ (c : Column). coefficient row (plain_column c)) columns parts n (2 ^ 40) (2 ^ 36) l (λ k d within. coefficient_size row (plain_column (get_or columns k d)) (each k d within))
    (λ k d within. let below : FitsIn36Bits (get_or parts k d) = parts_small k d within in omega arith) in
    abs_product den (dot (λ (c : Column). coefficient row (plain_column c)) (take n columns) parts) (2 ^ 36) (2 ^ 88) (omega arith) (omega (arith, sum, l, few))

scaled_more : (den a c p : ℤ) → den *ℤ (a +ℤ c *ℤ p) ≡ den *ℤ a +ℤ c *ℤ (den *ℤ p)
scaled_more den a c p = same (term den ⊗ (term a ⊕ term c ⊗ term p)) (term den ⊗ term a ⊕ term c ⊗ (term den ⊗ term p)) (omega arith)

-- a column more gives its coefficient times its part and the denominator
pub column_more : (columns : List Column) (parts : List ℤ) (den : ℤ) (n row : ℕ) (x : Column) (factor : ℤ) → n < length columns → n < length parts → x ≡ get_or columns n x → factor ≡ den *ℤ part parts n
    → columns_give columns parts den (n + 1) row ≡ columns_give columns parts den n row +ℤ coefficient row (plain_column x) *ℤ factor
column_more columns parts den n row x factor l k is e =
    let sum : List Column → ℤ = λ cs. dot (λ (c : Column). coefficient row (plain_column c)) cs parts in
    let more = dot_more (λ (c : Column). coefficient row (plain_column c)) columns parts n x (pos 0) l k in
    let here : coefficient row (plain_column x) ≡ coefficient row (plain_column (get_or columns n x)) = ap (λ (c : Column). coefficient row (plain_column c)) is in
    rw (more, here, e) (scaled_more den (sum (take n columns)) (coefficient row (plain_column (get_or columns n x))) (part parts n))
