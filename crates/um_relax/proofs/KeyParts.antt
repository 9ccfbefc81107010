-- From the entries of a deck's columns to its key rows.
use Rattle.std.proofs.Common.{◌≡◌, ◌≢◌, ℕ, ◌+◌, ◌<◌, List, length, map, get_or, refl, sym, subst, ◌∙◌, below_more, true, false}
use Rattle.std.specs.Prelude.{ℤ, All, Contains, IsTrue, ◌↔◌}
use Rattle.std.proofs.lemmas.Bool.{false≢true}
use Rattle.std.proofs.lemmas.List.{get_or_default}
use Rattle.std.proofs.lemmas.List.Elements.{All-map, All-weaker, All-contains, All-contains_itself}
use Rattle.um_deck.proofs.ListParts.{All-of_map}
use Rattle.um_model.specs.Values.{ColumnValue, plain_column}
use Rattle.um_model.specs.declared.deck.Column.{Column}
use Rattle.um_model.specs.declared.deck.Entry.{Entry}
use Rattle.um_relax.specs.KeyRows.{HasCoefficient, HasEqualCoefficients, IsFreeOf}
use Rattle.um_relax.specs.KeyTests.{Lacks, HasOnly, IsApart, IsApartIn, IsCoefficient}

-- a test that says no
pub refused : {A : Type 0} → ¬ A → IsTrue false ↔ A
refused n = (λ h. absurd (false≢true h), λ a. absurd (n a))

-- the opposite of a test that says no
pub is_not : {A : Type 0} → (IsTrue false ↔ A) → ¬ A
is_not t a = false≢true (t.1 a)

module _ {X : Type 0} (P : X → Type 0) (xs : List X) (i : ℕ) (x : X) where
  -- one item more
  pub more_at : i < length xs → P (get_or xs i x) → ((k : ℕ) (d : X) → k < i → P (get_or xs k d)) → (k : ℕ) (d : X) → k < i + 1 → P (get_or xs k d)
  more_at l h before k d q = below_more (λ (n : ℕ). (c : X) → P (get_or xs n c)) i (λ n r c. before n c r) (λ c. subst P (get_or_default xs i x c l) h) k q d

  -- one item fails
  pub not_at : i < length xs → ¬ P (get_or xs i x) → ¬ All P xs
  not_at l broken all = broken (all i x l)

module _ (P : List Entry → Type 0) (columns : List Column) (i : ℕ) (x : Column) (entries : List Entry) where
  read : x ≡ get_or columns i x → entries ≡ x.entries.items → P entries → P (get_or columns i x).entries.items
  read e f h = subst (λ (c : Column). P c.entries.items) e (subst P f h)

  back : x ≡ get_or columns i x → entries ≡ x.entries.items → P (get_or columns i x).entries.items → P entries
  back e f h = subst P (sym f) (subst (λ (c : Column). P c.entries.items) (sym e) h)

  -- one column more passes
  pub column_more : i < length columns → x ≡ get_or columns i x → entries ≡ x.entries.items → (IsTrue true ↔ P entries) → ((k : ℕ) (d : Column) → k < i → P (get_or columns k d).entries.items)
      → (k : ℕ) (d : Column) → k < i + 1 → P (get_or columns k d).entries.items
  column_more l e f t = more_at (λ (c : Column). P c.entries.items) columns i x l (read e f (t.0 refl))

  -- a column fails
  pub column_fails : i < length columns → x ≡ get_or columns i x → entries ≡ x.entries.items → (IsTrue false ↔ P entries) → ¬ All (λ (c : Column). P c.entries.items) columns
  column_fails l e f t = not_at (λ (c : Column). P c.entries.items) columns i x l (λ h. is_not t (back e f h))

-- ---- free rows
free_in : (columns : List ColumnValue) (keys : List ℕ) (row : ℕ) → All (λ (c : ColumnValue). IsApartIn keys row c.entries) columns → IsFreeOf columns keys row
free_in columns keys row all c value listed h taken =
    let apart : IsApart keys c.entries = All-contains (λ (v : ColumnValue). IsApartIn keys row v.entries) columns c all listed value h in
    All-contains (λ (e : Entry). ¬ Contains keys e.row) c.entries (record { row = taken.key; value = taken.value }) apart taken.entry taken.listed

apart_in : (columns : List ColumnValue) (keys : List ℕ) (row : ℕ) → IsFreeOf columns keys row → All (λ (c : ColumnValue). IsApartIn keys row c.entries) columns
apart_in columns keys row free =
    All-weaker (Contains columns) (λ (c : ColumnValue). IsApartIn keys row c.entries)
    (λ c listed value h.
    All-weaker (Contains c.entries) (λ (e : Entry). ¬ Contains keys e.row) (λ e inside key. free c value listed h (record { key = e.row; value = e.value; listed = key; entry = inside })) c.entries (All-contains_itself c.entries))
    columns (All-contains_itself columns)

-- where each column that stands in the row is apart from the keys, the row is free, and the other way round
pub free_from_apart : (columns : List Column) (keys : List ℕ) (row : ℕ) → All (λ (c : Column). IsApartIn keys row c.entries.items) columns → IsFreeOf (map plain_column columns) keys row
free_from_apart columns keys row all = free_in (map plain_column columns) keys row (All-map (λ (c : ColumnValue). IsApartIn keys row c.entries) plain_column columns all)

pub apart_from_free : (columns : List Column) (keys : List ℕ) (row : ℕ) → IsFreeOf (map plain_column columns) keys row → All (λ (c : Column). IsApartIn keys row c.entries.items) columns
apart_from_free columns keys row free = All-of_map (λ (c : ColumnValue). IsApartIn keys row c.entries) plain_column columns (apart_in (map plain_column columns) keys row free)

-- ---- equal coefficients
-- a row in which no column stands has equal coefficients
pub equal_from_none : (columns : List Column) (row : ℕ) → All (λ (c : Column). Lacks row c.entries.items) columns → HasEqualCoefficients (map plain_column columns) row
equal_from_none columns row all a b x y in_a in_b h k =
    let lacks : Lacks row a.entries = All-contains (λ (c : ColumnValue). Lacks row c.entries) (map plain_column columns) a (All-map (λ (c : ColumnValue). Lacks row c.entries) plain_column columns all) in_a in
    absurd (All-contains (λ (e : Entry). e.row ≢ row) a.entries (record { row = row; value = x }) lacks h refl)

-- coefficients that are all this one are equal
pub equal_from_only : (columns : List Column) (row : ℕ) (value : ℤ) → All (λ (c : Column). HasOnly row value c.entries.items) columns → HasEqualCoefficients (map plain_column columns) row
equal_from_only columns row value all a b x y in_a in_b h k =
    let each = All-map (λ (c : ColumnValue). HasOnly row value c.entries) plain_column columns all in
    let only : (c : ColumnValue) (z : ℤ) → Contains (map plain_column columns) c → HasCoefficient c.entries row z → z ≡ value =
    λ c z inside g.
    All-contains (λ (e : Entry). e.row ≡ row → e.value ≡ value) c.entries (record { row = row; value = z }) (All-contains (λ (v : ColumnValue). HasOnly row value v.entries) (map plain_column columns) c each inside) g refl in
    only a x in_a h ∙ sym (only b y in_b k)

image_listed : (columns : List Column) (c : Column) → Contains columns c → Contains (map plain_column columns) (plain_column c)
image_listed columns c inside =
    All-contains (λ (x : Column). Contains (map plain_column columns) (plain_column x)) columns c
    (All-of_map (Contains (map plain_column columns)) plain_column columns (All-contains_itself (map plain_column columns))) inside

-- equal coefficients are all the one that some column has
pub only_from_equal : (columns : List Column) (row : ℕ) (value : ℤ) → IsCoefficient columns row value → HasEqualCoefficients (map plain_column columns) row → All (λ (c : Column). HasOnly row value c.entries.items) columns
only_from_equal columns row value some equal =
    All-of_map (λ (c : ColumnValue). HasOnly row value c.entries) plain_column columns
    (All-weaker (Contains (map plain_column columns)) (λ (c : ColumnValue). HasOnly row value c.entries)
    (λ c listed.
    All-weaker (Contains c.entries) (λ (e : Entry). e.row ≡ row → e.value ≡ value)
    (λ e inside same.
    equal c (plain_column some.column) e.value value listed (image_listed columns some.column some.listed) (subst (λ (r : ℕ). HasCoefficient c.entries r e.value) same inside) some.entry)
    c.entries (All-contains_itself c.entries))
    (map plain_column columns) (All-contains_itself (map plain_column columns)))
