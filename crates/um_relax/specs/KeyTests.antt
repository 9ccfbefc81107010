-- What the tests for key rows ask of the entries of a column.
use Rattle.std.specs.Prelude.{◌≡◌, ◌≢◌, ℕ, ℤ, All, List, Contains}
use Rattle.um_model.specs.declared.deck.Column.{Column}
use Rattle.um_model.specs.declared.deck.Entry.{Entry}
use Rattle.um_relax.specs.KeyRows.{HasCoefficient}

-- none of the entries is in the row
abbrev pub Lacks : ℕ → List Entry → Type 0
Lacks row entries = All (λ (e : Entry). e.row ≢ row) entries

-- each entry in the row has this value
abbrev pub HasOnly : ℕ → ℤ → List Entry → Type 0
HasOnly row value entries = All (λ (e : Entry). e.row ≡ row → e.value ≡ value) entries

-- none of the entries is in one of these rows
abbrev pub IsApart : List ℕ → List Entry → Type 0
IsApart keys entries = All (λ (e : Entry). ¬ Contains keys e.row) entries

-- where the column stands in the row, it stands in none of these rows
abbrev pub IsApartIn : List ℕ → ℕ → List Entry → Type 0
IsApartIn keys row entries = (value : ℤ) → HasCoefficient entries row value → IsApart keys entries

-- one of the columns has this coefficient in the row
pub record IsCoefficient (columns : List Column) (row : ℕ) (value : ℤ) : Type 0 where
  pub column : Column
  pub listed : Contains columns column
  pub entry : HasCoefficient column.entries.items row value
