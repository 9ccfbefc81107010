-- The key rows of a deck without arcs: equations with equal coefficients that share no column.
use Rattle.std.specs.Prelude.{◌≡◌, ℕ, zero, suc, ℤ, ◌<◌, ◌⊎◌, List, [], ◌∷◌, ◌++◌, length, Contains, Option, Some, slice_index_or}
use Rattle.um_model.specs.Values.{ColumnValue}
use Rattle.um_model.specs.declared.deck.Row.{Row}
use Rattle.um_model.specs.declared.deck.Entry.{Entry}

-- these entries of a column have this coefficient in the row
abbrev pub HasCoefficient : List Entry → ℕ → ℤ → Type 0
HasCoefficient entries row value = Contains entries (record { row = row; value = value })

-- both sides are there, and they are equal
pub record AreEqualSides (low high : Option ℤ) : Type 0 where
  pub side : ℤ
  pub low_is : low ≡ Some side
  pub high_is : high ≡ Some side

-- any two coefficients of the row are equal; so are those of a row without entries, for there are none
abbrev pub HasEqualCoefficients : List ColumnValue → ℕ → Type 0
HasEqualCoefficients columns row = (a b : ColumnValue) (x y : ℤ) → Contains columns a → Contains columns b → HasCoefficient a.entries row x → HasCoefficient b.entries row y → x ≡ y

-- a column of these entries has one in one of these rows
pub record IsTaken (keys : List ℕ) (entries : List Entry) : Type 0 where
  pub key : ℕ
  pub value : ℤ
  pub listed : Contains keys key
  pub entry : HasCoefficient entries key value

-- none of the row's columns is taken by these rows
abbrev pub IsFreeOf : List ColumnValue → List ℕ → ℕ → Type 0
IsFreeOf columns keys row = (c : ColumnValue) (value : ℤ) → Contains columns c → HasCoefficient c.entries row value → ¬ IsTaken keys c.entries

-- the row is an equation with equal coefficients, and none of its columns is taken by these earlier key rows
pub record IsKey (columns : List ColumnValue) (row_data : Row) (keys : List ℕ) (row : ℕ) : Type 0 where
  pub equation : AreEqualSides row_data.low row_data.high
  pub equal : HasEqualCoefficients columns row
  pub free : IsFreeOf columns keys row

-- the row is one of these, and a key row
pub record IsKeyAt (columns : List ColumnValue) (rows : List Row) (keys : List ℕ) (row : ℕ) : Type 0 where
  pub row_data : Row
  pub inside : row < length rows
  pub is : row_data ≡ slice_index_or rows row row_data
  pub key : IsKey columns row_data keys row

-- these keys are the earlier ones, followed by the row where it is a key row
pub record AreKeysWith (columns : List ColumnValue) (rows : List Row) (before : List ℕ → Type 0) (row : ℕ) (keys : List ℕ) : Type 0 where
  pub earlier : List ℕ
  pub are : before earlier
  pub next : (IsKeyAt columns rows earlier row × keys ≡ earlier ++ row ∷ []) ⊎ ((¬ IsKeyAt columns rows earlier row) × keys ≡ earlier)

-- the key rows among the first n rows, by rising index
abbrev pub AreKeyRows : List ColumnValue → List Row → ℕ → List ℕ → Type 0
AreKeyRows columns rows zero keys = keys ≡ []
AreKeyRows columns rows (suc n) keys = AreKeysWith columns rows (AreKeyRows columns rows n) n keys
