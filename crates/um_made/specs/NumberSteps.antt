-- How the numbers of rows are collected.
use Rattle.std.specs.Prelude.{◌≡◌, ℕ, ◌<◌, nat_eq, List, [], ◌++◌, length, slice_index_or, if◌then◌else◌, Option, Some, None}
use Rattle.std.specs.List.{filter_map}
use Rattle.um_num.specs.declared.decimal.Decimal.{Decimal}
use Rattle.um_statements.specs.declared.parts.EntryPart.{EntryPart}
use Rattle.um_statements.specs.declared.parts.ArcPart.{ArcPart}
use Rattle.um_statements.specs.Said.{ColumnSaid}
use Rattle.um_statements.specs.CallRules.{option_list}
use Rattle.um_statements.specs.Made.{entry_in}
use Rattle.um_made.specs.ColumnWords.{entry_at}
use Rattle.um_made.specs.declared.numbers.RowNumbers.{RowNumbers}

-- so many rows in which nothing stands
pub record AreEmpty (count : ℕ) (rows : List RowNumbers) : Type 0 where
  pub count_is : length rows ≡ count
  pub no_coefficients : (i : ℕ) (d : RowNumbers) → i < length rows → (slice_index_or rows i d).coefficients.items ≡ []
  pub no_arcs : (i : ℕ) (d : RowNumbers) → i < length rows → (slice_index_or rows i d).arcs.items ≡ []

-- the entries of one column were put behind what stands in their rows
pub record PutsEntries (entries : List EntryPart) (old new : List RowNumbers) : Type 0 where
  pub count_stays : length new ≡ length old
  pub each : (i : ℕ) (d : RowNumbers) → i < length old → (slice_index_or new i d).coefficients.items ≡ (slice_index_or old i d).coefficients.items ++ option_list (entry_at i entries)
  pub arcs_stay : (i : ℕ) (d : RowNumbers) → i < length old → (slice_index_or new i d).arcs.items ≡ (slice_index_or old i d).arcs.items

-- the entries of these columns stand in their rows, and nothing else
pub record PutsColumns (count : ℕ) (columns : List ColumnSaid) (rows : List RowNumbers) : Type 0 where
  pub count_is : length rows ≡ count
  pub each : (i : ℕ) (d : RowNumbers) → i < length rows → (slice_index_or rows i d).coefficients.items ≡ filter_map (entry_in i) columns
  pub no_arcs : (i : ℕ) (d : RowNumbers) → i < length rows → (slice_index_or rows i d).arcs.items ≡ []

-- the value of an arc in this row
abbrev pub arc_at : ℕ → ArcPart → Option Decimal
arc_at row a = if nat_eq a.row row then Some a.value else None

-- arcs were put behind those that stand in their rows
pub record PutsArcs (arcs : List ArcPart) (old new : List RowNumbers) : Type 0 where
  pub count_stays : length new ≡ length old
  pub each : (i : ℕ) (d : RowNumbers) → i < length old → (slice_index_or new i d).arcs.items ≡ (slice_index_or old i d).arcs.items ++ filter_map (arc_at i) arcs
  pub coefficients_stay : (i : ℕ) (d : RowNumbers) → i < length old → (slice_index_or new i d).coefficients.items ≡ (slice_index_or old i d).coefficients.items
