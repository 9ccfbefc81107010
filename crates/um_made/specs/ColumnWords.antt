-- A column by itself: its rules and its parts, from what is known of it.
use Rattle.std.specs.Prelude.{◌≡◌, ℕ, ◌<◌, pos, ◌+ℤ◌, ◌≤ℤ◌, Bool, true, false, ◌&&◌, ◌||◌, is_none, nat_eq, List, [], ◌∷◌, length, slice_index_or, Option, Some, None, option_map, if◌then◌else◌}
use Rattle.std.specs.Option.{option_and_then}
use Rattle.std.specs.List.{Contains}
use Rattle.std.specs.List.{find}
use Rattle.um_num.specs.declared.decimal.Decimal.{Decimal}
use Rattle.um_model.specs.Values.{ColumnValue}
use Rattle.um_model.specs.declared.deck.Entry.{Entry}
use Rattle.um_model.specs.declared.limits.TheConstants.{MOST_ARC_END}
use Rattle.um_statements.specs.declared.fault.Fault.TheVariants.{TooLarge, SemiLower, CrossedBounds, NotFinite, LowerNotZero, ArcInSet}
use Rattle.um_statements.specs.declared.parts.Ends.{Ends}
use Rattle.um_statements.specs.declared.parts.EntryPart.{EntryPart}
use Rattle.um_statements.specs.Statements.{Name}
use Rattle.um_statements.specs.Said.{Said, ColumnSaid}
use Rattle.um_statements.specs.Scaled.{IsShortDecimal, times_ten, is_within_at}
use Rattle.um_statements.specs.CallRules.{Rule, is_zero}
use Rattle.um_statements.specs.Made.{low_end, high_end, threshold, column_made}
use Rattle.um_statements.specs.DeckRules.{is_above, is_below_zero_or_none, are_crossed}
use Rattle.um_made.specs.declared.columns.ColumnLeft.{ColumnLeft}
use Rattle.um_made.specs.declared.rows.SidedRow.{SidedRow}

-- what the first of these entries in a row says
abbrev pub entry_at : ℕ → List EntryPart → Option Decimal
entry_at row entries = option_map (λ (e : EntryPart). e.value) (find (λ (e : EntryPart). nat_eq e.row row) entries)

-- the rules of a column that is a member or not, and has a kept arc or not
abbrev pub rules_of_column : (member arc : Bool) → Ends → List Rule
rules_of_column member arc ends =
    (arc && (is_above MOST_ARC_END (low_end ends) || is_above MOST_ARC_END (high_end ends)), TooLarge)
    ∷ (ends.semi && is_below_zero_or_none (threshold ends), SemiLower)
    ∷ (are_crossed (low_end ends) (high_end ends) || (ends.semi && are_crossed (threshold ends) (high_end ends)), CrossedBounds)
    ∷ ((ends.integer || ends.semi || member || arc) && (is_none (low_end ends) || is_none (high_end ends)), NotFinite)
    ∷ (member && is_above 0 (low_end ends), LowerNotZero)
    ∷ (arc && (member || ends.semi), ArcInSet) ∷ []

-- a test of each place below a count
pub record AreMarks (test : ℕ → Bool) (count : ℕ) (marks : List Bool) : Type 0 where
  pub length_is : length marks ≡ count
  pub each : (j : ℕ) → j < count → slice_index_or marks j false ≡ test j

-- the column of this name
abbrev pub named_column : Name → ColumnLeft → ColumnValue
named_column name c = record { name = name; kind = c.kind; low = c.low; high = c.high; cost = c.cost; entries = c.entries.items }

-- the places of this test were marked, and all other marks stay
pub record Marked (test : ℕ → Bool) (old new : List Bool) : Type 0 where
  pub length_stays : length new ≡ length old
  pub each : (j : ℕ) → j < length old → slice_index_or new j false ≡ (slice_index_or old j false || test j)

-- what stands in each row of these entries
pub record AreSlots (entries : List EntryPart) (count : ℕ) (slots : List (Option Decimal)) : Type 0 where
  pub length_is : length slots ≡ count
  pub each : (i : ℕ) → i < count → slice_index_or slots i None ≡ entry_at i entries

-- a number that is whole at the scale, and then no more than this
pub record Fits (most scale : ℕ) (v : Decimal) : Type 0 where
  pub small : IsShortDecimal v
  pub whole : pos 0 ≤ℤ (v.power +ℤ pos scale)
  pub within : is_within_at most scale v ≡ true

-- a row of the deck by its number, and what stands in it, scaled; 0 is not kept
abbrev pub entry_of : List (Option Decimal) → ℕ × SidedRow → Option Entry
entry_of slots p = option_and_then (λ v. if is_zero v then None else Some (record { row = p.0; value = times_ten v p.1.scale })) (slice_index_or slots p.1.place None)

-- the column but for its name
pub record IsColumnLeft (said : Said) (c : ColumnSaid) (left : ColumnLeft) : Type 0 where
  pub kind_is : left.kind ≡ (column_made said c).kind
  pub low_is : left.low ≡ (column_made said c).low
  pub high_is : left.high ≡ (column_made said c).high
  pub cost_is : left.cost ≡ (column_made said c).cost
  pub entries_are : left.entries.items ≡ (column_made said c).entries

-- that of each column
abbrev pub AreColumnsLeft : Said → List ColumnSaid → List ColumnLeft → Type 0
AreColumnsLeft said [] [] = Unit {0}
AreColumnsLeft said (c ∷ cs) (x ∷ xs) = IsColumnLeft said c x × AreColumnsLeft said cs xs
AreColumnsLeft said cs xs = ⊥

-- this is a column of what was said
abbrev pub HasColumn : Said → ColumnSaid → Type 0
HasColumn said c = Contains said.columns c
