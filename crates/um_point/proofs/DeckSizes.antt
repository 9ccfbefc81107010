-- How small the parts of a well-formed deck are.
use Rattle.std.proofs.Common.{[], ◌∷◌, ◌≡◌, ℕ, zero, suc, ◌^◌, ◌<◌, ◌≤◌, ℤ, List, length, map, get_or, sym, subst, arith}
use Rattle.std.specs.Prelude.{All, AllPairs, Option}
use Rattle.std.specs.Option.{ForSome}
use Rattle.um_model.specs.Values.{DeckValue, ColumnValue, plain_column, plain_set}
use Rattle.um_model.specs.WellFormed.{IsEntry, IsColumn, IsRow, IsSet, IsWithin}
use Rattle.um_model.specs.declared.deck.Entry.{Entry}
use Rattle.um_model.specs.declared.deck.OrderedSet.{OrderedSet}
use Rattle.um_model.specs.declared.deck.Row.{Row}
use Rattle.um_model.specs.declared.deck.Column.{Column}
use Rattle.um_deck.specs.Decks.{IsDeckNow}
use Rattle.um_point.specs.SmallPoints.{IsSmallColumn}
use Rattle.um_point.proofs.PlaceLemmas.{image_is, item_is}

row_from : (es : List Entry) → AllPairs (λ (a : Entry) (b : Entry). a.row < b.row) es → (k : ℕ) (d : Entry) → k < length es → k ≤ (get_or es k d).row
row_from es rise zero d l = omega arith
row_from es rise (suc k) d l = omega (arith, row_from es rise k d (omega arith), rise k (suc k) d (omega arith) l)

-- entries in rising rows are no more than there are rows
pub few_entries : (rows : ℕ) (es : List Entry) → AllPairs (λ (a : Entry) (b : Entry). a.row < b.row) es → All (IsEntry rows) es → length es ≤ rows
few_entries rows [] rise each = omega arith
few_entries rows (e ∷ es) rise each = omega (arith, row_from (e ∷ es) rise (length es) e (omega arith), (each (length es) e (omega arith)).row)

small_column : (rows : ℕ) (c : ColumnValue) → rows ≤ 512 → IsColumn rows c → IsSmallColumn c
small_column rows c few h = record {
  few = omega (arith, few_entries rows c.entries h.rise h.entries, few);
  rows = λ k d l. omega (arith, (h.entries k d l).row, few);
  entries = λ k d l. (h.entries k d l).size;
  cost = h.cost;
}

-- the columns of a deck are small
pub small_columns : (d : DeckValue) (cs : List Column) → IsDeckNow d → map plain_column cs ≡ d.columns → All IsSmallColumn (map plain_column cs)
small_columns d cs h e =
    subst (All IsSmallColumn) (sym e) (λ k c l. small_column (length d.rows) (get_or d.columns k c) h.formed.row_count (h.formed.columns k c l))

-- the column at a place, and the row
pub column_at : (d : DeckValue) (cs : List Column) (i : ℕ) (x : Column) → IsDeckNow d → map plain_column cs ≡ d.columns → i < length d.columns → x ≡ get_or cs i x → IsColumn (length d.rows) (plain_column x)
column_at d cs i x h same l e =
    subst (IsColumn (length d.rows)) (sym (image_is plain_column cs d.columns i x same l e)) (h.formed.columns i (plain_column x) l)

pub row_at : (d : DeckValue) (rs : List Row) (i : ℕ) (x : Row) → IsDeckNow d → rs ≡ d.rows → i < length d.rows → x ≡ get_or rs i x → IsRow x
row_at d rs i x h same l e = subst IsRow (sym (item_is rs d.rows i x same e)) (h.formed.rows i x l)

-- an end of a column is well below a side of a row
pub end_within : (o : Option ℤ) → ForSome o (IsWithin (10 ^ 10)) → ForSome o (IsWithin (2 ^ 53))
end_within o h x e = omega (arith, h x e)

pub set_at : (d : DeckValue) (ss : List OrderedSet) (i : ℕ) (x : OrderedSet) → IsDeckNow d → map plain_set ss ≡ d.sets → i < length d.sets → x ≡ get_or ss i x → IsSet d (plain_set x)
set_at d ss i x h same l e = subst (IsSet d) (sym (image_is plain_set ss d.sets i x same l e)) (h.formed.sets i (plain_set x) l)
