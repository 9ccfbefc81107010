-- A sheet whose numbers have been exchanged for those after a pivot.
use Rattle.std.proofs.Common.{◌≡◌, ℕ, ◌<◌, List, length, slice_set, arith, sym, ◌∙◌, ap, subst}
use Rattle.um_laws.specs.Rational.{Rational, add, mul}
use Rattle.um_lp.specs.Basis.{pivot_line, pivot_entry}
use Rattle.um_num.specs.NumberLists.{number_at}
use Rattle.um_lp.specs.declared.board.At.{At}
use Rattle.um_lp.specs.declared.board.At.TheVariants.{Basic}
use Rattle.um_tableau.specs.Rows.{entry_at, AreLong}
use Rattle.um_tableau.specs.Sheets.{IsSheet, IsPrepared, AreValuesAfter, IsPivoted, basic_at}
use Rattle.um_tableau.specs.declared.sheet.Sheet.{Sheet}
use Rattle.um_tableau.specs.declared.sheet.Spare.{Spare}

-- the parts of the sheet after a pivot, from the lists that were written
pub pivoted_is : (s t : Sheet) (row column : ℕ) (to : At) (end entered : Rational) (spare : Spare) (entries : List (List Rational)) (values : List Rational) → IsSheet s → IsPrepared s row column end entered spare
    → t.entries.items ≡ entries → t.values.items ≡ values → length entries ≡ length s.entries.items → length t.reduced ≡ length s.reduced → length values ≡ length s.values.items
    → AreLong (length s.reduced) entries
    → t.basic.items ≡ slice_set s.basic.items row column → t.at.items ≡ slice_set (slice_set s.at.items (basic_at s row) to) column Basic → t.ends.items ≡ s.ends.items → t.costs ≡ s.costs
    → ((i j : ℕ) → i < length s.entries.items → j < length s.reduced → entry_at entries i j ≡ pivot_entry (entry_at s.entries.items) row column i j)
    → ((j : ℕ) → j < length s.reduced → number_at t.reduced j ≡ add (number_at s.reduced j) (mul (number_at s.reduced column) (pivot_line (entry_at s.entries.items) row column j)))
    → AreValuesAfter s.basic.items row column end entered spare.moved.items s.values.items values
    → IsPivoted s t row column to end
pivoted_is s t row column to end entered spare entries values sheet prepared et vt height width vlong long basic at ends costs entries_are reduced values_are =
    let fits : length s.basic.items ≡ length s.entries.items = sheet.basic in
    record {
      height = ap length et ∙ height;
      width = width;
      long = subst (λ (rows : List (List Rational)). AreLong (length s.reduced) rows) (sym et) long;
      basic = basic;
      at = at;
      ends = ends;
      costs = costs;
      entries = λ i j li lj. ap (λ (rows : List (List Rational)). entry_at rows i j) et ∙ entries_are i j li lj;
      reduced = reduced;
      values_long = ap length vt ∙ vlong;
      entering = ap (λ (xs : List Rational). number_at xs column) vt ∙ values_are.entering ∙ prepared.entered_is;
      leaving = ap (λ (xs : List Rational). number_at xs (basic_at s row)) vt ∙ values_are.leaving;
      rows = λ i l d. ap (λ (xs : List Rational). number_at xs (basic_at s i)) vt ∙ values_are.rows i (omega arith) d ∙ prepared.moved_are i l;
      rest = λ j d apart. ap (λ (xs : List Rational). number_at xs j) vt ∙ values_are.rest j d (λ i l. apart i (omega arith));
    }
