use Rattle.std.proofs.Common.{List, length, arith, sym, ◌∙◌, ap, subst}
use Rattle.std.proofs.lemmas.List.{with_items_is}
use Rattle.um_laws.specs.Rational.{Rational}
use Rattle.um_lp.specs.Basis.{pivot_line}
use Rattle.um_lp.specs.WideStates.{AreNarrow}
use Rattle.um_tableau.specs.Rows.{row_at, entry_at, AreLong, IsNextLine}
use Rattle.um_lines.proofs.LineValues.{on_ok}
use Rattle.um_tableau.proofs.NewLines.{new_line, same_line}
use Rattle.um_tableau.proofs.RowSteps.{row_read}
use Rattle.um_lines.proofs.Shorts.{never}
use Rattle.um_tableau.proofs.lines.next_lines.Goals as goal

pub returns-in_err-next_line-clause-narrow : goal.returns-in_err-next_line-clause-narrow
returns-in_err-next_line-clause-narrow c line long is hl hr hs =
    let here = row_read c.args.entries.now c.args.row c.index-entries-row.result c.requires.row_in c.index-entries-row.is in
    let new = new_line c.args.entries.now c.args.row c.args.column (length c.args.reduced.now) c.index-entries-row.result c.divide_by_entry.new.out here (c.requires.long c.args.row c.requires.row_in) c.divide_by_entry.ensures.long c.divide_by_entry.ensures.value in
    let same = same_line line c.divide_by_entry.new.out (length c.args.reduced.now) (pivot_line (entry_at c.args.entries.now) c.args.row c.args.column) long new.0 is new.1 in
    never (c.in_err-next_line.ensures.narrow hr (subst AreNarrow same hl))

pub returns-clause-spare : goal.returns-clause-spare
returns-clause-spare c =
    let s = c.args.spare.now in
    let here = row_read c.args.entries.now c.args.row c.index-entries-row.result c.requires.row_in c.index-entries-row.is in
    let new = new_line c.args.entries.now c.args.row c.args.column (length c.args.reduced.now) c.index-entries-row.result c.divide_by_entry.new.out here (c.requires.long c.args.row c.requires.row_in) c.divide_by_entry.ensures.long c.divide_by_entry.ensures.value in
    let rows = with_items_is s.rows c.next_rows.new.out (omega (arith, s.rows.ok.0)) in
    record {
      height = ap length rows ∙ (let h = c.requires.spare.height in omega arith);
      long = subst (λ (xs : List (List Rational)). AreLong (length c.args.reduced.now) xs) (sym rows) (λ i l. c.next_rows.ensures.out_long i l ∙ new.0);
      line_long = new.0;
      reduced_long = c.in_ok-next_line.ensures.long;
    }

pub returns-clause-next : goal.returns-clause-next
returns-clause-next c =
    let s = c.args.spare.now in
    let here = row_read c.args.entries.now c.args.row c.index-entries-row.result c.requires.row_in c.index-entries-row.is in
    let new = new_line c.args.entries.now c.args.row c.args.column (length c.args.reduced.now) c.index-entries-row.result c.divide_by_entry.new.out here (c.requires.long c.args.row c.requires.row_in) c.divide_by_entry.ensures.long c.divide_by_entry.ensures.value in
    let rows = with_items_is s.rows c.next_rows.new.out (omega (arith, s.rows.ok.0)) in
    on_ok c.next_rows.result c.next_rows.ensures.value
    (λ v. record {
      line_is = new.1;
      rows_are = λ i l d. subst (λ (xs : List (List Rational)). IsNextLine (row_at c.args.entries.now i) c.args.column c.divide_by_entry.new.out (row_at xs i)) (sym rows) (v i l d);
      reduced_is = c.in_ok-next_line.ensures.value;
    })

pub returns-clause-narrow : goal.returns-clause-narrow
returns-clause-narrow c line long is hl hr hs =
    let here = row_read c.args.entries.now c.args.row c.index-entries-row.result c.requires.row_in c.index-entries-row.is in
    let new = new_line c.args.entries.now c.args.row c.args.column (length c.args.reduced.now) c.index-entries-row.result c.divide_by_entry.new.out here (c.requires.long c.args.row c.requires.row_in) c.divide_by_entry.ensures.long c.divide_by_entry.ensures.value in
    let same = same_line line c.divide_by_entry.new.out (length c.args.reduced.now) (pivot_line (entry_at c.args.entries.now) c.args.row c.args.column) long new.0 is new.1 in
    c.next_rows.ensures.narrow hs (subst AreNarrow same hl)
