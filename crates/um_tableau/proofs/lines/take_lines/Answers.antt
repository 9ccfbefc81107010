use Rattle.std.proofs.Common.{List, length, slice_set, arith, ◌∙◌, ap}
use Rattle.um_laws.specs.Rational.{Rational, add, mul}
use Rattle.um_num.specs.NumberLists.{number_at}
use Rattle.um_tableau.specs.Rows.{row_at, entry_at}
use Rattle.um_tableau.proofs.Taken.{taken_line, taken_rows}
use Rattle.um_tableau.proofs.lines.take_lines.Goals as goal

pub returns-clause-entries : goal.returns-clause-entries
returns-clause-entries c i j li lj =
    let spare = c.args.spare.now in
    let next = c.as_mut_slice.ensures.value in
    let h = c.take_rows.ensures in
    ap (λ (l : List Rational). entry_at (slice_set c.take_rows.new.rows c.args.row l) i j) c.swap.ensures.x_after
    ∙ taken_rows (length c.args.reduced.now) c.args.entries.now spare.rows.items c.take_rows.new.rows c.args.row c.args.column spare.line
    (omega arith) (omega arith) c.requires.long c.requires.next.line_is c.requires.next.rows_are
    (λ k l d z. h.taken k l d z ∙ ap (λ (rows : List (List Rational)). row_at rows k) next)
    h.kept i j li lj

pub returns-clause-reduced : goal.returns-clause-reduced
returns-clause-reduced c j l =
    let spare = c.args.spare.now in
    taken_line c.args.reduced.now spare.reduced c.take_line.new.own spare.line c.args.column c.requires.next.reduced_is c.take_line.ensures.taken c.take_line.ensures.kept j l
    ∙ ap (λ (x : Rational). add (number_at c.args.reduced.now j) (mul (number_at c.args.reduced.now c.args.column) x)) (c.requires.next.line_is j l)
