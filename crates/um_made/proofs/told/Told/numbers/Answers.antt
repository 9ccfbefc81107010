use Rattle.std.proofs.Common.{length, sym, ◌∙◌}
use Rattle.um_made.specs.Parts.{said}
use Rattle.um_made.proofs.ToldFacts.{row_count}
use Rattle.um_made.proofs.RowNumberFacts.{numbers_are}
use Rattle.um_made.proofs.told.Told.numbers.Goals as goal

pub returns : goal.returns
returns c =
    let all = numbers_are (length c.args.self.now.rows.items) (said c.args.self.now).columns c.args.self.now.arcs.items c.put_columns.new.rows.items c.put_arcs.new.rows.items c.in_ok-put_columns.ensures (rw c.as_slice.ensures at c.in_ok-put_arcs.ensures) in
    record { count = all.0 ∙ sym (row_count c.args.self.now); coefficients_there = all.1; arcs_there = all.2 }
