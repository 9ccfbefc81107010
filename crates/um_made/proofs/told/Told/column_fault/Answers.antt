use Rattle.std.proofs.Common.{sym, ◌∙◌}
use Rattle.um_made.specs.Parts.{said}
use Rattle.um_made.proofs.RowSteps.{same_rules, column_here, column_later}
use Rattle.um_made.proofs.told.Told.column_fault.Goals as goal

pub returns-in-Some : goal.returns-in-Some
returns-in-Some c =
    let within = rw c.deref-column-items.ensures.value at c.loop-j-test.true in
    let is = rw c.deref-column-items.ensures.value at c.column-item.is in
    let same = same_rules (said c.args.self.now) c.loop-j.j c.column-item.result _ _ (c.requires.members.each c.loop-j.j within) (c.requires.arcs.each c.loop-j.j within) in
    sym (column_here (said c.args.self.now) c.args.self.now.columns.items c.loop-j.j c.column-item.result within is _ (sym (c.in-Some.ensures ∙ same))) ∙ c.loop-j.invariant

pub loop-j-preserved : goal.loop-j-preserved
loop-j-preserved c =
    let within = rw c.deref-column-items.ensures.value at c.loop-j-test.true in
    let is = rw c.deref-column-items.ensures.value at c.column-item.is in
    let same = same_rules (said c.args.self.now) c.loop-j.j c.column-item.result _ _ (c.requires.members.each c.loop-j.j within) (c.requires.arcs.each c.loop-j.j within) in
    sym (column_later (said c.args.self.now) c.args.self.now.columns.items c.loop-j.j c.column-item.result within is (sym (c.in-None.ensures ∙ same))) ∙ c.loop-j.invariant
