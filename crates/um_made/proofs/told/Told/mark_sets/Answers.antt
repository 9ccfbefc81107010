use Rattle.std.proofs.Common.{◌+◌, List, nat_eq, take, map, ◌∙◌}
use Rattle.std.specs.List.{list_any}
use Rattle.um_statements.specs.declared.parts.MemberPart.{MemberPart}
use Rattle.um_statements.specs.Statements.{Name}
use Rattle.um_statements.specs.Said.{SetSaid}
use Rattle.um_made.specs.declared.parts.SetPart.{SetPart}
use Rattle.um_made.specs.Views.{set_said}
use Rattle.um_made.proofs.ToldFacts.{set_at}
use Rattle.um_made.proofs.MarkFacts.{mark_both, sets_more}
use Rattle.um_made.proofs.told.Told.mark_sets.Goals as goal

pub mark_members-requires : goal.mark_members-requires
mark_members-requires c =
    let within = rw c.deref-set-items.ensures.value at c.loop-set-test.true in
    let is = rw c.deref-set-items.ensures.value at c.set-item.is in
    let set = set_at c.args.self.now c.requires.well c.loop-set.set-index c.set-item.result within is in
    rw c.as_slice.ensures (λ k d inside. rw (c.loop-set.invariant.length_stays ∙ c.requires.count) (set.parts k d inside).place)

pub loop-set-preserved : goal.loop-set-preserved
loop-set-preserved c =
    let sets : List (Name × SetPart) = c.args.self.now.sets.items in
    let within = rw c.deref-set-items.ensures.value at c.loop-set-test.true in
    let is = rw c.deref-set-items.ensures.value at c.set-item.is in
    mark_both (λ j. list_any (λ (s : SetSaid). list_any (λ (m : MemberPart). nat_eq m.column j) s.members) (map set_said (take c.loop-set.set-index sets)))
    (λ j. list_any (λ (m : MemberPart). nat_eq m.column j) c.set-item.result.1.members.items)
    (λ j. list_any (λ (s : SetSaid). list_any (λ (m : MemberPart). nat_eq m.column j) s.members) (map set_said (take (c.loop-set.set-index + 1) sets)))
    c.args.marks.now c.loop-set.marks c.mark_members.new.marks c.loop-set.invariant (rw c.as_slice.ensures at c.mark_members.ensures)
    (λ j. sets_more (λ (s : SetSaid). list_any (λ (m : MemberPart). nat_eq m.column j) s.members) sets c.loop-set.set-index c.set-item.result within is)
