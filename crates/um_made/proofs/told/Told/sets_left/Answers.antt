use Rattle.std.proofs.Common.{List, map, flat_map, inl, inr, sym, ap, subst, ◌∙◌}
use Rattle.std.proofs.lemmas.List.{drop_all, take_all}
use Rattle.um_statements.specs.Statements.{Name}
use Rattle.um_statements.specs.Said.{Said}
use Rattle.um_statements.specs.CallRules.{first_fault}
use Rattle.um_statements.specs.DeckRules.{set_rules}
use Rattle.um_made.specs.declared.parts.SetPart.{SetPart}
use Rattle.um_made.specs.Views.{set_said}
use Rattle.um_made.specs.Parts.{said}
use Rattle.um_made.specs.SetWords.{AreMembersOf}
use Rattle.um_made.proofs.ToldFacts.{set_at}
use Rattle.um_made.proofs.SetSteps.{set_broken_here, set_fine_here, set_made_here}
use Rattle.um_made.proofs.told.Told.sets_left.Goals as goal

pub members_by_weight-requires-clause-set : goal.members_by_weight-requires-clause-set
members_by_weight-requires-clause-set c =
    let within = rw c.deref-set-items.ensures.value at c.loop-set-test.true in
    set_at c.args.self.now c.requires.well c.loop-set.set-index c.set-item.result within (rw c.deref-set-items.ensures.value at c.set-item.is)

pub returns-in-Err : goal.returns-in-Err
returns-in-Err c =
    let s : Said = said c.args.self.now in
    let sets : List (Name × SetPart) = c.args.self.now.sets.items in
    let within = rw c.deref-set-items.ensures.value at c.loop-set-test.true in
    let is = rw c.deref-set-items.ensures.value at c.set-item.is in
    elim c.in-Err.ensures [
      | inl memory ↦ inl memory
      | inr broken ↦ inr (sym c.loop-set.invariant.fault ∙ set_broken_here s sets c.loop-set.set-index c.set-item.result within is c.in-Err.fault broken)
    ]

pub loop-set-preserved : goal.loop-set-preserved
loop-set-preserved c =
    let s : Said = said c.args.self.now in
    let sets : List (Name × SetPart) = c.args.self.now.sets.items in
    let within = rw c.deref-set-items.ensures.value at c.loop-set-test.true in
    let is = rw c.deref-set-items.ensures.value at c.set-item.is in
    record {
      made = rw c.in_ok-push.ensures (set_made_here s sets c.loop-set.set-index c.set-item.result within is c.loop-set.left.items c.in-Ok.members c.loop-set.invariant.made c.in-Ok.ensures.1);
      fault = sym (set_fine_here s sets c.loop-set.set-index c.set-item.result within is c.in-Ok.ensures.0) ∙ c.loop-set.invariant.fault;
    }

pub returns : goal.returns
returns c =
    let s : Said = said c.args.self.now in
    let sets : List (Name × SetPart) = c.args.self.now.sets.items in
    let past = rw c.deref-set-items.ensures.value at c.loop-set-test.false in (
      sym c.loop-set.invariant.fault ∙ ap (λ (xs : List (Name × SetPart)). first_fault (flat_map (set_rules s) (map set_said xs))) (drop_all c.loop-set.set-index sets past),
      subst (λ (xs : List (Name × SetPart)). AreMembersOf s (map set_said xs) c.loop-set.left.items) (take_all c.loop-set.set-index sets past) c.loop-set.invariant.made,
    )
