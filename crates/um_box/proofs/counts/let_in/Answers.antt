use Rattle.std.proofs.Common.{◌-◌, ◌∙◌, get_or, pos}
use Rattle.std.proofs.lemmas.List.{length-set}
use Rattle.um_model.specs.declared.deck.Member.{Member}
use Rattle.um_box.proofs.CountSteps.{let_in_fits, let_in_more}
use Rattle.um_box.proofs.counts.let_in.Goals as goal

abbrev none : Member
none = record { column = 0; weight = pos 0 }

pub overflow_sub-at_mut : goal.overflow_sub-at_mut
overflow_sub-at_mut c =
    let i = c.loop-member.member-index in
    let l = c.loop-member.invariant in
    let_in_fits c.args.members.now i none c.loop-member-test.true c.args.counts.now.items c.loop-member.counts.items c.at_mut.result.now c.at_mut.ensures.value l.each
    (c.requires.columns i none c.loop-member-test.true) l.counted c.requires.counted

pub loop-member-preserved : goal.loop-member-preserved
loop-member-preserved c =
    let i = c.loop-member.member-index in
    let l = c.loop-member.invariant in
    let within = c.requires.columns i none c.loop-member-test.true in
    let some = let_in_fits c.args.members.now i none c.loop-member-test.true c.args.counts.now.items c.loop-member.counts.items c.at_mut.result.now c.at_mut.ensures.value l.each within l.counted c.requires.counted in
    record {
      each = length-set c.loop-member.counts.items (get_or c.args.members.now i none).column (c.at_mut.result.now - 1) ∙ l.each;
      counted = let_in_more c.args.members.now i none c.loop-member-test.true c.args.counts.now.items c.loop-member.counts.items c.at_mut.result.now c.at_mut.ensures.value l.each within l.counted some;
    }
