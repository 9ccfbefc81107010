use Rattle.std.proofs.Common.{◌^◌, ◌<◌, ◌+◌, ◌∙◌, get_or, pos}
use Rattle.std.proofs.lemmas.List.{length-set}
use Rattle.um_model.specs.declared.deck.Member.{Member}
use Rattle.um_box.proofs.CountSteps.{shut_out_fits, shut_out_more}
use Rattle.um_box.proofs.counts.shut_out.Goals as goal

abbrev none : Member
none = record { column = 0; weight = pos 0 }

pub overflow_add-at_mut : goal.overflow_add-at_mut
overflow_add-at_mut c =
    let i = c.loop-member.member-index in
    let l = c.loop-member.invariant in
    let below : c.at_mut.result.now + 1 < 2 ^ 32 = shut_out_fits c.args.members.now i none c.loop-member-test.true c.args.counts.now.items c.loop-member.counts.items c.at_mut.result.now c.at_mut.ensures.value l.each
    (c.requires.columns i none c.loop-member-test.true) l.counted (2 ^ 32) c.requires.room in record { fits = below }

pub loop-member-preserved : goal.loop-member-preserved
loop-member-preserved c =
    let i = c.loop-member.member-index in
    let l = c.loop-member.invariant in
    record {
      each = length-set c.loop-member.counts.items (get_or c.args.members.now i none).column (c.at_mut.result.now + 1) ∙ l.each;
      counted = shut_out_more c.args.members.now i none c.loop-member-test.true c.args.counts.now.items c.loop-member.counts.items c.at_mut.result.now c.at_mut.ensures.value l.each
          (c.requires.columns i none c.loop-member-test.true) l.counted;
    }
