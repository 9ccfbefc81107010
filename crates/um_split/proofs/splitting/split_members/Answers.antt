use Rattle.std.proofs.Common.{◌<◌, ℤ, List}
use Rattle.std.proofs.lemmas.Bool.{false≢true}
use Rattle.um_model.specs.Feasible.{SetRule}
use Rattle.um_point.specs.MemberParts.{parts_of}
use Rattle.um_split.proofs.Reached.{part_sum-up, first-is_reached, last-is_beyond, apart}
use Rattle.um_split.proofs.Splits.{split-of}
use Rattle.um_split.proofs.splitting.split_members.Goals as goal

pub last_reached-average-requires-clause-total : goal.last_reached-average-requires-clause-total
last_reached-average-requires-clause-total c = rw c.average_of.ensures.total (part_sum-up (parts_of c.args.parts.now c.args.members.now) c.requires.up)

pub last_reached-average-requires-clause-reached : goal.last_reached-average-requires-clause-reached
last_reached-average-requires-clause-reached c =
    rw (c.average_of.ensures.total, c.average_of.ensures.weighted) (first-is_reached c.args.members.now c.args.parts.now c.requires.rise c.requires.up c.in_ok-first.first c.in_ok-first.ensures)

pub last_reached-average-requires-clause-beyond : goal.last_reached-average-requires-clause-beyond
last_reached-average-requires-clause-beyond c =
    let xs : List ℤ = parts_of c.args.parts.now c.args.members.now in
    let broken : ¬ SetRule c.args.kind xs = λ rule. false≢true ((c.if-rule_holds.ensures xs c.in_ok-first.ensures c.last_nonzero-last.ensures.last).1 rule) in
    let two : c.in_ok-first.first < c.last_nonzero-last.result = apart c.args.members.now c.args.parts.now c.requires.rise c.requires.up c.in_ok-first.first c.in_ok-first.ensures c.last_nonzero-last.result c.last_nonzero-last.ensures.last c.args.kind broken in
    rw (c.average_of.ensures.total, c.average_of.ensures.weighted)
    (last-is_beyond c.args.members.now c.args.parts.now c.requires.rise c.requires.up c.in_ok-first.first c.in_ok-first.ensures c.last_nonzero-last.result c.last_nonzero-last.ensures.last two)

pub returns : goal.returns
returns c =
    let xs : List ℤ = parts_of c.args.parts.now c.args.members.now in
    let broken : ¬ SetRule c.args.kind xs = λ rule. false≢true ((c.if-rule_holds.ensures xs c.in_ok-first.ensures c.last_nonzero-last.ensures.last).1 rule) in
    split-of c.args.kind c.args.set c.args.members.now c.args.parts.now c.in_ok-first.first c.last_nonzero-last.result c.last_reached-average.result c.average_of.result.weighted c.average_of.result.total c.branch_at.result c.in_ok-first.ensures
    c.last_nonzero-last.ensures.last broken c.average_of.ensures.weighted c.average_of.ensures.total c.last_reached-average.ensures c.branch_at.ensures
