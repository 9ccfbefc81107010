use Rattle.std.proofs.Common.{refl, sym}
use Rattle.um_model.specs.Values.{plain_set, plain_point}
use Rattle.um_model.specs.Feasible.{SetHolds}
use Rattle.um_point.proofs.PlaceLemmas.{at_from, at_to, image_is}
use Rattle.um_split.proofs.Cuts.{cut_off}
use Rattle.um_split.proofs.Splits.{None-from_rule, Some-is_split}
use Rattle.um_split.proofs.Stretching.{set-at, stretch-of}
use Rattle.um_split.proofs.splitting.split.Goals as goal

pub split_members-requires : goal.split_members-requires
split_members-requires c =
    let at = set-at c.args.deck.now c.sets.result.now c.args.set c.index-sets-set.result c.sets.ensures c.requires.inside c.index-sets-set.is in
    rw (c.span-first.ensures, c.as_slice.ensures, c.as_slice-2.ensures)
    (stretch-of c.args.deck.now c.args.node.now c.args.set (plain_point c.args.point.now) (plain_set c.index-sets-set.result) c.known.ensures c.known-2.ensures c.requires.deck at c.requires.small c.requires.interval)

pub returns-clause-holds : goal.returns-clause-holds
returns-clause-holds c =
    let rules = c.index-sets-set.result in
    let P = SetHolds (plain_point c.args.point.now) in
    let at = set-at c.args.deck.now c.sets.result.now c.args.set rules c.sets.ensures c.requires.inside c.index-sets-set.is in
    let is = image_is plain_set c.sets.result.now c.args.deck.now.sets c.args.set rules c.sets.ensures c.requires.inside c.index-sets-set.is in
    let none =
    None-from_rule c.args.deck.now c.args.set (plain_point c.args.point.now) (plain_set rules) rules.kind c.as_slice.result.now c.as_slice-2.result.now c.split_members.result at refl (sym c.as_slice.ensures) (sym c.as_slice-2.ensures) c.split_members.ensures in (
      λ h. at_from P c.args.deck.now.sets c.args.set (plain_set rules) c.requires.inside is (none.0 h),
      λ holds. none.1 (at_to P c.args.deck.now.sets c.args.set (plain_set rules) is holds),
    )

pub returns-clause-split : goal.returns-clause-split
returns-clause-split c =
    let rules = c.index-sets-set.result in
    let at = set-at c.args.deck.now c.sets.result.now c.args.set rules c.sets.ensures c.requires.inside c.index-sets-set.is in
    Some-is_split c.args.deck.now c.args.set (plain_point c.args.point.now) (plain_set rules) rules.kind c.as_slice.result.now c.as_slice-2.result.now c.split_members.result at refl (sym c.as_slice.ensures) (sym c.as_slice-2.ensures) c.split_members.ensures

pub returns-clause-cut : goal.returns-clause-cut
returns-clause-cut c =
    let rules = c.index-sets-set.result in
    let at = set-at c.args.deck.now c.sets.result.now c.args.set rules c.sets.ensures c.requires.inside c.index-sets-set.is in
    cut_off c.args.deck.now c.args.node.now.limits c.args.set (plain_point c.args.point.now) c.split_members.result c.known.ensures.formed c.requires.interval
    (Some-is_split c.args.deck.now c.args.set (plain_point c.args.point.now) (plain_set rules) rules.kind c.as_slice.result.now c.as_slice-2.result.now c.split_members.result at refl (sym c.as_slice.ensures) (sym c.as_slice-2.ensures) c.split_members.ensures)
