use Rattle.std.proofs.Common.{◌≡◌, ◌<◌, List, length, sym, ap, ◌∙◌, subst}
use Rattle.std.specs.Prelude.{All}
use Rattle.um_model.specs.Values.{plain_point, plain_set}
use Rattle.um_model.specs.Feasible.{SetHolds}
use Rattle.um_model.specs.declared.deck.Member.{Member}
use Rattle.um_point.proofs.DeckSizes.{set_at}
use Rattle.um_point.proofs.PlaceLemmas.{decided, image_is}
use Rattle.um_point.proofs.sets.set_holds.Goals as goal

pub rule_holds-requires : goal.rule_holds-requires
rule_holds-requires c =
    let rules = set_at c.args.deck.now c.sets.result.now c.args.set c.index-sets-set.result c.known.ensures c.sets.ensures c.requires.inside c.index-sets-set.is in
    let long : length c.as_slice-2.result.now ≡ length c.args.deck.now.columns = ap length c.as_slice-2.ensures ∙ c.requires.small.parts in
    rw long (subst (λ (members : List Member). All (λ (m : Member). m.column < length c.args.deck.now.columns) members) (sym c.as_slice.ensures) (λ k m within. (rules.members k m within).column))

pub returns : goal.returns
returns c =
    let test = rw (c.as_slice.ensures, c.as_slice-2.ensures) at c.rule_holds.ensures in
    decided (SetHolds (plain_point c.args.point.now)) c.args.deck.now.sets c.args.set (plain_set c.index-sets-set.result) c.rule_holds.result
    c.requires.inside (image_is plain_set c.sets.result.now c.args.deck.now.sets c.args.set c.index-sets-set.result c.sets.ensures c.requires.inside c.index-sets-set.is) test
