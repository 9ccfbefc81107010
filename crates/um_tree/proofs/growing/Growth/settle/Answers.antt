use Rattle.std.proofs.Common.{subst, sym, ap, ◌∙◌, List}
use Rattle.um_model.specs.AnswerValues.{NodeValue, plain_node}
use Rattle.um_tree.specs.Growths.{GrowthValue, IsOpenAt, settled}
use Rattle.um_tree.specs.Links.{IsGrowing}
use Rattle.um_tree.proofs.Lists.{map_set}
use Rattle.um_tree.proofs.Writes.{settle_grows}
use Rattle.um_tree.proofs.growing.Growth.settle.Goals as goal

pub invariant_of-self : goal.invariant_of-self
invariant_of-self c =
    let open_ = subst (λ (g : GrowthValue). IsOpenAt g c.args.id) (sym c.self.view_is) c.requires.open in
    subst (λ (ns : List NodeValue). IsGrowing (record { origins = c.self.inside.origins.items; nodes = ns }) c.self.inside.nexts.items) (sym (map_set plain_node c.self.inside.nodes.items c.args.id c.args.node))
    (settle_grows _ c.args.id (plain_node c.args.node) open_.inside open_.leaf c.requires.leaf c.self.inside.nexts.items c.self.invariant)

pub returns : goal.returns
returns c =
    ap (λ (ns : List NodeValue). record { origins = c.self.inside.origins.items; nodes = ns }) (map_set plain_node c.self.inside.nodes.items c.args.id c.args.node)
    ∙ ap (λ (x : GrowthValue). settled x c.args.id (plain_node c.args.node)) c.self.view_is
