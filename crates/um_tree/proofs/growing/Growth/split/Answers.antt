use Rattle.std.proofs.Common.{◌≡◌, ℕ, suc, ◌+◌, ◌≤◌, [], ◌∷◌, ◌++◌, length, map, slice_index_or, slice_set, Some, None, subst, sym, ap, ◌∙◌, rules, add-one, refl}
use Rattle.std.specs.Prelude.{List, Option}
use Rattle.um_model.specs.declared.tree.Node.{Node}
use Rattle.um_model.specs.declared.tree.What.TheVariants as what
use Rattle.um_model.specs.AnswerValues.{NodeValue, plain_node}
use Rattle.um_tree.specs.declared.growing.Origin.{Origin}
use Rattle.um_tree.specs.Growths.{GrowthValue, IsOpenAt, left_of, right_of, parted}
use Rattle.um_tree.proofs.Lists.{length_map, map_written, two_more}
use Rattle.um_tree.proofs.Writes.{split_grows, written}
use Rattle.um_tree.proofs.growing.Growth.split.Goals as goal

pub invariant_of-self-2 : goal.invariant_of-self-2
invariant_of-self-2 c =
    let g = c.self.inside in
    let open_ = subst (λ (g : GrowthValue). IsOpenAt g c.args.id) (sym c.self.view_is) c.requires.open in
    let room = subst (λ (g : GrowthValue). length g.nodes + 2 ≤ 200001) (sym c.self.view_is) c.requires.room in
    let whole : Node = record { solved = c.args.solved; what = what.Split c.args.branch } in
    let o : c.push_reserved-2.new.self.items ≡ (g.origins.items ++ left_of c.args.id c.args.branch ∷ []) ++ right_of c.args.id c.args.branch ∷ [] = search rules in
    let n : c.push_reserved-4.new.self.items ≡ (slice_set g.nodes.items c.args.id whole ++ c.args.left ∷ []) ++ c.args.right ∷ [] = search rules in
    let l : c.push_reserved-6.new.self.items ≡ (slice_set g.nexts.items c.args.id (Some (length g.nodes.items)) ++ Some (length g.nodes.items + 1) ∷ []) ++ slice_index_or g.nexts.items c.args.id None ∷ [] = search rules in
    let k : length (map plain_node g.nodes.items) ≡ length g.nodes.items = length_map plain_node g.nodes.items in
    written _ _ _ _ g.nexts.items c.args.id c.args.solved c.args.branch (plain_node c.args.left) (plain_node c.args.right) (o ∙ two_more g.origins.items _ _)
    (map_written plain_node g.nodes.items _ c.args.id whole c.args.left c.args.right n)
    (l ∙ two_more (slice_set g.nexts.items c.args.id _) _ _ ∙ ap (λ (k : ℕ). slice_set g.nexts.items c.args.id (Some (length g.nodes.items)) ++ Some k ∷ slice_index_or g.nexts.items c.args.id None ∷ []) (add-one _)
    ∙ ap (λ (k : ℕ). slice_set g.nexts.items c.args.id (Some k) ++ Some (suc k) ∷ slice_index_or g.nexts.items c.args.id None ∷ []) (sym k))
    (split_grows (record { origins = g.origins.items; nodes = map plain_node g.nodes.items }) g.nexts.items c.args.id c.args.solved c.args.branch (plain_node c.args.left) (plain_node c.args.right) c.self.invariant open_.inside open_.leaf c.requires.left c.requires.right room)

abbrev made : List (Option Origin) → List NodeValue → GrowthValue
made origins nodes = record { origins = origins; nodes = nodes }

both : (origins news : List (Option Origin)) (nodes others : List NodeValue) → origins ≡ news → nodes ≡ others → made origins nodes ≡ made news others
both origins news nodes others o n = rw o (rw n refl)

pub returns-clause-ok : goal.returns-clause-ok
returns-clause-ok c =
    let g = c.self.inside in
    let whole : Node = record { solved = c.args.solved; what = what.Split c.args.branch } in
    let o : c.push_reserved-2.new.self.items ≡ (g.origins.items ++ left_of c.args.id c.args.branch ∷ []) ++ right_of c.args.id c.args.branch ∷ [] = search rules in
    let n : c.push_reserved-4.new.self.items ≡ (slice_set g.nodes.items c.args.id whole ++ c.args.left ∷ []) ++ c.args.right ∷ [] = search rules in
    both _ _ _ _ (o ∙ two_more g.origins.items _ _) (map_written plain_node g.nodes.items _ c.args.id whole c.args.left c.args.right n)
    ∙ ap (λ (x : GrowthValue). parted x c.args.id c.args.solved c.args.branch (plain_node c.args.left) (plain_node c.args.right)) c.self.view_is
