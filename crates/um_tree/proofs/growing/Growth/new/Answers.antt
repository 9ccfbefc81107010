use Rattle.std.proofs.Common.{◌≡◌, [], ◌∷◌, None, map, ap, rules}
use Rattle.um_model.specs.AnswerValues.{plain_node}
use Rattle.um_tree.proofs.Starts.{one_grows}
use Rattle.um_tree.proofs.growing.Growth.new.Goals as goal

pub invariant_of-result : goal.invariant_of-result
invariant_of-result c =
    let o : c.push.new.self.items ≡ None ∷ [] = search rules in
    let n : c.push-2.new.self.items ≡ c.args.root ∷ [] = search rules in
    let l : c.push-3.new.self.items ≡ None ∷ [] = search rules in
    one_grows _ _ _ (plain_node c.args.root) o (ap (map plain_node) n) l c.requires
