use Rattle.std.proofs.Common.{◌≡◌, ◌∙◌, ℕ, suc, ◌+◌, ◌++◌, length, List, ap, subst, arith}
use Rattle.um_multipliers.specs.PlainMultipliers.{MultipliersValue, plain_multipliers}
use Rattle.um_model.specs.AnswerValues.{plain_node}
use Rattle.um_model.specs.Branches.{child}
use Rattle.um_model.specs.declared.branch.Side.TheVariants.{Left, Right}
use Rattle.um_box.specs.NodeBoxes.{NodeBoxValue}
use Rattle.um_nodes.specs.declared.open_nodes.OpenNode.{OpenNode}
use Rattle.um_progress.specs.Waits.{Every}
use Rattle.um_children.specs.NewChildren.{IsChild, IsEntryUnder, IsNewNode, entries_of}
use Rattle.um_loop.proofs.ChildParts.{child_key, child_handed}
use Rattle.um_loop.proofs.search.Search.branch.Goals as goal

pub add-requires : goal.add-requires
add-requires c = child_key _ _ _ c.make_child-left.result c.make_child-left.ensures.child

pub add-requires-2 : goal.add-requires-2
add-requires-2 c = child_key _ _ _ c.make_child-right.result c.make_child-right.ensures.child

pub returns : goal.returns
returns c =
    let d = c.args.deck.now in
    let s = c.args.self.now in
    let y = plain_multipliers c.args.y in
    let l = c.make_child-left.result in
    let r = c.make_child-right.result in
    let next : c.len-next.result ≡ length s.growth.nodes = c.len-next.ensures in
    let after : c.len-next.result + 1 ≡ suc (length s.growth.nodes) = omega (arith, next) in
    let second = subst (λ (n : NodeBoxValue). IsChild d (child d n.limits c.args.branch Right) (c.len-next.result + 1) r) c.make_child-left.ensures.back c.make_child-right.ensures.child in
    record {
      first = plain_node l.node;
      second = plain_node r.node;
      first_more = entries_of l.entry;
      second_more = entries_of r.entry;
      first_is = subst (λ (id : ℕ). IsChild d (child d c.args.node.now.limits c.args.branch Left) id l) next c.make_child-left.ensures.child;
      second_is = subst (λ (id : ℕ). IsChild d (child d c.args.node.now.limits c.args.branch Right) id r) after second;
      first_handed = subst (λ (id : ℕ). Every (IsEntryUnder id c.args.depth y) (entries_of l.entry)) next
          (subst (λ (z : MultipliersValue). Every (IsEntryUnder c.len-next.result c.args.depth z) (entries_of l.entry)) c.in_ok-copy.ensures (child_handed _ _ _ l.entry c.make_child-left.ensures.handed));
      second_handed = subst (λ (id : ℕ). Every (IsEntryUnder id c.args.depth y) (entries_of r.entry)) after (child_handed _ _ _ r.entry c.make_child-right.ensures.handed);
      first_new = c.make_child-left.ensures.node;
      second_new = subst (λ (n : NodeBoxValue). IsNewNode d (child d n.limits c.args.branch Right) (plain_node r.node)) c.make_child-left.ensures.back c.make_child-right.ensures.node;
      after_is =
          let waiting = c.in_ok-add-2.ensures ∙ ap (λ (xs : List OpenNode). xs ++ entries_of r.entry) c.in_ok-add.ensures in
          λ i. record s { growth = c.in_ok-split.ensures.ok i; «open» = waiting i };
    }
