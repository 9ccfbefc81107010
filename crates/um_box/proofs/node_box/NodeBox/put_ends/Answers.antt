use Rattle.std.proofs.Common.{◌≡◌, ◌∙◌, ◌<◌, ap, sym, subst, length, get_or, arith}
use Rattle.std.proofs.lemmas.List.{get_or_default}
use Rattle.um_model.specs.Boxes.{Ends, free, ends_at}
use Rattle.um_box.specs.NodeBoxes.{NodeBoxValue, put_ends}
use Rattle.um_box.specs.Undos.{Undoes}
use Rattle.um_box.specs.declared.undo.Replaced.TheVariants.{OldEnds}
use Rattle.um_box.proofs.Changes.{ends_undone}
use Rattle.um_box.proofs.node_box.NodeBox.put_ends.Goals as goal

pub returns-clause-undo : goal.returns-clause-undo
returns-clause-undo c =
    let b : NodeBoxValue = record { deck = c.self.inside.deck.now; limits = record { ends = c.self.inside.ends.items; spans = c.self.inside.spans.items } } in
    let column = c.args.column in
    let old : Ends = record { low = c.low.inside.low; high = c.low.inside.high } in
    let inside : column < length b.deck.columns = subst (λ (n : NodeBoxValue). column < length n.deck.columns) (sym c.self.view_is) c.requires.inside in
    let each = c.self.invariant.node.ends in
    let there : old ≡ ends_at b.limits column = c.low.view_is ∙ c.kept_ends.ensures ∙ ap (λ (n : NodeBoxValue). ends_at n.limits column) (sym c.self.view_is) in
    let read : old ≡ get_or b.limits.ends column old = there ∙ get_or_default b.limits.ends column free old (omega arith) in
    subst (λ (n : NodeBoxValue). Undoes (record { replaced = OldEnds column old.low old.high }) n (put_ends b column c.args.ends)) c.self.view_is (ends_undone b column old c.args.ends c.self.invariant.node inside read)
