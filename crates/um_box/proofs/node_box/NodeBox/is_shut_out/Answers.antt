use Rattle.std.proofs.Common.{◌<◌, ◌∙◌, ap, List, ℕ, ltb, get_or, length, subst, sym}
use Rattle.um_model.specs.Boxes.{is_shut_out}
use Rattle.um_box.specs.NodeBoxes.{NodeBoxValue}
use Rattle.um_box.proofs.Intervals.{shut_out_counted}
use Rattle.um_box.proofs.node_box.NodeBox.is_shut_out.Goals as goal

pub returns : goal.returns
returns c =
    let column = c.args.column in
    let inside : column < length c.self.inside.deck.now.columns = subst (λ (b : NodeBoxValue). column < length b.deck.columns) (sym c.self.view_is) c.requires in
    ap (λ (counts : List ℕ). ltb 0 (get_or counts column 0)) c.as_slice.ensures ∙ ap (ltb 0) (c.self.invariant.counted column inside) ∙ shut_out_counted c.self.inside.deck.now (record { ends = c.self.inside.ends.items; spans = c.self.inside.spans.items }) column
    ∙ ap (λ (b : NodeBoxValue). is_shut_out b.deck b.limits column) c.self.view_is
