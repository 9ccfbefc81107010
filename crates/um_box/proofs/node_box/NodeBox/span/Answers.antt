use Rattle.std.proofs.Common.{◌≡◌, ◌∙◌, ◌<◌, ap, sym, subst, length, arith}
use Rattle.um_model.specs.Boxes.{Span, span_at}
use Rattle.um_box.specs.NodeBoxes.{NodeBoxValue}
use Rattle.um_box.proofs.Intervals.{span_there}
use Rattle.um_box.proofs.Sizes.{span_is_short}
use Rattle.um_box.proofs.node_box.NodeBox.span.Goals as goal

pub overflow_cast-result : goal.overflow_cast-result
overflow_cast-result c =
    let b : NodeBoxValue = record { deck = c.self.inside.deck.now; limits = record { ends = c.self.inside.ends.items; spans = c.self.inside.spans.items } } in
    let set = c.args.set in
    let inside : set < length b.deck.sets = subst (λ (n : NodeBoxValue). set < length n.deck.sets) (sym c.self.view_is) c.requires in
    let spans = c.self.invariant.node.spans in
    let read = span_there b.limits c.as_slice.result.now set c.index-as_slice-set.result (omega arith) c.as_slice.ensures c.index-as_slice-set.is in
    let first : c.span.inside.first ≡ (span_at b.limits set).first = ap (λ (s : Span). s.first) (c.span.view_is ∙ read) in
    let short = span_is_short b set c.self.invariant.node c.known.ensures.formed inside in
    let order = short.0 in
    let last = short.1 in
    let below : c.span.inside.first < 4294967296 = omega arith in
    record { fits = below }

pub overflow_cast-result-2 : goal.overflow_cast-result-2
overflow_cast-result-2 c =
    let b : NodeBoxValue = record { deck = c.self.inside.deck.now; limits = record { ends = c.self.inside.ends.items; spans = c.self.inside.spans.items } } in
    let set = c.args.set in
    let inside : set < length b.deck.sets = subst (λ (n : NodeBoxValue). set < length n.deck.sets) (sym c.self.view_is) c.requires in
    let spans = c.self.invariant.node.spans in
    let read = span_there b.limits c.as_slice.result.now set c.index-as_slice-set.result (omega arith) c.as_slice.ensures c.index-as_slice-set.is in
    let at_last : c.span.inside.last ≡ (span_at b.limits set).last = ap (λ (s : Span). s.last) (c.span.view_is ∙ read) in
    let last = (span_is_short b set c.self.invariant.node c.known.ensures.formed inside).1 in
    let below : c.span.inside.last < 4294967296 = omega arith in
    record { fits = below }
