use Rattle.std.proofs.Common.{◌<◌, ◌≤◌, sym, subst, List, length, slice_set}
use Rattle.um_model.specs.Boxes.{Span, span_at}
use Rattle.um_model.specs.Values.{plain_set}
use Rattle.um_model.specs.declared.deck.Member.{Member}
use Rattle.um_box.specs.NodeBoxes.{NodeBoxValue}
use Rattle.um_box.specs.Undos.{Undoes}
use Rattle.um_box.specs.declared.undo.Replaced.TheVariants.{OldFirst}
use Rattle.um_box.proofs.Intervals.{between}
use Rattle.um_box.proofs.Changes.{IsRead, reads, member_columns, room, counted, old_order, old_inside, interval_counted, first_undone}
use Rattle.um_box.proofs.node_box.NodeBox.put_first.Goals as goal

pub move_first-requires : goal.move_first-requires
move_first-requires c =
    let b : NodeBoxValue = record { deck = c.self.inside.deck.now; limits = record { ends = c.self.inside.ends.items; spans = c.self.inside.spans.items } } in
    let counts = c.self.inside.counts.items in
    let set = c.args.set in
    let s = plain_set c.index-sets-place.result in
    let members = c.as_slice-members.result.now in
    let old : Span = record { first = c.old.inside.first; last = c.old.inside.last } in
    let inside : set < length b.deck.sets = subst (λ (n : NodeBoxValue). set < length n.deck.sets) (sym c.self.view_is) c.requires.inside in
    let r : IsRead b counts set s members old = reads b counts set c.as_slice.result.now c.index-as_slice-place.result old c.sets.result.now c.index-sets-place.result members
    c.self.invariant c.known.ensures.formed inside c.as_slice.ensures c.index-as_slice-place.is c.old.view_is c.sets.ensures c.index-sets-place.is c.as_slice-members.ensures in
    let limit : c.args.first ≤ old.last = subst (λ (x : Span). c.args.first ≤ x.last) (sym r.read) (subst (λ (n : NodeBoxValue). c.args.first ≤ (span_at n.limits set).last) (sym c.self.view_is) c.requires.order) in
    record {
      columns = member_columns b counts set s members old r;
      room = room b counts set s members old r;
      counted = counted b counts set s members old r;
      old = old_order b counts set s members old r;
      new = limit;
      last = old_inside b counts set s members old r;
    }

pub invariant_of-self : goal.invariant_of-self
invariant_of-self c =
    let b : NodeBoxValue = record { deck = c.self.inside.deck.now; limits = record { ends = c.self.inside.ends.items; spans = c.self.inside.spans.items } } in
    let counts = c.self.inside.counts.items in
    let set = c.args.set in
    let s = plain_set c.index-sets-place.result in
    let members = c.as_slice-members.result.now in
    let old : Span = record { first = c.old.inside.first; last = c.old.inside.last } in
    let inside : set < length b.deck.sets = subst (λ (n : NodeBoxValue). set < length n.deck.sets) (sym c.self.view_is) c.requires.inside in
    let r : IsRead b counts set s members old = reads b counts set c.as_slice.result.now c.index-as_slice-place.result old c.sets.result.now c.index-sets-place.result members
    c.self.invariant c.known.ensures.formed inside c.as_slice.ensures c.index-as_slice-place.is c.old.view_is c.sets.ensures c.index-sets-place.is c.as_slice-members.ensures in
    let limit : c.args.first ≤ old.last = subst (λ (x : Span). c.args.first ≤ x.last) (sym r.read) (subst (λ (n : NodeBoxValue). c.args.first ≤ (span_at n.limits set).last) (sym c.self.view_is) c.requires.order) in
    let moved = c.move_first.ensures in
    interval_counted b counts set s members old r (between c.args.first old.last) (record { order = limit; inside = subst (λ (ms : List Member). old.last < length ms) r.same (old_inside b counts set s members old r) }) c.move_first.new.counts.items moved.length moved.counts

pub returns-clause-undo : goal.returns-clause-undo
returns-clause-undo c =
    let b : NodeBoxValue = record { deck = c.self.inside.deck.now; limits = record { ends = c.self.inside.ends.items; spans = c.self.inside.spans.items } } in
    let counts = c.self.inside.counts.items in
    let set = c.args.set in
    let s = plain_set c.index-sets-place.result in
    let members = c.as_slice-members.result.now in
    let old : Span = record { first = c.old.inside.first; last = c.old.inside.last } in
    let inside : set < length b.deck.sets = subst (λ (n : NodeBoxValue). set < length n.deck.sets) (sym c.self.view_is) c.requires.inside in
    let r : IsRead b counts set s members old = reads b counts set c.as_slice.result.now c.index-as_slice-place.result old c.sets.result.now c.index-sets-place.result members
    c.self.invariant c.known.ensures.formed inside c.as_slice.ensures c.index-as_slice-place.is c.old.view_is c.sets.ensures c.index-sets-place.is c.as_slice-members.ensures in
    let limit : c.args.first ≤ old.last = subst (λ (x : Span). c.args.first ≤ x.last) (sym r.read) (subst (λ (n : NodeBoxValue). c.args.first ≤ (span_at n.limits set).last) (sym c.self.view_is) c.requires.order) in
    subst (λ (n : NodeBoxValue). Undoes (record { replaced = OldFirst set old.first }) n (record { deck = b.deck; limits = record { ends = b.limits.ends; spans = slice_set b.limits.spans set (between c.args.first old.last) } })) c.self.view_is
    (first_undone b counts set s members old r c.args.first)
