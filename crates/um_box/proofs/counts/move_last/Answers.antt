use Rattle.std.proofs.Common.{◌≡◌, ap, ℕ, ◌+◌, ◌-◌, take, drop, arith}
use Rattle.um_model.specs.Boxes.{Span}
use Rattle.um_model.specs.declared.deck.Member.{Member}
use Rattle.std.specs.Prelude.{pos}
use Rattle.um_box.specs.ShutOut.{times_in}
use Rattle.um_box.proofs.Intervals.{last_moved}
use Rattle.um_box.proofs.counts.move_last.Goals as goal

abbrev none : Member
none = record { column = 0; weight = pos 0 }

pub let_in-requires-clause-counted : goal.let_in-requires-clause-counted
let_in-requires-clause-counted c = λ column l.
    let members = c.args.members.now in
    let last : c.span.inside.last ≡ c.args.span.last = ap (λ (s : Span). s.last) c.span.view_is in
    let part : times_in (take (c.args.last + 1 - (c.span.inside.last + 1)) (drop (c.span.inside.last + 1) members)) column ≡ times_in (take (c.args.last + 1 - (c.args.span.last + 1)) (drop (c.args.span.last + 1) members)) column =
    ap (λ (n : ℕ). times_in (take (c.args.last + 1 - (n + 1)) (drop (n + 1) members)) column) last in
    omega (arith, part, c.requires.counted column l, last_moved members column none c.args.span.first c.args.span.last c.args.last (omega arith) (omega arith) c.requires.new_last)

pub returns-then-span-last-clause-counts : goal.returns-then-span-last-clause-counts
returns-then-span-last-clause-counts c = λ column l.
    let members = c.args.members.now in
    let last : c.span.inside.last ≡ c.args.span.last = ap (λ (s : Span). s.last) c.span.view_is in
    let part : times_in (take (c.args.last + 1 - (c.span.inside.last + 1)) (drop (c.span.inside.last + 1) members)) column ≡ times_in (take (c.args.last + 1 - (c.args.span.last + 1)) (drop (c.args.span.last + 1) members)) column =
    ap (λ (n : ℕ). times_in (take (c.args.last + 1 - (n + 1)) (drop (n + 1) members)) column) last in
    omega (arith, part, c.let_in.ensures.counts column l, last_moved members column none c.args.span.first c.args.span.last c.args.last (omega arith) (omega arith) c.requires.new_last)

pub returns-else-span-last-clause-counts : goal.returns-else-span-last-clause-counts
returns-else-span-last-clause-counts c = λ column l.
    let members = c.args.members.now in
    let last : c.span.inside.last ≡ c.args.span.last = ap (λ (s : Span). s.last) c.span.view_is in
    let part : times_in (take (c.span.inside.last + 1 - (c.args.last + 1)) (drop (c.args.last + 1) members)) column ≡ times_in (take (c.args.span.last + 1 - (c.args.last + 1)) (drop (c.args.last + 1) members)) column =
    ap (λ (n : ℕ). times_in (take (n + 1 - (c.args.last + 1)) (drop (c.args.last + 1) members)) column) last in
    omega (arith, part, c.shut_out.ensures.counts column l, last_moved members column none c.args.span.first c.args.last c.args.span.last (omega arith) (omega arith) c.requires.last)
