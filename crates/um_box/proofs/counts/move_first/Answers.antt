use Rattle.std.proofs.Common.{◌≡◌, ap, ℕ, ◌-◌, take, drop, arith}
use Rattle.um_model.specs.Boxes.{Span}
use Rattle.um_model.specs.declared.deck.Member.{Member}
use Rattle.std.specs.Prelude.{pos}
use Rattle.um_box.specs.ShutOut.{times_in}
use Rattle.um_box.proofs.Intervals.{first_moved}
use Rattle.um_box.proofs.counts.move_first.Goals as goal

abbrev none : Member
none = record { column = 0; weight = pos 0 }

pub let_in-requires-clause-counted : goal.let_in-requires-clause-counted
let_in-requires-clause-counted c = λ column l.
    let members = c.args.members.now in
    let first : c.span.inside.first ≡ c.args.span.first = ap (λ (s : Span). s.first) c.span.view_is in
    let part : times_in (take (c.span.inside.first - c.args.first) (drop c.args.first members)) column ≡ times_in (take (c.args.span.first - c.args.first) (drop c.args.first members)) column =
    ap (λ (n : ℕ). times_in (take (n - c.args.first) (drop c.args.first members)) column) first in
    omega (arith, part, c.requires.counted column l, first_moved members column none c.args.first c.args.span.first c.args.span.last (omega arith) c.requires.old c.requires.last)

pub returns-then-first-span-clause-counts : goal.returns-then-first-span-clause-counts
returns-then-first-span-clause-counts c = λ column l.
    let members = c.args.members.now in
    let first : c.span.inside.first ≡ c.args.span.first = ap (λ (s : Span). s.first) c.span.view_is in
    let part : times_in (take (c.span.inside.first - c.args.first) (drop c.args.first members)) column ≡ times_in (take (c.args.span.first - c.args.first) (drop c.args.first members)) column =
    ap (λ (n : ℕ). times_in (take (n - c.args.first) (drop c.args.first members)) column) first in
    omega (arith, part, c.let_in.ensures.counts column l, first_moved members column none c.args.first c.args.span.first c.args.span.last (omega arith) c.requires.old c.requires.last)

pub returns-else-first-span-clause-counts : goal.returns-else-first-span-clause-counts
returns-else-first-span-clause-counts c = λ column l.
    let members = c.args.members.now in
    let first : c.span.inside.first ≡ c.args.span.first = ap (λ (s : Span). s.first) c.span.view_is in
    let part : times_in (take (c.args.first - c.span.inside.first) (drop c.span.inside.first members)) column ≡ times_in (take (c.args.first - c.args.span.first) (drop c.args.span.first members)) column =
    ap (λ (n : ℕ). times_in (take (c.args.first - n) (drop n members)) column) first in
    omega (arith, part, c.shut_out.ensures.counts column l, first_moved members column none c.args.span.first c.args.first c.args.span.last (omega arith) c.requires.new c.requires.last)
