use Rattle.std.proofs.Common.{◌≡◌, ℕ, ◌-◌, Option, None, refl, sym, subst, arith, rules}
use Rattle.std.specs.Prelude.{ℤ}
use Rattle.um_num.specs.Listed.{Listed}
use Rattle.um_solving.specs.Endings.{EndedAs}
use Rattle.um_solving.specs.Laws.{MayBegin}
use Rattle.um_solving.proofs.Goings.{within-law}
use Rattle.um_opening.specs.Numbers.{Begins, Onward, parts_of}
use Rattle.um_opening.specs.Openings.{OpenedAs}
use Rattle.um_opening.specs.declared.opening.Opened.{Opened}
use Rattle.um_opening.specs.declared.opening.Opened.TheVariants as opened
use Rattle.um_opening.proofs.Begun.{begun-law}
use Rattle.um_opening.proofs.NumberEnds.{with_costs, with_ray, ran}
use Rattle.um_opening.proofs.numbers.solve_number.Given as given
use Rattle.um_opening.proofs.numbers.solve_number.Goals as goal
use Rattle.um_opening.proofs.numbers.solve_number.Goals.{in-WithCosts, in-WithRay}

pub solve_node-requires-clause-wanted : goal.solve_node-requires-clause-wanted
solve_node-requires-clause-wanted g c =
    within-law c.args.node.now.deck c.args.node.now.limits (g.B.Board.state c.args.board.now) c.requires.1.1.0 c.requires.1.1.1.1.1.1.1.1 (c.requires.1.1.1.1.1.1.0.later c.if-number-ne1.true).wants

pub solve_node-requires-clause-few : goal.solve_node-requires-clause-few
solve_node-requires-clause-few g c = search rules

pub returns-then-number-ne1-clause-ending : goal.returns-then-number-ne1-clause-ending
returns-then-number-ne1-clause-ending g c =
    let d = c.args.node.now.deck in
    let s = g.B.Board.state c.args.board.now in
    let left : ℕ = c.args.left.now in
    let none : 0 ≡ left - left = omega arith in
    ran d c.args.node.now.limits s s (g.B.Board.state c.solve_node.new.board) left left c.solve_node.new.left c.args.number (record { end = c.in_ok-end.end; ray = None }) (omega arith) c.solve_node.ensures.falls
    (subst (λ (n : ℕ). Begins d c.args.number s n None s) none (Onward c.if-number-ne1.true refl refl refl))
    (subst (λ (n : ℕ). EndedAs d c.args.node.now.limits s n (left - c.solve_node.new.left) left c.args.number c.in_ok-end.end (g.B.Board.state c.solve_node.new.board)) none c.in_ok-end.ensures.ending)

-- the board is open
begins : (g : given.Over) (c : goal.After-solve_node-arg-4-1 g) → Begins c.args.node.now.deck c.args.number (g.B.Board.state c.args.board.now) (c.args.left.now - c.open.new.left) (parts_of c.match-branch-3.ray) (g.B.Board.state c.open.new.board)
begins g c =
    let d = c.args.node.now.deck in
    let s = g.B.Board.state c.args.board.now in
    let t = g.B.Board.state c.open.new.board in
    let early : ℕ = c.args.left.now - c.open.new.left in
    let one : c.args.number ≡ 1 = omega (arith, c.if-number-ne1.false) in
    let at : (o : Opened) → c.in_ok-open.field-0 ≡ o → OpenedAs g.d s early c.args.left.now o t = λ o e. subst (λ (x : Opened). OpenedAs g.d s early c.args.left.now x t) e c.in_ok-open.ensures.opened in
    elim c.match-branch-3.branch [
      | in-WithCosts w ↦ subst (λ (r : Option (Listed ℤ)). Begins d c.args.number s early (parts_of r) t) (sym w.ray-is) (with_costs g.d d c.args.number s early t c.requires.1.0 one (at opened.WithCosts w.in-WithCosts.is))
      | in-WithRay w ↦ subst (λ (r : Option (Listed ℤ)). Begins d c.args.number s early (parts_of r) t) (sym w.ray-is) (with_ray g.d d c.args.number s early w.in-WithRay.ray.items t c.requires.1.0 one (at (opened.WithRay w.in-WithRay.ray) w.in-WithRay.is))
    ]

may_begin : (g : given.Over) (c : goal.After-solve_node-arg-4-1 g) → MayBegin c.args.node.now.deck (g.B.Board.state c.open.new.board)
may_begin g c = begun-law c.args.node.now.deck c.args.number (g.B.Board.state c.args.board.now) (c.args.left.now - c.open.new.left) (parts_of c.match-branch-3.ray) (g.B.Board.state c.open.new.board) c.requires.1.1.1.0 c.requires.1.1.1.1.1.1.0 (begins g c)

pub solve_node-requires-2-clause-stands : goal.solve_node-requires-2-clause-stands
solve_node-requires-2-clause-stands g c = (may_begin g c).stands

pub solve_node-requires-2-clause-wanted : goal.solve_node-requires-2-clause-wanted
solve_node-requires-2-clause-wanted g c = within-law c.args.node.now.deck c.args.node.now.limits (g.B.Board.state c.open.new.board) c.requires.1.1.0 c.requires.1.1.1.1.1.1.1.1 (may_begin g c).wants

pub returns-clause-ending : goal.returns-clause-ending
returns-clause-ending g c =
    let d = c.args.node.now.deck in
    let s = g.B.Board.state c.args.board.now in
    let t = g.B.Board.state c.open.new.board in
    let early : ℕ = c.args.left.now - c.open.new.left in
    let one : c.args.number ≡ 1 = omega (arith, c.if-number-ne1.false) in
    let at : (o : Opened) → c.in_ok-open.field-0 ≡ o → OpenedAs g.d s early c.args.left.now o t = λ o e. subst (λ (x : Opened). OpenedAs g.d s early c.args.left.now x t) e c.in_ok-open.ensures.opened in
    ran d c.args.node.now.limits s t (g.B.Board.state c.solve_node-2.new.board) c.args.left.now c.open.new.left c.solve_node-2.new.left c.args.number (record { end = c.in_ok-end-2.end; ray = c.match-branch-3.ray })
    c.open.ensures.spends c.solve_node-2.ensures.falls
    (elim c.match-branch-3.branch [
      | in-WithCosts w ↦ subst (λ (r : Option (Listed ℤ)). Begins d c.args.number s early (parts_of r) t) (sym w.ray-is) (with_costs g.d d c.args.number s early t c.requires.1.0 one (at opened.WithCosts w.in-WithCosts.is))
      | in-WithRay w ↦ subst (λ (r : Option (Listed ℤ)). Begins d c.args.number s early (parts_of r) t) (sym w.ray-is) (with_ray g.d d c.args.number s early w.in-WithRay.ray.items t c.requires.1.0 one (at (opened.WithRay w.in-WithRay.ray) w.in-WithRay.is))
    ])
    c.in_ok-end-2.ensures.ending
