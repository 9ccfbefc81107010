use Rattle.std.proofs.Common.{◌-◌, ℕ, refl, sym, subst, arith}
use Rattle.um_lp.specs.States.{State}
use Rattle.um_ray.specs.Starts.{StartedAs, IsOutOfPivots, AreRayNumbers}
use Rattle.um_ray.specs.declared.starting.Started.{Started}
use Rattle.um_ray.specs.declared.starting.Started.TheVariants as started
use Rattle.um_opening.proofs.opening.open.Goals as goal

pub returns-in-Ok-clause-opened : goal.returns-in-Ok-clause-opened
returns-in-Ok-clause-opened g c =
    let s : State = g.B.Board.state c.args.board.now in
    let t : State = g.B.Board.state c.start.new.board in
    let pivots : ℕ = c.args.left.now - c.start.new.left in
    let h : StartedAs g.d s pivots c.start.new.left (started.Ray c.in-Ray.ray) t = subst (λ (x : Started). StartedAs g.d s pivots c.start.new.left x t) c.in-Ray.is c.in_ok-started.ensures.started in
    record { shows = record { shown = t; found = h.0; ray_is = h.1; small = subst AreRayNumbers (sym h.1) h.2 }; reset = c.in-Ok.ensures.ok }

pub returns-in-OutOfPivots-clause-opened : goal.returns-in-OutOfPivots-clause-opened
returns-in-OutOfPivots-clause-opened g c =
    let s : State = g.B.Board.state c.args.board.now in
    let t : State = g.B.Board.state c.start.new.board in
    let pivots : ℕ = c.args.left.now - c.start.new.left in
    let h : IsOutOfPivots g.d s pivots c.start.new.left t = subst (λ (x : Started). StartedAs g.d s pivots c.start.new.left x t) c.in-OutOfPivots.is c.in_ok-started.ensures.started in
    let none = h.none_left in
    record { out = record { needed = h.needed; run = h.run; due = h.due; none_left = refl }; all = omega (arith, none) }
