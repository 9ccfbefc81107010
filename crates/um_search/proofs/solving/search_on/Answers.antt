use Rattle.std.proofs.Common.{◌≡◌, ◌≤◌, ◌∙◌, [], Option, Some, ap, subst, arith}
use Rattle.std.specs.Prelude.{IfSome}
use Rattle.um_model.specs.Values.{DeckValue}
use Rattle.um_model.specs.WellFormed.{IsDeck}
use Rattle.um_model.specs.Values.{plain_point}
use Rattle.um_loop.specs.declared.search.Ending.{Ending}
use Rattle.um_loop.specs.Goings.{IsNoGridEnding}
use Rattle.um_loop.specs.Checkables.{AreCheckable}
use Rattle.um_search.specs.declared.budget.Budget.{Budget}
use Rattle.um_search.specs.Endings.{HasRunOut, IsHalted, IsFound}
use Rattle.um_search.proofs.RunEnds.{in_task, over_of, halted_of, found_of}
use Rattle.um_solving.proofs.RootBoxes.{full-root-law}
use Rattle.um_search.proofs.solving.search_on.Goals as goal

pub new-requires-clause-full : goal.new-requires-clause-full
new-requires-clause-full g c = full-root-law c.args.deck.now c.known.ensures.formed

pub run-requires : goal.run-requires
run-requires g c =
    let s = g.B.Board.state c.args.board.now in
    let belongs = g.met.B.Board.belongs c.args.board.now in
    let begun = c.in_ok-search.ensures in
    let none = begun.solved in
    let within : c.in_ok-search.search.solved ≤ c.args.budget.nodes = omega (arith, none) in
    let r = c.requires.1.1.1 in
    λ lifetimes lives. (lives, (r.0.arcs, (r.1.1.0, (r.1.1.1.0, (begun.going s c.args.budget.pivots r.1.1.1.1 belongs, (r.1.0.nodes, (within, begun.checkable)))))))

pub finish-requires : goal.finish-requires
finish-requires g c =
    let d = c.args.deck.now in
    let b = c.args.budget in
    let s = c.run.new.self in
    let same : d ≡ g.task.deck = c.requires.1.0 in
    let equal : b ≡ g.task.budget = c.requires.1.1.0 in
    let led = c.in_ok-ending.ensures in
    let out = over_of d (g.B.Board.state c.args.board.now) b.pivots b.nodes c.in_ok-ending.ending s (g.B.Board.state c.run.new.board) c.run.new.left led.run c.in-None.is in (
      subst IsDeck same c.known.ensures.formed,
      (
        subst (λ (x : DeckValue). x.arcs ≡ []) same c.requires.1.1.1.0.arcs,
        (
          in_task d g.task.deck same b g.task.budget equal (λ (x : DeckValue) (y : Budget). HasRunOut x y.pivots s) out,
          (subst (λ (y : Budget). s.solved ≤ y.nodes) equal led.within, subst (λ (x : DeckValue). AreCheckable x s.growth) same led.checkable),
        ),
      ),
    )

pub stop-requires : goal.stop-requires
stop-requires g c =
    let d = c.args.deck.now in
    let b = c.args.budget in
    let s = c.run.new.self in
    let halt = c.in-Some-Halted.halt in
    let equal : b ≡ g.task.budget = c.requires.1.1.0 in
    let led = c.in_ok-ending.ensures in
    let is = c.in-Some-Halted.is ∙ ap (λ (e : Ending). Some e) c.in-Some-Halted.field-0-is in
    let halted = halted_of d (g.B.Board.state c.args.board.now) b.pivots b.nodes c.in_ok-ending.ending s (g.B.Board.state c.run.new.board) c.run.new.left led.run halt is in (
      c.known.ensures.formed,
      (
        c.requires.1.1.1.0.arcs,
        (
          subst (λ (y : Budget). IsHalted d y.pivots y.nodes s halt) equal halted,
          (
            subst (λ (o : Option Ending). IfSome o IsNoGridEnding) is led.no_grid,
            (subst (λ (y : Budget). s.solved ≤ y.nodes) equal led.within, led.checkable),
          ),
        ),
      ),
    )

pub unbounded-requires : goal.unbounded-requires
unbounded-requires g c =
    let d = c.args.deck.now in
    let b = c.args.budget in
    let s = c.run.new.self in
    let point = c.in-Some-Found.point in
    let same : d ≡ g.task.deck = c.requires.1.0 in
    let equal : b ≡ g.task.budget = c.requires.1.1.0 in
    let led = c.in_ok-ending.ensures in
    let is = c.in-Some-Found.is ∙ ap (λ (e : Ending). Some e) c.in-Some-Found.field-0-is in
    let found = found_of d (g.B.Board.state c.args.board.now) b.pivots b.nodes c.in_ok-ending.ending s (g.B.Board.state c.run.new.board) c.run.new.left led.run point is in (
      subst IsDeck same c.known.ensures.formed,
      (
        subst (λ (x : DeckValue). x.arcs ≡ []) same c.requires.1.1.1.0.arcs,
        (
          in_task d g.task.deck same b g.task.budget equal (λ (x : DeckValue) (y : Budget). IsFound x y.pivots s (plain_point point)) found,
          subst (λ (y : Budget). s.solved ≤ y.nodes) equal led.within,
        ),
      ),
    )
