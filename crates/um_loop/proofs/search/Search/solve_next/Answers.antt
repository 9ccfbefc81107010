use Rattle.std.proofs.Common.{◌≡◌, ◌≢◌, ◌∙◌, ℕ, suc, ◌+◌, ◌-◌, ◌≤◌, [], length, Option, refl, sym, subst, arith}
use Rattle.std.specs.Prelude.{IfOk}
use Rattle.um_box.specs.NodeBoxes.{NodeBoxValue}
use Rattle.um_model.specs.WellFormed.{IsDeck}
use Rattle.um_model.specs.Boxes.{IsVoid}
use Rattle.um_tree.specs.Growths.{IsOpenAt}
use Rattle.um_lp.specs.Relaxations.{frame_of}
use Rattle.um_duality.specs.Relaxed.{deck_frame}
use Rattle.um_relax.specs.Relaxations.{IsRelaxationOf}
use Rattle.um_cover.specs.Sites.{box_at}
use Rattle.um_solving.specs.RootBoxes.{IsWithinRoot}
use Rattle.um_opening.specs.Numbers.{NumberEndedAs, MayGoOn}
use Rattle.um_loop.specs.declared.search.Search.{Search}
use Rattle.um_loop.specs.declared.search.Ending.{Ending}
use Rattle.um_loop.specs.Checkables.{AreCheckable}
use Rattle.um_loop.specs.Goings.{GoesOn}
use Rattle.um_loop.specs.Steps.{EndSays, HasSettled}
use Rattle.um_loop.proofs.EndedNodes.{hand_within, hand_goes, end_says}
use Rattle.um_loop.proofs.KeptRays.{kept_parts, no_best_first}
use Rattle.um_loop.proofs.Takings.{open_at, depth_below}
use Rattle.um_loop.proofs.Goes.{solved_goes}
use Rattle.um_loop.proofs.GridStops.{stops_off_grid}
use Rattle.um_loop.proofs.Keepings.{Keeps, all_keep}
use Rattle.um_loop.proofs.Results.{ok_map}
use Rattle.um_loop.proofs.search.Search.solve_next.Given as given
use Rattle.um_loop.proofs.search.Search.solve_next.Goals as goal
use Rattle.um_loop.proofs.search.Search.solve_next.Goals.{After-keep_ray, After-settle}

-- What the call requires stands clause in clause, behind a clause on lifetimes: .1.0 is `plain`, .1.1.0 `relaxed`, and so on.

pub solve_number-requires : goal.solve_number-requires
solve_number-requires g c =
    let d = c.args.deck.now in
    let s = c.args.self.now in
    let t = c.requires.1.1.1.1.0 in
    let board = g.B.Board.state c.args.board.now in
    let box : NodeBoxValue = record { deck = d; limits = box_at d s.growth c.args.taken.node } in
    let counted = t.going.solved in
    let number : suc (length t.going.history) ≡ s.solved + 1 = omega (arith, counted) in
    let here : c.in_ok-node.node ≡ box = c.in_ok-node.ensures in
    λ lifetimes live. (
      live,
      (
        refl,
        (
          subst (λ (n : NodeBoxValue). IsDeck n.deck) (sym here) c.known.ensures.formed,
          (
            subst (λ (n : NodeBoxValue). n.deck.arcs ≡ []) (sym here) c.requires.1.0,
            (
              subst (λ (n : NodeBoxValue). IsRelaxationOf n.deck c.args.relaxation.now) (sym here) c.requires.1.1.0,
              (
                subst (λ (n : NodeBoxValue). frame_of c.args.relaxation.now ≡ deck_frame n.deck) (sym here) c.requires.1.1.1.0,
                (
                  subst (λ (n : NodeBoxValue). MayGoOn n.deck (s.solved + 1) board) (sym here) (subst (λ (k : ℕ). MayGoOn d k board) number (hand_goes d g.began.start g.began.most c.args.taken s board c.args.left.now t c.known.ensures.formed c.requires.1.0)),
                  (
                    subst (λ (n : NodeBoxValue). ¬ IsVoid n.deck n.limits) (sym here) t.waits.bounds.full,
                    subst (λ (n : NodeBoxValue). IsWithinRoot n.deck n.limits) (sym here) (hand_within d g.began.start g.began.most c.args.taken s board c.args.left.now t c.known.ensures.formed c.requires.1.0),
                  ),
                ),
              ),
            ),
          ),
        ),
      ),
    )

-- the search behind the number, before its node is settled
counted : (g : given.Over) (c : After-keep_ray g) → c.keep_ray.new.self ≡ record c.args.self.now { solved = c.args.self.now.solved + 1; ray = c.keep_ray.new.self.ray }
counted g c = c.keep_ray.ensures.same

number_is : (g : given.Over) (c : After-keep_ray g) → suc (length c.requires.1.1.1.1.0.going.history) ≡ c.args.self.now.solved + 1
number_is g c = let counted = c.requires.1.1.1.1.0.going.solved in omega (arith, counted)

-- the ray that it keeps
first : (g : given.Over) (c : After-keep_ray g) → suc (length c.requires.1.1.1.1.0.going.history) ≡ 1 → c.keep_ray.new.self.ray ≡ c.in_ok-end.field-0.ray
first g c one = c.keep_ray.ensures.first (sym (number_is g c) ∙ one)

later : (g : given.Over) (c : After-keep_ray g) → suc (length c.requires.1.1.1.1.0.going.history) ≢ 1 → c.keep_ray.new.self.ray ≡ c.args.self.now.ray
later g c other = c.keep_ray.ensures.later (λ one. other (number_is g c ∙ one))

-- how the number ended on that box, and what its numbers say
ended : (g : given.Over) (c : After-keep_ray g) → NumberEndedAs c.args.deck.now (box_at c.args.deck.now c.args.self.now.growth c.args.taken.node) (g.B.Board.state c.args.board.now) (c.args.left.now - c.solve_number.new.left) c.args.left.now (suc (length c.requires.1.1.1.1.0.going.history)) (record { end = c.in_ok-end.field-0.end; ray = c.in_ok-end.field-0.ray }) (g.B.Board.state c.solve_number.new.board)
ended g c =
    subst (λ (k : ℕ). NumberEndedAs c.args.deck.now (box_at c.args.deck.now c.args.self.now.growth c.args.taken.node) (g.B.Board.state c.args.board.now) (c.args.left.now - c.solve_number.new.left) c.args.left.now k c.in_ok-end.field-0 (g.B.Board.state c.solve_number.new.board)) (sym (number_is g c))
    (subst (λ (n : NodeBoxValue). NumberEndedAs n.deck n.limits (g.B.Board.state c.args.board.now) (c.args.left.now - c.solve_number.new.left) c.args.left.now (c.args.self.now.solved + 1) c.in_ok-end.field-0 (g.B.Board.state c.solve_number.new.board)) c.in_ok-node.ensures c.in_ok-end.ensures.ending)

says : (g : given.Over) (c : After-keep_ray g) → EndSays c.args.deck.now (box_at c.args.deck.now c.args.self.now.growth c.args.taken.node) c.keep_ray.new.self.ray c.in_ok-end.field-0.end
says g c =
    end_says c.args.deck.now g.began.start g.began.most c.args.taken c.args.self.now (g.B.Board.state c.args.board.now) c.args.left.now c.requires.1.1.1.1.0 c.known.ensures.formed c.requires.1.0 c.in_ok-end.field-0.ray c.keep_ray.new.self.ray (first g c) (later g c)
    (c.args.left.now - c.solve_number.new.left) (g.B.Board.state c.solve_number.new.board) c.in_ok-end.field-0.end (ended g c)

-- what became of the search
settled : (g : given.Over) (c : After-settle g) → IfOk c.settle.result (λ (led : Option Ending). HasSettled c.args.deck.now (box_at c.args.deck.now c.args.self.now.growth c.args.taken.node) (record c.args.self.now { solved = c.args.self.now.solved + 1; ray = c.keep_ray.new.self.ray }) c.args.taken (record { number = c.args.self.now.solved + 1; pivots = c.args.left.now - c.solve_number.new.left }) c.in_ok-end.field-0.end led c.settle.new.self)
settled g c =
    subst (λ (n : NodeBoxValue). IfOk c.settle.result (λ (led : Option Ending). HasSettled c.args.deck.now n.limits (record c.args.self.now { solved = c.args.self.now.solved + 1; ray = c.keep_ray.new.self.ray }) c.args.taken (record { number = c.args.self.now.solved + 1; pivots = c.args.left.now - c.solve_number.new.left }) c.in_ok-end.field-0.end led c.settle.new.self)) c.in_ok-node.ensures
    (subst (λ (x : Search). IfOk c.settle.result (λ (led : Option Ending). HasSettled c.args.deck.now c.in_ok-node.node.limits x c.args.taken (record { number = c.args.self.now.solved + 1; pivots = c.args.left.now - c.solve_number.new.left }) c.in_ok-end.field-0.end led c.settle.new.self)) c.keep_ray.ensures.same c.settle.ensures)

pub settle-requires-clause-depth : goal.settle-requires-clause-depth
settle-requires-clause-depth g c = depth_below c.args.deck.now g.began.start g.began.most c.args.taken c.args.self.now (g.B.Board.state c.args.board.now) c.args.left.now c.requires.1.1.1.1.0 c.requires.1.1.1.1.1.0

pub settle-requires-clause-place : goal.settle-requires-clause-place
settle-requires-clause-place g c = subst (λ (x : Search). IsOpenAt x.growth c.args.taken.node) (sym c.keep_ray.ensures.same) (open_at c.args.self.now.growth c.args.taken.node c.requires.1.1.1.1.0.waits.fresh)

pub settle-requires-clause-says : goal.settle-requires-clause-says
settle-requires-clause-says g c = subst (λ (n : NodeBoxValue). EndSays c.args.deck.now n.limits c.keep_ray.new.self.ray c.in_ok-end.field-0.end) (sym c.in_ok-node.ensures) (says g (goal.at.settle-requires-clause-says g c).After-keep_ray)

pub returns-clause-goes : goal.returns-clause-goes
returns-clause-goes g c =
    let at = goal.at.returns-clause-goes g c in
    let t = c.requires.1.1.1.1.0 in
    let left = c.args.left.now in
    let rest = c.solve_number.new.left in
    let shown = c.in_ok-end.field-0.ray in
    let kept = c.keep_ray.new.self.ray in
    let spends : rest ≤ left = c.solve_number.ensures.spends in
    let within : left - rest ≤ left = omega arith in
    let same : left - (left - rest) ≡ rest = omega (arith, spends) in
    let kept_is = kept_parts t.going.history c.args.self.now.ray shown kept t.going.ray_is (first g at.After-keep_ray) (later g at.After-keep_ray) in
    let no_old = no_best_first c.args.deck.now t.going.history c.args.self.now.ray shown kept c.args.self.now.incumbent t.going.best t.going.no_best (first g at.After-keep_ray) (later g at.After-keep_ray) in
    let goes = solved_goes c.args.deck.now g.began.start g.began.most c.args.taken c.args.self.now (g.B.Board.state c.args.board.now) left t shown kept kept_is no_old c.requires.1.1.1.1.1.0 c.requires.1.1.1.1.1.1.1 (left - rest) within (g.B.Board.state c.solve_number.new.board) c.in_ok-end.field-0.end (says g at.After-keep_ray) (ended g at.After-keep_ray) c.settle.result c.settle.new.self (settled g at.After-settle) in
    subst (λ (n : ℕ). IfOk c.settle.result (λ led. GoesOn c.args.deck.now g.began.start g.began.most c.args.self.now led c.settle.new.self (g.B.Board.state c.solve_number.new.board) n)) same goes

pub returns-clause-checkable : goal.returns-clause-checkable
returns-clause-checkable g c =
    let at = goal.at.returns-clause-checkable g c in
    let keep = all_keep c.args.deck.now (box_at c.args.deck.now c.args.self.now.growth c.args.taken.node) (record c.args.self.now { solved = c.args.self.now.solved + 1; ray = c.keep_ray.new.self.ray }) c.args.taken (record { number = c.args.self.now.solved + 1; pivots = c.args.left.now - c.solve_number.new.left }) c.in_ok-end.field-0.end c.settle.result c.settle.new.self c.requires.1.1.1.1.0.waits.fresh.inside (says g at.After-keep_ray) c.requires.1.1.1.1.1.1.0 (settled g at.After-settle) in
    ok_map (λ (led : Option Ending). Keeps c.args.deck.now (record c.args.self.now { solved = c.args.self.now.solved + 1; ray = c.keep_ray.new.self.ray }) c.settle.new.self) (λ (led : Option Ending). AreCheckable c.args.deck.now c.settle.new.self.growth) c.settle.result (λ led h. h.0) keep

pub returns-clause-solved : goal.returns-clause-solved
returns-clause-solved g c =
    let at = goal.at.returns-clause-solved g c in
    let keep = all_keep c.args.deck.now (box_at c.args.deck.now c.args.self.now.growth c.args.taken.node) (record c.args.self.now { solved = c.args.self.now.solved + 1; ray = c.keep_ray.new.self.ray }) c.args.taken (record { number = c.args.self.now.solved + 1; pivots = c.args.left.now - c.solve_number.new.left }) c.in_ok-end.field-0.end c.settle.result c.settle.new.self c.requires.1.1.1.1.0.waits.fresh.inside (says g at.After-keep_ray) c.requires.1.1.1.1.1.1.0 (settled g at.After-settle) in
    ok_map (λ (led : Option Ending). Keeps c.args.deck.now (record c.args.self.now { solved = c.args.self.now.solved + 1; ray = c.keep_ray.new.self.ray }) c.settle.new.self) (λ (led : Option Ending). c.settle.new.self.solved ≡ c.args.self.now.solved + 1) c.settle.result (λ led h. h.1) keep

pub returns-clause-no_grid : goal.returns-clause-no_grid
returns-clause-no_grid g c =
    let at = goal.at.returns-clause-no_grid g c in
    stops_off_grid c.args.deck.now (box_at c.args.deck.now c.args.self.now.growth c.args.taken.node) (record c.args.self.now { solved = c.args.self.now.solved + 1; ray = c.keep_ray.new.self.ray }) c.args.taken (record { number = c.args.self.now.solved + 1; pivots = c.args.left.now - c.solve_number.new.left }) (g.B.Board.state c.args.board.now) (c.args.left.now - c.solve_number.new.left) c.args.left.now (suc (length c.requires.1.1.1.1.0.going.history)) c.in_ok-end.field-0.ray (g.B.Board.state c.solve_number.new.board) c.settle.new.self c.in_ok-end.field-0.end c.settle.result (says g at.After-keep_ray) (ended g at.After-keep_ray) (settled g at.After-settle)
