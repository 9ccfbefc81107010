-- The board on which the node of a number is begun.
use Rattle.std.proofs.Common.{◌≡◌, ◌∙◌, ℕ, inl, inr, [], List, Option, sym, ap, subst}
use Rattle.std.specs.Prelude.{ℤ}
use Rattle.um_model.specs.Values.{DeckValue}
use Rattle.um_model.specs.Boxes.{root}
use Rattle.um_model.specs.Rays.{Ray}
use Rattle.um_lp.specs.States.{State}
use Rattle.um_lp.specs.Boards.{IsStart, IsBoard}
use Rattle.um_lp.specs.declared.board.Costs.TheVariants.{Given}
use Rattle.um_duality.specs.Relaxed.{StandsFor, deck_frame}
use Rattle.um_solving.specs.Laws.{MayBegin}
use Rattle.um_solving.proofs.Goings.{no-costs-begin-law}
use Rattle.um_relax.proofs.Runs.{run_stands}
use Rattle.um_ray.specs.Directions.{directions}
use Rattle.um_ray.specs.Starts.{IsStartRun, IsReadyAfter}
use Rattle.um_ray.proofs.MovingEnds.{stands_moving, stands_on_deck}
use Rattle.um_ray.proofs.StartRuns.{stands_first}
use Rattle.um_ray.proofs.StartSays.{run_given, is_ray, started-ready-law}
use Rattle.um_opening.specs.Openings.{IsOpenWithCosts, IsOpenWithout}
use Rattle.um_opening.specs.Numbers.{Begins, Onward, WithCosts, WithoutCosts}
use Rattle.um_opening.specs.Laws.{BegunLaw, BegunCostsLaw, BegunWithoutLaw, ShownRayLaw}

-- ---- the board after the start problem
run_keeps : (d : DeckValue) (s : State) (pivots : ℕ) (t : State) → StandsFor d s → IsStartRun d s pivots t → StandsFor d t
run_keeps d s pivots t stands run = stands_on_deck d t (run_stands (directions d) (root (directions d)) s pivots t (stands_moving d s stands) run)

after_start : (d : DeckValue) (s : State) (pivots : ℕ) (t : State) → d.arcs ≡ [] → IsStart (deck_frame d) s → IsReadyAfter d s pivots t → MayBegin d t
after_start d s pivots t arcs start h = record {
  board = h.solved.run.board;
  stands = run_keeps d s pivots t (stands_first d s start) h.solved.run;
  wants = started-ready-law d s pivots 0 t arcs start (inr h);
}

pub open_begins : (d : DeckValue) (s : State) (pivots : ℕ) (t : State) → d.arcs ≡ [] → IsStart (deck_frame d) s → IsBoard s → IsOpenWithCosts d s pivots t → MayBegin d t
open_begins d s pivots t arcs start board (inl h) = subst (MayBegin d) (sym h.same) (record { board = board; stands = stands_first d s start; wants = h.wants })
open_begins d s pivots t arcs start board (inr h) = after_start d s pivots t arcs start h

open_given : (d : DeckValue) (s : State) (pivots : ℕ) (t : State) → IsStart (deck_frame d) s → IsOpenWithCosts d s pivots t → t.costs ≡ Given
open_given d s pivots t start (inl h) = ap (λ (x : State). x.costs) h.same ∙ start.costs
open_given d s pivots t start (inr h) = run_given d s start pivots t h.solved.run

without_begins : (d : DeckValue) (s : State) (pivots : ℕ) (ray : List ℤ) (t : State) → IsStart (deck_frame d) s → IsOpenWithout d s pivots ray t → MayBegin d t
without_begins d s pivots ray t start h =
    let shown : StandsFor d h.shows.shown = run_keeps d s pivots h.shows.shown (stands_first d s start) h.shows.found.solved.run in
    no-costs-begin-law d t h.reset.board (record { frame = h.reset.frame ∙ shown.frame; placed = h.reset.placed }) h.reset.costs

-- a board that stands for the deck does so where the node of a number is begun
pub begun_stands : (d : DeckValue) (number : ℕ) (before : State) (early : ℕ) (ray : Option (List ℤ)) (begun : State) → StandsFor d before → Begins d number before early ray begun → StandsFor d begun
begun_stands d number before early ray begun stands (Onward later none_early no_ray same) = subst (StandsFor d) (sym same) stands
begun_stands d number before early ray begun stands (WithCosts first no_ray (inl h)) = subst (StandsFor d) (sym h.same) stands
begun_stands d number before early ray begun stands (WithCosts first no_ray (inr h)) = run_keeps d before early begun stands h.solved.run
begun_stands d number before early ray begun stands (WithoutCosts first shown is h) =
    let on = run_keeps d before early h.shows.shown stands h.shows.found.solved.run in
    record { frame = h.reset.frame ∙ on.frame; placed = h.reset.placed }

-- ---- the laws
pub begun-law : BegunLaw
begun-law d number before early ray begun arcs may (Onward later none_early no_ray same) = subst (MayBegin d) (sym same) (may.later later)
begun-law d number before early ray begun arcs may (WithCosts first no_ray h) = open_begins d before early begun arcs (may.first first) may.board h
begun-law d number before early ray begun arcs may (WithoutCosts first shown is h) = without_begins d before early shown begun (may.first first) h

pub begun-costs-law : BegunCostsLaw
begun-costs-law d number before early begun arcs may (Onward later none_early no_ray same) given = ap (λ (x : State). x.costs) same ∙ given later
begun-costs-law d number before early begun arcs may (WithCosts first no_ray h) given = open_given d before early begun (may.first first) h
begun-costs-law d number before early begun arcs may (WithoutCosts first shown is h) given = absurd (cc)

pub begun-without-law : BegunWithoutLaw
begun-without-law d number before early shown begun (Onward later none_early no_ray same) = absurd (cc)
begun-without-law d number before early shown begun (WithCosts first no_ray h) = absurd (cc)
begun-without-law d number before early shown begun (WithoutCosts first ray is h) = h.reset.costs

pub shown-ray-law : ShownRayLaw
shown-ray-law d s pivots ray formed arcs start board h = subst (Ray d) (sym h.ray_is) (is_ray d s pivots h.shown arcs start h.found)
