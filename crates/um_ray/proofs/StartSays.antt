-- What the answer of a start says of the deck.
use Rattle.std.proofs.Common.{◌≡◌, ◌∙◌, ℕ, inl, inr, [], sym, subst}
use Rattle.um_model.specs.Values.{DeckValue}
use Rattle.um_model.specs.Boxes.{root}
use Rattle.um_model.specs.Rays.{Ray}
use Rattle.um_lp.specs.Boards.{IsStart}
use Rattle.um_lp.specs.States.{State}
use Rattle.um_lp.specs.declared.board.Costs.TheVariants.{Given}
use Rattle.um_duality.specs.Laws.{IsOnBox}
use Rattle.um_duality.specs.Relaxed.{deck_frame}
use Rattle.um_relax.proofs.Runs.{same-costs-law}
use Rattle.um_ray.specs.Directions.{directions}
use Rattle.um_ray.specs.Laws.{StartedReadyLaw, StartedRayLaw, StartedLargeLaw}
use Rattle.um_ray.specs.Rays.{direction}
use Rattle.um_ray.specs.Starts.{WantsOwnEnds, IsStartRun, IsReadyAfter, HasRay}
use Rattle.um_ray.proofs.MovingEnds.{on-directions-law}
use Rattle.um_ray.proofs.Rays.{ray-law}
use Rattle.um_ray.proofs.StartRuns.{stands_first}
use Rattle.um_ray.proofs.Values.{level-law}

-- ---- the board behind a run of the start problem
module _ (d : DeckValue) (s : State) (start : IsStart (deck_frame d) s) (pivots : ℕ) (t : State) (run : IsStartRun d s pivots t) where
  pub run_on : d.arcs ≡ [] → IsOnBox (directions d) (root (directions d)) t
  run_on arcs = on-directions-law d s pivots t arcs (stands_first d s start) run

  pub run_given : t.costs ≡ Given
  run_given = same-costs-law (directions d) (root (directions d)) s pivots t run ∙ start.costs

-- ---- what it says
after_wants : (d : DeckValue) (s : State) (pivots : ℕ) (t : State) → d.arcs ≡ [] → IsStart (deck_frame d) s → IsReadyAfter d s pivots t → WantsOwnEnds d t
after_wants d s pivots t arcs start h = (level-law d t (run_on d s start pivots t h.solved.run arcs) (run_given d s start pivots t h.solved.run)).0 h.level

pub is_ray : (d : DeckValue) (s : State) (pivots : ℕ) (t : State) → d.arcs ≡ [] → IsStart (deck_frame d) s → HasRay d s pivots t → Ray d (direction t)
is_ray d s pivots t arcs start h = ray-law d t (run_on d s start pivots t h.solved.run arcs) h.solved.ended h.falls

-- ---- the laws
pub started-ready-law : StartedReadyLaw
started-ready-law d s pivots left t arcs start (inl h) = subst (WantsOwnEnds d) (sym h.same) h.wants
started-ready-law d s pivots left t arcs start (inr h) = after_wants d s pivots t arcs start h

pub started-ray-law : StartedRayLaw
started-ray-law d s pivots left ray t arcs start h = subst (Ray d) (sym h.1) (is_ray d s pivots t arcs start h.0)

pub started-large-law : StartedLargeLaw
started-large-law d s pivots left t arcs start h = is_ray d s pivots t arcs start h.0
