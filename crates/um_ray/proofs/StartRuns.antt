-- What a start led to, from what its parts did.
use Rattle.std.proofs.Common.{◌≡◌, ◌∙◌, ℕ, arith, Result, Ok, Err, inr, refl, ◌≢◌, ◌⊎◌, ◌*◌, ◌^◌, ◌≤◌, sym, subst, inl}
use Rattle.std.specs.Prelude.{ℤ, pos, negsuc, zero, suc, ◌<ℤ◌, ◌≤ℤ◌, [], IfOk}
use Rattle.std.proofs.lemmas.Int.{ints}
use Rattle.um_num.specs.declared.Memory.{Memory}
use Rattle.um_model.specs.Values.{DeckValue}
use Rattle.um_model.specs.Boxes.{root}
use Rattle.um_lp.specs.Boards.{IsStart, IsBoard}
use Rattle.um_lp.specs.DualSteps.{AreSteps, IsNext, Ended, IsDualFeasible}
use Rattle.um_lp.specs.States.{State, Frame, width}
use Rattle.um_dual.specs.Used.{is_used, count_below}
use Rattle.um_dual.proofs.CountingUsed.{count_at_most}
use Rattle.um_lp.specs.declared.board.Costs.TheVariants.{Given}
use Rattle.um_duality.specs.Laws.{IsOnBox}
use Rattle.um_duality.specs.Relaxed.{StandsFor, deck_frame}
use Rattle.um_relax.specs.Reboxings.{BoxedWhole}
use Rattle.um_relax.proofs.Runs.{reboxed_stands, ready_of, run_of, same-costs-law}
use Rattle.um_ray.specs.Directions.{directions}
use Rattle.um_ray.specs.Rays.{slope}
use Rattle.um_ray.specs.Starts.{WantsOwnEnds, IsStartRun, EndedAs, StartedAs}
use Rattle.um_ray.specs.declared.starting.Started.{Started}
use Rattle.um_ray.specs.declared.starting.Started.TheVariants as started
use Rattle.um_ray.proofs.MovingEnds.{on-directions-law, same_frame, stands_moving}
use Rattle.um_ray.proofs.Values.{least-law, level-law}

pub stands_first : (d : DeckValue) (s : State) → IsStart (deck_frame d) s → StandsFor d s
stands_first d s h = record { frame = h.frame; placed = h.placed }

pub run_is : (d : DeckValue) (s m : State) (pivots : ℕ) (t : State) → BoxedWhole (directions d) (root (directions d)) s m → AreSteps pivots m t → IsBoard t → IsDualFeasible t → IsStartRun d s pivots t
run_is d s m pivots t whole steps board feasible = run_of (directions d) (root (directions d)) s pivots m t (ready_of (directions d) (root (directions d)) s m whole) steps board feasible

pub on_is : (d : DeckValue) (s m : State) (pivots : ℕ) (t : State) → d.arcs ≡ [] → IsStart (deck_frame d) s → BoxedWhole (directions d) (root (directions d)) s m → AreSteps pivots m t → IsBoard t → IsDualFeasible t
    → IsOnBox (directions d) (root (directions d)) t
on_is d s m pivots t arcs start whole steps board feasible = on-directions-law d s pivots t arcs (stands_first d s start) (run_is d s m pivots t whole steps board feasible)

-- the costs are given all along
pub given_is : (d : DeckValue) (s m : State) (pivots : ℕ) (t : State) → IsStart (deck_frame d) s → BoxedWhole (directions d) (root (directions d)) s m → AreSteps pivots m t → IsBoard t → IsDualFeasible t → t.costs ≡ Given
given_is d s m pivots t start whole steps board feasible = same-costs-law (directions d) (root (directions d)) s pivots t (run_is d s m pivots t whole steps board feasible) ∙ start.costs

-- a value that is not 0 is below 0
pub falls_of : (d : DeckValue) (t : State) → IsOnBox (directions d) (root (directions d)) t → t.costs ≡ Given → ¬ WantsOwnEnds d t → slope d t <ℤ pos 0
falls_of d t on given missing = under (slope d t) (least-law d t on given) (λ e. missing ((level-law d t on given).0 e))
  where
    under : (z : ℤ) → z ≤ℤ pos 0 → ¬ (z ≡ pos 0) → z <ℤ pos 0
    under (pos zero) le ne = absurd (ne refl)
    under (pos (suc n)) le ne = absurd (omega (arith, ints))
    under (negsuc n) le ne = omega (arith, ints)

started_at : (d : DeckValue) (s : State) (pivots left : ℕ) (t : State) (x : Started) → ¬ WantsOwnEnds d s → IsStartRun d s pivots t → IsNext t Ended → EndedAs d x t → StartedAs d s pivots left x t
started_at d s pivots left t started.Ready needed run ended h = inr (record { solved = record { needed = needed; run = run; ended = ended }; level = h })
started_at d s pivots left t (started.Ray ray) needed run ended h = (record { solved = record { needed = needed; run = run; ended = ended }; falls = h.0 }, h.1, h.2)
started_at d s pivots left t started.Large needed run ended h = (record { solved = record { needed = needed; run = run; ended = ended }; falls = h.0 }, h.1)
started_at d s pivots left t started.OutOfPivots needed run ended h = absurd h
started_at d s pivots left t (started.Wide w) needed run ended h = inr (inr (inr (record { solved = record { needed = needed; run = run; ended = ended }; refused = h })))

pub started_of : (d : DeckValue) (s : State) (pivots left : ℕ) (t : State) (r : Result Started Memory) → ¬ WantsOwnEnds d s → IsStartRun d s pivots t → IsNext t Ended → IfOk r (λ x. EndedAs d x t) → IfOk r (λ x. StartedAs d s pivots left x t)
started_of d s pivots left t (Ok x) needed run ended h = started_at d s pivots left t x needed run ended h
started_of d s pivots left t (Err m) needed run ended h = tt

-- ---- enough pivots

three_more : (i j : ℕ) → i ≤ j → 3 ^ i ≤ 3 ^ j
three_more i zero h = let none : i ≡ 0 = omega arith in subst (λ (n : ℕ). 3 ^ n ≤ 3 ^ 0) (sym none) (omega arith)
three_more i (suc j) h = elim (last_or i j h) [
  | inl e ↦ subst (λ (n : ℕ). 3 ^ n ≤ 3 ^ suc j) (sym e) (omega arith)
  | inr l ↦ (let less = three_more i j l in let next : 3 ^ suc j ≡ 3 * 3 ^ j = omega arith in omega (arith, less, next))
]
  where
    last_or : (i j : ℕ) → i ≤ suc j → (i ≡ suc j) ⊎ (i ≤ j)
    last_or i j h = grind arith

-- what is enough for the whole board is enough for the columns that are used, with other ends, too
-- the board keeps its frame where it gets the ends of the start problem
pub same_board : (d : DeckValue) (s m : State) → IsStart (deck_frame d) s → BoxedWhole (directions d) (root (directions d)) s m → m.frame ≡ s.frame
same_board d s m start whole = (reboxed_stands (directions d) (root (directions d)) (width s.frame) s m (stands_moving d s (stands_first d s start)) whole.done).frame ∙ same_frame d ∙ sym start.frame

pub enough_used : (s m : State) (left : ℕ) → m.frame ≡ s.frame → 3 ^ width s.frame ≤ left → 3 ^ count_below (width m.frame) (is_used m) ≤ left
enough_used s m left same enough =
    let few = three_more (count_below (width m.frame) (is_used m)) (width m.frame) (count_at_most (width m.frame) (is_used m)) in
    let here : 3 ^ width m.frame ≤ left = subst (λ (f : Frame). 3 ^ width f ≤ left) (sym same) enough in
    omega (arith, few, here)

-- what was read at the end is no want of pivots
pub read_in_time : (d : DeckValue) (t : State) (r : Result Started Memory) → IfOk r (λ x. EndedAs d x t) → IfOk r (λ x. x ≢ started.OutOfPivots)
read_in_time d t (Ok x) h = λ e. subst (λ (y : Started). EndedAs d y t) e h
read_in_time d t (Err m) h = tt
