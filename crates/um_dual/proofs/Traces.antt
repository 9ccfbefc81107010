-- The states of a run, last first, with one frame, one list of grid points, one list of costs and one list of ends.
use Rattle.std.proofs.Common.{◌≡◌, ℕ, ◌<◌, arith, sym, ◌∙◌, subst, refl}
use Rattle.std.specs.Prelude.{zero, suc}
use Rattle.um_lp.specs.Boards.{IsBoard, IsPivot, SameRows}
use Rattle.um_lp.specs.DualSteps.{IsStep, IsNext, Pivot, AreSteps, IsDualFeasible}
use Rattle.um_lp.specs.declared.board.At.{At}
use Rattle.um_lp.specs.declared.board.At.TheVariants.{Zero}
use Rattle.um_lp.specs.States.{State}
use Rattle.um_dual.proofs.Feasible.{step_feasible}

-- what holds of each state of a run from s
pub record Fine (s t : State) : Type 0 where
  pub same : SameRows s t
  pub ends : t.ends ≡ s.ends
  pub board : IsBoard t
  pub feasible : IsDualFeasible t

pub fine_start : (s : State) → IsBoard s → IsDualFeasible s → Fine s s
fine_start s b f = record { same = record { frame = refl; placed = refl; costs = refl }; ends = refl; board = b; feasible = f }

fine_step : (s a b : State) → Fine s a → IsStep a b → Fine s b
fine_step s a b f p = record {
  same = record { frame = p.pivot.same.frame ∙ f.same.frame; placed = p.pivot.same.placed ∙ f.same.placed; costs = p.pivot.same.costs ∙ f.same.costs };
  ends = p.pivot.ends ∙ f.ends;
  board = p.pivot.board;
  feasible = step_feasible a b p.row p.column p.to f.board f.feasible p.next p.pivot;
}

-- the states of a run, last first
abbrev pub trace : (n : ℕ) (s t : State) → AreSteps n s t → ℕ → State
trace zero s t h k = t
trace (suc n) s t h zero = t
trace (suc n) s t h (suc k) = trace n s h.0 h.1 k

pub trace_first : (n : ℕ) (s t : State) (h : AreSteps n s t) → trace n s t h 0 ≡ t
trace_first zero s t h = refl
trace_first (suc n) s t h = refl

pub trace_last : (n : ℕ) (s t : State) (h : AreSteps n s t) → trace n s t h n ≡ s
trace_last zero s t h = h
trace_last (suc n) s t h = trace_last n s h.0 h.1

-- the row, the column and the end of each step
abbrev pub trace_row : (n : ℕ) (s t : State) → AreSteps n s t → ℕ → ℕ
trace_row zero s t h k = 0
trace_row (suc n) s t h zero = h.2.row
trace_row (suc n) s t h (suc k) = trace_row n s h.0 h.1 k

abbrev pub trace_column : (n : ℕ) (s t : State) → AreSteps n s t → ℕ → ℕ
trace_column zero s t h k = 0
trace_column (suc n) s t h zero = h.2.column
trace_column (suc n) s t h (suc k) = trace_column n s h.0 h.1 k

abbrev pub trace_to : (n : ℕ) (s t : State) → AreSteps n s t → ℕ → At
trace_to zero s t h k = Zero
trace_to (suc n) s t h zero = h.2.to
trace_to (suc n) s t h (suc k) = trace_to n s h.0 h.1 k

pub trace_next : (n : ℕ) (s t : State) (h : AreSteps n s t) (k : ℕ) → k < n → IsNext (trace n s t h (suc k)) (Pivot (trace_row n s t h k) (trace_column n s t h k) (trace_to n s t h k))
trace_next zero s t h k l = absurd (omega arith)
trace_next (suc n) s t h zero l = subst (λ (x : State). IsNext x (Pivot h.2.row h.2.column h.2.to)) (sym (trace_first n s h.0 h.1)) h.2.next
trace_next (suc n) s t h (suc k) l = trace_next n s h.0 h.1 k (omega arith)

pub trace_pivot : (n : ℕ) (s t : State) (h : AreSteps n s t) (k : ℕ) → k < n → IsPivot (trace_row n s t h k) (trace_column n s t h k) (trace_to n s t h k) (trace n s t h (suc k)) (trace n s t h k)
trace_pivot zero s t h k l = absurd (omega arith)
trace_pivot (suc n) s t h zero l = subst (λ (x : State). IsPivot h.2.row h.2.column h.2.to x t) (sym (trace_first n s h.0 h.1)) h.2.pivot
trace_pivot (suc n) s t h (suc k) l = trace_pivot n s h.0 h.1 k (omega arith)

pub trace_fine : (n : ℕ) (s t : State) (h : AreSteps n s t) → Fine s s → (k : ℕ) → Fine s (trace n s t h k)
trace_fine zero s t h f k = subst (λ (x : State). Fine s x) (sym h) f
trace_fine (suc n) s t h f zero = fine_step s h.0 t (subst (λ (x : State). Fine s x) (trace_first n s h.0 h.1) (trace_fine n s h.0 h.1 f 0)) h.2
trace_fine (suc n) s t h f (suc k) = trace_fine n s h.0 h.1 f k

-- t with what s keeps from its making and its ends
abbrev pub norm : State → State → State
norm s t = record t { frame = s.frame; placed = s.placed; costs = s.costs; ends = s.ends }

norm_is : (s t : State) → Fine s t → t ≡ norm s t
norm_is s t f = λ i. record t { frame = f.same.frame i; placed = f.same.placed i; costs = f.same.costs i; ends = f.ends i }

-- a run of n steps, last state first, over the frame of s
pub record Run (s : State) (n : ℕ) (st : ℕ → State) : Type 0 where
  pub row : ℕ → ℕ
  pub column : ℕ → ℕ
  pub to : ℕ → At
  pub board : (k : ℕ) → IsBoard (norm s (st k))
  pub feasible : (k : ℕ) → IsDualFeasible (norm s (st k))
  pub next : (k : ℕ) → k < n → IsNext (norm s (st (suc k))) (Pivot (row k) (column k) (to k))
  pub pivot : (k : ℕ) → k < n → IsPivot (row k) (column k) (to k) (norm s (st (suc k))) (norm s (st k))

pub run_of : (n : ℕ) (s t : State) (h : AreSteps n s t) → IsBoard s → IsDualFeasible s → Run s n (trace n s t h)
run_of n s t h b f =
    let fine : (k : ℕ) → Fine s (trace n s t h k) = trace_fine n s t h (fine_start s b f) in
    let is : (k : ℕ) → trace n s t h k ≡ norm s (trace n s t h k) = λ k. norm_is s (trace n s t h k) (fine k) in
    record {
      row = trace_row n s t h;
      column = trace_column n s t h;
      to = trace_to n s t h;
      board = λ k. subst (λ (x : State). IsBoard x) (is k) (fine k).board;
      feasible = λ k. subst (λ (x : State). IsDualFeasible x) (is k) (fine k).feasible;
      next = λ k l. subst (λ (x : State). IsNext x (Pivot (trace_row n s t h k) (trace_column n s t h k) (trace_to n s t h k))) (is (suc k)) (trace_next n s t h k l);
      pivot = λ k l.
          subst (λ (x : State). IsPivot (trace_row n s t h k) (trace_column n s t h k) (trace_to n s t h k) x (norm s (trace n s t h k))) (is (suc k))
          (subst (λ (x : State). IsPivot (trace_row n s t h k) (trace_column n s t h k) (trace_to n s t h k) (trace n s t h (suc k)) x) (is k) (trace_pivot n s t h k l));
    }
