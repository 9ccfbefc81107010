-- The laws of bases, pivots and resets.
use Rattle.std.specs.Prelude.{◌≡◌, ◌≢◌, ℕ, ◌<◌, pos, ◌↔◌}
use Rattle.um_laws.specs.Rational.{Rational, whole}
use Rattle.um_lp.specs.Basis.{TableauOf, Solves, pivot_entry, pivot_basic}
use Rattle.um_lp.specs.Boards.{IsBoard, IsPivot, IsReset, IsStart, AreOrdered}
use Rattle.um_lp.specs.DualSteps.{Next, IsNext}
use Rattle.um_lp.specs.States.{State, width, system, cost_of, state_ends_of, entry_of, reduced_of}
use Rattle.um_lp.specs.declared.board.At.{At}
use Rattle.um_lp.specs.declared.board.Costs.{Costs}
use Rattle.um_lp.specs.declared.board.Costs.TheVariants.{Given, Nothing}

-- A pivot leads from the tableau of a basis to that of the next.
abbrev pub PivotLaw : Type 0
PivotLaw =
    (m w n : ℕ) (row : ℕ → ℕ → Rational) (basic : ℕ → ℕ) (e : ℕ → ℕ → Rational) (r k : ℕ) → TableauOf m w n row basic e → r < m → k < w → e r k ≢ whole (pos 0)
    → TableauOf m w n row (pivot_basic basic r k) (pivot_entry e r k)

-- A basis has one table of entries.
abbrev pub OneTableauLaw : Type 0
OneTableauLaw =
    (m w n : ℕ) (row : ℕ → ℕ → Rational) (basic : ℕ → ℕ) (e d : ℕ → ℕ → Rational) → TableauOf m w n row basic e → TableauOf m w n row basic d
    → (r j : ℕ) → r < m → j < w → d r j ≡ e r j

-- The rows of entries before and after a pivot have the same solutions.
abbrev pub SameSolutionsLaw : Type 0
SameSolutionsLaw = (m w : ℕ) (e : ℕ → ℕ → Rational) (r k : ℕ) (x : ℕ → Rational) → r < m → e r k ≢ whole (pos 0) → Solves m w e x ↔ Solves m w (pivot_entry e r k) x

-- The tableau of a basis and the given rows have the same solutions.
abbrev pub TableauSolutionsLaw : Type 0
TableauSolutionsLaw = (m w n : ℕ) (row : ℕ → ℕ → Rational) (basic : ℕ → ℕ) (e : ℕ → ℕ → Rational) (x : ℕ → Rational) → TableauOf m w n row basic e → Solves m w e x ↔ Solves m w row x

-- A pivot of a state leads to one state.
abbrev pub OnePivotLaw : Type 0
OnePivotLaw = (s t u : State) (row column : ℕ) (to : At) → IsPivot row column to s t → IsPivot row column to s u → t ≡ u

-- What comes next in a state is one thing, where the low end of each column is at most its high end.
abbrev pub OneNextLaw : Type 0
OneNextLaw = (s : State) (a b : Next) → IsBoard s → ((column : ℕ) → column < width s.frame → AreOrdered (state_ends_of s column)) → IsNext s a → IsNext s b → a ≡ b

-- A reset with the given costs leads to the start, which is a board.
abbrev pub ResetStartLaw : Type 0
ResetStartLaw = (s t : State) → IsReset Given s t → IsStart s.frame t × IsBoard t

-- After a reset the entries are the rows of the system.
abbrev pub ResetRowsLaw : Type 0
ResetRowsLaw = (taken : Costs) (s t : State) → IsReset taken s t → (row column : ℕ) → row < s.frame.rows → column < width s.frame → entry_of t row column ≡ system t row column

-- And the reduced costs are the costs.
abbrev pub ResetCostsLaw : Type 0
ResetCostsLaw = (taken : Costs) (s t : State) → IsReset taken s t → (column : ℕ) → column < width s.frame → reduced_of t column ≡ cost_of t column

-- On a board that takes no costs all reduced costs are 0, whatever its basis.
abbrev pub NoCostsLaw : Type 0
NoCostsLaw = (s : State) → IsBoard s → s.costs ≡ Nothing → (column : ℕ) → column < width s.frame → reduced_of s column ≡ whole (pos 0)

-- A reset of a state leads to one state.
abbrev pub OneResetLaw : Type 0
OneResetLaw = (taken : Costs) (s t u : State) → IsReset taken s t → IsReset taken s u → t ≡ u
