-- The columns of a board that can enter.
use Rattle.std.specs.Prelude.{ℕ, zero, suc, nat_lt, Bool, true, false, ◌||◌, if◌then◌else◌, List, [], ◌∷◌}
use Rattle.um_lp.specs.States.{State, slack, data_of}
use Rattle.um_lp.specs.declared.relaxation.Term.{Term}

abbrev pub has_terms : List Term → Bool
has_terms [] = false
has_terms (term ∷ terms) = true

-- a column of the relaxation, a slack, or a place that has a grid point with terms
abbrev pub is_used : State → ℕ → Bool
is_used s column = nat_lt column (slack s.frame s.frame.rows) || has_terms (data_of s column).terms

-- how many numbers below w pass a test
abbrev pub count_below : ℕ → (ℕ → Bool) → ℕ
count_below zero test = 0
count_below (suc w) test = if test w then suc (count_below w test) else count_below w test
