-- What a board keeps of its state, as facts that have one proof at most.
use Rattle.std.specs.Prelude.{◌≡◌, ◌≢◌, ℕ, ◌<◌, List, [], length, slice_index_or}
use Rattle.std.proofs.lemmas.List.Elements.{All-from_get_or, All-get_or}
use Rattle.um_laws.specs.Rational.{Rational}
use Rattle.um_lp.specs.Basis.{TableauOf}
use Rattle.um_lp.specs.Boards.{IsReducedCost, AreValues, IsBoard}
use Rattle.um_lp.specs.States.{State, width, system, basic_of, at_of, entry_of}
use Rattle.um_lp.specs.declared.board.At.TheVariants.{Basic}
use Rattle.um_lp.proofs.Rows.{row_with}
use Rattle.std.proofs.Common.{inl, inr}

-- a board, but that of a basic column it says only that some row has it
pub record Stands (s : State) : Type 0 where
  pub basic : length s.basic ≡ s.frame.rows
  pub at : length s.at ≡ width s.frame
  pub ends : length s.ends ≡ width s.frame
  pub entries : length s.entries ≡ s.frame.rows
  pub long : (i : ℕ) → i < length s.entries → length (slice_index_or s.entries i []) ≡ width s.frame
  pub reduced : length s.reduced ≡ width s.frame
  pub values : length s.values ≡ width s.frame
  pub named : (row : ℕ) → row < s.frame.rows → at_of s (basic_of s row) ≡ Basic
  pub found : (column : ℕ) → column < width s.frame → at_of s column ≡ Basic → ¬ ((row : ℕ) → row < s.frame.rows → basic_of s row ≢ column)
  pub tableau : TableauOf s.frame.rows (width s.frame) (length s.frame.columns) (system s) (basic_of s) (entry_of s)
  pub reduced_costs : (column : ℕ) → column < width s.frame → IsReducedCost s column
  pub values_are : AreValues s

pub board_of : (s : State) → Stands s → IsBoard s
board_of s h = record {
  shape = record { basic = h.basic; at = h.at; ends = h.ends; entries = h.entries; long = All-from_get_or (λ (row : List Rational). length row ≡ width s.frame) s.entries [] h.long; reduced = h.reduced; values = h.values };
  basis = record { named = h.named; found = λ column l e. elim (row_with s.frame.rows (basic_of s) column) [ inl row ↦ row | inr none ↦ absurd (h.found column l e none) ] };
  tableau = h.tableau;
  reduced = h.reduced_costs;
  values = h.values_are;
}
