-- A reset leads from each state to a state.
use Rattle.std.proofs.Common.{◌≡◌, ℕ, ◌<◌, arith, ap, ◌∙◌, refl, cond, List, [], length, Some}
use Rattle.std.specs.Prelude.{pos, nat_lt, if◌then◌else◌}
use Rattle.std.proofs.lemmas.List.Elements.{All-from_get_or}
use Rattle.um_laws.specs.Rational.{Rational, whole}
use Rattle.um_num.specs.NumberLists.{number_at}
use Rattle.um_lp.specs.Boards.{IsReset}
use Rattle.um_lp.specs.States.{State, Frame, width, slack, system, charge, data_of}
use Rattle.um_lp.specs.declared.board.At.{At}
use Rattle.um_lp.specs.declared.board.At.TheVariants.{Lower, Zero, Basic}
use Rattle.um_lp.specs.declared.board.Costs.{Costs}
use Rattle.um_lp.specs.declared.board.Costs.TheVariants.{Given}
use Rattle.um_lp.proofs.NextStates.{listed, length-listed, listed_at}
use Rattle.um_lp.proofs.Rows.{by_below}
use Rattle.um_lp.proofs.Starts.{HasSlackBasis, IsReset-start}

-- a frame without numbers: its system and given costs are those of the board
abbrev without_numbers : Frame → State
without_numbers f = record { frame = f; placed = []; costs = Given; basic = []; at = []; ends = []; entries = []; reduced = []; values = [] }

-- where a column stands: the slacks are basic, all others Lower
abbrev first_at : Frame → ℕ → At
first_at f j = if nat_lt j (length f.columns) then Lower else (if nat_lt j (slack f f.rows) then Basic else Lower)

-- the state after a reset
abbrev pub after_reset : Costs → Frame → State
after_reset taken f = record {
  frame = f;
  placed = [];
  costs = taken;
  basic = listed f.rows (slack f);
  at = listed (width f) (first_at f);
  ends = listed (width f) (λ j. (Some (pos 0), Some (pos 0)));
  entries = listed f.rows (λ i. listed (width f) (system (without_numbers f) i));
  reduced = listed (width f) (λ j. whole (charge taken (data_of (without_numbers f) j).cost));
  values = listed (width f) (λ j. whole (pos 0));
}

module _ (taken : Costs) (f : Frame) where
  abbrev t : State
  t = after_reset taken f

  pub after_reset_basis : HasSlackBasis t
  after_reset_basis = record {
    shape = record {
      basic = length-listed f.rows (slack f);
      at = length-listed (width f) (first_at f);
      ends = length-listed (width f) _;
      entries = length-listed f.rows _;
      long = All-from_get_or (λ (row : List Rational). length row ≡ width f) t.entries [] (λ i l.
          let m : i < f.rows = (let e = length-listed f.rows (λ k. listed (width f) (system (without_numbers f) k)) in omega arith) in
          ap length (listed_at f.rows (λ k. listed (width f) (system (without_numbers f) k)) i [] m) ∙ length-listed (width f) (system (without_numbers f) i));
      reduced = length-listed (width f) _;
      values = length-listed (width f) _;
    };
    basic = λ row l. listed_at f.rows (slack f) row 0 l;
    slacks = λ row l. listed_at (width f) (first_at f) (slack f row) Zero (omega arith)
        ∙ by_below (λ b. cond b Lower (cond (nat_lt (slack f row) (slack f f.rows)) Basic Lower) ≡ Basic) (slack f row) (length f.columns)
        (λ p. absurd (omega arith))
        (λ p. by_below (λ b. cond b Basic Lower ≡ Basic) (slack f row) (slack f f.rows) (λ q. refl) (λ q. absurd (omega arith)));
    before = λ column l. listed_at (width f) (first_at f) column Zero (omega arith)
        ∙ by_below (λ b. cond b Lower (cond (nat_lt column (slack f f.rows)) Basic Lower) ≡ Lower) column (length f.columns) (λ p. refl) (λ p. absurd (omega arith));
    behind = λ column l m. listed_at (width f) (first_at f) column Zero m
        ∙ by_below (λ b. cond b Lower (cond (nat_lt column (slack f f.rows)) Basic Lower) ≡ Lower) column (length f.columns)
        (λ p. absurd (omega arith))
        (λ p. by_below (λ b. cond b Basic Lower ≡ Lower) column (slack f f.rows) (λ q. absurd (omega arith)) (λ q. refl));
    ends = λ column l. listed_at (width f) _ column _ l;
    entries = λ row column l m. ap (λ (line : List Rational). number_at line column) (listed_at f.rows (λ k. listed (width f) (system (without_numbers f) k)) row [] l) ∙ listed_at (width f) (system (without_numbers f) row) column (whole (pos 0)) m;
    reduced = λ column l. listed_at (width f) _ column (whole (pos 0)) l;
    values = λ column l. listed_at (width f) _ column (whole (pos 0)) l;
  }

pub reset_leads : (taken : Costs) (s : State) → IsReset taken s (after_reset taken s.frame)
reset_leads taken s = IsReset-start taken s (after_reset taken s.frame) refl refl refl (after_reset_basis taken s.frame)
