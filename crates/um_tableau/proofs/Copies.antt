-- Copies of the lines of the making, and the sheet that they become.
use Rattle.std.proofs.Common.{◌≡◌, ℕ, ◌<◌, ℤ, pos, List, length, slice_index_or, arith, sym, ◌∙◌, subst, Option, Some, None}
use Rattle.std.proofs.lemmas.List.{ext_get_or}
use Rattle.std.specs.Option.{ForSome}
use Rattle.um_laws.specs.Rational.{Rational, whole, add, mul}
use Rattle.um_lp.specs.States.{Frame, width}
use Rattle.um_lp.specs.declared.board.Costs.{Costs}
use Rattle.um_lp.specs.declared.board.Costs.TheVariants.{Given, Nothing}
use Rattle.um_num.specs.NumberLists.{number_at}
use Rattle.um_num.specs.Numbers.{IsInRange}
use Rattle.um_tableau.specs.Rows.{AreSpare}
use Rattle.um_tableau.specs.Sheets.{IsSpare, AreEndsInRange}
use Rattle.um_tableau.specs.Starts.{AreCosts, AreFirstLines, AreSystemRows, AreWritten, IsSystemRow, charged}
use Rattle.um_tableau.specs.declared.lines.SpareLines.{SpareLines}
use Rattle.um_tableau.specs.declared.reset.FirstLines.{FirstLines}
use Rattle.um_tableau.specs.declared.sheet.Sheet.{Sheet}
use Rattle.um_tableau.specs.declared.sheet.Spare.{Spare}
use Rattle.um_tableau.proofs.ValueSteps.{at_rest}

-- a line and a multiple of zeros
pub copied : (own zeros out : List Rational) → length out ≡ length own → ((j : ℕ) → j < length own → number_at zeros j ≡ whole (pos 0))
    → ((j : ℕ) → j < length own → number_at out j ≡ add (number_at own j) (mul (number_at own 0) (number_at zeros j))) → out ≡ own
copied own zeros out long none value = ext_get_or (whole (pos 0)) out own long (λ j l. value j (omega arith) ∙ sym (at_rest (number_at own j) (number_at own 0) (number_at zeros j) (none j (omega arith))))

-- ---- the lines that were written
pub written_rows : (taken : Costs) (f : Frame) (first : FirstLines) (room : SpareLines) → AreFirstLines f first → AreWritten taken first room → AreSystemRows f f.rows room.rows.items
written_rows taken f first room h w = record {
  height = w.height ∙ h.rows.height;
  lines_are = λ i l. subst (λ (line : List Rational). IsSystemRow f i line) (sym (w.rows i (omega (arith, h.rows.height)))) (h.rows.lines_are i l);
}

pub charged_costs : (taken : Costs) (f : Frame) (first : FirstLines) → AreFirstLines f first → AreCosts taken f (charged taken first)
charged_costs Given f first h = h.costs
charged_costs Nothing f first h = h.zeros

pub written_costs : (taken : Costs) (f : Frame) (first : FirstLines) (room : SpareLines) → AreFirstLines f first → AreWritten taken first room → AreCosts taken f room.reduced
written_costs taken f first room h w = subst (λ (line : List Rational). AreCosts taken f line) (sym w.reduced) (charged_costs taken f first h)

-- ---- ends
zero_in : (x : ℤ) → Some (pos 0) ≡ Some x → IsInRange x
zero_in x e =
    let same : pos 0 ≡ x = cc in
    let zero : IsInRange (pos 0) = omega arith in
    subst (λ (y : ℤ). IsInRange y) same zero

-- ends of 0 are in range
pub cleared_in : (ends : List (Option ℤ × Option ℤ)) → ((j : ℕ) → j < length ends → slice_index_or ends j (None, None) ≡ (Some (pos 0), Some (pos 0))) → AreEndsInRange ends
cleared_in ends h j l = subst (λ (pair : Option ℤ × Option ℤ). ForSome pair.0 IsInRange × ForSome pair.1 IsInRange) (sym (h j l)) (zero_in, zero_in)

-- ---- the room
pub room_of : (f : Frame) (t : Sheet) (spare : Spare) → length t.entries.items ≡ f.rows → length t.reduced ≡ width f → AreSpare f.rows (width f) spare.lines → length spare.moved.items ≡ f.rows → IsSpare t spare
room_of f t spare height wide lines moved =
    record {
      lines = subst (λ (n : ℕ). AreSpare n (length t.reduced) spare.lines) (sym height) (subst (λ (n : ℕ). AreSpare f.rows n spare.lines) (sym wide) lines);
      moved = moved ∙ sym height;
    }
