-- The sheet of the slack basis.
use Rattle.std.proofs.Common.{◌≡◌, ℕ, ◌<◌, pos, List, [], length, slice_index_or, arith, Some, None}
use Rattle.std.proofs.lemmas.List.Elements.{All-from_get_or}
use Rattle.um_laws.specs.Rational.{Rational, whole}
use Rattle.um_num.specs.NumberLists.{number_at}
use Rattle.um_lp.specs.States.{Frame, width}
use Rattle.um_lp.proofs.Starts.{HasSlackBasis}
use Rattle.um_tableau.specs.Sheets.{state_of}
use Rattle.um_tableau.specs.Starts.{AreSlacks, AreFirstStatuses, AreSystemRows, AreCosts}
use Rattle.um_tableau.specs.declared.sheet.Sheet.{Sheet}

-- the parts of the sheet
pub record AreFirstParts (f : Frame) (sheet : Sheet) : Type 0 where
  pub basic : AreSlacks f sheet.basic.items
  pub at : AreFirstStatuses f sheet.at.items
  pub ends_long : length sheet.ends.items ≡ width f
  pub ends : (j : ℕ) → j < width f → slice_index_or sheet.ends.items j (None, None) ≡ (Some (pos 0), Some (pos 0))
  pub entries : AreSystemRows f f.rows sheet.entries.items
  pub reduced : AreCosts sheet.costs f sheet.reduced
  pub values_long : length sheet.values.items ≡ width f
  pub values : (j : ℕ) → j < width f → number_at sheet.values.items j ≡ whole (pos 0)

pub first_basis : (f : Frame) (sheet : Sheet) → AreFirstParts f sheet → HasSlackBasis (state_of f sheet)
first_basis f sheet h = record {
  shape = record {
    basic = h.basic.height;
    at = h.at.long;
    ends = h.ends_long;
    entries = h.entries.height;
    long = All-from_get_or (λ (x : List Rational). length x ≡ width f) sheet.entries.items [] (λ i l. (h.entries.lines_are i (omega (arith, h.entries.height))).long);
    reduced = h.reduced.long;
    values = h.values_long;
  };
  basic = h.basic.slacks;
  slacks = h.at.slacks;
  before = h.at.before;
  behind = h.at.behind;
  ends = h.ends;
  entries = λ i j l m. (h.entries.lines_are i l).numbers j m;
  reduced = h.reduced.numbers;
  values = h.values;
}
