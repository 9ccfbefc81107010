-- The average split cuts the point off.
use Rattle.std.proofs.Common.{ℕ}
use Rattle.std.specs.Prelude.{Option, None, Some, IfSome}
use Rattle.um_model.specs.Values.{DeckValue, PointValue}
use Rattle.um_model.specs.WellFormed.{IsDeck}
use Rattle.um_model.specs.Boxes.{BoxValue, InBox}
use Rattle.um_model.specs.Branches.{child, left, right}
use Rattle.um_model.specs.AverageSplit.{IsAverageSplit}
use Rattle.um_model.specs.declared.branch.Branch.{Branch}
use Rattle.um_model.specs.declared.branch.Side.{Side}
use Rattle.um_model.specs.declared.branch.Side.TheVariants.{Left, Right}
use Rattle.um_soundness.proofs.Exclusion.{exclusion-law}
use Rattle.um_split.specs.Intervals.{KeepsInterval}
use Rattle.um_split.specs.Laws.{SplitLaw, CutsOff}

on_each_side : (d : DeckValue) (b : BoxValue) (p : PointValue) (branch : Branch) → ¬ InBox d (left d b branch) p → ¬ InBox d (right d b branch) p → (side : Side) → ¬ InBox d (child d b branch side) p
on_each_side d b p branch on_left on_right Left = on_left
on_each_side d b p branch on_left on_right Right = on_right

pub split-law : SplitLaw
split-law d b set p branch formed keeps split =
    let cut = exclusion-law d b set split.chosen p branch formed split.place (keeps.up split.chosen split.place) (keeps.outside split.chosen split.place) split in
    record { fits = cut.0; outside = on_each_side d b p branch cut.1 cut.2 }

-- where there is a split
pub cut_off : (d : DeckValue) (b : BoxValue) (set : ℕ) (p : PointValue) (result : Option Branch) → IsDeck d → KeepsInterval d b set p → IfSome result (IsAverageSplit d set p) → IfSome result (CutsOff d b p)
cut_off d b set p None formed keeps h = _
cut_off d b set p (Some branch) formed keeps h = split-law d b set p branch formed keeps h
