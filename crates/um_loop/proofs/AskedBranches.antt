-- The branch that a point of a box asks for fits the box.
use Rattle.std.proofs.Common.{Option, Some, None}
use Rattle.std.specs.Prelude.{IfSome}
use Rattle.um_model.specs.Values.{DeckValue, PointValue}
use Rattle.um_model.specs.WellFormed.{IsDeck}
use Rattle.um_model.specs.Boxes.{BoxValue}
use Rattle.um_model.specs.Branches.{Fits}
use Rattle.um_model.specs.declared.branch.Branch.{Branch}
use Rattle.um_split.specs.Branchings.{IsBranchOf}
use Rattle.um_split.specs.Laws.{IsPointOf}
use Rattle.um_split.proofs.ChildBoxes.{branching-law}

pub asked_fits : (d : DeckValue) (b : BoxValue) (p : PointValue) (asked : Option Branch) → IsDeck d → IsPointOf d b p → IfSome asked (IsBranchOf d p) → IfSome asked (Fits d b)
asked_fits d b p None formed point is = tt
asked_fits d b p (Some branch) formed point is = (branching-law d b p branch formed point is).fits
