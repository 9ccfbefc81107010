use Rattle.std.proofs.Common.{◌∙◌}
use Rattle.um_box.specs.Paths.{root_box}
use Rattle.std.proofs.Common.{length}
use Rattle.um_box.proofs.PathSteps.{entered_along, left_along}
use Rattle.um_box.proofs.laws.path_law.Goals as goal

pub returns : goal.returns
returns c = λ d path boxes undos are. record {
  there = entered_along (root_box d) path boxes are.start are.child;
  back = left_along boxes undos (length path) are.undo ∙ are.start;
}
