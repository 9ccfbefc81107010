-- The tree that a search begins with, and the answers that follow from it.
use Rattle.std.specs.Prelude.{ℤ, List, [], ◌∷◌, Option, Some, None}
use Rattle.um_laws.specs.Rational.{Rational}
use Rattle.um_model.specs.Values.{plain_point}
use Rattle.um_model.specs.AnswerValues.{AnswerValue, NodeValue, OpenLeaf}
use Rattle.um_model.specs.declared.answer.AnswerKind.TheVariants.{Optimal, Infeasible as HasNone}
use Rattle.um_model.specs.declared.answer.AnswerKind.{AnswerKind}
use Rattle.um_model.specs.declared.answer.Why.{Why}
use Rattle.um_multipliers.specs.PlainMultipliers.{MultipliersValue}
use Rattle.um_tree.specs.Growths.{GrowthValue}
use Rattle.um_progress.specs.declared.incumbent.Incumbent.{Incumbent}
use Rattle.um_progress.specs.Incumbents.{objective_of, point_of}

-- the root, open with these multipliers
abbrev pub rooted : MultipliersValue → GrowthValue
rooted y = record { origins = None ∷ []; nodes = record { solved = None; what = OpenLeaf y } ∷ [] }

-- where nothing waits, the best point is optimal, with the least bound of the nodes that were closed
abbrev pub optimal : ℤ → Incumbent → Rational → List NodeValue → AnswerValue
optimal tolerance i least tree = record { kind = Optimal; why = None; tolerance = tolerance; objective = Some i.objective; bound = Some least; point = Some (plain_point i.point); ray = None; tree = tree }

-- where nothing waits and no point was found, there is none
abbrev pub infeasible : ℤ → List NodeValue → AnswerValue
infeasible tolerance tree = record { kind = HasNone; why = None; tolerance = tolerance; objective = None; bound = None; point = None; ray = None; tree = tree }

-- where the search stopped, the best point so far with the bound of all nodes
abbrev pub stopped : AnswerKind → Why → ℤ → Option Incumbent → Option Rational → List NodeValue → AnswerValue
stopped kind why tolerance incumbent bound tree = record { kind = kind; why = Some why; tolerance = tolerance; objective = objective_of incumbent; bound = bound; point = point_of incumbent; ray = None; tree = tree }
