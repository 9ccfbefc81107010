-- Answers as plain values: what is judged and promised, whatever room the lists of an answer have.
use Rattle.std.specs.Prelude.{ℕ, ℤ, List, map, Option, option_map}
use Rattle.um_laws.specs.Rational.{Rational}
use Rattle.um_num.specs.Listed.{Listed}
use Rattle.um_multipliers.specs.PlainMultipliers.{MultipliersValue, plain_multipliers}
use Rattle.um_model.specs.Values.{PointValue, plain_point}
use Rattle.um_model.specs.declared.answer.Answer.{Answer}
use Rattle.um_model.specs.declared.answer.AnswerKind.{AnswerKind}
use Rattle.um_model.specs.declared.answer.AnswerKind.TheVariants as kind
use Rattle.um_model.specs.declared.answer.Why.{Why}
use Rattle.um_model.specs.declared.answer.Why.TheVariants as why
use Rattle.um_model.specs.declared.branch.Branch.{Branch}
use Rattle.um_model.specs.declared.tree.Node.{Node}
use Rattle.um_model.specs.declared.tree.Solved.{Solved}
use Rattle.um_model.specs.declared.tree.What.{What}
use Rattle.um_model.specs.declared.tree.What.TheVariants as what

-- what became of a node
pub data WhatValue : Type 0 where
  -- it was divided by this branch; its left and its right tree follow
  Split : Branch → WhatValue
  -- these multipliers show that no feasible point of its box beats the answer by more than the
  -- tolerance
  Bounded : MultipliersValue → WhatValue
  -- these multipliers show that its box has no feasible point
  Empty : MultipliersValue → WhatValue
  -- the low end of this column is above its high end
  Void : ℕ → WhatValue
  -- the search stopped before it or in it; the bound of these multipliers is what is known of its
  -- box
  OpenLeaf : MultipliersValue → WhatValue

-- a node of a tree: when it was solved, if it was, and what became of it
pub record NodeValue : Type 0 where
  pub solved : Option Solved
  pub what : WhatValue

-- an answer, objective and bound as for minimising, the tolerance in thousandths, the tree's nodes
-- in preorder; `plain_answer` below takes it from the program's own type
pub record AnswerValue : Type 0 where
  pub kind : AnswerKind
  pub why : Option Why
  pub tolerance : ℤ
  pub objective : Option Rational
  pub bound : Option Rational
  pub point : Option PointValue
  pub ray : Option (List ℤ)
  pub tree : List NodeValue

-- each of the next four takes the program's type to its plain value
abbrev pub plain_what : What → WhatValue
plain_what (what.Split branch) = Split branch
plain_what (what.Bounded y) = Bounded (plain_multipliers y)
plain_what (what.Empty y) = Empty (plain_multipliers y)
plain_what (what.Void column) = Void column
plain_what (what.OpenLeaf y) = OpenLeaf (plain_multipliers y)

-- a node
abbrev pub plain_node : Node → NodeValue
plain_node n = record { solved = n.solved; what = plain_what n.what }

-- the numbers of a ray, one for each column
abbrev pub plain_ray : Listed ℤ → List ℤ
plain_ray r = r.items

-- an answer
abbrev pub plain_answer : Answer → AnswerValue
plain_answer a = record {
  kind = a.kind;
  why = a.why;
  tolerance = a.tolerance;
  objective = a.objective;
  bound = a.bound;
  point = option_map plain_point a.point;
  ray = option_map plain_ray a.ray;
  tree = map plain_node a.tree;
}

-- the kind of an answer whose search stopped for this: Limit at its budget or at a limit of its
-- grid, and Overflow where a number became too large
abbrev pub kind_of_stop : Why → AnswerKind
kind_of_stop why.Nodes = kind.Limit
kind_of_stop why.Pivots = kind.Limit
kind_of_stop (why.Points column) = kind.Limit
kind_of_stop (why.Grid number) = kind.Limit
kind_of_stop (why.Pivot number step wide) = kind.Overflow
kind_of_stop (why.Value number step wide) = kind.Overflow
kind_of_stop (why.Leaf number) = kind.Overflow
kind_of_stop (why.Vertex number) = kind.Overflow
kind_of_stop why.Ray = kind.Overflow
