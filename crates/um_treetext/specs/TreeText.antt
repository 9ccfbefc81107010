-- The text of a tree: which lines of which words an answer is written as, for a deck.
use Rattle.std.specs.Prelude.{ℕ, ℤ, List, [], ◌∷◌, ◌++◌, map, length, Option, Some, None, codes, decimal}
use Rattle.std.specs.Fmt.{signed_decimal}
use Rattle.um_num.specs.declared.exact.Op.{Op}
use Rattle.um_num.specs.declared.exact.Op.TheVariants.{Add, Sub, Mul}
use Rattle.um_num.specs.declared.exact.Wide.{Wide}
use Rattle.um_text.specs.NumberWords.{fraction_or_none}
use Rattle.um_text.specs.Texts.{lines_text}
use Rattle.um_multipliers.specs.PlainMultipliers.{MultipliersValue}
use Rattle.um_multipliers.specs.declared.multipliers.Price.{Price}
use Rattle.um_model.specs.Values.{DeckValue, PointValue}
use Rattle.um_model.specs.declared.answer.AnswerKind.{AnswerKind}
use Rattle.um_model.specs.declared.answer.AnswerKind.TheVariants as kind
use Rattle.um_model.specs.declared.answer.Why.{Why}
use Rattle.um_model.specs.declared.answer.Why.TheVariants as why
use Rattle.um_model.specs.declared.branch.Branch.{Branch}
use Rattle.um_model.specs.declared.branch.Branch.TheVariants as branch
use Rattle.um_model.specs.declared.tree.Solved.{Solved}
use Rattle.um_model.specs.AnswerValues.{AnswerValue, NodeValue, WhatValue}
use Rattle.um_model.specs.AnswerValues.{Split, Bounded, Empty, Void, OpenLeaf}

-- ---- points and rays

abbrev pub point_words : Option PointValue → List (List ℕ)
point_words None = codes "none" ∷ []
point_words (Some p) = signed_decimal p.den ∷ map signed_decimal p.parts

abbrev pub ray_words : Option (List ℤ) → List (List ℕ)
ray_words None = codes "none" ∷ []
ray_words (Some parts) = map signed_decimal parts

-- ---- the parts of an answer

-- a deck without a name has `-` in its place
abbrev pub name_word : List ℕ → List ℕ
name_word [] = codes "-"
name_word (byte ∷ bytes) = byte ∷ bytes

abbrev pub kind_word : AnswerKind → List ℕ
kind_word kind.Optimal = codes "optimal"
kind_word kind.Infeasible = codes "infeasible"
kind_word kind.Unbounded = codes "unbounded"
kind_word kind.Limit = codes "limit"
kind_word kind.Overflow = codes "overflow"

abbrev pub op_word : Op → List ℕ
op_word Add = codes "add"
op_word Sub = codes "sub"
op_word Mul = codes "mul"

-- the node's number, the step, and the operation that left the range
abbrev pub step_words : ℕ → ℕ → Wide → List (List ℕ)
step_words number step wide = decimal number ∷ decimal step ∷ op_word wide.op ∷ signed_decimal wide.left ∷ signed_decimal wide.right ∷ []

-- the first word of a cause, which the report says too
abbrev pub cause_word : Option Why → List ℕ
cause_word None = codes "none"
cause_word (Some why.Nodes) = codes "nodes"
cause_word (Some why.Pivots) = codes "pivots"
cause_word (Some (why.Points column)) = codes "points"
cause_word (Some (why.Grid number)) = codes "grid"
cause_word (Some (why.Pivot number step wide)) = codes "pivot"
cause_word (Some (why.Value number step wide)) = codes "value"
cause_word (Some (why.Leaf number)) = codes "leaf"
cause_word (Some (why.Vertex number)) = codes "vertex"
cause_word (Some why.Ray) = codes "ray"

-- where it was: a column, a node, or a step of a node
abbrev pub place_words : Option Why → List (List ℕ)
place_words (Some (why.Points column)) = decimal column ∷ []
place_words (Some (why.Grid number)) = decimal number ∷ []
place_words (Some (why.Pivot number step wide)) = step_words number step wide
place_words (Some (why.Value number step wide)) = step_words number step wide
place_words (Some (why.Leaf number)) = decimal number ∷ []
place_words (Some (why.Vertex number)) = decimal number ∷ []
place_words other = []

abbrev pub why_words : Option Why → List (List ℕ)
why_words cause = cause_word cause ∷ place_words cause

-- ---- nodes

-- the row and its multiplier, with `:` between
abbrev pub price_word : Price → List ℕ
price_word p = decimal p.row ++ 58 ∷ signed_decimal p.value

abbrev pub multiplier_words : MultipliersValue → List (List ℕ)
multiplier_words y = signed_decimal y.y0 ∷ map price_word y.rows

abbrev pub branch_words : Branch → List (List ℕ)
branch_words (branch.Int column below) = codes "int" ∷ decimal column ∷ signed_decimal below ∷ []
branch_words (branch.Cut column at) = codes "cut" ∷ decimal column ∷ signed_decimal at ∷ []
branch_words (branch.Semi column) = codes "semi" ∷ decimal column ∷ []
branch_words (branch.One set at) = codes "one" ∷ decimal set ∷ decimal at ∷ []
branch_words (branch.Two set at) = codes "two" ∷ decimal set ∷ decimal at ∷ []

-- when the node was solved, and at what cost; two hyphens where it was not
abbrev pub solved_words : Option Solved → List (List ℕ)
solved_words None = codes "-" ∷ codes "-" ∷ []
solved_words (Some s) = decimal s.number ∷ decimal s.pivots ∷ []

-- the same, one blank apart
abbrev pub front_text : Option Solved → List ℕ
front_text None = codes "- -"
front_text (Some s) = decimal s.number ++ 32 ∷ decimal s.pivots

abbrev pub what_words : WhatValue → List (List ℕ)
what_words (Split b) = branch_words b
what_words (Bounded y) = codes "bounded" ∷ multiplier_words y
what_words (Empty y) = codes "empty" ∷ multiplier_words y
what_words (Void column) = codes "void" ∷ decimal column ∷ []
what_words (OpenLeaf y) = codes "open" ∷ multiplier_words y

abbrev pub node_words : NodeValue → List (List ℕ)
node_words n = solved_words n.solved ++ what_words n.what

-- ---- the whole text

abbrev pub deck_words : DeckValue → List (List ℕ)
deck_words d = codes "DECK" ∷ name_word d.name ∷ decimal (length d.rows) ∷ decimal (length d.columns) ∷ decimal (length d.sets) ∷ decimal (length d.arcs) ∷ []

-- the lines up to the cause, by their words
abbrev pub front_lines : DeckValue → AnswerValue → List (List (List ℕ))
front_lines d a =
    (codes "UMPIRE" ∷ codes "TREE" ∷ codes "1" ∷ [])
    ∷ deck_words d
    ∷ (codes "TOLERANCE" ∷ signed_decimal a.tolerance ∷ [])
    ∷ (codes "ANSWER" ∷ kind_word a.kind ∷ [])
    ∷ (codes "WHY" ∷ why_words a.why)
    ∷ []

-- the lines of what the answer says, and of how many nodes it has
abbrev pub value_lines : AnswerValue → List (List (List ℕ))
value_lines a =
    (codes "OBJECTIVE" ∷ fraction_or_none a.objective ∷ [])
    ∷ (codes "BOUND" ∷ fraction_or_none a.bound ∷ [])
    ∷ (codes "POINT" ∷ point_words a.point)
    ∷ (codes "RAY" ∷ ray_words a.ray)
    ∷ (codes "NODES" ∷ decimal (length a.tree) ∷ [])
    ∷ []

abbrev pub tree_lines : DeckValue → AnswerValue → List (List (List ℕ))
tree_lines d a = front_lines d a ++ (value_lines a ++ (map node_words a.tree ++ (codes "END" ∷ []) ∷ []))

unfoldable pub tree_text : DeckValue → AnswerValue → List ℕ
tree_text d a = lines_text (tree_lines d a)
