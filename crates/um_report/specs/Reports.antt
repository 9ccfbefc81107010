-- The report of an answer: which lines of which words it is, for a deck.
use Rattle.std.specs.Prelude.{◌≡◌, ℕ, ◌/◌, ◌%◌, nat_eq, if◌then◌else◌, ℤ, pos, ◌≤ℤ◌, unsigned_abs, Bool, List, [], ◌∷◌, ◌++◌, length, All, IfSome, Option, Some, None, is_some, sum_by, count_by, codes, decimal}
use Rattle.std.specs.Fmt.{signed_decimal}
use Rattle.um_laws.specs.Rational.{Rational, neg}
use Rattle.um_num.specs.Numbers.{IsInRange}
use Rattle.um_num.specs.Views.{rational}
use Rattle.um_model.specs.Values.{DeckValue, ColumnValue, PointValue}
use Rattle.um_model.specs.declared.answer.AnswerKind.{AnswerKind}
use Rattle.um_model.specs.declared.answer.AnswerKind.TheVariants as kind
use Rattle.um_model.specs.declared.answer.Why.{Why}
use Rattle.um_model.specs.declared.tree.Solved.{Solved}
use Rattle.um_model.specs.AnswerValues.{AnswerValue, NodeValue}
use Rattle.um_text.specs.NumberWords.{fraction_word, fraction_or_none}
use Rattle.um_text.specs.Texts.{lines_text}
use Rattle.um_treetext.specs.TreeText.{cause_word}

-- ---- the kind

-- a search that stopped early says in one word why
abbrev pub heading_words : AnswerKind → Option Why → List (List ℕ)
heading_words kind.Optimal cause = codes "Optimal" ∷ []
heading_words kind.Infeasible cause = codes "Infeasible" ∷ []
heading_words kind.Unbounded cause = codes "Unbounded" ∷ []
heading_words kind.Limit cause = codes "Limit" ∷ cause_word cause ∷ []
heading_words kind.Overflow cause = codes "Overflow" ∷ cause_word cause ∷ []

-- ---- numbers

-- a number of the objective as the deck's text states it; where the deck maximises, answers keep the negative
abbrev pub stated : Bool → Option Rational → Option Rational
stated maximise None = None
stated maximise (Some x) = Some (if maximise then neg x else x)

-- thousandths as a number with three decimals
abbrev pub thousandths_word : ℕ → List ℕ
thousandths_word n = decimal (n / 1000) ++ 46 ∷ (decimal (n / 100 % 10) ++ (decimal (n / 10 % 10) ++ decimal (n % 10)))

-- ---- the tree

abbrev pub is_solved : NodeValue → Bool
is_solved n = is_some n.solved

abbrev pub pivots_in : Option Solved → ℕ
pivots_in None = 0
pivots_in (Some s) = s.pivots

abbrev pub pivots_of : NodeValue → ℕ
pivots_of n = pivots_in n.solved

-- how many nodes were solved, and with how many pivots
abbrev pub work_lines : ℕ → ℕ → List (List (List ℕ))
work_lines nodes pivots = (codes "nodes" ∷ decimal nodes ∷ []) ∷ (codes "pivots" ∷ decimal pivots ∷ []) ∷ []

-- ---- the point and the ray

-- each column with its part over the denominator
abbrev pub column_lines : ℤ → List ColumnValue → List ℤ → List (List (List ℕ))
column_lines den [] parts = []
column_lines den (c ∷ cs) [] = []
column_lines den (c ∷ cs) (part ∷ parts) = (codes "column" ∷ c.name ∷ fraction_word (rational part den) ∷ []) ∷ column_lines den cs parts

abbrev pub point_lines : List ColumnValue → Option PointValue → List (List (List ℕ))
point_lines cs None = []
point_lines cs (Some p) = column_lines p.den cs p.parts

abbrev pub direction_line : ColumnValue → ℤ → List (List (List ℕ))
direction_line c part = if nat_eq (unsigned_abs part) 0 then [] else (codes "ray" ∷ c.name ∷ signed_decimal part ∷ []) ∷ []

-- each column whose part is not 0, with its part
abbrev pub direction_lines : List ColumnValue → List ℤ → List (List (List ℕ))
direction_lines [] parts = []
direction_lines (c ∷ cs) [] = []
direction_lines (c ∷ cs) (part ∷ parts) = direction_line c part ++ direction_lines cs parts

abbrev pub ray_lines : List ColumnValue → Option (List ℤ) → List (List (List ℕ))
ray_lines cs None = []
ray_lines cs (Some parts) = direction_lines cs parts

-- ---- the whole report

-- what every answer has; the tolerance is from 0 on
abbrev pub head_lines : DeckValue → AnswerValue → List (List (List ℕ))
head_lines d a =
    heading_words a.kind a.why
    ∷ (codes "objective" ∷ fraction_or_none (stated d.maximise a.objective) ∷ [])
    ∷ (codes "bound" ∷ fraction_or_none (stated d.maximise a.bound) ∷ [])
    ∷ (codes "tolerance" ∷ thousandths_word (unsigned_abs a.tolerance) ∷ [])
    ∷ work_lines (count_by is_solved a.tree) (sum_by pivots_of a.tree)

abbrev pub report_lines : DeckValue → AnswerValue → List (List (List ℕ))
report_lines d a = head_lines d a ++ (point_lines d.columns a.point ++ ray_lines d.columns a.ray)

unfoldable pub report_text : DeckValue → AnswerValue → List ℕ
report_text d a = lines_text (report_lines d a)

-- ---- what can be reported

-- a denominator from 1 on, one part for each column, and all in range
pub record IsReportablePoint (d : DeckValue) (p : PointValue) : Type 0 where
  pub den : pos 1 ≤ℤ p.den
  pub den_in : IsInRange p.den
  pub parts : length p.parts ≡ length d.columns
  pub parts_in : All IsInRange p.parts

-- a tolerance from 0 on, and a ray with one part for each column
pub record IsReportable (d : DeckValue) (a : AnswerValue) : Type 0 where
  pub tolerance : pos 0 ≤ℤ a.tolerance
  pub point : IfSome a.point (IsReportablePoint d)
  pub ray : IfSome a.ray (λ (r : List ℤ). length r ≡ length d.columns)
