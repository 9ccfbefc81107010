-- The lines of a tree's text before its nodes: what each says, or the rule that it breaks.
use Rattle.std.specs.Prelude.{ℕ, zero, suc, ◌^◌, Bool, ◌&&◌, ◌||◌, not, nat_eq, nat_lt, if◌then◌else◌, ℤ, pos, List, [], ◌∷◌, drop, length, Option, Some, None, Ok, Err, codes}
use Rattle.std.specs.List.{list_all}
use Rattle.std.specs.Str.{bytes_eq}
use Rattle.um_num.specs.Numbers.{in_range, then_step}
use Rattle.um_num.specs.declared.exact.Op.{Op}
use Rattle.um_num.specs.declared.exact.Op.TheVariants.{Add, Sub, Mul}
use Rattle.um_num.specs.declared.exact.Wide.{Wide}
use Rattle.um_model.specs.Values.{DeckValue, PointValue}
use Rattle.um_model.specs.declared.answer.AnswerKind.{AnswerKind}
use Rattle.um_model.specs.declared.answer.AnswerKind.TheVariants as kind
use Rattle.um_model.specs.declared.answer.Why.{Why}
use Rattle.um_model.specs.declared.answer.Why.TheVariants as why
use Rattle.um_model.specs.declared.limits.TheConstants.{MOST_NODES}
use Rattle.um_treetext.specs.declared.fault.TreeWord.{TreeWord}
use Rattle.um_treetext.specs.declared.reading.causes.CauseWord.{CauseWord}
use Rattle.um_treetext.specs.declared.reading.causes.CauseWord.TheVariants as cause
use Rattle.um_treetext.specs.declared.fault.TreeWord.TheVariants.{BadWord, TooWide, WrongDeck, TooMany}
use Rattle.um_treetext.specs.TreeText.{name_word}
use Rattle.um_treetext.specs.Words.{Words, Says, Taken, told, kept, taking, fixed, is_next, ended, over, sole, labelled, called, numeral, natural_word, whole_word, is_at_least, fraction_or_none_said}

abbrev pub version_line : Words → Says Words
version_line ws = then_step (fixed (codes "UMPIRE") ws) (λ a. then_step (fixed (codes "TREE") a) (λ b. then_step (fixed (codes "1") b) ended))

-- ---- the deck

-- a byte of a name that can stand in a line as one word
abbrev pub is_name_byte : ℕ → Bool
is_name_byte b = not (nat_eq b 32 || nat_eq b 9 || nat_eq b 10)

-- the deck's name; one that is no word can't stand in a line
unfoldable pub name_said : List ℕ → List ℕ → Says (List ℕ)
name_said name word = kept ((not (list_all is_name_byte name && bytes_eq word (name_word name)), WrongDeck) ∷ []) word

-- a count of the deck's parts
unfoldable pub count_said : ℕ → List ℕ → Says ℕ
count_said count word = then_step (natural_word (2 ^ 127) word) (λ n. kept ((not (nat_eq n count), WrongDeck) ∷ []) count)

abbrev pub deck_line : DeckValue → Words → Says ℕ
deck_line d = labelled (codes "DECK") (λ ws.
    then_step (taking (name_said d.name) ws) (λ name.
    then_step (taking (count_said (length d.rows)) name.left) (λ rows.
    then_step (taking (count_said (length d.columns)) rows.left) (λ columns.
    then_step (taking (count_said (length d.sets)) columns.left) (λ sets.
    sole (count_said (length d.arcs)) sets.left)))))

-- ---- the answer's kind, tolerance and cause

-- in thousandths
unfoldable pub tolerance_said : List ℕ → Says ℤ
tolerance_said word = then_step (natural_word (2 ^ 63) word) (λ n. Ok (pos n))

abbrev pub tolerance_line : Words → Says ℤ
tolerance_line = labelled (codes "TOLERANCE") (sole tolerance_said)

abbrev pub kind_said : List ℕ → Says AnswerKind
kind_said = called (
    (codes "optimal", kind.Optimal) ∷ (codes "infeasible", kind.Infeasible) ∷ (codes "unbounded", kind.Unbounded)
    ∷ (codes "limit", kind.Limit) ∷ (codes "overflow", kind.Overflow) ∷ [])

abbrev pub kind_line : Words → Says AnswerKind
kind_line = labelled (codes "ANSWER") (sole kind_said)

abbrev pub op_said : List ℕ → Says Op
op_said = called ((codes "add", Add) ∷ (codes "sub", Sub) ∷ (codes "mul", Mul) ∷ [])

-- an operation and its two numbers
unfoldable pub wide_said : Words → Says (Taken Wide)
wide_said ws =
    then_step (taking op_said ws) (λ op. then_step (taking whole_word op.left) (λ left.
    then_step (taking whole_word left.left) (λ right. told (record { op = op.value; left = left.value; right = right.value }) right.left)))

-- the number of a node, and a step
unfoldable pub step_place_said : Words → Says (Taken (ℕ × ℕ))
step_place_said ws =
    then_step (taking (natural_word (2 ^ 32)) ws) (λ number. then_step (taking (natural_word (2 ^ 64)) number.left) (λ step.
    told (number.value, step.value) step.left))

-- a cause that is a node's number, a step and an operation
unfoldable pub step_said : (ℕ → ℕ → Wide → Why) → Words → Says (Taken (Option Why))
step_said made ws =
    then_step (step_place_said ws) (λ place. then_step (wide_said place.left) (λ wide.
    told (Some (made place.value.0 place.value.1 wide.value)) wide.left))

-- a cause that is the number of a column or a node
unfoldable pub place_said : (ℕ → Why) → Words → Says (Taken (Option Why))
place_said made ws = then_step (taking (natural_word (2 ^ 32)) ws) (λ number. told (Some (made number.value)) number.left)

abbrev pub cause_called : List ℕ → Says CauseWord
cause_called = called (
    (codes "none", cause.None) ∷ (codes "nodes", cause.Nodes) ∷ (codes "pivots", cause.Pivots)
    ∷ (codes "points", cause.Points) ∷ (codes "grid", cause.Grid) ∷ (codes "pivot", cause.Pivot)
    ∷ (codes "value", cause.Value) ∷ (codes "leaf", cause.Leaf) ∷ (codes "vertex", cause.Vertex)
    ∷ (codes "ray", cause.Ray) ∷ [])

-- what stands behind a cause's first word
abbrev pub cause_said : CauseWord → Words → Says (Taken (Option Why))
cause_said cause.None ws = told None ws
cause_said cause.Nodes ws = told (Some why.Nodes) ws
cause_said cause.Pivots ws = told (Some why.Pivots) ws
cause_said cause.Points ws = place_said why.Points ws
cause_said cause.Grid ws = place_said why.Grid ws
cause_said cause.Pivot ws = step_said why.Pivot ws
cause_said cause.Value ws = step_said why.Value ws
cause_said cause.Leaf ws = place_said why.Leaf ws
cause_said cause.Vertex ws = place_said why.Vertex ws
cause_said cause.Ray ws = told (Some why.Ray) ws

abbrev pub why_line : Words → Says (Option Why)
why_line = labelled (codes "WHY") (λ ws. then_step (taking cause_called ws) (λ word. then_step (cause_said word.value word.left) (λ t. over t.value t.left)))

-- ---- the point and the ray

-- this many numbers
unfoldable pub numbers : ℕ → Words → Says (Taken (List ℤ))
numbers zero ws = Ok (record { value = []; left = ws })
numbers (suc n) ws =
    then_step (taking whole_word ws) (λ t. then_step (numbers n t.left) (λ more. Ok (record { value = t.value ∷ more.value; left = more.left })))

-- what a point's parts are over, from 1 on
unfoldable pub den_said : List ℕ → Says ℤ
den_said word = then_step (numeral word) (λ z. kept ((not (is_at_least 1 z), BadWord) ∷ (not (in_range z), TooWide) ∷ []) z)

-- a point has a part for each column
abbrev pub point_said : ℕ → Words → Says (Option PointValue)
point_said columns ws =
    if is_next (codes "none") ws then over None (drop 1 ws)
    else then_step (taking den_said ws) (λ den. then_step (numbers columns den.left) (λ parts.
    over (Some (record { den = den.value; parts = parts.value })) parts.left))

abbrev pub point_line : ℕ → Words → Says (Option PointValue)
point_line columns = labelled (codes "POINT") (point_said columns)

-- so has a ray, and there is none without columns
abbrev pub ray_said : ℕ → Words → Says (Option (List ℤ))
ray_said columns ws =
    if is_next (codes "none") ws then over None (drop 1 ws)
    else if nat_eq columns 0 then Err BadWord
    else then_step (numbers columns ws) (λ parts. over (Some parts.value) parts.left)

abbrev pub ray_line : ℕ → Words → Says (Option (List ℤ))
ray_line columns = labelled (codes "RAY") (ray_said columns)

-- ---- the count of nodes

-- at most as many as a tree holds
unfoldable pub nodes_said : List ℕ → Says ℕ
nodes_said word = then_step (natural_word (2 ^ 127) word) (λ n. kept ((nat_lt MOST_NODES n, TooMany) ∷ []) n)

abbrev pub nodes_line : Words → Says ℕ
nodes_line = labelled (codes "NODES") (sole nodes_said)
