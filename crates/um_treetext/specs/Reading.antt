-- Which answer a text is read as for a deck; else the line and the fault of the first rule that it breaks.
use Rattle.std.specs.Prelude.{◌≡◌, ℕ, zero, suc, ◌+◌, Bool, true, false, if◌then◌else◌, ℤ, List, [], ◌∷◌, length, Option, Result, Ok, Err, codes}
use Rattle.std.specs.List.{slice_split}
use Rattle.um_laws.specs.Rational.{Rational}
use Rattle.um_num.specs.Numbers.{then_step}
use Rattle.um_text.specs.Lines.{ends_line}
use Rattle.um_model.specs.Values.{DeckValue, PointValue}
use Rattle.um_model.specs.AnswerValues.{AnswerValue, NodeValue}
use Rattle.um_treetext.specs.declared.fault.TreeWord.{TreeWord}
use Rattle.um_treetext.specs.declared.reading.front.Front.{Front}
use Rattle.um_treetext.specs.declared.fault.TreeWord.TheVariants.{NoEnd, BadWord}
use Rattle.um_treetext.specs.Words.{Words, Says, ended, sole, labelled, line_words, fraction_or_none_said}
use Rattle.um_treetext.specs.FrontLines.{version_line, deck_line, tolerance_line, kind_line, why_line, point_line, ray_line, nodes_line}
use Rattle.um_treetext.specs.NodeLines.{node_line}

-- ---- lines

-- the pieces of a text that are left: each but the last is a line
abbrev pub Pieces : Type 0
Pieces = List (List ℕ)

-- what some lines say, and the pieces behind them; or the line and the fault of the first broken rule
pub record Read (A : Type 0) : Type 0 where
  pub value : A
  pub left : Pieces

abbrev pub Reads : Type 0 → Type 0
Reads A = Result A (ℕ × TreeWord)

abbrev pub at_line : {A : Type 0} → ℕ → Says A → Reads A
at_line number (Ok value) = Ok value
at_line number (Err fault) = Err (number, fault)

-- the words of the next line, which must be there, behind this many lines
unfoldable pub line_taken : (before : ℕ) → Pieces → Reads (Read Words)
line_taken before (line ∷ next ∷ more) = Ok (record { value = line_words line; left = next ∷ more })
line_taken before other = Err (before, NoEnd)

-- what the next line says
unfoldable pub next_line_said : {A : Type 0} → (Words → Says A) → (before : ℕ) → Pieces → Reads (Read A)
next_line_said says before ps =
    then_step (line_taken before ps) (λ line.
    then_step (at_line (before + 1) (says line.value)) (λ v. Ok (record { value = v; left = line.left })))

-- ---- the first ten lines

unfoldable pub front_read : DeckValue → Pieces → Reads (Read Front)
front_read d ps =
    then_step (next_line_said version_line 0 ps) (λ version.
    then_step (next_line_said (deck_line d) 1 version.left) (λ deck.
    then_step (next_line_said tolerance_line 2 deck.left) (λ tolerance.
    then_step (next_line_said kind_line 3 tolerance.left) (λ kind.
    then_step (next_line_said why_line 4 kind.left) (λ why.
    Ok (record { value = record { tolerance = tolerance.value; kind = kind.value; why = why.value }; left = why.left }))))))

-- what the lines from the objective to the count of nodes say
pub record ValuesSaid : Type 0 where
  pub objective : Option Rational
  pub bound : Option Rational
  pub point : Option PointValue
  pub ray : Option (List ℤ)
  pub nodes : ℕ

unfoldable pub values_read : DeckValue → Pieces → Reads (Read ValuesSaid)
values_read d ps =
    then_step (next_line_said (labelled (codes "OBJECTIVE") (sole fraction_or_none_said)) 5 ps) (λ objective.
    then_step (next_line_said (labelled (codes "BOUND") (sole fraction_or_none_said)) 6 objective.left) (λ bound.
    then_step (next_line_said (point_line (length d.columns)) 7 bound.left) (λ point.
    then_step (next_line_said (ray_line (length d.columns)) 8 point.left) (λ ray.
    then_step (next_line_said nodes_line 9 ray.left) (λ nodes.
    Ok (record {
      value = record { objective = objective.value; bound = bound.value; point = point.value; ray = ray.value; nodes = nodes.value };
      left = nodes.left;
    }))))))

-- ---- the nodes and the end

-- this many nodes, behind this many lines
unfoldable pub nodes_read : DeckValue → ℕ → (before : ℕ) → Pieces → Reads (Read (List NodeValue))
nodes_read d zero before ps = Ok (record { value = []; left = ps })
nodes_read d (suc n) before ps =
    then_step (next_line_said (node_line d) before ps) (λ node.
    then_step (nodes_read d n (before + 1) node.left) (λ more.
    Ok (record { value = node.value ∷ more.value; left = more.left })))

-- nothing follows the last line's LF
abbrev pub is_end : Pieces → Bool
is_end ([] ∷ []) = true
is_end other = false

-- the line END, and no byte behind it
unfoldable pub end_read : (before : ℕ) → Pieces → Reads Pieces
end_read before ps =
    then_step (next_line_said (labelled (codes "END") ended) before ps) (λ end.
    if is_end end.left then Ok end.left else Err (before + 2, BadWord))

-- ---- the text

unfoldable pub pieces_read : DeckValue → Pieces → Reads AnswerValue
pieces_read d ps =
    then_step (front_read d ps) (λ front.
    then_step (values_read d front.left) (λ values.
    then_step (nodes_read d values.value.nodes 10 values.left) (λ nodes.
    then_step (end_read (values.value.nodes + 10) nodes.left) (λ end. Ok (record {
      kind = front.value.kind;
      why = front.value.why;
      tolerance = front.value.tolerance;
      objective = values.value.objective;
      bound = values.value.bound;
      point = values.value.point;
      ray = values.value.ray;
      tree = nodes.value;
    })))))

unfoldable pub tree_read : DeckValue → List ℕ → Reads AnswerValue
tree_read d bytes = pieces_read d (slice_split ends_line bytes)

-- the bytes are the text of this answer for the deck
abbrev pub TreeText : DeckValue → List ℕ → AnswerValue → Type 0
TreeText d bytes a = tree_read d bytes ≡ Ok a

-- the bytes are no answer's text: this line is the first at which a rule is broken, and this is the rule
abbrev pub TreeFaultAt : DeckValue → List ℕ → ℕ → TreeWord → Type 0
TreeFaultAt d bytes line fault = tree_read d bytes ≡ Err (line, fault)
