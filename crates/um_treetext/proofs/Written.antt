-- Trees that were put node by node, and texts that were put part by part.
use Rattle.std.proofs.Common.{◌≡◌, ℕ, ◌+◌, ◌<◌, List, [], ◌∷◌, ◌++◌, length, map, take, get_or, codes, decimal, Option, Some, None, refl, sym, ap, ◌∙◌, append_assoc}
use Rattle.std.proofs.lemmas.List.{length-map}
use Rattle.um_model.specs.AnswerValues.{AnswerValue, plain_node}
use Rattle.um_model.specs.Values.{DeckValue}
use Rattle.um_model.specs.declared.tree.Node.{Node}
use Rattle.um_model.specs.declared.tree.Solved.{Solved}
use Rattle.um_text.specs.Texts.{behind_blanks, line_rest, line_text, lines_text}
use Rattle.um_text.proofs.Puts.{first_line, line_rest_is, more_lines, next_line, next_lines, next_put}
use Rattle.um_treetext.specs.TreeText.{deck_words, front_lines, front_text, kind_word, node_words, point_words, ray_words, solved_words, tree_text, value_lines, why_words}
use Rattle.um_text.specs.NumberWords.{fraction_or_none}
use Rattle.std.specs.Fmt.{signed_decimal}

node_is : (s : Option Solved) (what : List (List ℕ)) → line_text (solved_words s ++ what) ≡ front_text s ++ line_rest what
node_is None what = refl
node_is (Some s) what = sym (append_assoc (decimal s.number) (32 ∷ decimal s.pivots) (line_rest what))

-- a node's first two words, the others, and LF
pub node_line_put : (t t1 t2 t3 : List ℕ) (s : Option Solved) (what : List (List ℕ)) → t1 ≡ t ++ front_text s → t2 ≡ t1 ++ behind_blanks what → t3 ≡ t2 ++ 10 ∷ [] → t3 ≡ t ++ line_text (solved_words s ++ what)
node_line_put t t1 t2 t3 s what e f g = next_put t t1 t3 (front_text s) (line_rest what) (line_text (solved_words s ++ what)) e (next_put t1 t2 t3 (behind_blanks what) (10 ∷ []) (line_rest what) f g (line_rest_is what)) (node_is s what)

-- one node more
pub more_nodes : (ns : List Node) (k : ℕ) (n : Node) → k < length ns → n ≡ get_or ns k n → lines_text (map node_words (map plain_node (take (k + 1) ns))) ≡ lines_text (map node_words (map plain_node (take k ns))) ++ line_text (node_words (plain_node n))
more_nodes ns k n h e =
    ap lines_text (twice (take (k + 1) ns)) ∙ more_lines (λ m. node_words (plain_node m)) ns k n n h e ∙ ap (λ ls. lines_text ls ++ line_text (node_words (plain_node n))) (sym (twice (take k ns)))
  where
    twice : (ms : List Node) → map node_words (map plain_node ms) ≡ map (λ m. node_words (plain_node m)) ms
    twice [] = refl
    twice (m ∷ ms) = ap (λ ls. node_words (plain_node m) ∷ ls) (twice ms)

-- the lines up to the cause
pub front_put : (d : DeckValue) (a : AnswerValue) (t t1 t2 t3 t4 t5 : List ℕ) → t1 ≡ t ++ line_text (codes "UMPIRE" ∷ codes "TREE" ∷ codes "1" ∷ []) → t2 ≡ t1 ++ line_text (deck_words d) → t3 ≡ t2 ++ line_text (codes "TOLERANCE" ∷ signed_decimal a.tolerance ∷ []) → t4 ≡ t3 ++ line_text (codes "ANSWER" ∷ kind_word a.kind ∷ []) → t5 ≡ t4 ++ line_text (codes "WHY" ∷ why_words a.why) → t5 ≡ t ++ lines_text (front_lines d a)
front_put d a t t1 t2 t3 t4 t5 e1 e2 e3 e4 e5 =
    let version : List (List ℕ) = codes "UMPIRE" ∷ codes "TREE" ∷ codes "1" ∷ [] in
    let tolerance : List (List ℕ) = codes "TOLERANCE" ∷ signed_decimal a.tolerance ∷ [] in
    let kind : List (List ℕ) = codes "ANSWER" ∷ kind_word a.kind ∷ [] in
    let one = first_line t t1 version e1 in
    let two = next_line t t1 t2 (version ∷ []) (deck_words d) one e2 in
    let three = next_line t t2 t3 (version ∷ deck_words d ∷ []) tolerance two e3 in
    let four = next_line t t3 t4 (version ∷ deck_words d ∷ tolerance ∷ []) kind three e4 in
    next_line t t4 t5 (version ∷ deck_words d ∷ tolerance ∷ kind ∷ []) (codes "WHY" ∷ why_words a.why) four e5

-- a tree's values are as many as its nodes
pub count_is : (ns : List Node) → length (map plain_node ns) ≡ length ns
count_is ns = length-map ns plain_node

-- the lines of what the answer says
pub values_put : (a : AnswerValue) (t t1 t2 t3 t4 t5 : List ℕ) → t1 ≡ t ++ line_text (codes "OBJECTIVE" ∷ fraction_or_none a.objective ∷ []) → t2 ≡ t1 ++ line_text (codes "BOUND" ∷ fraction_or_none a.bound ∷ []) → t3 ≡ t2 ++ line_text (codes "POINT" ∷ point_words a.point) → t4 ≡ t3 ++ line_text (codes "RAY" ∷ ray_words a.ray) → t5 ≡ t4 ++ line_text (codes "NODES" ∷ decimal (length a.tree) ∷ []) → t5 ≡ t ++ lines_text (value_lines a)
values_put a t t1 t2 t3 t4 t5 e1 e2 e3 e4 e5 =
    let objective : List (List ℕ) = codes "OBJECTIVE" ∷ fraction_or_none a.objective ∷ [] in
    let bound : List (List ℕ) = codes "BOUND" ∷ fraction_or_none a.bound ∷ [] in
    let point : List (List ℕ) = codes "POINT" ∷ point_words a.point in
    let ray : List (List ℕ) = codes "RAY" ∷ ray_words a.ray in
    let one = first_line t t1 objective e1 in
    let two = next_line t t1 t2 (objective ∷ []) bound one e2 in
    let three = next_line t t2 t3 (objective ∷ bound ∷ []) point two e3 in
    let four = next_line t t3 t4 (objective ∷ bound ∷ point ∷ []) ray three e4 in
    next_line t t4 t5 (objective ∷ bound ∷ point ∷ ray ∷ []) (codes "NODES" ∷ decimal (length a.tree) ∷ []) four e5

-- the front, the values, the nodes and the last line are the text
pub whole_text : (d : DeckValue) (a : AnswerValue) (t t1 t2 t3 t4 : List ℕ) → t ≡ [] → t1 ≡ t ++ lines_text (front_lines d a) → t2 ≡ t1 ++ lines_text (value_lines a) → t3 ≡ t2 ++ lines_text (map node_words a.tree) → t4 ≡ t3 ++ line_text (codes "END" ∷ []) → t4 ≡ tree_text d a
unfolding tree_text
whole_text d a t t1 t2 t3 t4 e e1 e2 e3 e4 =
    let nodes = next_line t2 t3 t4 (map node_words a.tree) (codes "END" ∷ []) e3 e4 in
    let values = next_lines t1 t2 t4 (value_lines a) (map node_words a.tree ++ (codes "END" ∷ []) ∷ []) e2 nodes in
    let whole = next_lines t t1 t4 (front_lines d a) (value_lines a ++ (map node_words a.tree ++ (codes "END" ∷ []) ∷ [])) e1 values in
    rw e at whole
