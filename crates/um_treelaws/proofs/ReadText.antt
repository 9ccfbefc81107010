-- What is read of a text is written as this text.
use Rattle.std.proofs.Common.{◌≡◌, ℕ, zero, suc, ◌+◌, ◌≤◌, true, List, [], ◌∷◌, ◌++◌, append_assoc, map, length, All, Ok, Err, codes, refl, sym, ap, ◌∙◌, subst, arith, inl, inr, if◌then◌else◌}
use Rattle.std.specs.List.{slice_split}
use Rattle.std.proofs.lemmas.Bool.{cases_Bool}
use Rattle.std.proofs.lemmas.List.Elements.{All-nil, All-cons}
use Rattle.um_num.specs.Numbers.{then_step}
use Rattle.um_text.specs.Lines.{ends_line}
use Rattle.um_text.specs.Texts.{line_text, lines_text}
use Rattle.um_text.proofs.Puts.{lines_append}
use Rattle.um_model.specs.Values.{DeckValue}
use Rattle.um_model.specs.AnswerValues.{AnswerValue, NodeValue}
use Rattle.um_treetext.specs.declared.fault.TreeWord.TheVariants.{BadWord}
use Rattle.um_treetext.specs.declared.reading.front.Front.{Front}
use Rattle.um_treetext.specs.Words.{Words, ended, sole, labelled, fraction_or_none_said}
use Rattle.um_treetext.specs.FrontLines.{version_line, deck_line, tolerance_line, kind_line, why_line, point_line, ray_line, nodes_line}
use Rattle.um_treetext.specs.NodeLines.{node_line}
use Rattle.um_treetext.specs.Reading.{Pieces, Read, next_line_said, front_read, ValuesSaid, values_read, nodes_read, is_end, end_read, pieces_read, tree_read, TreeText}
use Rattle.um_treetext.specs.TreeText.{deck_words, node_words, value_lines, tree_lines, tree_text}
use Rattle.um_treetext.specs.Writable.{IsNamed, IsWritableNode, IsWritable}
use Rattle.um_treelaws.proofs.ReadSteps.{steps, same_ok, ended_rewritten, labelled_rewritten, are_more, are_none, IsAny}
use Rattle.um_treelaws.proofs.ReadFractions.{IsWritableValue}
use Rattle.um_treelaws.proofs.ReadLines.{bytes_of, pieces_rewritten, LineAs, line_is_written}
use Rattle.um_treelaws.proofs.ReadFront.{version_words, version_rewritten, Named, deck_rewritten, IsTolerance, tolerance_words, tolerance_rewritten, kind_words, kind_rewritten}
use Rattle.um_treelaws.proofs.ReadCauses.{IsWritableCause, why_line_words, why_rewritten}
use Rattle.um_treelaws.proofs.ReadValues.{objective_words, objective_rewritten, bound_words, bound_rewritten, IsPointOf, point_line_words, point_rewritten, IsRayOf, ray_line_words, ray_rewritten, IsNodeCount, nodes_words, nodes_rewritten}
use Rattle.um_treelaws.proofs.ReadNodes.{node_rewritten}

-- ---- some lines

-- the bytes of some pieces are these lines, and the bytes of the pieces that are left
abbrev Wrote : Pieces → List Words → Pieces → Type 0
Wrote ps ls left = bytes_of ps ≡ lines_text ls ++ bytes_of left

line_more : (ps mid left : Pieces) (l : Words) (ls : List Words) → bytes_of ps ≡ line_text l ++ bytes_of mid → Wrote mid ls left → Wrote ps (l ∷ ls) left
line_more ps mid left l ls e rest = e ∙ ap (λ (bs : List ℕ). line_text l ++ bs) rest ∙ sym (append_assoc (line_text l) (lines_text ls) (bytes_of left))

lines_both : (ps mid left : Pieces) (ls ms : List Words) → Wrote ps ls mid → Wrote mid ms left → Wrote ps (ls ++ ms) left
lines_both ps mid left ls ms e f = e ∙ ap (λ (bs : List ℕ). lines_text ls ++ bs) f ∙ sym (append_assoc (lines_text ls) (lines_text ms) (bytes_of left)) ∙ ap (λ (bs : List ℕ). bs ++ bytes_of left) (sym (lines_append ls ms))

-- ---- the lines up to the cause

abbrev front_words : DeckValue → Front → List Words
front_words d f = version_words ∷ deck_words d ∷ tolerance_words f.tolerance ∷ kind_words f.kind ∷ why_line_words f.why ∷ []

record IsFront (d : DeckValue) (ps : Pieces) (r : Read Front) : Type 0 where
  wrote : Wrote ps (front_words d r.value) r.left
  deck : IsNamed d
  tolerance : IsTolerance r.value.tolerance
  why : IsWritableCause r.value.why

front_rewritten : (d : DeckValue) (ps : Pieces) (r : Read Front) → front_read d ps ≡ Ok r → IsFront d ps r
unfolding front_read
front_rewritten d ps r e =
    let version = steps (next_line_said version_line 0 ps) _ r e in
    let deck = steps (next_line_said (deck_line d) 1 version.value.left) _ r version.two in
    let tolerance = steps (next_line_said tolerance_line 2 deck.value.left) _ r deck.two in
    let kind = steps (next_line_said kind_line 3 tolerance.value.left) _ r tolerance.two in
    let why = steps (next_line_said why_line 4 kind.value.left) _ r kind.two in
    let one = line_is_written version_line (λ v. version_words) IsAny 0 ps version.value version_rewritten version.one in
    let two = line_is_written (deck_line d) (λ v. deck_words d) (Named d) 1 version.value.left deck.value (deck_rewritten d) deck.one in
    let three = line_is_written tolerance_line tolerance_words IsTolerance 2 deck.value.left tolerance.value tolerance_rewritten tolerance.one in
    let four = line_is_written kind_line kind_words IsAny 3 tolerance.value.left kind.value kind_rewritten kind.one in
    let five = line_is_written why_line why_line_words IsWritableCause 4 kind.value.left why.value why_rewritten why.one in
    let front : Front = record { tolerance = tolerance.value.value; kind = kind.value.value; why = why.value.value } in
    let made : Read Front = record { value = front; left = why.value.left } in
    let l5 = line_more kind.value.left why.value.left why.value.left (why_line_words front.why) [] five.bytes refl in
    let l4 = line_more tolerance.value.left kind.value.left why.value.left (kind_words front.kind) (why_line_words front.why ∷ []) four.bytes l5 in
    let l3 = line_more deck.value.left tolerance.value.left why.value.left (tolerance_words front.tolerance) (kind_words front.kind ∷ why_line_words front.why ∷ []) three.bytes l4 in
    let l2 = line_more version.value.left deck.value.left why.value.left (deck_words d) (tolerance_words front.tolerance ∷ kind_words front.kind ∷ why_line_words front.why ∷ []) two.bytes l3 in
    let all : Wrote ps (front_words d front) why.value.left = line_more ps version.value.left why.value.left version_words (deck_words d ∷ tolerance_words front.tolerance ∷ kind_words front.kind ∷ why_line_words front.why ∷ []) one.bytes l2 in
    subst (IsFront d ps) {x = made} (same_ok (Ok made) made r refl why.two) (record { wrote = all; deck = two.good; tolerance = three.good; why = five.good })

-- ---- the lines of values

abbrev values_words : ValuesSaid → List Words
values_words v = objective_words v.objective ∷ bound_words v.bound ∷ point_line_words v.point ∷ ray_line_words v.ray ∷ nodes_words v.nodes ∷ []

record AreValues (d : DeckValue) (ps : Pieces) (r : Read ValuesSaid) : Type 0 where
  wrote : Wrote ps (values_words r.value) r.left
  objective : IsWritableValue r.value.objective
  bound : IsWritableValue r.value.bound
  point : IsPointOf d r.value.point
  ray : IsRayOf d r.value.ray
  nodes : IsNodeCount r.value.nodes

values_rewritten : (d : DeckValue) (ps : Pieces) (r : Read ValuesSaid) → values_read d ps ≡ Ok r → AreValues d ps r
unfolding values_read
values_rewritten d ps r e =
    let objective = steps (next_line_said (labelled (codes "OBJECTIVE") (sole fraction_or_none_said)) 5 ps) _ r e in
    let bound = steps (next_line_said (labelled (codes "BOUND") (sole fraction_or_none_said)) 6 objective.value.left) _ r objective.two in
    let point = steps (next_line_said (point_line (length d.columns)) 7 bound.value.left) _ r bound.two in
    let ray = steps (next_line_said (ray_line (length d.columns)) 8 point.value.left) _ r point.two in
    let nodes = steps (next_line_said nodes_line 9 ray.value.left) _ r ray.two in
    let one = line_is_written (labelled (codes "OBJECTIVE") (sole fraction_or_none_said)) objective_words IsWritableValue 5 ps objective.value objective_rewritten objective.one in
    let two = line_is_written (labelled (codes "BOUND") (sole fraction_or_none_said)) bound_words IsWritableValue 6 objective.value.left bound.value bound_rewritten bound.one in
    let three = line_is_written (point_line (length d.columns)) point_line_words (IsPointOf d) 7 bound.value.left point.value (point_rewritten d) point.one in
    let four = line_is_written (ray_line (length d.columns)) ray_line_words (IsRayOf d) 8 point.value.left ray.value (ray_rewritten d) ray.one in
    let five = line_is_written nodes_line nodes_words IsNodeCount 9 ray.value.left nodes.value nodes_rewritten nodes.one in
    let v : ValuesSaid = record { objective = objective.value.value; bound = bound.value.value; point = point.value.value; ray = ray.value.value; nodes = nodes.value.value } in
    let made : Read ValuesSaid = record { value = v; left = nodes.value.left } in
    let l5 = line_more ray.value.left nodes.value.left nodes.value.left (nodes_words v.nodes) [] five.bytes refl in
    let l4 = line_more point.value.left ray.value.left nodes.value.left (ray_line_words v.ray) (nodes_words v.nodes ∷ []) four.bytes l5 in
    let l3 = line_more bound.value.left point.value.left nodes.value.left (point_line_words v.point) (ray_line_words v.ray ∷ nodes_words v.nodes ∷ []) three.bytes l4 in
    let l2 = line_more objective.value.left bound.value.left nodes.value.left (bound_words v.bound) (point_line_words v.point ∷ ray_line_words v.ray ∷ nodes_words v.nodes ∷ []) two.bytes l3 in
    let all : Wrote ps (values_words v) nodes.value.left = line_more ps objective.value.left nodes.value.left (objective_words v.objective) (bound_words v.bound ∷ point_line_words v.point ∷ ray_line_words v.ray ∷ nodes_words v.nodes ∷ []) one.bytes l2 in
    subst (AreValues d ps) {x = made} (same_ok (Ok made) made r refl nodes.two) (record { wrote = all; objective = one.good; bound = two.good; point = three.good; ray = four.good; nodes = five.good })

-- ---- the nodes and the end

record AreNodes (d : DeckValue) (count : ℕ) (ps : Pieces) (ns : List NodeValue) (left : Pieces) : Type 0 where
  wrote : Wrote ps (map node_words ns) left
  size : length ns ≡ count
  good : All (IsWritableNode d) ns

nodes_read_rewritten : (d : DeckValue) (n before : ℕ) (ps : Pieces) (r : Read (List NodeValue)) → nodes_read d n before ps ≡ Ok r → AreNodes d n ps r.value r.left
unfolding nodes_read
nodes_read_rewritten d zero before ps r e =
    let made : Read (List NodeValue) = record { value = []; left = ps } in
    subst (λ (x : Read (List NodeValue)). AreNodes d zero ps x.value x.left) (same_ok (Ok made) made r refl e) (record { wrote = refl; size = refl; good = All-nil (IsWritableNode d) })
nodes_read_rewritten d (suc n) before ps r e =
    let node = steps (next_line_said (node_line d) before ps) (λ node. then_step (nodes_read d n (before + 1) node.left) (λ more. Ok (record { value = node.value ∷ more.value; left = more.left }))) r e in
    let v = node.value.value in
    let more = steps (nodes_read d n (before + 1) node.value.left) (λ more. Ok (record { value = v ∷ more.value; left = more.left })) r node.two in
    let one = line_is_written (node_line d) node_words (IsWritableNode d) before ps node.value (node_rewritten d) node.one in
    let rest = nodes_read_rewritten d n (before + 1) node.value.left more.value more.one in
    let ns = more.value.value in
    let made : Read (List NodeValue) = record { value = v ∷ ns; left = more.value.left } in
    subst (λ (x : Read (List NodeValue)). AreNodes d (suc n) ps x.value x.left) (same_ok (Ok made) made r refl more.two) (record {
      wrote = line_more ps node.value.left more.value.left (node_words v) (map node_words ns) one.bytes rest.wrote;
      size = omega (arith, rest.size);
      good = All-cons (IsWritableNode d) v ns one.good rest.good;
    })

abbrev end_words : Words → Words
end_words v = codes "END" ∷ []

end_line_rewritten : LineAs (labelled (codes "END") ended) end_words IsAny
end_line_rewritten ws v e =
    let l = labelled_rewritten (codes "END") ended ws v e in
    (are_more ws l.left [] (codes "END") l.behind.parts l.behind.some (are_none l.left (ended_rewritten l.left v l.said)), tt)

no_bytes_left : (ps : Pieces) → is_end ps ≡ true → bytes_of ps ≡ []
no_bytes_left [] t = refl
no_bytes_left ([] ∷ []) t = refl
no_bytes_left ([] ∷ p ∷ ps) t = absurd (let bad = t in cc)
no_bytes_left ((b ∷ bs) ∷ ps) t = absurd (let bad = t in cc)

end_rewritten : (before : ℕ) (ps left : Pieces) → end_read before ps ≡ Ok left → bytes_of ps ≡ lines_text ((codes "END" ∷ []) ∷ [])
unfolding end_read
end_rewritten before ps left e =
    let s = steps (next_line_said (labelled (codes "END") ended) before ps) (λ end. if is_end end.left then Ok end.left else Err (before + 2, BadWord)) left e in
    let one = line_is_written (labelled (codes "END") ended) end_words IsAny before ps s.value end_line_rewritten s.one in
    elim (cases_Bool (is_end s.value.left)) [
      | inl t ↦ one.bytes ∙ ap (λ (bs : List ℕ). line_text (codes "END" ∷ []) ++ bs) (no_bytes_left s.value.left t)
      | inr f ↦ absurd (let two = s.two in let bad : Err (before + 2, BadWord) ≡ Ok left = rw f at two in cc)
    ]

-- ---- the whole

-- the lines of an answer are those of its parts
whole_text : (d : DeckValue) (ps p q u : Pieces) (fs vs ns es : List Words) → Wrote ps fs p → Wrote p vs q → Wrote q ns u → bytes_of u ≡ lines_text es → bytes_of ps ≡ lines_text (fs ++ (vs ++ (ns ++ es)))
whole_text d ps p q u fs vs ns es a b c e =
    let three : bytes_of q ≡ lines_text (ns ++ es) = c ∙ ap (λ (bs : List ℕ). lines_text ns ++ bs) e ∙ sym (lines_append ns es) in
    let two : bytes_of p ≡ lines_text (vs ++ (ns ++ es)) = b ∙ ap (λ (bs : List ℕ). lines_text vs ++ bs) three ∙ sym (lines_append vs (ns ++ es)) in
    a ∙ ap (λ (bs : List ℕ). lines_text fs ++ bs) two ∙ sym (lines_append fs (vs ++ (ns ++ es)))

record IsAnswer (d : DeckValue) (ps : Pieces) (a : AnswerValue) : Type 0 where
  writable : IsWritable d a
  bytes : bytes_of ps ≡ tree_text d a

answer_rewritten : (d : DeckValue) (ps : Pieces) (a : AnswerValue) → pieces_read d ps ≡ Ok a → IsAnswer d ps a
unfolding pieces_read tree_text
answer_rewritten d ps a e =
    let front = steps (front_read d ps) _ a e in
    let values = steps (values_read d front.value.left) _ a front.two in
    let n = values.value.value.nodes in
    let nodes = steps (nodes_read d n 10 values.value.left) _ a values.two in
    let end = steps (end_read (n + 10) nodes.value.left) _ a nodes.two in
    let one = front_rewritten d ps front.value front.one in
    let two = values_rewritten d front.value.left values.value values.one in
    let three = nodes_read_rewritten d n 10 values.value.left nodes.value nodes.one in
    let four = end_rewritten (n + 10) nodes.value.left end.value end.one in
    let f = front.value.value in
    let v = values.value.value in
    let ns = nodes.value.value in
    let made : AnswerValue = record { kind = f.kind; why = f.why; tolerance = f.tolerance; objective = v.objective; bound = v.bound; point = v.point; ray = v.ray; tree = ns } in
    let lines = whole_text d ps front.value.left values.value.left nodes.value.left (front_words d f) (values_words v) (map node_words ns) ((codes "END" ∷ []) ∷ []) one.wrote two.wrote three.wrote four in
    let count : values_words v ≡ value_lines made = ap (λ (k : ℕ). objective_words v.objective ∷ bound_words v.bound ∷ point_line_words v.point ∷ ray_line_words v.ray ∷ nodes_words k ∷ []) (sym three.size) in
    let text : bytes_of ps ≡ lines_text (tree_lines d made) = lines ∙ ap (λ (vs : List Words). lines_text (front_words d f ++ (vs ++ (map node_words ns ++ (codes "END" ∷ []) ∷ [])))) count in
    let good : IsWritable d made = record {
      deck = one.deck;
      low = one.tolerance.low;
      short = one.tolerance.short;
      why = one.why;
      objective = two.objective;
      bound = two.bound;
      point = two.point;
      ray = two.ray;
      count = subst (λ (k : ℕ). k ≤ 200001) (sym three.size) two.nodes;
      nodes = three.good;
    } in
    subst (IsAnswer d ps) {x = made} (same_ok (Ok made) made a refl end.two) (record { writable = good; bytes = text })

-- what is read can be written, and the bytes are what is written
pub read_written : (d : DeckValue) (bytes : List ℕ) (a : AnswerValue) → TreeText d bytes a → IsWritable d a × (bytes ≡ tree_text d a)
unfolding tree_read
read_written d bytes a e =
    let h = answer_rewritten d (slice_split ends_line bytes) a e in
    (h.writable, sym (pieces_rewritten bytes) ∙ h.bytes)
