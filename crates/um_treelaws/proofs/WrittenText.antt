-- The text of an answer is read as that answer.
use Rattle.std.proofs.Common.{◌≡◌, ℕ, ◌+◌, true, List, [], ◌∷◌, ◌++◌, map, length, Ok, codes, decimal, refl, ap, ◌∙◌, arith}
use Rattle.std.specs.Prelude.{All}
use Rattle.std.specs.Fmt.{signed_decimal}
use Rattle.std.specs.List.{list_all}
use Rattle.std.proofs.lemmas.Bool.{and_from}
use Rattle.std.proofs.lemmas.List.Elements.{All-head, All-tail}
use Rattle.std.proofs.lemmas.List.Folds.{list_all-append}
use Rattle.um_text.specs.NumberWords.{fraction_or_none}
use Rattle.um_model.specs.Values.{DeckValue}
use Rattle.um_model.specs.AnswerValues.{AnswerValue, NodeValue}
use Rattle.um_treetext.specs.TreeText.{deck_words, kind_word, why_words, point_words, ray_words, node_words, front_lines, value_lines, tree_lines, tree_text}
use Rattle.um_treetext.specs.Words.{Words, ended, labelled, sole, fraction_or_none_said}
use Rattle.um_treetext.specs.FrontLines.{version_line, deck_line, tolerance_line, kind_line, why_line, point_line, ray_line, nodes_line}
use Rattle.um_treetext.specs.NodeLines.{node_line}
use Rattle.um_treetext.specs.Reading.{front_read, values_read, nodes_read, end_read, pieces_read, tree_read}
use Rattle.um_treetext.specs.Writable.{IsWritable, IsWritableNode}
use Rattle.um_treelaws.proofs.WrittenLines.{IsPiece, IsLineOf, pieces_of, text_cut, line_read, labelled_same}
use Rattle.um_treelaws.proofs.WrittenFront.{are_pieces, version_written, deck_written, tolerance_written, kind_written, why_written}
use Rattle.um_treelaws.proofs.WrittenValues.{fraction_written, point_written, ray_written, nodes_written}
use Rattle.um_treelaws.proofs.WrittenNodes.{node_written}

-- ---- the lines up to the cause

front_pieces : (d : DeckValue) (a : AnswerValue) → IsWritable d a → list_all are_pieces (front_lines d a) ≡ true
front_pieces d a h =
    and_from _ _ version_written.bytes (and_from _ _ (deck_written d h.deck).bytes (and_from _ _ (tolerance_written a.tolerance h.low h.short).bytes
    (and_from _ _ (kind_written a.kind).bytes (and_from _ _ (why_written a.why h.why).bytes refl))))

front_back : (d : DeckValue) (a : AnswerValue) (ls : List Words) → IsWritable d a → front_read d (pieces_of (front_lines d a ++ ls)) ≡ Ok (record { value = record { tolerance = a.tolerance; kind = a.kind; why = a.why }; left = pieces_of ls })
unfolding front_read
front_back d a ls h =
    let deck : Words = deck_words d in
    let tolerance : Words = codes "TOLERANCE" ∷ signed_decimal a.tolerance ∷ [] in
    let kind : Words = codes "ANSWER" ∷ kind_word a.kind ∷ [] in
    let why : Words = codes "WHY" ∷ why_words a.why in
    rw (
      line_read version_line (codes "UMPIRE" ∷ codes "TREE" ∷ codes "1" ∷ []) [] 0 (deck ∷ tolerance ∷ kind ∷ why ∷ ls) version_written,
      line_read (deck_line d) deck (length d.arcs) 1 (tolerance ∷ kind ∷ why ∷ ls) (deck_written d h.deck),
      line_read tolerance_line tolerance a.tolerance 2 (kind ∷ why ∷ ls) (tolerance_written a.tolerance h.low h.short),
      line_read kind_line kind a.kind 3 (why ∷ ls) (kind_written a.kind),
      line_read why_line why a.why 4 ls (why_written a.why h.why),
    ) refl

-- ---- the lines of what the answer says

objective_label : IsPiece (codes "OBJECTIVE")
objective_label = record { bytes = refl; some = omega arith }

bound_label : IsPiece (codes "BOUND")
bound_label = record { bytes = refl; some = omega arith }

values_pieces : (d : DeckValue) (a : AnswerValue) → IsWritable d a → list_all are_pieces (value_lines a) ≡ true
values_pieces d a h =
    and_from _ _ (fraction_written (codes "OBJECTIVE") a.objective objective_label h.objective).bytes (and_from _ _ (fraction_written (codes "BOUND") a.bound bound_label h.bound).bytes
    (and_from _ _ (point_written d a.point h.point).bytes (and_from _ _ (ray_written d a.ray h.ray).bytes (and_from _ _ (nodes_written (length a.tree) h.count).bytes refl))))

values_back : (d : DeckValue) (a : AnswerValue) (ls : List Words) → IsWritable d a → values_read d (pieces_of (value_lines a ++ ls)) ≡ Ok (record { value = record { objective = a.objective; bound = a.bound; point = a.point; ray = a.ray; nodes = length a.tree }; left = pieces_of ls })
unfolding values_read
values_back d a ls h =
    let objective : Words = codes "OBJECTIVE" ∷ fraction_or_none a.objective ∷ [] in
    let bound : Words = codes "BOUND" ∷ fraction_or_none a.bound ∷ [] in
    let point : Words = codes "POINT" ∷ point_words a.point in
    let ray : Words = codes "RAY" ∷ ray_words a.ray in
    let nodes : Words = codes "NODES" ∷ decimal (length a.tree) ∷ [] in
    rw (
      line_read (labelled (codes "OBJECTIVE") (sole fraction_or_none_said)) objective a.objective 5 (bound ∷ point ∷ ray ∷ nodes ∷ ls) (fraction_written (codes "OBJECTIVE") a.objective objective_label h.objective),
      line_read (labelled (codes "BOUND") (sole fraction_or_none_said)) bound a.bound 6 (point ∷ ray ∷ nodes ∷ ls) (fraction_written (codes "BOUND") a.bound bound_label h.bound),
      line_read (point_line (length d.columns)) point a.point 7 (ray ∷ nodes ∷ ls) (point_written d a.point h.point),
      line_read (ray_line (length d.columns)) ray a.ray 8 (nodes ∷ ls) (ray_written d a.ray h.ray),
      line_read nodes_line nodes (length a.tree) 9 ls (nodes_written (length a.tree) h.count),
    ) refl

-- ---- the nodes and the end

nodes_pieces : (d : DeckValue) (ns : List NodeValue) → All (IsWritableNode d) ns → list_all are_pieces (map node_words ns) ≡ true
nodes_pieces d [] h = refl
nodes_pieces d (n ∷ ns) h = and_from _ _ (node_written d n (All-head (IsWritableNode d) n ns h)).bytes (nodes_pieces d ns (All-tail (IsWritableNode d) n ns h))

nodes_back : (d : DeckValue) (ns : List NodeValue) (before : ℕ) (ls : List Words) → All (IsWritableNode d) ns → nodes_read d (length ns) before (pieces_of (map node_words ns ++ ls)) ≡ Ok (record { value = ns; left = pieces_of ls })
unfolding nodes_read
nodes_back d [] before ls h = refl
nodes_back d (n ∷ ns) before ls h =
    rw (
      line_read (node_line d) (node_words n) n before (map node_words ns ++ ls) (node_written d n (All-head (IsWritableNode d) n ns h)),
      nodes_back d ns (before + 1) ls (All-tail (IsWritableNode d) n ns h),
    ) refl

abbrev end_words : Words
end_words = codes "END" ∷ []

end_written : IsLineOf (labelled (codes "END") ended) end_words []
end_written = record { some = omega arith; bytes = refl; said = labelled_same (codes "END") ended [] (omega arith) }

end_back : (before : ℕ) → end_read before (pieces_of (end_words ∷ [])) ≡ Ok ([] ∷ [])
unfolding end_read
end_back before = rw (line_read (labelled (codes "END") ended) end_words [] before [] end_written) refl

-- ---- the text

lines_pieces : (d : DeckValue) (a : AnswerValue) → IsWritable d a → list_all are_pieces (tree_lines d a) ≡ true
lines_pieces d a h =
    let nodes = map node_words a.tree in
    let last = end_words ∷ [] in
    let back = list_all-append are_pieces nodes last ∙ and_from _ _ (nodes_pieces d a.tree h.nodes) refl in
    let values = list_all-append are_pieces (value_lines a) (nodes ++ last) ∙ and_from _ _ (values_pieces d a h) back in
    list_all-append are_pieces (front_lines d a) (value_lines a ++ (nodes ++ last)) ∙ and_from _ _ (front_pieces d a h) values

pieces_back : (d : DeckValue) (a : AnswerValue) → IsWritable d a → pieces_read d (pieces_of (tree_lines d a)) ≡ Ok a
unfolding pieces_read
pieces_back d a h =
    rw (
      front_back d a (value_lines a ++ (map node_words a.tree ++ end_words ∷ [])) h,
      values_back d a (map node_words a.tree ++ end_words ∷ []) h,
      nodes_back d a.tree 10 (end_words ∷ []) h.nodes,
      end_back (length a.tree + 10),
    ) refl

pub written_read : (d : DeckValue) (a : AnswerValue) → IsWritable d a → tree_read d (tree_text d a) ≡ Ok a
unfolding tree_read tree_text
written_read d a h = ap (pieces_read d) (text_cut (tree_lines d a) (lines_pieces d a h)) ∙ pieces_back d a h
