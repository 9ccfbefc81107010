-- The lines up to the cause say what was written.
use Rattle.std.proofs.Common.{◌≡◌, ℕ, ◌<◌, ◌≤◌, ◌^◌, Bool, true, List, [], ◌∷◌, length, ℤ, pos, ◌≤ℤ◌, Option, Some, None, IfSome, Ok, codes, refl, ◌∙◌, arith}
use Rattle.std.specs.Fmt.{decimal, signed_decimal}
use Rattle.std.specs.List.{list_all}
use Rattle.std.proofs.lemmas.Bool.{and_from}
use Rattle.std.proofs.lemmas.Slice.Eq.{bytes_eq-Decides}
use Rattle.um_num.specs.Numbers.{IsInRange, then_step}
use Rattle.um_num.specs.declared.exact.Op.{Op}
use Rattle.um_num.specs.declared.exact.Op.TheVariants.{Add, Sub, Mul}
use Rattle.um_num.specs.declared.exact.Wide.{Wide}
use Rattle.um_model.specs.Values.{DeckValue}
use Rattle.um_model.specs.declared.answer.AnswerKind.{AnswerKind}
use Rattle.um_model.specs.declared.answer.AnswerKind.TheVariants as kind
use Rattle.um_model.specs.declared.answer.Why.{Why}
use Rattle.um_model.specs.declared.answer.Why.TheVariants as why
use Rattle.um_treetext.specs.TreeText.{name_word, deck_words, kind_word, op_word, step_words, why_words}
use Rattle.um_treetext.specs.Words.{Words, taking, sole, over, natural_word, whole_word, is_short, next_word}
use Rattle.um_treetext.specs.FrontLines.{is_name_byte, version_line, name_said, count_said, deck_line, tolerance_said, tolerance_line, kind_said, kind_line, op_said, wide_said, step_place_said, step_said, place_said, cause_called, cause_said, why_line}
use Rattle.um_treetext.specs.Writable.{IsNamed, IsStep, IsWritableWhy}
use Rattle.um_treelaws.proofs.WrittenLines.{IsPiece, IsLineOf, taking_piece, fixed_same, labelled_same, sole_piece}
use Rattle.um_treelaws.proofs.WrittenNumbers.{plain_decimal, plain_signed, natural_back, whole_back, short_range, tolerance_back, count_said_back}

-- ---- words of a line

-- all words of a line can stand in it
abbrev pub are_pieces : Words → Bool
are_pieces = list_all (list_all is_name_byte)

-- the word of a number of a field can stand in a line
pub piece_below : (limit n : ℕ) → limit ≤ 2 ^ 127 → n < limit → IsPiece (decimal n)
piece_below limit n within h = (plain_decimal n (omega (arith, within, h))).piece

-- and is read as that number
pub taking_below : (limit n : ℕ) (ws : Words) → limit ≤ 2 ^ 127 → n < limit → taking (natural_word limit) (decimal n ∷ ws) ≡ Ok (record { value = n; left = ws })
taking_below limit n ws within h = taking_piece (natural_word limit) (decimal n) ws n (piece_below limit n within h).some (natural_back limit n within h)

-- ---- the version

pub version_written : IsLineOf version_line (codes "UMPIRE" ∷ codes "TREE" ∷ codes "1" ∷ []) []
version_written = record {
  some = omega arith;
  bytes = refl;
  said = rw (fixed_same (codes "UMPIRE") (codes "TREE" ∷ codes "1" ∷ []) (omega arith), fixed_same (codes "TREE") (codes "1" ∷ []) (omega arith), fixed_same (codes "1") [] (omega arith)) refl;
}

-- ---- the deck

piece_name : (name : List ℕ) → list_all is_name_byte name ≡ true → IsPiece (name_word name)
piece_name [] t = record { bytes = refl; some = omega arith }
piece_name (b ∷ bs) t = record { bytes = t; some = omega arith }

name_back : (name : List ℕ) → list_all is_name_byte name ≡ true → name_said name (name_word name) ≡ Ok (name_word name)
unfolding name_said
name_back name t = rw (t, (bytes_eq-Decides (name_word name) (name_word name)).1 refl) refl

taking_count : (n : ℕ) (ws : Words) → n < 2 ^ 127 → taking (count_said n) (decimal n ∷ ws) ≡ Ok (record { value = n; left = ws })
taking_count n ws h = taking_piece (count_said n) (decimal n) ws n (plain_decimal n h).piece.some (count_said_back n h)

pub deck_written : (d : DeckValue) → IsNamed d → IsLineOf (deck_line d) (deck_words d) (length d.arcs)
deck_written d h =
    let rows : List ℕ = decimal (length d.rows) in
    let columns : List ℕ = decimal (length d.columns) in
    let sets : List ℕ = decimal (length d.sets) in
    let arcs : List ℕ = decimal (length d.arcs) in
    let name = piece_name d.name h.name in
    record {
      some = omega arith;
      bytes = and_from _ _ refl (and_from _ _ name.bytes (and_from _ _ (plain_decimal _ h.rows).piece.bytes
          (and_from _ _ (plain_decimal _ h.columns).piece.bytes (and_from _ _ (plain_decimal _ h.sets).piece.bytes (and_from _ _ (plain_decimal _ h.arcs).piece.bytes refl)))));
      said = rw (
        fixed_same (codes "DECK") (name_word d.name ∷ rows ∷ columns ∷ sets ∷ arcs ∷ []) (omega arith),
        taking_piece (name_said d.name) (name_word d.name) (rows ∷ columns ∷ sets ∷ arcs ∷ []) (name_word d.name) name.some (name_back d.name h.name),
        taking_count (length d.rows) (columns ∷ sets ∷ arcs ∷ []) h.rows,
        taking_count (length d.columns) (sets ∷ arcs ∷ []) h.columns,
        taking_count (length d.sets) (arcs ∷ []) h.sets,
        taking_count (length d.arcs) [] h.arcs,
      ) refl;
    }

-- ---- the tolerance and the kind

pub tolerance_written : (z : ℤ) → pos 0 ≤ℤ z → is_short z ≡ true → IsLineOf tolerance_line (codes "TOLERANCE" ∷ signed_decimal z ∷ []) z
tolerance_written z up short =
    let p = (plain_signed z (short_range z short)).piece in
    record {
      some = omega arith;
      bytes = and_from _ _ refl (and_from _ _ p.bytes refl);
      said = labelled_same (codes "TOLERANCE") (sole tolerance_said) (signed_decimal z ∷ []) (omega arith) ∙ sole_piece tolerance_said (signed_decimal z) z p.some (tolerance_back z up short);
    }

kind_back : (k : AnswerKind) → kind_said (kind_word k) ≡ Ok k
kind_back kind.Optimal = refl
kind_back kind.Infeasible = refl
kind_back kind.Unbounded = refl
kind_back kind.Limit = refl
kind_back kind.Overflow = refl

piece_kind : (k : AnswerKind) → IsPiece (kind_word k)
piece_kind kind.Optimal = record { bytes = refl; some = omega arith }
piece_kind kind.Infeasible = record { bytes = refl; some = omega arith }
piece_kind kind.Unbounded = record { bytes = refl; some = omega arith }
piece_kind kind.Limit = record { bytes = refl; some = omega arith }
piece_kind kind.Overflow = record { bytes = refl; some = omega arith }

pub kind_written : (k : AnswerKind) → IsLineOf kind_line (codes "ANSWER" ∷ kind_word k ∷ []) k
kind_written k =
    let p = piece_kind k in
    record {
      some = omega arith;
      bytes = and_from _ _ refl (and_from _ _ p.bytes refl);
      said = labelled_same (codes "ANSWER") (sole kind_said) (kind_word k ∷ []) (omega arith) ∙ sole_piece kind_said (kind_word k) k p.some (kind_back k);
    }

-- ---- the cause

op_back : (op : Op) → op_said (op_word op) ≡ Ok op
op_back Add = refl
op_back Sub = refl
op_back Mul = refl

piece_op : (op : Op) → IsPiece (op_word op)
piece_op Add = record { bytes = refl; some = omega arith }
piece_op Sub = record { bytes = refl; some = omega arith }
piece_op Mul = record { bytes = refl; some = omega arith }

taking_whole : (z : ℤ) (ws : Words) → IsInRange z → taking whole_word (signed_decimal z ∷ ws) ≡ Ok (record { value = z; left = ws })
taking_whole z ws h = taking_piece whole_word (signed_decimal z) ws z (plain_signed z h).piece.some (whole_back z h)

wide_back : (w : Wide) → IsInRange w.left → IsInRange w.right → wide_said (op_word w.op ∷ signed_decimal w.left ∷ signed_decimal w.right ∷ []) ≡ Ok (record { value = w; left = [] })
unfolding wide_said
wide_back w h k =
    rw (
      taking_piece op_said (op_word w.op) (signed_decimal w.left ∷ signed_decimal w.right ∷ []) w.op (piece_op w.op).some (op_back w.op),
      taking_whole w.left (signed_decimal w.right ∷ []) h,
      taking_whole w.right [] k,
    ) refl

step_place_back : (number step : ℕ) (ws : Words) → number < 2 ^ 32 → step < 2 ^ 64 → step_place_said (decimal number ∷ decimal step ∷ ws) ≡ Ok (record { value = (number, step); left = ws })
unfolding step_place_said
step_place_back number step ws h k = rw (taking_below (2 ^ 32) number (decimal step ∷ ws) (omega arith) h, taking_below (2 ^ 64) step ws (omega arith) k) refl

step_back : (made : ℕ → ℕ → Wide → Why) (number step : ℕ) (w : Wide) → IsStep number step w → step_said made (step_words number step w) ≡ Ok (record { value = Some (made number step w); left = [] })
unfolding step_said
step_back made number step w h =
    rw (step_place_back number step (op_word w.op ∷ signed_decimal w.left ∷ signed_decimal w.right ∷ []) h.number h.step, wide_back w h.left h.right) refl

place_back : (made : ℕ → Why) (number : ℕ) → number < 2 ^ 32 → place_said made (decimal number ∷ []) ≡ Ok (record { value = Some (made number); left = [] })
unfolding place_said
place_back made number h = rw (taking_below (2 ^ 32) number [] (omega arith) h) refl

-- a cause's words behind its label
why_back : (cause : Option Why) → IfSome cause IsWritableWhy → then_step (taking cause_called (why_words cause)) (λ word. then_step (cause_said word.value word.left) (λ t. over t.value t.left)) ≡ Ok cause
unfolding taking next_word
why_back None h = refl
why_back (Some why.Nodes) h = refl
why_back (Some why.Pivots) h = refl
why_back (Some (why.Points column)) h = rw (place_back why.Points column h) refl
why_back (Some (why.Grid number)) h = rw (place_back why.Grid number h) refl
why_back (Some (why.Pivot number step wide)) h = rw (step_back why.Pivot number step wide h) refl
why_back (Some (why.Value number step wide)) h = rw (step_back why.Value number step wide h) refl
why_back (Some (why.Leaf number)) h = rw (place_back why.Leaf number h) refl
why_back (Some (why.Vertex number)) h = rw (place_back why.Vertex number h) refl
why_back (Some why.Ray) h = refl

step_pieces : (number step : ℕ) (w : Wide) → IsStep number step w → are_pieces (step_words number step w) ≡ true
step_pieces number step w h =
    and_from _ _ (piece_below (2 ^ 32) number (omega arith) h.number).bytes (and_from _ _ (piece_below (2 ^ 64) step (omega arith) h.step).bytes
    (and_from _ _ (piece_op w.op).bytes (and_from _ _ (plain_signed w.left h.left).piece.bytes (and_from _ _ (plain_signed w.right h.right).piece.bytes refl))))

place_pieces : (number : ℕ) → number < 2 ^ 32 → are_pieces (decimal number ∷ []) ≡ true
place_pieces number h = and_from _ _ (piece_below (2 ^ 32) number (omega arith) h).bytes refl

why_pieces : (cause : Option Why) → IfSome cause IsWritableWhy → are_pieces (why_words cause) ≡ true
why_pieces None h = refl
why_pieces (Some why.Nodes) h = refl
why_pieces (Some why.Pivots) h = refl
why_pieces (Some (why.Points column)) h = and_from _ _ refl (place_pieces column h)
why_pieces (Some (why.Grid number)) h = and_from _ _ refl (place_pieces number h)
why_pieces (Some (why.Pivot number step wide)) h = and_from _ _ refl (step_pieces number step wide h)
why_pieces (Some (why.Value number step wide)) h = and_from _ _ refl (step_pieces number step wide h)
why_pieces (Some (why.Leaf number)) h = and_from _ _ refl (place_pieces number h)
why_pieces (Some (why.Vertex number)) h = and_from _ _ refl (place_pieces number h)
why_pieces (Some why.Ray) h = refl

pub why_written : (cause : Option Why) → IfSome cause IsWritableWhy → IsLineOf why_line (codes "WHY" ∷ why_words cause) cause
why_written cause h = record {
  some = omega arith;
  bytes = and_from _ _ refl (why_pieces cause h);
  said = rw (fixed_same (codes "WHY") (why_words cause) (omega arith)) (why_back cause h);
}
