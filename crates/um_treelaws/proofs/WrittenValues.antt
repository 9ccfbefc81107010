-- The lines of what an answer says, and of how many nodes it has, say what was written.
use Rattle.std.proofs.Common.{◌≡◌, ℕ, ◌<◌, ◌≤◌, ◌^◌, true, false, nat_eq, List, [], ◌∷◌, map, length, ℤ, Option, Some, None, IfSome, Ok, codes, refl, ◌∙◌, arith}
use Rattle.std.specs.Prelude.{All}
use Rattle.std.specs.Fmt.{decimal, signed_decimal}
use Rattle.std.proofs.lemmas.Bool.{and_from, ne_eqb, le-ltb}
use Rattle.std.proofs.lemmas.List.Elements.{All-head, All-tail}
use Rattle.um_laws.specs.Rational.{Rational}
use Rattle.um_num.specs.Numbers.{IsInRange}
use Rattle.um_text.specs.NumberWords.{fraction_or_none}
use Rattle.um_model.specs.Values.{DeckValue, PointValue}
use Rattle.um_treetext.specs.TreeText.{point_words, ray_words}
use Rattle.um_treetext.specs.Words.{labelled, sole, is_next, whole_word, fraction_or_none_said}
use Rattle.um_treetext.specs.FrontLines.{numbers, den_said, point_said, point_line, ray_said, ray_line, nodes_said, nodes_line}
use Rattle.um_treetext.specs.Writable.{AreParts, IsWritableFraction, IsWritablePoint, IsWritableRay}
use Rattle.um_treelaws.proofs.WrittenLines.{IsPiece, IsLineOf, taking_piece, labelled_same, sole_piece}
use Rattle.um_treelaws.proofs.WrittenNumbers.{plain_decimal, plain_signed, other_word, natural_back, whole_back, den_back, piece_fraction, fraction_or_none_back}
use Rattle.um_treelaws.proofs.WrittenFront.{are_pieces}

-- ---- fractions

pub fraction_written : (label : List ℕ) (o : Option Rational) → IsPiece label → IfSome o IsWritableFraction → IsLineOf (labelled label (sole fraction_or_none_said)) (label ∷ fraction_or_none o ∷ []) o
fraction_written label o name h =
    let p = piece_fraction o h in
    record {
      some = omega arith;
      bytes = and_from _ _ name.bytes (and_from _ _ p.bytes refl);
      said = labelled_same label (sole fraction_or_none_said) (fraction_or_none o ∷ []) name.some ∙ sole_piece fraction_or_none_said (fraction_or_none o) o p.some (fraction_or_none_back o h);
    }

-- ---- numbers

-- the words of numbers are as many, and these numbers
numbers_back : (parts : List ℤ) → All IsInRange parts → numbers (length parts) (map signed_decimal parts) ≡ Ok (record { value = parts; left = [] })
unfolding numbers
numbers_back [] h = refl
numbers_back (z ∷ zs) h =
    let here = All-head IsInRange z zs h in
    rw (
      taking_piece whole_word (signed_decimal z) (map signed_decimal zs) z (plain_signed z here).piece.some (whole_back z here),
      numbers_back zs (All-tail IsInRange z zs h),
    ) refl

parts_back : (d : DeckValue) (parts : List ℤ) → AreParts d parts → numbers (length d.columns) (map signed_decimal parts) ≡ Ok (record { value = parts; left = [] })
parts_back d parts h = rw (← h.count) (numbers_back parts h.range)

numbers_pieces : (parts : List ℤ) → All IsInRange parts → are_pieces (map signed_decimal parts) ≡ true
numbers_pieces [] h = refl
numbers_pieces (z ∷ zs) h =
    and_from _ _ (plain_signed z (All-head IsInRange z zs h)).piece.bytes (numbers_pieces zs (All-tail IsInRange z zs h))

-- ---- the point

point_back : (d : DeckValue) (o : Option PointValue) → IfSome o (IsWritablePoint d) → point_said (length d.columns) (point_words o) ≡ Ok o
unfolding is_next
point_back d None h = refl
point_back d (Some p) h =
    rw (
      other_word p.den (codes "none") h.range refl,
      taking_piece den_said (signed_decimal p.den) (map signed_decimal p.parts) p.den (plain_signed p.den h.range).piece.some (den_back p.den h.den h.range),
      parts_back d p.parts h.parts,
    ) refl

point_pieces : (d : DeckValue) (o : Option PointValue) → IfSome o (IsWritablePoint d) → are_pieces (point_words o) ≡ true
point_pieces d None h = refl
point_pieces d (Some p) h = and_from _ _ (plain_signed p.den h.range).piece.bytes (numbers_pieces p.parts h.parts.range)

pub point_written : (d : DeckValue) (o : Option PointValue) → IfSome o (IsWritablePoint d) → IsLineOf (point_line (length d.columns)) (codes "POINT" ∷ point_words o) o
point_written d o h = record {
  some = omega arith;
  bytes = and_from _ _ refl (point_pieces d o h);
  said = labelled_same (codes "POINT") (point_said (length d.columns)) (point_words o) (omega arith) ∙ point_back d o h;
}

-- ---- the ray

-- the first of some numbers is not `none`
numbers_next : (parts : List ℤ) → 0 < length parts → All IsInRange parts → is_next (codes "none") (map signed_decimal parts) ≡ false
unfolding is_next
numbers_next [] some h = absurd (omega arith)
numbers_next (z ∷ zs) some h = other_word z (codes "none") (All-head IsInRange z zs h) refl

ray_some : (d : DeckValue) (parts : List ℤ) → IsWritableRay d parts → ray_said (length d.columns) (map signed_decimal parts) ≡ Ok (Some parts)
ray_some d parts h =
    let many : 0 < length parts = let c = h.parts.count in let s = h.some in omega (arith, c, s) in
    let columns : nat_eq (length d.columns) 0 ≡ false = ne_eqb (length d.columns) 0 (λ e. let s = h.some in absurd (omega (arith, e, s))) in
    rw (numbers_next parts many h.parts.range, columns, parts_back d parts h.parts) refl

ray_back : (d : DeckValue) (o : Option (List ℤ)) → IfSome o (IsWritableRay d) → ray_said (length d.columns) (ray_words o) ≡ Ok o
unfolding is_next
ray_back d None h = refl
ray_back d (Some parts) h = ray_some d parts h

ray_pieces : (d : DeckValue) (o : Option (List ℤ)) → IfSome o (IsWritableRay d) → are_pieces (ray_words o) ≡ true
ray_pieces d None h = refl
ray_pieces d (Some parts) h = numbers_pieces parts h.parts.range

pub ray_written : (d : DeckValue) (o : Option (List ℤ)) → IfSome o (IsWritableRay d) → IsLineOf (ray_line (length d.columns)) (codes "RAY" ∷ ray_words o) o
ray_written d o h = record {
  some = omega arith;
  bytes = and_from _ _ refl (ray_pieces d o h);
  said = labelled_same (codes "RAY") (ray_said (length d.columns)) (ray_words o) (omega arith) ∙ ray_back d o h;
}

-- ---- the count of nodes

nodes_back : (n : ℕ) → n ≤ 200001 → nodes_said (decimal n) ≡ Ok n
unfolding nodes_said
nodes_back n h = rw (natural_back (2 ^ 127) n (omega arith) (omega (arith, h)), le-ltb 200001 n h) refl

pub nodes_written : (n : ℕ) → n ≤ 200001 → IsLineOf nodes_line (codes "NODES" ∷ decimal n ∷ []) n
nodes_written n h =
    let p = (plain_decimal n (omega (arith, h))).piece in
    record {
      some = omega arith;
      bytes = and_from _ _ refl (and_from _ _ p.bytes refl);
      said = labelled_same (codes "NODES") (sole nodes_said) (decimal n ∷ []) (omega arith) ∙ sole_piece nodes_said (decimal n) n p.some (nodes_back n h);
    }
