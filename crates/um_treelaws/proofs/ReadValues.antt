-- The lines of what an answer says: the words that were read are those that are written of it.
use Rattle.std.proofs.Common.{◌≡◌, ℕ, zero, suc, ◌≤◌, ◌^◌, ◌≤ℤ◌, true, not, nat_eq, nat_lt, List, [], ◌∷◌, drop, map, length, All, ℤ, pos, Option, Some, None, IfSome, Ok, Err, codes, refl, ap, ◌∙◌, subst, arith, inl, inr}
use Rattle.std.specs.Fmt.{decimal, signed_decimal}
use Rattle.std.proofs.lemmas.Bool.{cases_Bool, ltb-true, ltb-false, eqb-false, not-false}
use Rattle.std.proofs.lemmas.List.Elements.{All-nil, All-cons}
use Rattle.um_laws.specs.Rational.{Rational}
use Rattle.um_num.specs.Numbers.{in_range, IsInRange, then_step}
use Rattle.um_text.specs.NumberWords.{fraction_or_none}
use Rattle.um_model.specs.Values.{DeckValue, PointValue}
use Rattle.um_treetext.specs.declared.fault.TreeWord.TheVariants.{BadWord, TooWide, TooMany}
use Rattle.um_treetext.specs.Words.{Words, Taken, kept, taking, is_next, over, sole, labelled, numeral, natural_word, whole_word, is_at_least, fraction_or_none_said}
use Rattle.um_treetext.specs.FrontLines.{numbers, den_said, point_said, point_line, ray_said, ray_line, nodes_said, nodes_line}
use Rattle.um_treetext.specs.TreeText.{point_words, ray_words}
use Rattle.um_treetext.specs.Writable.{IsWritablePoint, IsWritableRay}
use Rattle.um_treelaws.proofs.ReadSteps.{steps, same_ok, keeps, keeps_last, same_bytes, Begins, begins_none, begins_more, AreWords, are_words, are_more, are_none, SaysAs, took_as, over_rewritten, labelled_rewritten}
use Rattle.um_treelaws.proofs.ReadNumbers.{natural_rewritten, whole_rewritten, least_rewritten}
use Rattle.um_treelaws.proofs.ReadDigits.{numeral_rewritten}
use Rattle.um_treelaws.proofs.ReadFractions.{fraction_or_none_rewritten, IsWritableValue}
use Rattle.um_treelaws.proofs.ReadLines.{LineAs}
use Rattle.um_treelaws.proofs.ReadFront.{label_sole}

-- ---- the objective and the bound

abbrev pub objective_words : Option Rational → Words
objective_words x = codes "OBJECTIVE" ∷ fraction_or_none x ∷ []

pub objective_rewritten : LineAs (labelled (codes "OBJECTIVE") (sole fraction_or_none_said)) objective_words IsWritableValue
objective_rewritten = label_sole (codes "OBJECTIVE") fraction_or_none_said fraction_or_none IsWritableValue fraction_or_none_rewritten

abbrev pub bound_words : Option Rational → Words
bound_words x = codes "BOUND" ∷ fraction_or_none x ∷ []

pub bound_rewritten : LineAs (labelled (codes "BOUND") (sole fraction_or_none_said)) bound_words IsWritableValue
bound_rewritten = label_sole (codes "BOUND") fraction_or_none_said fraction_or_none IsWritableValue fraction_or_none_rewritten

-- ---- the count of nodes

abbrev pub IsNodeCount : ℕ → Type 0
IsNodeCount n = n ≤ 200001

count_rewritten : SaysAs nodes_said decimal IsNodeCount
unfolding nodes_said
count_rewritten word n e =
    let s = steps (natural_word (2 ^ 127) word) (λ n. kept ((nat_lt 200001 n, TooMany) ∷ []) n) n e in
    let k = keeps_last (nat_lt 200001 s.value) TooMany s.value n s.two in
    let m = natural_rewritten (2 ^ 127) (omega arith) word s.value s.one in
    (m.0 ∙ ap decimal k.1, subst IsNodeCount k.1 (ltb-false 200001 s.value k.0))

abbrev pub nodes_words : ℕ → Words
nodes_words n = codes "NODES" ∷ decimal n ∷ []

pub nodes_rewritten : LineAs nodes_line nodes_words IsNodeCount
nodes_rewritten = label_sole (codes "NODES") nodes_said decimal IsNodeCount count_rewritten

-- ---- numbers

-- this many numbers, as they are written
record AreNumbers (count : ℕ) (ws : Words) (parts : List ℤ) (left : Words) : Type 0 where
  begins : Begins ws (map signed_decimal parts) left
  size : length parts ≡ count
  range : All IsInRange parts

numbers_rewritten : (n : ℕ) (ws : Words) (t : Taken (List ℤ)) → numbers n ws ≡ Ok t → AreNumbers n ws t.value t.left
unfolding numbers
numbers_rewritten zero ws t e =
    let same : record { value = []; left = ws } ≡ t = cc in
    subst (λ (x : Taken (List ℤ)). AreNumbers zero ws x.value x.left) same (record { begins = begins_none ws; size = refl; range = All-nil IsInRange })
numbers_rewritten (suc n) ws t e =
    let s = steps (taking whole_word ws) (λ t. then_step (numbers n t.left) (λ more. Ok (record { value = t.value ∷ more.value; left = more.left }))) t e in
    let m = steps (numbers n s.value.left) (λ more. Ok (record { value = s.value.value ∷ more.value; left = more.left })) t s.two in
    let one = took_as whole_word signed_decimal IsInRange ws s.value whole_rewritten s.one in
    let more = numbers_rewritten n s.value.left m.value m.one in
    let z = s.value.value in
    let same : record { value = z ∷ m.value.value; left = m.value.left } ≡ t = same_ok (Ok (record { value = z ∷ m.value.value; left = m.value.left })) (record { value = z ∷ m.value.value; left = m.value.left }) t refl m.two in
    subst (λ (x : Taken (List ℤ)). AreNumbers (suc n) ws x.value x.left) same (record {
      begins = begins_more ws s.value.left m.value.left (map signed_decimal m.value.value) (signed_decimal z) one.parts one.some more.begins;
      size = omega (arith, more.size);
      range = All-cons IsInRange z m.value.value one.good more.range;
    })

-- ---- the word none

none_rewritten : {A : Type 0} (ws : Words) (o : Option A) → is_next (codes "none") ws ≡ true → over None (drop 1 ws) ≡ Ok o → AreWords ws (codes "none" ∷ []) × (None ≡ o)
unfolding is_next
none_rewritten [] o t e = absurd (let bad = t in cc)
none_rewritten (w ∷ ws) o t e =
    let k = over_rewritten None o ws e in
    let is = same_bytes w (codes "none") t in
    (are_more (w ∷ ws) ws [] (codes "none") (ap (λ (x : List ℕ). x ∷ ws) is) refl (are_none ws k.0), k.1)

-- ---- the point

record IsDen (z : ℤ) : Type 0 where
  least : pos 1 ≤ℤ z
  range : IsInRange z

den_rewritten : SaysAs den_said signed_decimal IsDen
unfolding den_said
den_rewritten word z e =
    let s = steps (numeral word) (λ z. kept ((not (is_at_least 1 z), BadWord) ∷ (not (in_range z), TooWide) ∷ []) z) z e in
    let one = keeps (not (is_at_least 1 s.value)) BadWord ((not (in_range s.value), TooWide) ∷ []) s.value z s.two in
    let two = keeps_last (not (in_range s.value)) TooWide s.value z one.1 in
    let range : IsInRange s.value = ltb-true _ (2 ^ 127) (not-false (in_range s.value) two.0) in
    subst (λ (x : ℤ). (word ≡ signed_decimal x) × IsDen x) two.1 (numeral_rewritten word s.value s.one range, record { least = least_rewritten 1 s.value (not-false (is_at_least 1 s.value) one.0); range = range })

abbrev pub IsPointOf : DeckValue → Option PointValue → Type 0
IsPointOf d o = IfSome o (IsWritablePoint d)

point_said_rewritten : (d : DeckValue) (ws : Words) (o : Option PointValue) → point_said (length d.columns) ws ≡ Ok o → AreWords ws (point_words o) × IsPointOf d o
point_said_rewritten d ws o e =
    elim (cases_Bool (is_next (codes "none") ws)) [
      | inl t ↦
          let k = none_rewritten ws o t (rw t at e) in
          subst (λ (x : Option PointValue). AreWords ws (point_words x) × IsPointOf d x) k.1 (k.0, tt)
      | inr f ↦
          let n = length d.columns in
          let g : then_step (taking den_said ws) (λ den. then_step (numbers n den.left) (λ parts. over (Some (record { den = den.value; parts = parts.value })) parts.left)) ≡ Ok o = rw f at e in
          let den = steps (taking den_said ws) (λ den. then_step (numbers n den.left) (λ parts. over (Some (record { den = den.value; parts = parts.value })) parts.left)) o g in
          let parts = steps (numbers n den.value.left) (λ parts. over (Some (record { den = den.value.value; parts = parts.value })) parts.left) o den.two in
          let one = took_as den_said signed_decimal IsDen ws den.value den_rewritten den.one in
          let two = numbers_rewritten n den.value.left parts.value parts.one in
          let p : PointValue = record { den = den.value.value; parts = parts.value.value } in
          let k = over_rewritten (Some p) o parts.value.left parts.two in
          let words = are_more ws den.value.left (map signed_decimal p.parts) (signed_decimal p.den) one.parts one.some (are_words den.value.left parts.value.left (map signed_decimal p.parts) two.begins k.0) in
          let good : IsWritablePoint d p = record { den = one.good.least; range = one.good.range; parts = record { count = two.size; range = two.range } } in
          subst (λ (x : Option PointValue). AreWords ws (point_words x) × IsPointOf d x) {x = Some p} k.1 (words, good)
    ]

abbrev pub point_line_words : Option PointValue → Words
point_line_words o = codes "POINT" ∷ point_words o

pub point_rewritten : (d : DeckValue) → LineAs (point_line (length d.columns)) point_line_words (IsPointOf d)
point_rewritten d ws o e =
    let l = labelled_rewritten (codes "POINT") (point_said (length d.columns)) ws o e in
    let s = point_said_rewritten d l.left o l.said in
    (are_more ws l.left (point_words o) (codes "POINT") l.behind.parts l.behind.some s.0, s.1)

-- ---- the ray

abbrev pub IsRayOf : DeckValue → Option (List ℤ) → Type 0
IsRayOf d o = IfSome o (IsWritableRay d)

ray_said_rewritten : (d : DeckValue) (ws : Words) (o : Option (List ℤ)) → ray_said (length d.columns) ws ≡ Ok o → AreWords ws (ray_words o) × IsRayOf d o
ray_said_rewritten d ws o e =
    elim (cases_Bool (is_next (codes "none") ws)) [
      | inl t ↦
          let k = none_rewritten ws o t (rw t at e) in
          subst (λ (x : Option (List ℤ)). AreWords ws (ray_words x) × IsRayOf d x) k.1 (k.0, tt)
      | inr f ↦
          elim (cases_Bool (nat_eq (length d.columns) 0)) [
            | inl z ↦ absurd (let bad : Err BadWord ≡ Ok o = rw (f, z) at e in cc)
            | inr some ↦
                let n = length d.columns in
                let g : then_step (numbers n ws) (λ parts. over (Some parts.value) parts.left) ≡ Ok o = rw (f, some) at e in
                let parts = steps (numbers n ws) (λ parts. over (Some parts.value) parts.left) o g in
                let two = numbers_rewritten n ws parts.value parts.one in
                let k = over_rewritten (Some parts.value.value) o parts.value.left parts.two in
                let words = are_words ws parts.value.left (map signed_decimal parts.value.value) two.begins k.0 in
                let other = eqb-false n 0 some in
                let good : IsWritableRay d parts.value.value = record { some = omega (arith, other); parts = record { count = two.size; range = two.range } } in
                subst (λ (x : Option (List ℤ)). AreWords ws (ray_words x) × IsRayOf d x) k.1 (words, good)
          ]
    ]

abbrev pub ray_line_words : Option (List ℤ) → Words
ray_line_words o = codes "RAY" ∷ ray_words o

pub ray_rewritten : (d : DeckValue) → LineAs (ray_line (length d.columns)) ray_line_words (IsRayOf d)
ray_rewritten d ws o e =
    let l = labelled_rewritten (codes "RAY") (ray_said (length d.columns)) ws o e in
    let s = ray_said_rewritten d l.left o l.said in
    (are_more ws l.left (ray_words o) (codes "RAY") l.behind.parts l.behind.some s.0, s.1)
