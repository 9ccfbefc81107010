-- Where a text is cut into lines.
use Rattle.std.proofs.Common.{◌≡◌, ℕ, suc, ◌+◌, ◌<◌, ◌≤◌, List, [], ◌∷◌, length, take, drop, true, false, Some, None, Ok, Err, refl, sym, ap, ◌∙◌, arith, nat_lt, nat_eq, inl, inr}
use Rattle.std.specs.List.{position, position_or_len, slice_split, onto_first}
use Rattle.std.proofs.lemmas.Bool.{cases_Bool, ne_eqb, cond-true, cond-false, ltb-true, ltb-false}
use Rattle.um_text.specs.Lines.{ends_line}
use Rattle.um_treetext.specs.declared.fault.TreeWord.TheVariants.{NoEnd}
use Rattle.um_treetext.specs.Words.{line_words}
use Rattle.um_treetext.specs.Reading.{Pieces, line_taken, is_end}

abbrev pub before : List ℕ → ℕ
before = position_or_len ends_line

abbrev pub pieces : List ℕ → Pieces
pieces = slice_split ends_line

before_end : (x : ℕ) (xs : List ℕ) → ends_line x ≡ true → before (x ∷ xs) ≡ 0
before_end x xs e = rw e refl

before_other : (x : ℕ) (xs : List ℕ) → ends_line x ≡ false → before (x ∷ xs) ≡ 1 + before xs
before_other x xs e = rw e refl

cut_before : (bs : List ℕ) → before bs < length bs → pieces bs ≡ take (before bs) bs ∷ pieces (drop (before bs + 1) bs)
cut_before [] h = absurd (omega arith)
cut_before (x ∷ xs) h =
    elim (cases_Bool (ends_line x)) [
      | inl e ↦ rw (before_end x xs e, e) refl
      | inr e ↦
          let n = before xs in
          let size : before (x ∷ xs) ≡ suc n = rw (before_other x xs e) (omega arith) in
          let next : suc n + 1 ≡ suc (n + 1) = omega arith in
          let inner = cut_before xs (omega (arith, size, h)) in
          rw (size, next, e, inner) refl
    ]

last_piece : (bs : List ℕ) → length bs ≤ before bs → pieces bs ≡ bs ∷ []
last_piece [] h = refl
last_piece (x ∷ xs) h =
    elim (cases_Bool (ends_line x)) [
      | inl e ↦ let size = before_end x xs e in absurd (omega (arith, size, h))
      | inr e ↦
          let size : before (x ∷ xs) ≡ 1 + before xs = before_other x xs e in
          rw (e, last_piece xs (omega (arith, size, h))) refl
    ]

onto_some : (x : ℕ) (ps : Pieces) (line : List ℕ) (number : ℕ) → line_taken number (line ∷ onto_first x ps) ≡ Ok (record { value = line_words line; left = onto_first x ps })
unfolding line_taken
onto_some x [] line number = refl
onto_some x (p ∷ ps) line number = refl

some_pieces : (bs : List ℕ) (line : List ℕ) (number : ℕ) → line_taken number (line ∷ pieces bs) ≡ Ok (record { value = line_words line; left = pieces bs })
unfolding line_taken
some_pieces [] line number = refl
some_pieces (x ∷ xs) line number = elim (cases_Bool (ends_line x)) [ inl e ↦ rw e refl | inr e ↦ rw e (onto_some x (pieces xs) line number) ]

-- the next line stands before the first LF
pub line_at : (bs : List ℕ) (at number : ℕ) → Some at ≡ position ends_line bs → line_taken number (pieces bs) ≡ Ok (record { value = line_words (take at bs); left = pieces (drop (at + 1) bs) })
line_at bs at number e =
    elim (cases_Bool (nat_lt (before bs) (length bs))) [
      | inl t ↦
          let same : Some at ≡ Some (before bs) = e ∙ cond-true _ _ _ t in
          let is : at ≡ before bs = cc in
          rw (is, cut_before bs (ltb-true _ _ t)) (some_pieces (drop (before bs + 1) bs) (take (before bs) bs) number)
      | inr t ↦ let other : Some at ≡ None = e ∙ cond-false _ _ _ t in cc
    ]

-- without an LF there is no line
pub no_line : (bs : List ℕ) (number : ℕ) → None ≡ position ends_line bs → line_taken number (pieces bs) ≡ Err (number, NoEnd)
unfolding line_taken
no_line bs number e =
    elim (cases_Bool (nat_lt (before bs) (length bs))) [
      | inl t ↦ let other : None ≡ Some (before bs) = e ∙ cond-true _ _ _ t in cc
      | inr t ↦ rw (last_piece bs (ltb-false _ _ t)) refl
    ]

-- nothing follows where no byte is left
onto_end : (x : ℕ) (ps : Pieces) → is_end (onto_first x ps) ≡ false
onto_end x [] = refl
onto_end x (p ∷ ps) = refl

after_end : (ps : Pieces) (p : List ℕ) (more : Pieces) → ps ≡ p ∷ more → is_end ([] ∷ ps) ≡ false
after_end [] p more e = cc
after_end (q ∷ qs) p more e = refl

-- the pieces of a text are not none
record HasPiece (bs : List ℕ) : Type 0 where
  first : List ℕ
  more : Pieces
  is : pieces bs ≡ first ∷ more

onto_has : (x : ℕ) (xs : List ℕ) → HasPiece xs → ends_line x ≡ false → HasPiece (x ∷ xs)
onto_has x xs h e = record { first = x ∷ h.first; more = h.more; is = rw (e, h.is) refl }

has_piece : (bs : List ℕ) → HasPiece bs
has_piece [] = record { first = []; more = []; is = refl }
has_piece (x ∷ xs) =
    elim (cases_Bool (ends_line x)) [
      | inl e ↦ record { first = []; more = pieces xs; is = rw e refl }
      | inr e ↦ onto_has x xs (has_piece xs) e
    ]

pub at_end : (bs : List ℕ) → is_end (pieces bs) ≡ nat_eq (length bs) 0
at_end [] = refl
at_end (x ∷ xs) =
    elim (cases_Bool (ends_line x)) [
      | inl e ↦ let h = has_piece xs in rw e (after_end (pieces xs) h.first h.more h.is) ∙ sym (ne_eqb (length (x ∷ xs)) 0 (λ is. omega (arith, is)))
      | inr e ↦ rw e (onto_end x (pieces xs)) ∙ sym (ne_eqb (length (x ∷ xs)) 0 (λ is. omega (arith, is)))
    ]
