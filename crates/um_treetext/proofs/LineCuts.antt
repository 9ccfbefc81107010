-- Where a line is cut into words.
use Rattle.std.proofs.Common.{◌≡◌, ◌≢◌, ℕ, suc, ◌+◌, ◌<◌, ◌≤◌, List, [], ◌∷◌, length, take, drop, true, false, Some, None, Ok, Err, refl, sym, ap, ◌∙◌, arith, nat_lt, nat_eq, inl, inr, slice_index}
use Rattle.std.specs.List.{position, position_or_len}
use Rattle.std.proofs.lemmas.Bool.{cases_Bool, eqb-true, ne_eqb, eq-eqb, cond-true, cond-false, ltb-true, ltb-false}
use Rattle.um_text.specs.Lines.{piece_with}
use Rattle.um_text.specs.Words.{is_gap}
use Rattle.um_treetext.specs.declared.fault.TreeWord.TheVariants.{BadWord}
use Rattle.um_treetext.specs.Words.{Words, line_words, next_word}

abbrev pub before : List ℕ → ℕ
before = position_or_len is_gap

before_gap : (x : ℕ) (xs : List ℕ) → is_gap x ≡ true → before (x ∷ xs) ≡ 0
before_gap x xs e = rw e refl

before_other : (x : ℕ) (xs : List ℕ) → is_gap x ≡ false → before (x ∷ xs) ≡ 1 + before xs
before_other x xs e = rw e refl

piece_some : (x : ℕ) (ps : Words) → piece_with x ps ≡ [] → ⊥
piece_some x [] e = cc
piece_some x (p ∷ ps) e = cc

-- a line has a word, though it may be empty
pub line_some : (bs : List ℕ) → line_words bs ≡ [] → ⊥
unfolding line_words
line_some [] e = cc
line_some (x ∷ xs) e =
    elim (cases_Bool (nat_eq x 32)) [
      | inl t ↦ let no = rw t at e in cc
      | inr f ↦
          elim (cases_Bool (nat_eq x 9)) [
            | inl t ↦ let no = rw (f, t) at e in cc
            | inr g ↦ piece_some x (line_words xs) (rw (f, g) at e)
          ]
    ]

no_blank : (x : ℕ) → is_gap x ≡ false → nat_eq x 32 ≡ false
no_blank x e = elim (cases_Bool (nat_eq x 32)) [ inl t ↦ let no = rw t at e in cc | inr f ↦ f ]

no_tab : (x : ℕ) → is_gap x ≡ false → nat_eq x 9 ≡ false
no_tab x e = elim (cases_Bool (nat_eq x 9)) [ inl t ↦ let no = rw (no_blank x e, t) at e in cc | inr f ↦ f ]

other_byte : (x : ℕ) (xs : List ℕ) → is_gap x ≡ false → line_words (x ∷ xs) ≡ piece_with x (line_words xs)
unfolding line_words
other_byte x xs e = rw (no_blank x e, no_tab x e) refl

gap_byte : (x : ℕ) (xs rest : List ℕ) → is_gap x ≡ true → (x ≡ 32 → rest ≡ xs) → (x ≢ 32 → rest ≡ []) → line_words (x ∷ xs) ≡ [] ∷ line_words rest
unfolding line_words
gap_byte x xs rest e blank tab =
    elim (cases_Bool (nat_eq x 32)) [
      | inl t ↦ rw (t, blank (eqb-true x 32 t)) refl
      | inr f ↦
          let g : nat_eq x 9 ≡ true = rw f at e in
          let none : rest ≡ [] = tab (λ is. let no = eq-eqb x 32 is in cc) in
          rw (f, g, none) refl
    ]

cut_before : (bs rest : List ℕ) → before bs < length bs → (slice_index (drop (before bs) bs) 0 ≡ 32 → rest ≡ drop 1 (drop (before bs) bs)) → (slice_index (drop (before bs) bs) 0 ≢ 32 → rest ≡ []) → line_words bs ≡ take (before bs) bs ∷ line_words rest
cut_before [] rest h blank tab = absurd (omega arith)
cut_before (x ∷ xs) rest h blank tab =
    elim (cases_Bool (is_gap x)) [
      | inl e ↦
          let at = before_gap x xs e in
          rw at (gap_byte x xs rest e (rw at at blank) (rw at at tab))
      | inr e ↦
          let n = before xs in
          let at : before (x ∷ xs) ≡ suc n = rw (before_other x xs e) (omega arith) in
          let inner = cut_before xs rest (omega (arith, at, h)) (rw at at blank) (rw at at tab) in
          rw at (other_byte x xs e ∙ ap (piece_with x) inner)
    ]

-- the first word stands before the first gap
pub cut_at : (bs : List ℕ) (at : ℕ) (rest : List ℕ) → Some at ≡ position is_gap bs → (slice_index (drop at bs) 0 ≡ 32 → rest ≡ drop 1 (drop at bs)) → (slice_index (drop at bs) 0 ≢ 32 → rest ≡ []) → line_words bs ≡ take at bs ∷ line_words rest
cut_at bs at rest e blank tab =
    elim (cases_Bool (nat_lt (before bs) (length bs))) [
      | inl t ↦
          let same : Some at ≡ Some (before bs) = e ∙ cond-true _ _ _ t in
          let is : at ≡ before bs = cc in
          rw is (cut_before bs rest (ltb-true _ _ t) (rw is at blank) (rw is at tab))
      | inr t ↦ let other : Some at ≡ None = e ∙ cond-false _ _ _ t in cc
    ]

no_gap : (bs : List ℕ) → length bs ≤ before bs → line_words bs ≡ bs ∷ []
unfolding line_words
no_gap [] h = refl
no_gap (x ∷ xs) h =
    elim (cases_Bool (is_gap x)) [
      | inl e ↦ let at = before_gap x xs e in absurd (omega (arith, at, h))
      | inr e ↦
          let at : before (x ∷ xs) ≡ 1 + before xs = before_other x xs e in
          other_byte x xs e ∙ ap (piece_with x) (no_gap xs (omega (arith, at, h)))
    ]

-- a line without a gap is one word
pub cut_none : (bs : List ℕ) → None ≡ position is_gap bs → line_words bs ≡ bs ∷ []
cut_none bs e =
    elim (cases_Bool (nat_lt (before bs) (length bs))) [
      | inl t ↦ let other : None ≡ Some (before bs) = e ∙ cond-true _ _ _ t in cc
      | inr t ↦ no_gap bs (ltb-false _ _ t)
    ]

-- ---- the next word

pub next_some : (ws : Words) (word : List ℕ) (left : Words) → ws ≡ word ∷ left → 0 < length word → next_word ws ≡ Ok (record { value = word; left = left })
unfolding next_word
next_some ws [] left e some = absurd (omega arith)
next_some ws (b ∷ bs) left e some = rw e refl

pub next_empty : (ws : Words) (word : List ℕ) (left : Words) → ws ≡ word ∷ left → word ≡ [] → next_word ws ≡ Err BadWord
unfolding next_word
next_empty ws word left e none = rw (e, none) refl

pub next_none : (ws : Words) → [] ≡ ws → next_word ws ≡ Err BadWord
unfolding next_word
next_none ws e = rw (← e) refl
