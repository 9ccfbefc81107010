-- A line that is cut into words, none of them empty, is these words one blank apart; and a text is its lines.
use Rattle.std.proofs.Common.{◌≡◌, ℕ, ◌+◌, true, nat_eq, List, [], ◌∷◌, ◌++◌, append_assoc, length, Ok, Err, refl, sym, ap, ◌∙◌, subst, arith, inl, inr}
use Rattle.std.specs.List.{list_all, slice_split, join_with_byte}
use Rattle.std.proofs.lemmas.Bool.{cases_Bool, and_parts, eqb-true, ltb-true}
use Rattle.std.proofs.lemmas.List.Splits.{join_with_byte-slice_split}
use Rattle.um_num.specs.Numbers.{then_step}
use Rattle.um_text.specs.Lines.{ends_line, piece_with}
use Rattle.um_text.specs.Texts.{behind_blanks, line_text}
use Rattle.um_text.specs.Words.{has_bytes}
use Rattle.um_text.proofs.Puts.{line_rest_is}
use Rattle.um_treetext.specs.Words.{Words, Says, line_words}
use Rattle.um_treetext.specs.Reading.{Pieces, Read, at_line, line_taken, next_line_said}
use Rattle.um_treelaws.proofs.ReadSteps.{AreWords}

-- ---- the words of a line

piece_some : (x : ℕ) (ps : Words) → piece_with x ps ≡ [] → ⊥
piece_some x [] e = cc
piece_some x (p ∷ ps) e = cc

-- a line has a word, though it may be empty
line_some : (bs : List ℕ) → line_words bs ≡ [] → ⊥
unfolding line_words
line_some [] e = cc
line_some (x ∷ xs) e =
    elim (cases_Bool (nat_eq x 32)) [
      | inl t ↦ let no = rw t at e in cc
      | inr f ↦
          elim (cases_Bool (nat_eq x 9)) [
            | inl t ↦ let no = rw (f, t) at e in cc
            | inr g ↦ piece_some x (line_words xs) (rw (f, g) at e)
          ]
    ]

no_bytes : has_bytes [] ≡ true → ⊥
no_bytes t = let h = ltb-true 0 (length {A = ℕ} []) t in omega (arith, h)

-- what is to be shown of a line
abbrev Cut : List ℕ → Type 0
Cut bs = (p : List ℕ) (ps : Words) → line_words bs ≡ p ∷ ps → list_all has_bytes ps ≡ true → bs ≡ p ++ behind_blanks ps

-- a line whose words, but for the first, are none of them empty
line_rewritten : (bs p : List ℕ) (ps : Words) → line_words bs ≡ p ∷ ps → list_all has_bytes ps ≡ true → bs ≡ p ++ behind_blanks ps
unfolding line_words
line_rewritten [] p ps e t =
    let first : [] ≡ p = cc in
    let rest : [] ≡ ps = cc in
    subst (λ (q : List ℕ). [] ≡ q ++ behind_blanks ps) first (subst (λ (qs : Words). [] ≡ behind_blanks qs) rest refl)
line_rewritten (x ∷ xs) p ps e t =
    elim (cases_Bool (nat_eq x 32)) [
      | inl blank ↦ at_blank (line_words xs) (line_rewritten xs) refl (rw blank at e) (eqb-true x 32 blank)
      | inr other ↦
          elim (cases_Bool (nat_eq x 9)) [
            | inl tab ↦
                let f : [] ∷ [] ∷ [] ≡ p ∷ ps = rw (other, tab) at e in
                let rest : [] ∷ [] ≡ ps = cc in
                let u : list_all has_bytes ([] ∷ []) ≡ true = subst (λ (qs : Words). list_all has_bytes qs ≡ true) (sym rest) t in
                absurd (no_bytes (and_parts (has_bytes []) true u).0)
            | inr plain ↦ at_byte (line_words xs) (line_rewritten xs) refl (rw (other, plain) at e)
          ]
    ]
  where
    at_blank : (ws : Words) → Cut xs → line_words xs ≡ ws → [] ∷ ws ≡ p ∷ ps → x ≡ 32 → x ∷ xs ≡ p ++ behind_blanks ps
    at_blank [] cut is f here = absurd (line_some xs is)
    at_blank (q ∷ qs) cut is f here =
        let first : [] ≡ p = cc in
        let rest : q ∷ qs ≡ ps = cc in
        let u : list_all has_bytes (q ∷ qs) ≡ true = subst (λ (rs : Words). list_all has_bytes rs ≡ true) (sym rest) t in
        let more = cut q qs is (and_parts (has_bytes q) (list_all has_bytes qs) u).1 in
        ap (λ (b : ℕ). b ∷ xs) here ∙ ap (λ (l : List ℕ). 32 ∷ l) more ∙ ap (λ (l : List ℕ). l ++ behind_blanks (q ∷ qs)) first ∙ ap (λ (rs : Words). p ++ behind_blanks rs) rest

    at_byte : (ws : Words) → Cut xs → line_words xs ≡ ws → piece_with x ws ≡ p ∷ ps → x ∷ xs ≡ p ++ behind_blanks ps
    at_byte [] cut is f = absurd (line_some xs is)
    at_byte (q ∷ qs) cut is f =
        let first : x ∷ q ≡ p = cc in
        let rest : qs ≡ ps = cc in
        let more = cut q qs is (subst (λ (rs : Words). list_all has_bytes rs ≡ true) (sym rest) t) in
        ap (λ (l : List ℕ). x ∷ l) more ∙ ap (λ (l : List ℕ). l ++ behind_blanks qs) first ∙ ap (λ (rs : Words). p ++ behind_blanks rs) rest

-- ---- lines one behind the other

-- the bytes of which these are the pieces
abbrev pub bytes_of : Pieces → List ℕ
bytes_of = join_with_byte 10

pub pieces_rewritten : (bs : List ℕ) → bytes_of (slice_split ends_line bs) ≡ bs
pieces_rewritten bs = join_with_byte-slice_split 10 bs

-- the first line of some pieces, and what it says
record LineSaid {A : Type 0} (says : Words → Says A) (ps left : Pieces) (v : A) : Type 0 where
  line : List ℕ
  said : says (line_words line) ≡ Ok v
  bytes : bytes_of ps ≡ line ++ 10 ∷ bytes_of left

line_said : {A : Type 0} (says : Words → Says A) (before : ℕ) (ps : Pieces) (r : Read A) → next_line_said says before ps ≡ Ok r → LineSaid says ps r.left r.value
unfolding next_line_said line_taken
line_said says before [] r e = absurd (let bad = e in cc)
line_said says before (line ∷ []) r e = absurd (let bad = e in cc)
line_said {A = A} says before (line ∷ next ∷ more) r e = by (says (line_words line)) refl e
  where
    by : (s : Says A) → says (line_words line) ≡ s → then_step (at_line (before + 1) s) (λ v. Ok (record { value = v; left = next ∷ more })) ≡ Ok r → LineSaid says (line ∷ next ∷ more) r.left r.value
    by (Ok v) is f =
        let same : record { value = v; left = next ∷ more } ≡ r = cc in
        record { line = line; said = is ∙ ap (λ (x : Read A). Ok x.value) same; bytes = ap (λ (x : Read A). line ++ 10 ∷ bytes_of x.left) same }
    by (Err g) is f = absurd (let bad = f in cc)

-- what a line says is written as these words, and is good
abbrev pub LineAs : {A : Type 0} → (Words → Says A) → (A → Words) → (A → Type 0) → Type 0
LineAs {A} says write Good = (ws : Words) (v : A) → says ws ≡ Ok v → AreWords ws (write v) × Good v

line_is : (w : List ℕ) (ws : Words) → line_text (w ∷ ws) ≡ (w ++ behind_blanks ws) ++ 10 ∷ []
line_is w ws = ap (λ l. w ++ l) (line_rest_is ws) ∙ sym (append_assoc w (behind_blanks ws) (10 ∷ []))

written_line : (line rest : List ℕ) (ws : Words) → AreWords (line_words line) ws → line ++ 10 ∷ rest ≡ line_text ws ++ rest
written_line line rest [] are = absurd (line_some line are.are)
written_line line rest (w ∷ ws) are =
    let is = line_rewritten line w ws are.are (and_parts (has_bytes w) (list_all has_bytes ws) are.some).1 in
    ap (λ (l : List ℕ). l ++ 10 ∷ rest) is ∙ sym (append_assoc (w ++ behind_blanks ws) (10 ∷ []) rest) ∙ ap (λ (l : List ℕ). l ++ rest) (sym (line_is w ws))

-- a line that was read is the words that are written of it
pub record LineRead {A : Type 0} (write : A → Words) (Good : A → Type 0) (ps : Pieces) (r : Read A) : Type 0 where
  pub bytes : bytes_of ps ≡ line_text (write r.value) ++ bytes_of r.left
  pub good : Good r.value

pub line_is_written : {A : Type 0} (says : Words → Says A) (write : A → Words) (Good : A → Type 0) (before : ℕ) (ps : Pieces) (r : Read A) → LineAs says write Good → next_line_said says before ps ≡ Ok r → LineRead write Good ps r
line_is_written says write Good before ps r back e =
    let l = line_said says before ps r e in
    let w = back (line_words l.line) r.value l.said in
    record { bytes = l.bytes ∙ written_line l.line (bytes_of r.left) (write r.value) w.0; good = w.1 }
