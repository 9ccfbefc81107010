-- A written text is cut into its lines again, and a written line into its words.
use Rattle.std.proofs.Common.{◌≡◌, ℕ, ◌<◌, Bool, true, false, ◌||◌, nat_eq, not, List, [], ◌∷◌, ◌++◌, append_assoc, append-nil, map, length, Ok, refl, sym, ap, ◌∙◌, arith}
use Rattle.std.specs.List.{list_all, slice_split}
use Rattle.std.proofs.lemmas.Bool.{and_parts, and_from, or_parts, not-true, not_from_false}
use Rattle.std.proofs.lemmas.List.Folds.{list_all-append}
use Rattle.std.proofs.lemmas.Slice.Eq.{bytes_eq-Decides}
use Rattle.um_text.specs.Lines.{ends_line}
use Rattle.um_text.specs.Texts.{behind_blanks, line_bytes, line_text, lines_text}
use Rattle.um_text.proofs.Puts.{line_rest_is}
use Rattle.um_num.specs.Numbers.{then_step}
use Rattle.um_treetext.specs.Words.{Words, Says, line_words, next_word, taking, fixed, labelled, sole}
use Rattle.um_treetext.specs.FrontLines.{is_name_byte}
use Rattle.um_treetext.specs.Reading.{Pieces, line_taken, next_line_said}

-- ---- words

-- a word that can stand in a line: some bytes, and none of them blank, tab or LF
pub record IsPiece (word : List ℕ) : Type 0 where
  pub bytes : list_all is_name_byte word ≡ true
  pub some : 0 < length word

pub next_piece : (w : List ℕ) (ws : Words) → 0 < length w → next_word (w ∷ ws) ≡ Ok (record { value = w; left = ws })
unfolding next_word
next_piece [] ws some = absurd (omega arith)
next_piece (b ∷ bs) ws some = refl

pub taking_piece : {A : Type 0} (says : List ℕ → Says A) (w : List ℕ) (ws : Words) (v : A) → 0 < length w → says w ≡ Ok v → taking says (w ∷ ws) ≡ Ok (record { value = v; left = ws })
unfolding taking
taking_piece says w ws v some e = rw (next_piece w ws some, e) refl

pub fixed_same : (w : List ℕ) (ws : Words) → 0 < length w → fixed w (w ∷ ws) ≡ Ok ws
unfolding fixed
fixed_same w ws some = rw (next_piece w ws some, (bytes_eq-Decides w w).1 refl) refl

pub labelled_same : {A : Type 0} (label : List ℕ) (says : Words → Says A) (ws : Words) → 0 < length label → labelled label says (label ∷ ws) ≡ says ws
labelled_same label says ws some = ap (λ s. then_step s says) (fixed_same label ws some)

pub sole_piece : {A : Type 0} (says : List ℕ → Says A) (w : List ℕ) (v : A) → 0 < length w → says w ≡ Ok v → sole says (w ∷ []) ≡ Ok v
sole_piece says w v some e = rw (taking_piece says w [] v some e) refl

-- ---- the words of a line

record IsOfName (b : ℕ) : Type 0 where
  blank : nat_eq b 32 ≡ false
  tab : nat_eq b 9 ≡ false
  end : nat_eq b 10 ≡ false

of_name : (b : ℕ) → is_name_byte b ≡ true → IsOfName b
of_name b t =
    let last = or_parts (nat_eq b 32 || nat_eq b 9) (nat_eq b 10) (not-true _ t) in
    let first = or_parts (nat_eq b 32) (nat_eq b 9) last.0 in
    record { blank = first.0; tab = first.1; end = last.1 }

word_at : (w rest : List ℕ) → list_all is_name_byte w ≡ true → line_words (w ++ 32 ∷ rest) ≡ w ∷ line_words rest
unfolding line_words
word_at [] rest t = refl
word_at (b ∷ w) rest t =
    let both = and_parts (is_name_byte b) (list_all is_name_byte w) t in
    let o = of_name b both.0 in
    rw (o.blank, o.tab, word_at w rest both.1) refl

word_end : (w : List ℕ) → list_all is_name_byte w ≡ true → line_words w ≡ w ∷ []
unfolding line_words
word_end [] t = refl
word_end (b ∷ w) t =
    let both = and_parts (is_name_byte b) (list_all is_name_byte w) t in
    let o = of_name b both.0 in
    rw (o.blank, o.tab, word_end w both.1) refl

words_behind : (w : List ℕ) (ws : Words) → list_all is_name_byte w ≡ true → list_all (list_all is_name_byte) ws ≡ true → line_words (w ++ behind_blanks ws) ≡ w ∷ ws
words_behind w [] t ts = ap line_words (append-nil w) ∙ word_end w t
words_behind w (v ∷ vs) t ts =
    let more = and_parts (list_all is_name_byte v) (list_all (list_all is_name_byte) vs) ts in
    word_at w (v ++ behind_blanks vs) t ∙ ap (λ (y : Words). w ∷ y) (words_behind v vs more.0 more.1)

-- the words of a written line are those that it was written of
pub line_cut : (ws : Words) → 0 < length ws → list_all (list_all is_name_byte) ws ≡ true → line_words (line_bytes ws) ≡ ws
line_cut [] some t = absurd (omega arith)
line_cut (w ∷ ws) some t =
    let both = and_parts (list_all is_name_byte w) (list_all (list_all is_name_byte) ws) t in
    words_behind w ws both.0 both.1

-- ---- the lines of a text

abbrev is_inner : ℕ → Bool
is_inner b = not (ends_line b)

piece_at : (x rest : List ℕ) → list_all is_inner x ≡ true → slice_split ends_line (x ++ 10 ∷ rest) ≡ x ∷ slice_split ends_line rest
piece_at [] rest t = refl
piece_at (b ∷ x) rest t =
    let both = and_parts (is_inner b) (list_all is_inner x) t in
    rw (not-true _ both.0, piece_at x rest both.1) refl

name_inner : (w : List ℕ) → list_all is_name_byte w ≡ true → list_all is_inner w ≡ true
name_inner [] t = refl
name_inner (b ∷ w) t =
    let both = and_parts (is_name_byte b) (list_all is_name_byte w) t in
    and_from _ _ (not_from_false _ (of_name b both.0).end) (name_inner w both.1)

blanks_inner : (ws : Words) → list_all (list_all is_name_byte) ws ≡ true → list_all is_inner (behind_blanks ws) ≡ true
blanks_inner [] t = refl
blanks_inner (w ∷ ws) t =
    let both = and_parts (list_all is_name_byte w) (list_all (list_all is_name_byte) ws) t in
    list_all-append is_inner w (behind_blanks ws) ∙ and_from _ _ (name_inner w both.0) (blanks_inner ws both.1)

line_inner : (ws : Words) → list_all (list_all is_name_byte) ws ≡ true → list_all is_inner (line_bytes ws) ≡ true
line_inner [] t = refl
line_inner (w ∷ ws) t = blanks_inner (w ∷ ws) t

line_is : (ws : Words) → line_text ws ≡ line_bytes ws ++ 10 ∷ []
line_is [] = refl
line_is (w ∷ ws) = ap (λ l. w ++ l) (line_rest_is ws) ∙ sym (append_assoc w (behind_blanks ws) (10 ∷ []))

-- the pieces of a text: its lines, and nothing behind the last LF
abbrev pub pieces_of : List Words → Pieces
pieces_of ls = map line_bytes ls ++ [] ∷ []

pub text_cut : (ls : List Words) → list_all (list_all (list_all is_name_byte)) ls ≡ true → slice_split ends_line (lines_text ls) ≡ pieces_of ls
text_cut [] t = refl
text_cut (ws ∷ ls) t =
    let both = and_parts (list_all (list_all is_name_byte) ws) (list_all (list_all (list_all is_name_byte)) ls) t in
    ap (λ l. slice_split ends_line (l ++ lines_text ls)) (line_is ws)
    ∙ ap (slice_split ends_line) (append_assoc (line_bytes ws) (10 ∷ []) (lines_text ls))
    ∙ piece_at (line_bytes ws) (lines_text ls) (line_inner ws both.0)
    ∙ ap (λ (more : Pieces). line_bytes ws ∷ more) (text_cut ls both.1)

-- ---- what a line says

-- these words can be written, and say this value
pub record IsLineOf {A : Type 0} (says : Words → Says A) (ws : Words) (value : A) : Type 0 where
  pub some : 0 < length ws
  pub bytes : list_all (list_all is_name_byte) ws ≡ true
  pub said : says ws ≡ Ok value

pub line_read : {A : Type 0} (says : Words → Says A) (ws : Words) (v : A) (before : ℕ) (ls : List Words) → IsLineOf says ws v → next_line_said says before (pieces_of (ws ∷ ls)) ≡ Ok (record { value = v; left = pieces_of ls })
unfolding next_line_said line_taken
line_read says ws v before [] h = rw (line_cut ws h.some h.bytes, h.said) refl
line_read says ws v before (l ∷ ls) h = rw (line_cut ws h.some h.bytes, h.said) refl
