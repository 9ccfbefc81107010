-- The lines and the words of a text that was written are those that it was written of.
use Rattle.std.proofs.Common.{◌≡◌, ℕ, true, ◌||◌, nat_eq, false, List, [], ◌∷◌, ◌++◌, append_assoc, append-nil, map, filter, refl, sym, ap, ◌∙◌}
use Rattle.std.specs.List.{list_all, slice_split}
use Rattle.std.proofs.lemmas.Bool.{and_parts, and_from, or_parts, or_from, not-true, not_from_false}
use Rattle.std.proofs.lemmas.List.Folds.{list_all-append}
use Rattle.um_text.specs.Lines.{pieces, without_return, lines, is_line_byte}
use Rattle.um_text.specs.Words.{words, is_gap, is_word_byte, has_bytes, is_word}
use Rattle.um_text.specs.Texts.{behind_blanks, line_bytes, line_text, lines_text}
use Rattle.um_text.proofs.Cuts.{lines-none}
use Rattle.um_text.proofs.Puts.{line_rest_is}

-- ---- bytes

record IsOfWord (b : ℕ) : Type 0 where
  gap : is_gap b ≡ false
  return : nat_eq b 13 ≡ false
  end : nat_eq b 10 ≡ false

of_word : (b : ℕ) → is_word_byte b ≡ true → IsOfWord b
of_word b t =
    let last = or_parts (nat_eq b 32 || nat_eq b 9 || nat_eq b 13) (nat_eq b 10) (not-true _ t) in
    let third = or_parts (is_gap b) (nat_eq b 13) last.0 in
    record { gap = third.0; return = third.1; end = last.1 }

word_bytes : (w : List ℕ) → list_all is_word_byte w ≡ true → list_all is_line_byte w ≡ true
word_bytes [] t = refl
word_bytes (b ∷ w) t =
    let both = and_parts (is_word_byte b) (list_all is_word_byte w) t in
    let o = of_word b both.0 in
    and_from _ _ (not_from_false _ (or_from _ _ o.return o.end)) (word_bytes w both.1)

-- ---- lines

pieces_at : (x rest : List ℕ) → list_all is_line_byte x ≡ true → pieces (x ++ 10 ∷ rest) ≡ x ∷ pieces rest
unfolding pieces
pieces_at [] rest t = refl
pieces_at (b ∷ x) rest t =
    let both = and_parts (is_line_byte b) (list_all is_line_byte x) t in
    let ends = or_parts (nat_eq b 13) (nat_eq b 10) (not-true _ both.0) in
    rw (ends.1, pieces_at x rest both.1) refl

no_return : (x : List ℕ) → list_all is_line_byte x ≡ true → without_return x ≡ x
unfolding without_return
no_return [] t = refl
no_return (b ∷ []) t =
    let both = and_parts (is_line_byte b) true t in
    let ends = or_parts (nat_eq b 13) (nat_eq b 10) (not-true _ both.0) in
    rw ends.0 refl
no_return (b ∷ (c ∷ x)) t =
    let both = and_parts (is_line_byte b) (list_all is_line_byte (c ∷ x)) t in
    ap (λ (y : List ℕ). b ∷ y) (no_return (c ∷ x) both.1)

lines_at : (x rest : List ℕ) → list_all is_line_byte x ≡ true → lines (x ++ 10 ∷ rest) ≡ x ∷ lines rest
unfolding lines
lines_at x rest t = rw (pieces_at x rest t, no_return x t) refl

line_is : (ws : List (List ℕ)) → line_text ws ≡ line_bytes ws ++ 10 ∷ []
line_is [] = refl
line_is (w ∷ ws) = ap (λ l. w ++ l) (line_rest_is ws) ∙ sym (append_assoc w (behind_blanks ws) (10 ∷ []))

pub lines_back : (ls : List (List (List ℕ))) → list_all (λ ws. list_all is_line_byte (line_bytes ws)) ls ≡ true → lines (lines_text ls) ≡ map line_bytes ls
lines_back [] t = lines-none
lines_back (ws ∷ ls) t =
    let both = and_parts (list_all is_line_byte (line_bytes ws)) _ t in
    ap (λ l. lines (l ++ lines_text ls)) (line_is ws)
    ∙ ap lines (append_assoc (line_bytes ws) (10 ∷ []) (lines_text ls))
    ∙ lines_at (line_bytes ws) (lines_text ls) both.0
    ∙ ap (λ (more : List (List ℕ)). line_bytes ws ∷ more) (lines_back ls both.1)

-- ---- words

split_at : (w rest : List ℕ) → list_all is_word_byte w ≡ true → slice_split is_gap (w ++ 32 ∷ rest) ≡ w ∷ slice_split is_gap rest
split_at [] rest t = refl
split_at (b ∷ w) rest t =
    let both = and_parts (is_word_byte b) (list_all is_word_byte w) t in
    rw ((of_word b both.0).gap, split_at w rest both.1) refl

split_end : (w : List ℕ) → list_all is_word_byte w ≡ true → slice_split is_gap w ≡ w ∷ []
split_end [] t = refl
split_end (b ∷ w) t =
    let both = and_parts (is_word_byte b) (list_all is_word_byte w) t in
    rw ((of_word b both.0).gap, split_end w both.1) refl

split_words : (w : List ℕ) (ws : List (List ℕ)) → is_word w ≡ true → list_all is_word ws ≡ true → slice_split is_gap (w ++ behind_blanks ws) ≡ w ∷ ws
split_words w [] t ts =
    let both = and_parts (has_bytes w) (list_all is_word_byte w) t in
    ap (slice_split is_gap) (append-nil w) ∙ split_end w both.1
split_words w (v ∷ vs) t ts =
    let both = and_parts (has_bytes w) (list_all is_word_byte w) t in
    let more = and_parts (is_word v) (list_all is_word vs) ts in
    split_at w (v ++ behind_blanks vs) both.1 ∙ ap (λ (y : List (List ℕ)). w ∷ y) (split_words v vs more.0 more.1)

keep_words : (ws : List (List ℕ)) → list_all is_word ws ≡ true → filter has_bytes ws ≡ ws
keep_words [] t = refl
keep_words (w ∷ ws) t =
    let both = and_parts (is_word w) (list_all is_word ws) t in
    let some = and_parts (has_bytes w) (list_all is_word_byte w) both.0 in
    rw (some.0, keep_words ws both.1) refl

pub line_words : (ws : List (List ℕ)) → list_all is_word ws ≡ true → words (line_bytes ws) ≡ ws
line_words [] t = refl
line_words (w ∷ ws) t =
    let both = and_parts (is_word w) (list_all is_word ws) t in
    ap (filter has_bytes) (split_words w ws both.0 both.1) ∙ keep_words (w ∷ ws) t

pub rest_words : (ws : List (List ℕ)) → list_all is_word ws ≡ true → words (behind_blanks ws) ≡ ws
rest_words [] t = refl
rest_words (w ∷ ws) t =
    let both = and_parts (is_word w) (list_all is_word ws) t in
    ap (λ (y : List (List ℕ)). filter has_bytes ([] ∷ y)) (split_words w ws both.0 both.1) ∙ keep_words (w ∷ ws) t

-- ---- the words of all lines

blanks_bytes : (ws : List (List ℕ)) → list_all is_word ws ≡ true → list_all is_line_byte (behind_blanks ws) ≡ true
blanks_bytes [] t = refl
blanks_bytes (w ∷ ws) t =
    let both = and_parts (is_word w) (list_all is_word ws) t in
    let some = and_parts (has_bytes w) (list_all is_word_byte w) both.0 in
    list_all-append is_line_byte w (behind_blanks ws) ∙ and_from _ _ (word_bytes w some.1) (blanks_bytes ws both.1)

no_breaks : (ws : List (List ℕ)) → list_all is_word ws ≡ true → list_all is_line_byte (line_bytes ws) ≡ true
no_breaks [] t = refl
no_breaks (w ∷ ws) t = blanks_bytes (w ∷ ws) t

all_no_breaks : (ls : List (List (List ℕ))) → list_all (list_all is_word) ls ≡ true → list_all (λ ws. list_all is_line_byte (line_bytes ws)) ls ≡ true
all_no_breaks [] t = refl
all_no_breaks (ws ∷ ls) t =
    let both = and_parts (list_all is_word ws) (list_all (list_all is_word) ls) t in
    and_from _ _ (no_breaks ws both.0) (all_no_breaks ls both.1)

all_words : (ls : List (List (List ℕ))) → list_all (list_all is_word) ls ≡ true → map words (map line_bytes ls) ≡ ls
all_words [] t = refl
all_words (ws ∷ ls) t =
    let both = and_parts (list_all is_word ws) (list_all (list_all is_word) ls) t in
    rw (line_words ws both.0, all_words ls both.1) refl

pub text_back : (ls : List (List (List ℕ))) → list_all (list_all is_word) ls ≡ true → map words (lines (lines_text ls)) ≡ ls
text_back ls t = ap (map words) (lines_back ls (all_no_breaks ls t)) ∙ all_words ls t
