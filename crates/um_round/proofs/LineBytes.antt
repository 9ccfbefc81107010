-- The bytes of lines of words are read as these lines.
use Rattle.std.proofs.Common.{◌≡◌, ℕ, Bool, true, false, ◌&&◌, not, nat_eq, List, [], ◌∷◌, length, map, slice_index, refl, ap, ◌∙◌, arith}
use Rattle.std.specs.List.{list_all}
use Rattle.std.proofs.lemmas.Bool.{and_parts, and_from, or_parts, or_from, not-true, not_from_false, false≢true, ne_eqb}
use Rattle.std.proofs.lemmas.List.Folds.{list_all-append}
use Rattle.um_text.specs.Lines.{is_line_byte}
use Rattle.um_text.specs.Texts.{behind_blanks, line_bytes, lines_text}
use Rattle.um_text.specs.Words.{is_gap, is_word, is_word_byte, has_bytes}
use Rattle.um_text.proofs.WrittenLines.{lines_back, line_words as line_back, rest_words}
use Rattle.um_decktext.specs.Words.{Words}
use Rattle.um_decktext.specs.DeckLines.{Line, Skipped, Heading, Data, line_of, deck_lines}
use Rattle.um_make.specs.NormalLines.{line_words}

-- a line that is read as the words of which it was made
abbrev pub is_line : Line → Bool
is_line Skipped = false
is_line (Heading []) = false
is_line (Heading (w ∷ ws)) = not (nat_eq (slice_index w 0) 42) && (is_word w && list_all is_word ws)
is_line (Data []) = false
is_line (Data (w ∷ ws)) = list_all is_word (w ∷ ws)

-- ---- bytes

-- a byte of a word is no gap, and ends no line
record OfWord (b : ℕ) : Type 0 where
  gap : is_gap b ≡ false
  return : nat_eq b 13 ≡ false
  feed : nat_eq b 10 ≡ false

of_word : (b : ℕ) → is_word_byte b ≡ true → OfWord b
of_word b t =
    let last = or_parts _ _ (not-true _ t) in
    let third = or_parts _ _ last.0 in
    record { gap = third.0; return = third.1; feed = last.1 }

line_byte : (b : ℕ) → is_word_byte b ≡ true → is_line_byte b ≡ true
line_byte b t = let o = of_word b t in not_from_false _ (or_from _ _ o.return o.feed)

word_bytes : (w : List ℕ) → list_all is_word_byte w ≡ true → list_all is_line_byte w ≡ true
word_bytes [] t = refl
word_bytes (b ∷ w) t = let both = and_parts (is_word_byte b) _ t in and_from _ _ (line_byte b both.0) (word_bytes w both.1)

blank_bytes : (ws : Words) → list_all is_word ws ≡ true → list_all is_line_byte (behind_blanks ws) ≡ true
blank_bytes [] t = refl
blank_bytes (w ∷ ws) t =
    let both = and_parts (is_word w) _ t in
    let some = and_parts (has_bytes w) _ both.0 in
    list_all-append is_line_byte w (behind_blanks ws) ∙ and_from _ _ (word_bytes w some.1) (blank_bytes ws both.1)

-- ---- a line

no_break : (line : Line) → is_line line ≡ true → list_all is_line_byte (line_bytes (line_words line)) ≡ true
no_break Skipped t = absurd (false≢true t)
no_break (Heading []) t = absurd (false≢true t)
no_break (Heading (w ∷ ws)) t =
    let whole = and_parts (not (nat_eq (slice_index w 0) 42)) _ t in
    let both = and_parts (is_word w) _ whole.1 in
    let some = and_parts (has_bytes w) _ both.0 in
    list_all-append is_line_byte w (behind_blanks ws) ∙ and_from _ _ (word_bytes w some.1) (blank_bytes ws both.1)
no_break (Data []) t = absurd (false≢true t)
no_break (Data (w ∷ ws)) t = blank_bytes (w ∷ ws) t

not_none : (w : List ℕ) (ws : Words) → nat_eq (length (w ∷ ws)) 0 ≡ false
not_none w ws = ne_eqb (length (w ∷ ws)) 0 (λ e. absurd (omega (arith, e)))

heading_read : (b : ℕ) (w : List ℕ) (ws : Words) → is_line (Heading ((b ∷ w) ∷ ws)) ≡ true → line_of (line_bytes ((b ∷ w) ∷ ws)) ≡ Heading ((b ∷ w) ∷ ws)
unfolding line_of
heading_read b w ws t =
    let whole = and_parts (not (nat_eq b 42)) _ t in
    let both = and_parts (is_word (b ∷ w)) _ whole.1 in
    let some = and_parts (has_bytes (b ∷ w)) _ both.0 in
    let first = and_parts (is_word_byte b) _ some.1 in
    rw (line_back ((b ∷ w) ∷ ws) whole.1, not_none (b ∷ w) ws, not-true _ whole.0, (of_word b first.0).gap) refl

line_read : (line : Line) → is_line line ≡ true → line_of (line_bytes (line_words line)) ≡ line
unfolding line_of
line_read Skipped t = absurd (false≢true t)
line_read (Heading []) t = absurd (false≢true t)
line_read (Heading ([] ∷ ws)) t = let whole = and_parts true (false && list_all is_word ws) t in absurd (false≢true whole.1)
line_read (Heading ((b ∷ w) ∷ ws)) t = heading_read b w ws t
line_read (Data []) t = absurd (false≢true t)
line_read (Data (w ∷ ws)) t = rw (rest_words (w ∷ ws) t, not_none w ws) refl

-- ---- all lines

no_breaks : (ls : List Line) → list_all is_line ls ≡ true → list_all (λ ws. list_all is_line_byte (line_bytes ws)) (map line_words ls) ≡ true
no_breaks [] t = refl
no_breaks (line ∷ ls) t = let both = and_parts (is_line line) _ t in and_from _ _ (no_break line both.0) (no_breaks ls both.1)

lines_read : (ls : List Line) → list_all is_line ls ≡ true → map line_of (map line_bytes (map line_words ls)) ≡ ls
lines_read [] t = refl
lines_read (line ∷ ls) t =
    let both = and_parts (is_line line) _ t in
    ap (λ (l : Line). l ∷ map line_of (map line_bytes (map line_words ls))) (line_read line both.0) ∙ ap (λ (more : List Line). line ∷ more) (lines_read ls both.1)

pub lines-law : (ls : List Line) → list_all is_line ls ≡ true → deck_lines (lines_text (map line_words ls)) ≡ ls
unfolding deck_lines
lines-law ls t = ap (map line_of) (lines_back (map line_words ls) (no_breaks ls t)) ∙ lines_read ls t
