-- What was put one behind the other: bytes, words and lines.
use Rattle.std.proofs.Common.{◌≡◌, ℕ, ℤ, zero, suc, ◌+◌, ◌<◌, List, [], ◌∷◌, ◌++◌, length, map, take, drop, drop-cons, add-one, get_or, Result, Ok, Err, false, nat_eq, decimal, refl, sym, ap, ◌∙◌, arith, append_assoc, append-nil}
use Rattle.std.proofs.lemmas.List.{map-append, take-append-drop}
use Rattle.std.specs.Fmt.{signed_decimal}
use Rattle.std.specs.Prelude.{OnOk, OnErr}
use Rattle.um_laws.specs.Rational.{Rational}
use Rattle.um_text.specs.NumberWords.{fraction_word}
use Rattle.um_text.specs.Texts.{GoesOn, behind_blanks, line_rest, line_text, lines_text}

-- ---- one put after the other

pub joined : (t u v a x : List ℕ) → u ≡ t ++ a → v ≡ u ++ x → v ≡ t ++ (a ++ x)
joined t u v a x e f = f ∙ ap (λ l. l ++ x) e ∙ append_assoc t a x

pub next_put : (t u v a b c : List ℕ) → u ≡ t ++ a → v ≡ u ++ b → c ≡ a ++ b → v ≡ t ++ c
next_put t u v a b c e f g = joined t u v a b e f ∙ ap (λ l. t ++ l) (sym g)

pub on_ok : {T E P Q : Type 0} (r : Result T E) → OnOk r P → (P → Q) → OnOk r Q
on_ok (Ok x) h f = f h
on_ok (Err e) h f = tt

-- ---- what stood before is still the front, and a front of what was due stands behind it

pub stays : {t due : List ℕ} → GoesOn t due t
stays {t} {due} = record { front = []; rest = due; parts = refl; behind = sym (append-nil t) }

-- some of a list was put
pub some_put : (t u a : List ℕ) (k : ℕ) → u ≡ t ++ take k a → GoesOn t a u
some_put t u a k e = record { front = take k a; rest = drop k a; parts = sym (take-append-drop k a); behind = e }

-- what was due is written otherwise
pub due_is : {t a b u : List ℕ} → a ≡ b → GoesOn t a u → GoesOn t b u
due_is e g = record { front = g.front; rest = g.rest; parts = sym e ∙ g.parts; behind = g.behind }

-- the refusal came in the first part
pub stops_early : {t a u : List ℕ} (b : List ℕ) → GoesOn t a u → GoesOn t (a ++ b) u
stops_early b g = record { front = g.front; rest = g.rest ++ b; parts = ap (λ l. l ++ b) g.parts ∙ append_assoc g.front g.rest b; behind = g.behind }

-- the refusal came behind the first part
pub stops_later : {t u b v : List ℕ} (a : List ℕ) → u ≡ t ++ a → GoesOn u b v → GoesOn t (a ++ b) v
stops_later {t} {u} {b} {v} a e g = record {
  front = a ++ g.front;
  rest = g.rest;
  parts = ap (λ l. a ++ l) g.parts ∙ sym (append_assoc a g.front g.rest);
  behind = joined t u v a g.front e g.behind;
}

-- what holds anyhow holds after a refusal
pub refused : {T E P : Type 0} (r : Result T E) → P → OnErr r P
refused (Ok x) p = tt
refused (Err e) p = p

-- a fraction that is no whole number
pub two_parts : (x : Rational) (num : ℤ) → num ≡ x.num → nat_eq x.den 1 ≡ false → signed_decimal num ++ 47 ∷ decimal x.den ≡ fraction_word x
two_parts x num is more = rw more (ap (λ z. signed_decimal z ++ 47 ∷ decimal x.den) is)

-- ---- lines

pub lines_append : (xs ys : List (List (List ℕ))) → lines_text (xs ++ ys) ≡ lines_text xs ++ lines_text ys
lines_append [] ys = refl
lines_append (x ∷ xs) ys = ap (λ l. line_text x ++ l) (lines_append xs ys) ∙ sym (append_assoc (line_text x) (lines_text xs) (lines_text ys))

-- some lines, and then more
pub next_lines : (t u v : List ℕ) (ls ms : List (List (List ℕ))) → u ≡ t ++ lines_text ls → v ≡ u ++ lines_text ms → v ≡ t ++ lines_text (ls ++ ms)
next_lines t u v ls ms e f = next_put t u v (lines_text ls) (lines_text ms) (lines_text (ls ++ ms)) e f (lines_append ls ms)

-- the first line
pub first_line : (t u : List ℕ) (l : List (List ℕ)) → u ≡ t ++ line_text l → u ≡ t ++ lines_text (l ∷ [])
first_line t u l e = e ∙ ap (λ x. t ++ x) (sym (append-nil (line_text l)))

-- some lines, and then one
pub next_line : (t u v : List ℕ) (ls : List (List (List ℕ))) (l : List (List ℕ)) → u ≡ t ++ lines_text ls → v ≡ u ++ line_text l → v ≡ t ++ lines_text (ls ++ l ∷ [])
next_line t u v ls l e f = next_lines t u v ls (l ∷ []) e (first_line u v l f)

-- the rest of a line is its words and LF
pub line_rest_is : (ws : List (List ℕ)) → line_rest ws ≡ behind_blanks ws ++ 10 ∷ []
line_rest_is [] = refl
line_rest_is (w ∷ ws) = ap (λ l. 32 ∷ (w ++ l)) (line_rest_is ws) ∙ ap (λ l. 32 ∷ l) (sym (append_assoc w (behind_blanks ws) (10 ∷ [])))

-- a line's first word, the others, and LF
pub whole_line : (t t1 t2 t3 w : List ℕ) (ws : List (List ℕ)) → t1 ≡ t ++ w → t2 ≡ t1 ++ behind_blanks ws → t3 ≡ t2 ++ 10 ∷ [] → t3 ≡ t ++ line_text (w ∷ ws)
whole_line t t1 t2 t3 w ws e f g = next_put t t1 t3 w (line_rest ws) (w ++ line_rest ws) e (next_put t1 t2 t3 (behind_blanks ws) (10 ∷ []) (line_rest ws) f g (line_rest_is ws)) refl

-- ---- lists of words and lines

step : (k : ℕ) → suc k + 1 ≡ suc (k + 1)
step k = omega arith

-- one word more
pub more_words : {X : Type 0} (word : X → List ℕ) (xs : List X) (k : ℕ) (x d : X) → k < length xs → x ≡ get_or xs k d → behind_blanks (map word (take (k + 1) xs)) ≡ behind_blanks (map word (take k xs)) ++ 32 ∷ word x
more_words word [] k x d h e = absurd (omega arith)
more_words word (y ∷ ys) zero x d h e = ap (λ (l : List ℕ). 32 ∷ l) (append-nil (word y) ∙ ap word (sym e))
more_words word (y ∷ ys) (suc k) x d h e =
    ap (λ n. behind_blanks (map word (take n (y ∷ ys)))) (step k)
    ∙ ap (λ (l : List ℕ). 32 ∷ (word y ++ l)) (more_words word ys k x d (omega arith) e)
    ∙ ap (λ (l : List ℕ). 32 ∷ l) (sym (append_assoc (word y) (behind_blanks (map word (take k ys))) (32 ∷ word x)))

-- one word less is left
pub one_word_less : {X : Type 0} (word : X → List ℕ) (xs : List X) (k : ℕ) (d : X) (t u : List ℕ) → k < length xs → u ≡ t ++ 32 ∷ word (get_or xs k d) → u ++ behind_blanks (map word (drop (k + 1) xs)) ≡ t ++ behind_blanks (map word (drop k xs))
one_word_less word xs k d t u h e =
    let cut : drop k xs ≡ get_or xs k d ∷ drop (k + 1) xs = rw add-one (drop-cons xs k d h) in
    ap (λ l. l ++ behind_blanks (map word (drop (k + 1) xs))) e ∙ append_assoc t (32 ∷ word (get_or xs k d)) (behind_blanks (map word (drop (k + 1) xs))) ∙ ap (λ l. t ++ behind_blanks (map word l)) (sym cut)

-- one word more is written
pub one_word_more : {X : Type 0} (word : X → List ℕ) (xs : List X) (k : ℕ) (d : X) (t u v : List ℕ) → k < length xs → u ≡ t ++ behind_blanks (map word (take k xs)) → v ≡ u ++ 32 ∷ word (get_or xs k d) → v ≡ t ++ behind_blanks (map word (take (k + 1) xs))
one_word_more word xs k d t u v h e f = next_put t u v _ _ _ e f (more_words word xs k (get_or xs k d) d h refl)

blanks_append : (xs ys : List (List ℕ)) → behind_blanks (xs ++ ys) ≡ behind_blanks xs ++ behind_blanks ys
blanks_append [] ys = refl
blanks_append (x ∷ xs) ys = ap (λ (l : List ℕ). 32 ∷ l) (ap (λ l. x ++ l) (blanks_append xs ys) ∙ sym (append_assoc x (behind_blanks xs) (behind_blanks ys)))

-- one of the words was refused
pub word_refused : {X : Type 0} (word : X → List ℕ) (xs : List X) (k : ℕ) (d : X) (t u v : List ℕ) → k < length xs → u ≡ t ++ behind_blanks (map word (take k xs)) → GoesOn u (32 ∷ word (get_or xs k d)) v → GoesOn t (behind_blanks (map word xs)) v
word_refused word xs k d t u v h e g =
    let cut : drop k xs ≡ get_or xs k d ∷ drop (k + 1) xs = rw add-one (drop-cons xs k d h) in
    let all : behind_blanks (map word (take k xs)) ++ behind_blanks (map word (get_or xs k d ∷ drop (k + 1) xs)) ≡ behind_blanks (map word xs)
    = sym (blanks_append (map word (take k xs)) (map word (get_or xs k d ∷ drop (k + 1) xs)))
    ∙ ap behind_blanks (sym (map-append word (take k xs) (get_or xs k d ∷ drop (k + 1) xs)) ∙ ap (map word) (ap (λ l. take k xs ++ l) (sym cut) ∙ take-append-drop k xs)) in
    due_is all (stops_later (behind_blanks (map word (take k xs))) e (stops_early (behind_blanks (map word (drop (k + 1) xs))) g))

-- one line more
pub more_lines : {X : Type 0} (words : X → List (List ℕ)) (xs : List X) (k : ℕ) (x d : X) → k < length xs → x ≡ get_or xs k d → lines_text (map words (take (k + 1) xs)) ≡ lines_text (map words (take k xs)) ++ line_text (words x)
more_lines words [] k x d h e = absurd (omega arith)
more_lines words (y ∷ ys) zero x d h e = append-nil (line_text (words y)) ∙ ap (λ z. line_text (words z)) (sym e)
more_lines words (y ∷ ys) (suc k) x d h e =
    ap (λ n. lines_text (map words (take n (y ∷ ys)))) (step k)
    ∙ ap (λ l. line_text (words y) ++ l) (more_lines words ys k x d (omega arith) e)
    ∙ sym (append_assoc (line_text (words y)) (lines_text (map words (take k ys))) (line_text (words x)))
