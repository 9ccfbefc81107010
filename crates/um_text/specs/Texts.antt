-- Texts that are lines of words, as lists of bytes. Report and tree text are such.
use Rattle.std.specs.Prelude.{◌≡◌, ℕ, List, [], ◌∷◌, ◌++◌}

-- words, each behind a blank
abbrev pub behind_blanks : List (List ℕ) → List ℕ
behind_blanks [] = []
behind_blanks (word ∷ words) = 32 ∷ (word ++ behind_blanks words)

-- words one blank apart: the bytes of a line
abbrev pub line_bytes : List (List ℕ) → List ℕ
line_bytes [] = []
line_bytes (word ∷ words) = word ++ behind_blanks words

-- words, each behind a blank, and then LF: what follows a line's first word, or a line that begins with a blank
abbrev pub line_rest : List (List ℕ) → List ℕ
line_rest [] = 10 ∷ []
line_rest (word ∷ words) = 32 ∷ (word ++ line_rest words)

-- words one blank apart, and LF
abbrev pub line_text : List (List ℕ) → List ℕ
line_text [] = 10 ∷ []
line_text (word ∷ words) = word ++ line_rest words

-- lines one behind the other, each by its words
abbrev pub lines_text : List (List (List ℕ)) → List ℕ
lines_text [] = []
lines_text (words ∷ lines) = line_text words ++ lines_text lines

-- the new text is the old one and behind it a front of what was due
pub record GoesOn (old due new : List ℕ) : Type 0 where
  pub front : List ℕ
  pub rest : List ℕ
  pub parts : due ≡ front ++ rest
  pub behind : new ≡ old ++ front
