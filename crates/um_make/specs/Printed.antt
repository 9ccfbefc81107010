-- The bytes of parts of a normal text.
use Rattle.std.specs.Prelude.{ℕ, Bool, true, false, List, [], ◌∷◌, map}
use Rattle.um_text.specs.Texts.{lines_text}
use Rattle.um_decktext.specs.Words.{Words}
use Rattle.um_decktext.specs.DeckLines.{Line, Data}
use Rattle.um_make.specs.NormalLines.{line_words}

-- the bytes of these lines
abbrev pub text_of : List Line → List ℕ
text_of ls = lines_text (map line_words ls)

-- the bytes of data lines of these words
abbrev pub data_text : List Words → List ℕ
data_text wss = text_of (map Data wss)

-- the list has an item
abbrev pub has_some : {X : Type 0} → List X → Bool
has_some [] = false
has_some (x ∷ xs) = true
