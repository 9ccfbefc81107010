-- The words of a deck's lines.
use Rattle.std.specs.Prelude.{ℕ, if◌then◌else◌, List, [], ◌∷◌, Option, Some, None, slice_index_or}
use Rattle.std.specs.Str.{bytes_eq}

-- the words of a line, as lists of bytes
abbrev pub Words : Type 0
Words = List (List ℕ)

-- an empty word where there is none
abbrev pub first_word : Words → List ℕ
first_word ws = slice_index_or ws 0 []

-- the value beside the first of these words that is this one
abbrev pub named : {A : Type 0} → List (List ℕ × A) → List ℕ → Option A
named [] word = None
named (p ∷ ps) word = if bytes_eq word p.0 then Some p.1 else named ps word
