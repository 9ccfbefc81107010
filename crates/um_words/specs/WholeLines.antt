-- The words of `solve` by the whole line: the deck, and behind it options with their values in some
-- order.
use Rattle.std.specs.Prelude.{◌≡◌, ◌≢◌, ◌↔◌, List, [], ◌∷◌, All, AllPairs, IsTrue, Option, Some}
use Rattle.std.specs.Prelude.{option_map, codes, bytes_eq}
use Rattle.std.specs.List.{find}
use Rattle.um_words.specs.Words.{Word, is_option, is_plain}
use Rattle.um_words.specs.SolveWords.{SolveLine, solve_of, solve_options}

-- an option and its value
pub record Pair : Type 0 where
  pub option : Word
  pub value : Word

-- the words of these pairs in turn
abbrev pub pair_words : List Pair → List Word
pair_words [] = []
pair_words (pair ∷ pairs) = pair.option ∷ pair.value ∷ pair_words pairs

-- the option is one of these, and its value is a plain word
pub record IsPair (options : List Word) (pair : Pair) : Type 0 where
  pub known : IsTrue (is_option options pair.option)
  pub plain : IsTrue (is_plain pair.value)

-- each option comes once
abbrev pub AreApart : List Pair → Type 0
AreApart pairs = AllPairs (λ a b. a.option ≢ b.option) pairs

-- the value of this option, where it is among the pairs
abbrev pub value_in : Word → List Pair → Option Word
value_in option pairs =
    option_map (λ pair. pair.value) (find (λ pair. bytes_eq pair.option option) pairs)

-- the words are `solve`, the deck and such pairs in some order, and the line is found from the
-- pairs
pub record IsWholeLine (words : List Word) (line : SolveLine) : Type 0 where
  pub pairs : List Pair
  pub is : words ≡ codes "solve" ∷ line.deck ∷ pair_words pairs
  pub deck : IsTrue (is_plain line.deck)
  pub each : All (IsPair solve_options) pairs
  pub apart : AreApart pairs
  pub nodes : line.nodes ≡ value_in (codes "--nodes") pairs
  pub pivots : line.pivots ≡ value_in (codes "--pivots") pairs
  pub tree : line.tree ≡ value_in (codes "--tree") pairs

-- words are this command exactly where they are such a line
abbrev pub SolveWordsLaw : Type 0
SolveWordsLaw =
    (words : List Word) (line : SolveLine) → (solve_of words ≡ Some line) ↔ IsWholeLine words line
