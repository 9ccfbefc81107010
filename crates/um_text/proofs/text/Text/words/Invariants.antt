use Rattle.std.proofs.Common.{◌≡◌, ◌++◌, take, drop, map}
use Rattle.um_text.specs.Texts.{behind_blanks}
use Rattle.um_text.proofs.text.Text.words.Given as goal

-- what is written so far and the words that are left are the whole, and what is written so far are the words taken
abbrev pub invariant-loop-word : goal.invariant-loop-word
invariant-loop-word l =
    (l.self ++ behind_blanks (map (λ word. word.now) (drop l.word-index l.words)) ≡ l.fn.self ++ behind_blanks (map (λ word. word.now) l.words))
    × (l.self ≡ l.fn.self ++ behind_blanks (map (λ word. word.now) (take l.word-index l.words)))
