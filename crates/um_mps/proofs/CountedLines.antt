-- The lines up to ENDATA, as a loop finds them.
use Rattle.std.proofs.Common.{◌≡◌, Bool, true, false, List, [], ◌∷◌, ◌++◌, append_assoc, refl, sym, ◌∙◌, if◌then◌else◌}
use Rattle.std.proofs.lemmas.List.{append-nil}
use Rattle.um_decktext.specs.DeckLines.{Line}
use Rattle.um_decktext.specs.DeckText.{is_end, counted}
use Rattle.um_mps.specs.Reading.{counted_behind}

onward : (before lines : List Line) → counted_behind before lines ≡ before ++ counted lines
unfolding counted
onward before [] = sym (append-nil before)
onward before (line ∷ lines) = by (is_end line) (onward (before ++ line ∷ []) lines)
  where
    by : (b : Bool) → counted_behind (before ++ line ∷ []) lines ≡ (before ++ line ∷ []) ++ counted lines
        → (if b then before ++ line ∷ [] else counted_behind (before ++ line ∷ []) lines) ≡ before ++ (if b then line ∷ [] else line ∷ counted lines)
    by true rest = refl
    by false rest = rest ∙ append_assoc before (line ∷ []) (counted lines)

pub counted_found : (lines : List Line) → counted lines ≡ counted_behind [] lines
counted_found lines = sym (onward [] lines)
