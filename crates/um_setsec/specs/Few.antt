-- Lines of few words.
use Rattle.std.specs.Prelude.{◌≡◌, ◌⊎◌, ◌<◌, [], ◌∷◌, length}
use Rattle.um_decktext.specs.Words.{Words}
use Rattle.um_setsec.specs.declared.few.Few.{Few}
use Rattle.um_setsec.specs.declared.few.Few.TheVariants.{One, Two, Three, Four, Five, Other}

-- the words are these, and their number is none of one to five at `Other`
abbrev pub AreWords : Words → Few → Type 0
AreWords ws (One a) = ws ≡ a.now ∷ []
AreWords ws (Two a b) = ws ≡ a.now ∷ b.now ∷ []
AreWords ws (Three a b c) = ws ≡ a.now ∷ b.now ∷ c.now ∷ []
AreWords ws (Four a b c d) = ws ≡ a.now ∷ b.now ∷ c.now ∷ d.now ∷ []
AreWords ws (Five a b c d e) = ws ≡ a.now ∷ b.now ∷ c.now ∷ d.now ∷ e.now ∷ []
AreWords ws Other = (length ws ≡ 0) ⊎ (5 < length ws)
