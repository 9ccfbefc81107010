-- What a call comes to, from how its text was said.
use Rattle.std.proofs.Common.{ℕ, List, sym, subst, inl, inr}
use Rattle.std.specs.Prelude.{⊤}
use Rattle.um_outside.specs.Scenes.{Scene}
use Rattle.um_outside.specs.Desks.{WentWell}
use Rattle.um_outside.specs.Sinks.{SinkScene, Took}
use Rattle.umpire.specs.Calls.{ComesTo}
use Rattle.umpire.specs.Stops.{SaidOrNot, SaidOrCut}
use Rattle.umpire.specs.declared.ending.Ending.{Ending}
use Rattle.umpire.specs.declared.ending.Ending.TheVariants.{Answered, Judged, Printed, Refused, Faulted, WithoutMemory}

-- the endings that have a text
abbrev pub HasText : Ending → Type 0
HasText Faulted = ⊥
HasText WithoutMemory = ⊥
HasText other = ⊤

module _ (Due : Ending → List ℕ → Type 0) (Fails : Type 0) (before after : Scene) (s t : SinkScene) where
  written : (said : Ending) (text : List ℕ) → HasText said → Due said text → WentWell before after → Took text s t → ComesTo Due Fails said before after s t
  written (Answered a) text h due well took = (well, record { text = text; due = due; written = took })
  written (Judged v) text h due well took = (well, record { text = text; due = due; written = took })
  written Printed text h due well took = (well, record { text = text; due = due; written = took })
  written (Refused r) text h due well took = (well, record { text = text; due = due; written = took })
  written Faulted text h due well took = absurd h
  written WithoutMemory text h due well took = absurd h

  -- a text was said, or cut
  pub cut_comes : (said ending : Ending) (text : List ℕ) → HasText said → Due said text → WentWell before after → SaidOrCut text said ending s t → ComesTo Due Fails ending before after s t
  cut_comes said ending text h due well (inl (same, took)) = subst (λ (x : Ending). ComesTo Due Fails x before after s t) (sym same) (written said text h due well took)
  cut_comes said ending text h due well (inr (same, cut)) = subst (λ (x : Ending). ComesTo Due Fails x before after s t) (sym same) (inr (well, record { ending = said; text = text; due = due; written = cut }))

  -- or no memory was found for it
  pub said_comes : (said ending : Ending) (text : List ℕ) → HasText said → Due said text → WentWell before after → SaidOrNot text said ending s t → ComesTo Due Fails ending before after s t
  said_comes said ending text h due well (inl is) = cut_comes said ending text h due well is
  said_comes said ending text h due well (inr (same, nothing)) = subst (λ (x : Ending). ComesTo Due Fails x before after s t) (sym same) (well, nothing)
