-- What a call of `print` does, from what became of its file and of its text.
use Rattle.std.proofs.Common.{◌≡◌, ℕ, List, [], ◌∷◌, refl, sym, subst, inl}
use Rattle.um_outside.specs.Scenes.{Scene, to_open}
use Rattle.um_outside.specs.Sinks.{SinkScene}
use Rattle.um_outside.specs.WholeFiles.{ReadFaulted, ReadGivenUp}
use Rattle.um_model.specs.Values.{DeckValue}
use Rattle.um_make.specs.NormalLines.{normal_text}
use Rattle.umpire.specs.DeckFiles.{HasDeck}
use Rattle.umpire.specs.PrintRuns.{PrintRan, PrintDue, PrintKeeps, HasPrinted, PrintStopped}
use Rattle.umpire.specs.Refusals.{refusal_text}
use Rattle.umpire.specs.Stops.{FileStopped, RefusesDeck, SaidOrCut, GaveUp}
use Rattle.umpire.specs.declared.ending.Ending.{Ending}
use Rattle.umpire.specs.declared.ending.Ending.TheVariants.{Printed, Refused}
use Rattle.umpire.specs.declared.outcome.Refusal.TheVariants.{Words, LowTolerance, Deck, Tree}
use Rattle.umpire.specs.declared.reading.Stop.{Stop}
use Rattle.umpire.specs.declared.reading.Stop.TheVariants as stop
use Rattle.umpire.proofs.FileReads.{any_deck_left, no_text_left}
use Rattle.umpire.proofs.Sayings.{said_comes}

-- ---- the file

file_keeps : (name : List ℕ) (s t : Scene) → ReadGivenUp name s t → PrintKeeps name s t
file_keeps name s t h = record {
  well = h.well;
  files = record { put = h.put; holds = h.holds };
  asked = record { front = to_open name ∷ []; behind = []; all = refl; asked = h.asked };
}

-- the deck was not taken
pub deck_stopped : (name : List ℕ) (why : Stop) (s t : Scene) → FileStopped name (RefusesDeck name) why s t → PrintStopped name why s t
deck_stopped name (stop.Refused (Deck f)) s t h = (h, file_keeps name s t (no_text_left name f s t h))
deck_stopped name (stop.Refused (Tree f)) s t h = absurd h
deck_stopped name (stop.Refused (Words w)) s t h = absurd h
deck_stopped name (stop.Refused (LowTolerance least)) s t h = absurd h
deck_stopped name stop.Fault s t h = record {
  fails = h;
  files = record { put = h.put; holds = h.holds };
  asked = record { front = to_open name ∷ []; behind = []; all = refl; asked = h.asked };
}
deck_stopped name stop.Memory s t h = file_keeps name s t h

-- the deck was read, and no memory was found for its text
pub deck_kept : (name : List ℕ) (d : DeckValue) (s t : Scene) → HasDeck name d s t → PrintKeeps name s t
deck_kept name d s t h = file_keeps name s t (any_deck_left name d s t h)

-- the deck was read, and this is its normal text
pub printed : (name : List ℕ) (d : DeckValue) (text : List ℕ) (s t : Scene) → HasDeck name d s t → text ≡ normal_text d → HasPrinted name text s t
printed name d text s t h is = record { prints = record { deck = d; deck_read = h; normal = is }; keeps = deck_kept name d s t h }

-- ---- the call

module _ (name : List ℕ) (before after : Scene) (s t : SinkScene) where
  -- the text was said
  pub text_ran : (text : List ℕ) (ending : Ending) → HasPrinted name text before after → SaidOrCut text Printed ending s t → PrintRan name ending before after s t
  text_ran text ending h said = record {
    comes = said_comes (PrintDue name before after) (ReadFaulted name before after) before after s t Printed ending text tt h.prints h.keeps.well (inl said);
    files = h.keeps.files;
    asked = h.keeps.asked;
  }

  -- there is no text
  pub print_gave_up : (why : Stop) (ending : Ending) → PrintStopped name why before after → GaveUp why ending s t → PrintRan name ending before after s t
  print_gave_up (stop.Refused r) ending h said = record {
    comes = said_comes (PrintDue name before after) (ReadFaulted name before after) before after s t (Refused r) ending (refusal_text r) tt (refl, h.0) h.1.well said;
    files = h.1.files;
    asked = h.1.asked;
  }
  print_gave_up stop.Fault ending h said = subst (λ (x : Ending). PrintRan name x before after s t) (sym said.0) (record { comes = inl (h.fails, said.1); files = h.files; asked = h.asked })
  print_gave_up stop.Memory ending h said = subst (λ (x : Ending). PrintRan name x before after s t) (sym said.0) (record { comes = (h.well, said.1); files = h.files; asked = h.asked })
