-- What the command `print DECK` does: it writes the normal text of the deck.
use Rattle.std.specs.Prelude.{◌≡◌, ℕ, List, [], ◌∷◌}
use Rattle.um_outside.specs.Scenes.{Scene, Asked, to_open}
use Rattle.um_outside.specs.Desks.{WentWell}
use Rattle.um_outside.specs.Sinks.{SinkScene}
use Rattle.um_outside.specs.WholeFiles.{ReadFaulted}
use Rattle.um_model.specs.Values.{DeckValue}
use Rattle.um_make.specs.NormalLines.{normal_text}
use Rattle.umpire.specs.Calls.{ComesTo, MakesNoFile, AsksInOrder}
use Rattle.umpire.specs.DeckFiles.{HasDeck, HasNoDeck}
use Rattle.umpire.specs.Refusals.{refusal_text}
use Rattle.umpire.specs.declared.ending.Ending.{Ending}
use Rattle.umpire.specs.declared.ending.Ending.TheVariants.{Answered, Judged, Printed, Refused}
use Rattle.umpire.specs.declared.ending.Ending.TheVariants.{Faulted, WithoutMemory}
use Rattle.umpire.specs.declared.outcome.Refusal.{Refusal}
use Rattle.umpire.specs.declared.outcome.Refusal.TheVariants.{Words, LowTolerance, Deck, Tree}
use Rattle.umpire.specs.declared.reading.Stop.{Stop}
use Rattle.umpire.specs.declared.reading.Stop.TheVariants as stop

-- the file that is asked for
abbrev pub print_files : (deck : List ℕ) → List Asked
print_files deck = to_open deck ∷ []

-- ---- what is due

-- a deck was read from this file, and the text is its normal text
pub record Prints (name : List ℕ) (text : List ℕ) (s t : Scene) : Type 0 where
  pub deck : DeckValue
  pub deck_read : HasDeck name deck s t
  pub normal : text ≡ normal_text deck

-- what was read before this refusal
abbrev pub PrintRefuses : List ℕ → Refusal → Scene → Scene → Type 0
PrintRefuses name (Deck fault) s t = HasNoDeck name fault s t
PrintRefuses name (Tree fault) s t = ⊥
PrintRefuses name (Words fault) s t = ⊥
PrintRefuses name (LowTolerance least) s t = ⊥

-- the normal text of the deck, or the line of a refusal
abbrev pub PrintDue : List ℕ → Scene → Scene → Ending → List ℕ → Type 0
PrintDue name s t Printed text = Prints name text s t
PrintDue name s t (Refused r) text = (text ≡ refusal_text r) × PrintRefuses name r s t
PrintDue name s t (Answered a) text = ⊥
PrintDue name s t (Judged v) text = ⊥
PrintDue name s t Faulted text = ⊥
PrintDue name s t WithoutMemory text = ⊥

-- ---- the whole command

-- the text that is due was said, or the desk, at the deck's file, or the output failed, or no
-- memory was found; no file was made, and at most the deck's file was asked for
pub record PrintRan
    (name : List ℕ) (ending : Ending) (before after : Scene) (s t : SinkScene) : Type 0 where
  pub comes :
      ComesTo (PrintDue name before after) (ReadFaulted name before after) ending before after s t
  pub files : MakesNoFile before after
  pub asked : AsksInOrder (print_files name) before after

-- ---- the parts of the command, for private functions

-- the desk has not failed, no file was made, and the deck's file was asked for
pub record PrintKeeps (name : List ℕ) (s t : Scene) : Type 0 where
  pub well : WentWell s t
  pub files : MakesNoFile s t
  pub asked : AsksInOrder (print_files name) s t

-- the desk failed at the deck's file, and no file was made
pub record PrintFaulted (name : List ℕ) (s t : Scene) : Type 0 where
  pub fails : ReadFaulted name s t
  pub files : MakesNoFile s t
  pub asked : AsksInOrder (print_files name) s t

-- the deck was read, and this is its normal text
pub record HasPrinted (name : List ℕ) (text : List ℕ) (s t : Scene) : Type 0 where
  pub prints : Prints name text s t
  pub keeps : PrintKeeps name s t

-- why there is no text
abbrev pub PrintStopped : List ℕ → Stop → Scene → Scene → Type 0
PrintStopped name (stop.Refused r) s t = PrintRefuses name r s t × PrintKeeps name s t
PrintStopped name stop.Fault s t = PrintFaulted name s t
PrintStopped name stop.Memory s t = PrintKeeps name s t
