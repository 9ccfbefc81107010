-- The file of a deck: what it says, and why else it is not taken.
use Rattle.std.specs.Prelude.{◌≡◌, ℕ, ◌⊎◌, List}
use Rattle.um_outside.specs.Scenes.{Scene}
use Rattle.um_outside.specs.WholeFiles.{ReadWhole, ReadTooMuch}
use Rattle.um_model.specs.Values.{DeckValue}
use Rattle.um_model.specs.declared.limits.TheConstants.{MOST_DECK_BYTES}
use Rattle.um_statements.specs.declared.fault.Fault.TheVariants as deck
use Rattle.um_decktext.specs.DeckText.{DeckText, DeckFault}
use Rattle.um_mps.specs.declared.reader.ReadFault.{ReadFault}

-- ---- texts

-- the refusal of a deck that a command does not take yet: it names no line
abbrev pub untaken_deck : ReadFault
untaken_deck = record { line = 0; fault = deck.NotYet }

-- the refusal of a file that is longer than any deck: it names no line
abbrev pub long_deck : ReadFault
long_deck = record { line = 0; fault = deck.TooLong }

-- the bytes are the text of a deck that the command does not take yet, which is refused so
pub record IsUntakenText
    (IsTaken : DeckValue → Type 0) (bytes : List ℕ) (f : ReadFault) : Type 0 where
  pub deck : DeckValue
  pub text : DeckText bytes deck
  pub other : ¬ IsTaken deck
  pub refusal : f ≡ untaken_deck

-- why the bytes are not taken as a deck for a command: the first rule that they break, at its line;
-- or the command does not take the deck yet
abbrev pub IsNoTextOf : (DeckValue → Type 0) → List ℕ → ReadFault → Type 0
IsNoTextOf IsTaken bytes f = DeckFault bytes f.line f.fault ⊎ IsUntakenText IsTaken bytes f

-- ---- files

-- the file of this name was read to its end, and is the text of this deck
pub record HasDeck (name : List ℕ) (d : DeckValue) (s t : Scene) : Type 0 where
  pub bytes : List ℕ
  pub read : ReadWhole name bytes s t
  pub text : DeckText bytes d

-- the same of a deck that a command takes
pub record HasDeckOf
    (IsTaken : DeckValue → Type 0) (name : List ℕ) (d : DeckValue) (s t : Scene) : Type 0 where
  pub bytes : List ℕ
  pub read : ReadWhole name bytes s t
  pub text : DeckText bytes d
  pub taken : IsTaken d

-- the file of this name was read to its end, and the bytes are none of these texts
pub record HasOther
    (IsNoText : List ℕ → Type 0) (name : List ℕ) (s t : Scene) : Type 0 where
  pub bytes : List ℕ
  pub read : ReadWhole name bytes s t
  pub other : IsNoText bytes

-- why the file of this name is not taken as a deck: this is the first rule that its bytes break, or
-- it has more bytes than a deck may have
abbrev pub HasNoDeck : List ℕ → ReadFault → Scene → Scene → Type 0
HasNoDeck name f s t =
    HasOther (λ bytes. DeckFault bytes f.line f.fault) name s t
    ⊎ ((f ≡ long_deck) × ReadTooMuch name MOST_DECK_BYTES s t)

-- the same of a file that is not taken as a deck for a command
abbrev pub HasNoDeckOf : (DeckValue → Type 0) → List ℕ → ReadFault → Scene → Scene → Type 0
HasNoDeckOf IsTaken name f s t =
    HasOther (λ bytes. IsNoTextOf IsTaken bytes f) name s t
    ⊎ ((f ≡ long_deck) × ReadTooMuch name MOST_DECK_BYTES s t)
