-- Why words or a file are not taken, and how a text is said. Only the contracts of private
-- functions rest on it.
use Rattle.std.specs.Prelude.{◌≡◌, ◌≢◌, ℕ, ◌⊎◌, List, ⊤}
use Rattle.um_outside.specs.Scenes.{Scene}
use Rattle.um_outside.specs.Sinks.{SinkScene, Took, TookFront}
use Rattle.um_outside.specs.WholeFiles.{ReadFaulted, ReadGivenUp}
use Rattle.um_model.specs.Values.{DeckValue}
use Rattle.um_statements.specs.declared.fault.Fault.TheVariants as deck
use Rattle.um_mps.specs.declared.reader.ReadFault.{ReadFault}
use Rattle.um_decktext.specs.DeckText.{DeckFault}
use Rattle.um_treetext.specs.declared.fault.TreeFault.{TreeFault}
use Rattle.um_treetext.specs.declared.fault.TreeWord.TheVariants as tree
use Rattle.um_treetext.specs.Reading.{TreeFaultAt}
use Rattle.um_words.specs.declared.job.WordFault.{WordFault}
use Rattle.um_words.specs.declared.job.WordFault.TheVariants as words
use Rattle.umpire.specs.DeckFiles.{HasNoDeck, HasNoDeckOf}
use Rattle.umpire.specs.TreeFiles.{HasNoTree}
use Rattle.umpire.specs.Refusals.{refusal_text}
use Rattle.umpire.specs.declared.ending.Ending.{Ending}
use Rattle.umpire.specs.declared.ending.Ending.TheVariants.{Refused, Faulted, WithoutMemory}
use Rattle.umpire.specs.declared.outcome.Refusal.{Refusal}
use Rattle.umpire.specs.declared.outcome.Refusal.TheVariants as refusal
use Rattle.umpire.specs.declared.reading.Stop.{Stop}
use Rattle.umpire.specs.declared.reading.Stop.TheVariants as stop

-- ---- one file

-- the refusal of a deck's file
abbrev pub RefusesDeck : List ℕ → Refusal → Scene → Scene → Type 0
RefusesDeck name (refusal.Deck fault) s t = HasNoDeck name fault s t
RefusesDeck name (refusal.Tree fault) s t = ⊥
RefusesDeck name (refusal.Words fault) s t = ⊥
RefusesDeck name (refusal.LowTolerance least) s t = ⊥

-- the refusal of a deck's file by a command that takes such decks
abbrev pub RefusesDeckOf : (DeckValue → Type 0) → List ℕ → Refusal → Scene → Scene → Type 0
RefusesDeckOf IsTaken name (refusal.Deck fault) s t = HasNoDeckOf IsTaken name fault s t
RefusesDeckOf IsTaken name (refusal.Tree fault) s t = ⊥
RefusesDeckOf IsTaken name (refusal.Words fault) s t = ⊥
RefusesDeckOf IsTaken name (refusal.LowTolerance least) s t = ⊥

-- the refusal of a tree's file
abbrev pub RefusesTreeFile : DeckValue → List ℕ → Refusal → Scene → Scene → Type 0
RefusesTreeFile d name (refusal.Tree fault) s t = HasNoTree d name fault s t
RefusesTreeFile d name (refusal.Deck fault) s t = ⊥
RefusesTreeFile d name (refusal.Words fault) s t = ⊥
RefusesTreeFile d name (refusal.LowTolerance least) s t = ⊥

-- why the file of this name was not taken: a refusal, before which this was read; a fault; or want
-- of memory
abbrev pub FileStopped : List ℕ → (Refusal → Scene → Scene → Type 0) → Stop → Scene → Scene → Type 0
FileStopped name Refuses (stop.Refused r) s t = Refuses r s t
FileStopped name Refuses stop.Fault s t = ReadFaulted name s t
FileStopped name Refuses stop.Memory s t = ReadGivenUp name s t

-- this refusal tells the first rule of a deck's text that the bytes break
abbrev pub IsTextRefusal : List ℕ → Refusal → Type 0
IsTextRefusal bytes (refusal.Deck fault) = DeckFault bytes fault.line fault.fault
IsTextRefusal bytes (refusal.Tree fault) = ⊥
IsTextRefusal bytes (refusal.Words fault) = ⊥
IsTextRefusal bytes (refusal.LowTolerance least) = ⊥

-- why a deck's bytes are not taken: a refusal, or want of memory
abbrev pub TextStopped : List ℕ → Stop → Type 0
TextStopped bytes (stop.Refused r) = IsTextRefusal bytes r
TextStopped bytes stop.Fault = ⊥
TextStopped bytes stop.Memory = ⊤

-- this refusal tells the first rule of the deck's tree text that the bytes break
abbrev pub IsTreeRefusal : DeckValue → List ℕ → Refusal → Type 0
IsTreeRefusal d bytes (refusal.Tree fault) = TreeFaultAt d bytes fault.line fault.fault
IsTreeRefusal d bytes (refusal.Deck fault) = ⊥
IsTreeRefusal d bytes (refusal.Words fault) = ⊥
IsTreeRefusal d bytes (refusal.LowTolerance least) = ⊥

-- why a tree's bytes are not taken for the deck: a refusal, or want of memory
abbrev pub TreeStopped : DeckValue → List ℕ → Stop → Type 0
TreeStopped d bytes (stop.Refused r) = IsTreeRefusal d bytes r
TreeStopped d bytes stop.Fault = ⊥
TreeStopped d bytes stop.Memory = ⊤

-- a fault of a deck's text as a cause to stop; want of memory is no refusal
abbrev pub StopsFor : ReadFault → Stop → Type 0
StopsFor f (stop.Refused r) = (r ≡ refusal.Deck f) × (f.fault ≢ deck.Memory)
StopsFor f stop.Fault = ⊥
StopsFor f stop.Memory = f.fault ≡ deck.Memory

-- the same of a fault of a tree's text
abbrev pub StopsForTree : TreeFault → Stop → Type 0
StopsForTree f (stop.Refused r) = (r ≡ refusal.Tree f) × (f.fault ≢ tree.Memory)
StopsForTree f stop.Fault = ⊥
StopsForTree f stop.Memory = f.fault ≡ tree.Memory

-- the same of a fault of words
abbrev pub StopsForWords : WordFault → Stop → Type 0
StopsForWords f (stop.Refused r) = (r ≡ refusal.Words f) × (f ≢ words.Memory)
StopsForWords f stop.Fault = ⊥
StopsForWords f stop.Memory = f ≡ words.Memory

-- ---- how a text is said

-- the text was written and the call ends so, or the output failed in it
abbrev pub SaidOrCut : List ℕ → Ending → Ending → SinkScene → SinkScene → Type 0
SaidOrCut text said ending s t =
    ((ending ≡ said) × Took text s t) ⊎ ((ending ≡ Faulted) × TookFront text s t)

-- the same, or no memory was found for the text
abbrev pub SaidOrNot : List ℕ → Ending → Ending → SinkScene → SinkScene → Type 0
SaidOrNot text said ending s t =
    SaidOrCut text said ending s t ⊎ ((ending ≡ WithoutMemory) × (t ≡ s))

-- how a call ends that came to nothing
abbrev pub GaveUp : Stop → Ending → SinkScene → SinkScene → Type 0
GaveUp (stop.Refused r) ending s t = SaidOrNot (refusal_text r) (Refused r) ending s t
GaveUp stop.Fault ending s t = (ending ≡ Faulted) × (t ≡ s)
GaveUp stop.Memory ending s t = (ending ≡ WithoutMemory) × (t ≡ s)
