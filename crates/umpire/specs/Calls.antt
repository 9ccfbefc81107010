-- What a call comes to: the text that is due is written, or the desk or the output fails, or no
-- memory is found.
use Rattle.std.specs.Prelude.{◌≡◌, ℕ, ◌⊎◌, List, ◌++◌}
use Rattle.um_outside.specs.Scenes.{Scene, Asked}
use Rattle.um_outside.specs.Desks.{WentWell, Asks}
use Rattle.um_outside.specs.Sinks.{SinkScene, Took, TookFront}
use Rattle.umpire.specs.declared.ending.Ending.{Ending}
use Rattle.umpire.specs.declared.ending.Ending.TheVariants.{Answered, Judged, Printed, Refused}
use Rattle.umpire.specs.declared.ending.Ending.TheVariants.{Faulted, WithoutMemory}

-- what a call does to the desk and the output, by how it ends
abbrev pub CallPromise : Type 1
CallPromise = Ending → Scene → Scene → SinkScene → SinkScene → Type 0

-- ---- texts

-- the text that is due was written
pub record Said (IsDue : List ℕ → Type 0) (s t : SinkScene) : Type 0 where
  pub text : List ℕ
  pub due : IsDue text
  pub written : Took text s t

-- the output failed in the text that was due, with a front of it written
pub record CutShort (Due : Ending → List ℕ → Type 0) (s t : SinkScene) : Type 0 where
  pub ending : Ending
  pub text : List ℕ
  pub due : Due ending text
  pub written : TookFront text s t

-- a call ended so, and wrote the text that is due then
abbrev pub SaysDue : (Ending → List ℕ → Type 0) → CallPromise
SaysDue Due ending before after s t = WentWell before after × Said (Due ending) s t

-- What a call comes to, where `Due` says which ending is due with which text, and `Fails` how the
-- desk may have failed. Nothing is written but what is due, and nothing where the desk failed or no
-- memory was found.
abbrev pub ComesTo : (Ending → List ℕ → Type 0) → Type 0 → CallPromise
ComesTo Due Fails (Answered a) before after s t = SaysDue Due (Answered a) before after s t
ComesTo Due Fails (Judged v) before after s t = SaysDue Due (Judged v) before after s t
ComesTo Due Fails Printed before after s t = SaysDue Due Printed before after s t
ComesTo Due Fails (Refused r) before after s t = SaysDue Due (Refused r) before after s t
ComesTo Due Fails Faulted before after s t =
    (Fails × (t ≡ s)) ⊎ (WentWell before after × CutShort Due s t)
ComesTo Due Fails WithoutMemory before after s t = WentWell before after × (t ≡ s)

-- ---- files

-- no file was made or changed
pub record MakesNoFile (s t : Scene) : Type 0 where
  pub put : t.put ≡ s.put
  pub holds : t.holds ≡ s.holds

-- of these files a front was asked for, in this order and each once, and no other file
pub record AsksInOrder (files : List Asked) (s t : Scene) : Type 0 where
  pub front : List Asked
  pub behind : List Asked
  pub all : files ≡ front ++ behind
  pub asked : Asks front s.asked t.asked
