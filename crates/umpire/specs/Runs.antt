-- What a call of the program does. Each command's promise stands in a file of its own; here it is
-- said which job the words ask for, and what becomes of words that ask for none.
use Rattle.std.specs.Prelude.{◌≡◌, ◌≢◌, ℕ, List, Result, Ok, Err}
use Rattle.um_outside.specs.Scenes.{Scene}
use Rattle.um_outside.specs.Sinks.{SinkScene}
use Rattle.um_words.specs.Commands.{job_of}
use Rattle.um_words.specs.declared.job.Job.{Job}
use Rattle.um_words.specs.declared.job.Job.TheVariants.{Check, Solve, Print}
use Rattle.um_words.specs.declared.job.WordFault.{WordFault}
use Rattle.um_words.specs.declared.job.WordFault.TheVariants as why
use Rattle.umpire.specs.Calls.{CallPromise, ComesTo}
use Rattle.umpire.specs.CheckRuns.{CheckRan}
use Rattle.umpire.specs.SolveRuns.{SolveRan}
use Rattle.umpire.specs.PrintRuns.{PrintRan}
use Rattle.umpire.specs.Endings.{outcome_of}
use Rattle.umpire.specs.Refusals.{refusal_text}
use Rattle.umpire.specs.declared.ending.Ending.{Ending}
use Rattle.umpire.specs.declared.ending.Ending.TheVariants as ending
use Rattle.umpire.specs.declared.outcome.Outcome.{Outcome}
use Rattle.umpire.specs.declared.outcome.Refusal.TheVariants.{Words}

-- the line of the refused words, which tells their fault; want of memory is none
abbrev pub WordsDue : WordFault → Ending → List ℕ → Type 0
WordsDue fault (ending.Refused r) text =
    (text ≡ refusal_text r) × (r ≡ Words fault) × (fault ≢ why.Memory)
WordsDue fault (ending.Answered a) text = ⊥
WordsDue fault (ending.Judged v) text = ⊥
WordsDue fault ending.Printed text = ⊥
WordsDue fault ending.Faulted text = ⊥
WordsDue fault ending.WithoutMemory text = ⊥

-- the words are refused for this fault: no file is asked for
pub record WordsRefused
    (fault : WordFault) (ending : Ending) (before after : Scene) (s t : SinkScene) : Type 0 where
  pub comes : ComesTo (WordsDue fault) ⊥ ending before after s t
  pub unopened : after ≡ before

-- The promise of the job that words ask for, or of the fault for which they are refused. In each of
-- them the call may also end without memory, and where that comes before any file is asked for both
-- scenes are as they were.
abbrev pub by_job : Result Job WordFault → CallPromise
by_job (Ok (Check deck tree)) = CheckRan (record { deck = deck; tree = tree })
by_job (Ok (Solve line)) = SolveRan line
by_job (Ok (Print deck)) = PrintRan deck
by_job (Err fault) = WordsRefused fault

-- the promise of what the words ask for
abbrev pub RanAs : List (List ℕ) → CallPromise
RanAs words = by_job (job_of words)

-- the outcome tells how the call ended, and what it did
pub record Ran
    (words : List (List ℕ)) (o : Outcome) (before after : Scene) (s t : SinkScene) : Type 0 where
  pub ending : Ending
  pub outcome : o ≡ outcome_of ending
  pub ran : RanAs words ending before after s t
