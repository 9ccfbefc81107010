-- What a call does, by what its words ask for.
use Rattle.std.proofs.lemmas.List.{append-nil}
use Rattle.std.proofs.Common.{◌≡◌, ℕ, List, [], ◌∷◌, Option, Some, None, Result, Ok, Err, refl, sym, subst, arith, inl, inr}
use Rattle.um_outside.specs.Scenes.{Scene, Asked, to_open}
use Rattle.um_outside.specs.Desks.{Asks}
use Rattle.um_outside.specs.Sinks.{SinkScene}
use Rattle.um_words.specs.Commands.{job_of}
use Rattle.um_words.specs.Faults.{OrMemory}
use Rattle.um_words.specs.declared.job.Job.{Job}
use Rattle.um_words.specs.declared.job.Job.TheVariants.{Check, Solve, Print}
use Rattle.um_words.specs.declared.job.WordFault.{WordFault}
use Rattle.um_words.specs.declared.job.WordFault.TheVariants.{Memory}
use Rattle.umpire.specs.CheckRuns.{check_files}
use Rattle.umpire.specs.SolveRuns.{solve_files}
use Rattle.umpire.specs.Refusals.{refusal_text}
use Rattle.umpire.specs.Runs.{RanAs, WordsDue, by_job}
use Rattle.umpire.specs.Stops.{GaveUp, StopsForWords}
use Rattle.umpire.specs.declared.ending.Ending.{Ending}
use Rattle.umpire.specs.declared.ending.Ending.TheVariants.{Refused, WithoutMemory}
use Rattle.umpire.specs.declared.reading.Stop.{Stop}
use Rattle.umpire.specs.declared.reading.Stop.TheVariants as stop
use Rattle.umpire.proofs.Sayings.{said_comes}
use Rattle.umpire.proofs.SolveCalls.{unmade_but}

module _ (words : List (List ℕ)) (ending : Ending) (before after : Scene) (s t : SinkScene) where
  -- the job was done
  pub job_ran : (job : Job) → OrMemory (job_of words) (Ok job) → by_job (Ok job) ending before after s t → RanAs words ending before after s t
  job_ran job (inl is) h = subst (λ (r : Result Job WordFault). by_job r ending before after s t) is h
  job_ran job (inr none) h = cc

-- no file was asked for
none_asked : (o : Option (List Asked)) → Asks [] o o
none_asked None = tt
none_asked (Some files) = sym (append-nil files)

-- no memory was found before any file was asked for
without_memory : (r : Result Job WordFault) (desk : Scene) (s t : SinkScene) → t ≡ s → by_job r WithoutMemory desk desk s t
without_memory (Ok (Check deck tree)) desk s t same = record {
  comes = (record { faults = omega arith; stopped = refl }, same);
  files = record { put = refl; holds = refl };
  asked = record { front = []; behind = check_files (record { deck = deck; tree = tree }); all = refl; asked = none_asked desk.asked };
}
without_memory (Ok (Solve line)) desk s t same = record {
  comes = (record { faults = omega arith; stopped = refl }, same);
  files = unmade_but line.tree desk desk (record { put = refl; holds = refl });
  alone = λ e. record { put = refl; holds = refl };
  asked = record { front = []; behind = solve_files line; all = refl; asked = none_asked desk.asked };
}
without_memory (Ok (Print deck)) desk s t same = record {
  comes = (record { faults = omega arith; stopped = refl }, same);
  files = record { put = refl; holds = refl };
  asked = record { front = []; behind = to_open deck ∷ []; all = refl; asked = none_asked desk.asked };
}
without_memory (Err fault) desk s t same = record {
  comes = (record { faults = omega arith; stopped = refl }, same);
  unopened = refl;
}

-- the words were refused, or no memory was found for them
pub fault_ran : (words : List (List ℕ)) (fault : WordFault) (why : Stop) (ending : Ending) (desk : Scene) (s t : SinkScene) → OrMemory (job_of words) (Err fault) → StopsForWords fault why → GaveUp why ending s t → RanAs words ending desk desk s t
fault_ran words fault (stop.Refused r) ending desk s t (inl is) (same, other) said =
    subst (λ (x : Result Job WordFault). by_job x ending desk desk s t) is (record {
      comes = said_comes (WordsDue fault) ⊥ desk desk s t (Refused r) ending (refusal_text r) tt (refl, same, other) (record { faults = omega arith; stopped = refl }) said;
      unopened = refl;
    })
fault_ran words fault (stop.Refused r) ending desk s t (inr none) (same, other) said =
    let memory : fault ≡ Memory = cc in
    absurd (other memory)
fault_ran words fault stop.Fault ending desk s t h k said = absurd k
fault_ran words fault stop.Memory ending desk s t h k said =
    subst (λ (x : Ending). RanAs words x desk desk s t) (sym said.0) (without_memory (job_of words) desk s t said.1)
