-- How a call ends: its status, and the outcome that tells it.
use Rattle.std.specs.Prelude.{ℕ, Some, None}
use Rattle.um_model.specs.declared.answer.AnswerKind.{AnswerKind}
use Rattle.um_model.specs.declared.answer.AnswerKind.TheVariants as kind
use Rattle.um_model.specs.declared.verdict.Verdict.{Verdict}
use Rattle.um_model.specs.declared.verdict.Verdict.TheVariants as verdict
use Rattle.umpire.specs.declared.ending.Ending.{Ending}
use Rattle.umpire.specs.declared.ending.Ending.TheVariants.{Answered, Judged, Printed}
use Rattle.umpire.specs.declared.ending.Ending.TheVariants.{Refused as WasRefused, Faulted}
use Rattle.umpire.specs.declared.ending.Ending.TheVariants.{WithoutMemory}
use Rattle.umpire.specs.declared.outcome.Outcome.{Outcome}
use Rattle.umpire.specs.declared.outcome.Refusal.{Refusal}
use Rattle.umpire.specs.declared.outcome.Refusal.TheVariants as refusal
use Rattle.umpire.specs.declared.outcome.Status.{Status}
use Rattle.umpire.specs.declared.outcome.Status.TheVariants.{Optimal, Infeasible, Unbounded, Limit}
use Rattle.umpire.specs.declared.outcome.Status.TheVariants.{Overflow, Refused, Words, Fault}
use Rattle.umpire.specs.declared.outcome.Status.TheVariants.{Memory, No}

-- the program's exit status
abbrev pub status_number : Status → ℕ
status_number Optimal = 0
status_number Infeasible = 1
status_number Unbounded = 2
status_number Limit = 3
status_number Overflow = 4
status_number Refused = 5
status_number Words = 6
status_number Fault = 7
status_number Memory = 8
status_number No = 9

-- the status of a kind of answer
abbrev pub answer_status : AnswerKind → Status
answer_status kind.Optimal = Optimal
answer_status kind.Infeasible = Infeasible
answer_status kind.Unbounded = Unbounded
answer_status kind.Limit = Limit
answer_status kind.Overflow = Overflow

-- a verdict yes is told as Optimal
abbrev pub verdict_status : Verdict → Status
verdict_status verdict.Yes = Optimal
verdict_status (verdict.No place reason) = No

-- words are refused as such, and a file by its text
abbrev pub refusal_status : Refusal → Status
refusal_status (refusal.Deck fault) = Refused
refusal_status (refusal.Tree fault) = Refused
refusal_status (refusal.Words fault) = Words
refusal_status (refusal.LowTolerance least) = Words

-- the status of each ending
abbrev pub status_of : Ending → Status
status_of (Answered a) = answer_status a.kind
status_of (Judged v) = verdict_status v
status_of Printed = Optimal
status_of (WasRefused r) = refusal_status r
status_of Faulted = Fault
status_of WithoutMemory = Memory

-- an outcome with this status alone
abbrev pub bare_outcome : Status → Outcome
bare_outcome status = record { status = status; answer = None; verdict = None; refusal = None }

-- an answer, a verdict or a refusal is told exactly where the call ended with it
abbrev pub outcome_of : Ending → Outcome
outcome_of (Answered a) = record (bare_outcome (status_of (Answered a))) { answer = Some a }
outcome_of (Judged v) = record (bare_outcome (status_of (Judged v))) { verdict = Some v }
outcome_of Printed = bare_outcome (status_of Printed)
outcome_of (WasRefused r) = record (bare_outcome (status_of (WasRefused r))) { refusal = Some r }
outcome_of Faulted = bare_outcome (status_of Faulted)
outcome_of WithoutMemory = bare_outcome (status_of WithoutMemory)
