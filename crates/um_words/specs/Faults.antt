-- What reading words gives, where memory may be wanting.
use Rattle.std.specs.Prelude.{◌≡◌, ◌⊎◌, ℕ, List, Option, Some, None, Result, Ok, Err, codes}
use Rattle.um_words.specs.declared.job.Job.{Job}
use Rattle.um_words.specs.declared.job.WordFault.{WordFault}
use Rattle.um_words.specs.declared.job.WordFault.TheVariants.{Line, Nodes, Pivots, Memory}

-- the word that names a fault
abbrev pub words_fault_word : WordFault → List ℕ
words_fault_word Line = codes "Line"
words_fault_word Nodes = codes "Nodes"
words_fault_word Pivots = codes "Pivots"
words_fault_word Memory = codes "Memory"

-- this is the answer, or no memory was found for it
abbrev pub OrMemory : {X : Type 0} → Result X WordFault → Result X WordFault → Type 0
OrMemory said r = (r ≡ said) ⊎ (r ≡ Err Memory)

-- a job of a command among others
abbrev pub as_some : Result Job WordFault → Result (Option Job) WordFault
as_some (Ok job) = Ok (Some job)
as_some (Err fault) = Err fault

-- where the words are this command what is said of them holds, or no memory was found; else there
-- is no job
abbrev pub Reads : Option (Result Job WordFault) → Result (Option Job) WordFault → Type 0
Reads None r = r ≡ Ok None
Reads (Some said) r = OrMemory (as_some said) r

-- the value, or this fault where there is none
abbrev pub or_fault : {X : Type 0} → Option X → WordFault → Result X WordFault
or_fault (Some x) fault = Ok x
or_fault None fault = Err fault

-- what is said of a value that is there
abbrev pub and_then :
    {X Y : Type 0} → Result X WordFault → (X → Result Y WordFault) → Result Y WordFault
and_then (Ok x) next = next x
and_then (Err fault) next = Err fault
