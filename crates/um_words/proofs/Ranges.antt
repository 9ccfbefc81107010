-- A job's numbers are in range, since a number out of it is a fault.
use Rattle.std.proofs.Common.{◌≡◌, ℕ, ◌≤◌, ℤ, pos, negsuc, Bool, true, false, ◌&&◌, Option, Some, None, Result, Ok, Err, IfOk, IfSome, option_map, List, refl, sym, subst, inl, inr, arith, leb-true}
use Rattle.std.specs.Prelude.{if◌then◌else◌, nat_le}
use Rattle.um_text.specs.Numerals.{whole_number}
use Rattle.um_text.specs.declared.numeral.NumberFault.{NumberFault}
use Rattle.um_words.specs.Words.{Word}
use Rattle.um_words.specs.Values.{in_range, number_asked}
use Rattle.um_words.specs.Faults.{OrMemory, and_then, or_fault}
use Rattle.um_words.specs.CheckWords.{CheckLine, check_of, check_said}
use Rattle.um_words.specs.PrintWords.{print_of, print_said}
use Rattle.um_words.specs.SolveWords.{SolveLine, solve_of, solve_said}
use Rattle.um_words.specs.Commands.{job_of, or_else}
use Rattle.um_words.specs.Ranges.{IsInRange}
use Rattle.um_words.specs.declared.job.Job.{Job}
use Rattle.um_words.specs.declared.job.Job.TheVariants.{Solve, Check, Print}
use Rattle.um_words.specs.declared.job.WordFault.{WordFault}
use Rattle.um_words.specs.declared.solve.SolveNumbers.{SolveNumbers}
use Rattle.um_words.specs.declared.job.WordFault.TheVariants.{Line, Nodes, Pivots}
use Rattle.um_words.proofs.Walks.{both}

-- a number from 1 to the most
abbrev IsFromOne : ℕ → ℕ → Type 0
IsFromOne most n = (1 ≤ n) × (n ≤ most)

if_in_range : (most n : ℕ) (t : Bool) → (nat_le 1 n && nat_le n most) ≡ t → IfSome (if t then Some n else None) (IsFromOne most)
if_in_range most n true e =
    let parts = both {a = nat_le 1 n} {b = nat_le n most} e in
    (leb-true 1 n parts.0, leb-true n most parts.1)
if_in_range most n false e = tt

said_in_range : (most : ℕ) (r : Result ℤ NumberFault) → IfSome (in_range most r) (IsFromOne most)
said_in_range most (Ok (pos n)) = if_in_range most n (nat_le 1 n && nat_le n most) refl
said_in_range most (Ok (negsuc n)) = tt
said_in_range most (Err fault) = tt

asked_in_range : (most : ℕ) → 1 ≤ most → (word : Option Word) → IfSome (number_asked most word) (IsFromOne most)
asked_in_range most some None = (some, omega arith)
asked_in_range most some (Some word) = said_in_range most (whole_number word)

-- ---- jobs

abbrev numbers_from : Option ℕ → Option ℕ → Result SolveNumbers WordFault
numbers_from nodes pivots = and_then (or_fault nodes Nodes) (λ n. and_then (or_fault pivots Pivots) (λ p. Ok (record { nodes = n; pivots = p })))

numbers_in_range : (deck : Word) (tree : Option Word) (nodes pivots : Option ℕ) → IfSome nodes (IsFromOne 100000) → IfSome pivots (IsFromOne 10000000) → (job : Job)
    → and_then (numbers_from nodes pivots) (λ numbers. Ok (Solve (record { deck = deck; nodes = numbers.nodes; pivots = numbers.pivots; tree = tree }))) ≡ Ok job → IsInRange job
numbers_in_range deck tree None pivots h k job e = cc
numbers_in_range deck tree (Some n) None h k job e = cc
numbers_in_range deck tree (Some n) (Some p) h k job e =
    let is : Solve (record { deck = deck; nodes = n; pivots = p; tree = tree }) ≡ job = cc in
    subst IsInRange is (record { some_nodes = h.0; nodes = h.1; some_pivots = k.0; pivots = k.1 })

solve_in_range : (line : SolveLine) (job : Job) → solve_said line ≡ Ok job → IsInRange job
solve_in_range line job e =
    numbers_in_range line.deck line.tree (number_asked 100000 line.nodes) (number_asked 10000000 line.pivots)
    (asked_in_range 100000 (omega arith) line.nodes) (asked_in_range 10000000 (omega arith) line.pivots) job e

check_in_range : (line : CheckLine) (job : Job) → check_said line ≡ Ok job → IsInRange job
check_in_range line job e =
    let is : Check line.deck line.tree ≡ job = cc in
    subst IsInRange is tt

print_in_range : (deck : Word) (job : Job) → print_said deck ≡ Ok job → IsInRange job
print_in_range deck job e =
    let is : Print deck ≡ job = cc in
    subst IsInRange is tt

-- a command's job, or that of the commands behind it
in_turn : {L : Type 0} (said : L → Result Job WordFault) (o : Option L) (rest : Result Job WordFault) → ((line : L) (job : Job) → said line ≡ Ok job → IsInRange job) → ((job : Job) → rest ≡ Ok job → IsInRange job)
    → (job : Job) → or_else (option_map said o) rest ≡ Ok job → IsInRange job
in_turn said None rest h k job e = k job e
in_turn said (Some line) rest h k job e = h line job e

none_left : (job : Job) → Err Line ≡ Ok job → IsInRange job
none_left job e = cc

-- the numbers of the job that the words ask for are in range
job_in_range : (words : List Word) (job : Job) → job_of words ≡ Ok job → IsInRange job
job_in_range words =
    in_turn check_said (check_of words) _ check_in_range
    (in_turn solve_said (solve_of words) _ solve_in_range
    (in_turn print_said (print_of words) _ print_in_range none_left))

-- the same of the job that was made
pub made_in_range : (words : List Word) (r : Result Job WordFault) → OrMemory (job_of words) r → IfOk r IsInRange
made_in_range words (Ok job) (inl e) = job_in_range words job (sym e)
made_in_range words (Ok job) (inr e) = cc
made_in_range words (Err fault) h = tt
