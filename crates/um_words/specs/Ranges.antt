-- The numbers that a job asks for are in range.
use Rattle.std.specs.Prelude.{◌≤◌, ⊤}
use Rattle.um_words.specs.declared.job.Job.{Job}
use Rattle.um_words.specs.declared.job.Job.TheVariants.{Solve, Check, Print}
use Rattle.um_words.specs.declared.job.SolveWords.{SolveWords}

-- from 1 to 100,000 nodes, and from 1 to 10,000,000 pivots
pub record HasRanges (w : SolveWords) : Type 0 where
  pub some_nodes : 1 ≤ w.nodes
  pub nodes : w.nodes ≤ 100000
  pub some_pivots : 1 ≤ w.pivots
  pub pivots : w.pivots ≤ 10000000

-- the numbers of the job, where it has some, are in range
abbrev pub IsInRange : Job → Type 0
IsInRange (Solve w) = HasRanges w
IsInRange (Check deck tree) = ⊤
IsInRange (Print deck) = ⊤
