-- Which words give which job, and which fault comes where.
use Rattle.std.specs.Prelude.{List, Option, Some, None, Result, Err}
use Rattle.um_words.specs.Words.{Word}
use Rattle.um_words.specs.CheckWords.{check_words}
use Rattle.um_words.specs.SolveWords.{solve_words}
use Rattle.um_words.specs.PrintWords.{print_words}
use Rattle.um_words.specs.declared.job.Job.{Job}
use Rattle.um_words.specs.declared.job.WordFault.{WordFault}
use Rattle.um_words.specs.declared.job.WordFault.TheVariants.{Line}

-- what is said of the words of a command, where they are this command, and else what follows
abbrev pub or_else : Option (Result Job WordFault) → Result Job WordFault → Result Job WordFault
or_else (Some said) otherwise = said
or_else None otherwise = otherwise

-- The job that the words ask for, or why they ask for none. These are the commands that are read;
-- words of no such command are no line. The commands have different first words, so that their
-- order is free.
abbrev pub job_of : List Word → Result Job WordFault
job_of words =
    or_else (check_words words)
    (or_else (solve_words words)
    (or_else (print_words words)
    (Err Line)))
