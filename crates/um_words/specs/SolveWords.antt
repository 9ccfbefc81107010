-- The words of the command `solve DECK`, with options behind the deck in any order.
use Rattle.std.specs.Prelude.{◌≡◌, ◌&&◌, List, [], ◌∷◌, Option, Some, None, option_map, Result, Ok}
use Rattle.std.specs.Prelude.{if◌then◌else◌, codes, bytes_eq}
use Rattle.clap.specs.Words.{first_value}
use Rattle.clap.specs.declared.parser.matches.Found.{Found}
use Rattle.um_words.specs.Words.{Word, is_plain, are_options, value_of}
use Rattle.um_words.specs.Faults.{and_then, or_fault}
use Rattle.um_words.specs.Values.{number_asked}
use Rattle.um_words.specs.declared.solve.SolveFiles.{SolveFiles}
use Rattle.um_words.specs.declared.solve.SolveNumbers.{SolveNumbers}
use Rattle.um_words.specs.declared.job.Job.{Job}
use Rattle.um_words.specs.declared.job.Job.TheVariants.{Solve}
use Rattle.um_words.specs.declared.job.WordFault.{WordFault}
use Rattle.um_words.specs.declared.job.WordFault.TheVariants.{Nodes, Pivots}

-- the name of the deck's file, and the value of each option that is there
pub record SolveLine : Type 0 where
  pub deck : Word
  pub nodes : Option Word
  pub pivots : Option Word
  pub tree : Option Word

-- the options that may stand behind the deck; another word there makes the words no line
abbrev pub solve_options : List Word
solve_options = codes "--nodes" ∷ codes "--pivots" ∷ codes "--tree" ∷ []

-- the line of a deck and these words behind it
abbrev pub solve_line : Word → List Word → SolveLine
solve_line deck words = record {
  deck = deck;
  nodes = value_of (codes "--nodes") words;
  pivots = value_of (codes "--pivots") words;
  tree = value_of (codes "--tree") words;
}

-- the words are `solve`, the deck's file and options; other words are not this command
abbrev pub solve_of : List Word → Option SolveLine
solve_of (command ∷ deck ∷ options) =
    if bytes_eq command (codes "solve") && is_plain deck && are_options solve_options options
    then Some (solve_line deck options)
    else None
solve_of words = None

-- the most nodes and the most pivots of the line: each is a number from 1 on, and the most that may
-- be asked for where none is named; the first value that is out of its range is told, the nodes
-- before the pivots, whatever the order of the words
abbrev pub numbers_said : SolveLine → Result SolveNumbers WordFault
numbers_said line =
    and_then (or_fault (number_asked 100000 line.nodes) Nodes) (λ nodes.
    and_then (or_fault (number_asked 10000000 line.pivots) Pivots) (λ pivots.
    Ok (record { nodes = nodes; pivots = pivots })))

-- the job that the line asks for
abbrev pub solve_said : SolveLine → Result Job WordFault
solve_said line = and_then (numbers_said line) (λ numbers. Ok (Solve (record {
  deck = line.deck;
  nodes = numbers.nodes;
  pivots = numbers.pivots;
  tree = line.tree;
})))

-- what is said of the words, where they are this command
abbrev pub solve_words : List Word → Option (Result Job WordFault)
solve_words words = option_map solve_said (solve_of words)

-- ---- what the program holds

-- the line of the words that the program holds
abbrev pub line_of : SolveFiles → SolveLine
line_of files = record {
  deck = files.deck.now;
  nodes = option_map (λ word. word.now) files.nodes;
  pivots = option_map (λ word. word.now) files.pivots;
  tree = option_map (λ word. word.now) files.tree;
}

-- clap found this line
pub record FoundSolve (f : Found) (line : SolveLine) : Type 0 where
  pub deck : first_value f (codes "deck") ≡ Some line.deck
  pub nodes : first_value f (codes "nodes") ≡ line.nodes
  pub pivots : first_value f (codes "pivots") ≡ line.pivots
  pub tree : first_value f (codes "tree") ≡ line.tree
