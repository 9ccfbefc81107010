-- The commands as clap sees them: no option or file is required, as only plain lines are handed to
-- it.
use Rattle.std.specs.Prelude.{List, [], ◌∷◌, Some, codes}
use Rattle.clap.specs.Words.{App, Rule, Text, new_app, new_rule, with_rule}

-- a command with these files in turn
abbrev pub with_files : App → List Text → App
with_files app [] = app
with_files app (file ∷ files) = with_files (with_rule app (new_rule file)) files

-- an option with one value
abbrev pub option_rule : Text → Rule
option_rule name = record (new_rule name) { long = Some name }

-- a command with these options besides
abbrev pub with_options : App → List Text → App
with_options app [] = app
with_options app (name ∷ names) = with_options (with_rule app (option_rule name)) names

-- `check` with its two files
abbrev pub check_command : App
check_command = with_files (new_app (codes "check")) (codes "deck" ∷ codes "tree" ∷ [])

-- `print` with its file
abbrev pub print_command : App
print_command = with_files (new_app (codes "print")) (codes "deck" ∷ [])

-- `solve` with its file and its options
abbrev pub solve_command : App
solve_command =
    with_options (with_files (new_app (codes "solve")) (codes "deck" ∷ []))
    (codes "nodes" ∷ codes "pivots" ∷ codes "tree" ∷ [])
