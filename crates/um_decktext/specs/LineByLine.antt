-- The first broken rule, found line by line.
use Rattle.std.specs.Prelude.{◌+◌, ℕ, if◌then◌else◌, List, [], ◌∷◌, ◌++◌, length, Option, Some, None, option_map}
use Rattle.std.specs.Option.{option_or}
use Rattle.um_statements.specs.declared.fault.Fault.{Fault}
use Rattle.um_statements.specs.declared.fault.Fault.TheVariants.{NoEnd}
use Rattle.um_decktext.specs.DeckLines.{Line}
use Rattle.um_decktext.specs.DeckText.{line_fault, is_end}

-- the line and the fault of the first broken rule, in the lines behind others
abbrev pub fault_behind : List Line → List Line → Option (ℕ × Fault)
fault_behind before [] = Some (length before, NoEnd)
fault_behind before (line ∷ lines) =
    option_or (option_map (λ fault. (length before + 1, fault)) (line_fault before line))
    (if is_end line then None else fault_behind (before ++ line ∷ []) lines)
