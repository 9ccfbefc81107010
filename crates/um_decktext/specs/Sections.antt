-- The sections of a deck's text, in the order in which they come.
use Rattle.std.specs.Prelude.{ℕ, Bool, false, List, [], ◌∷◌, Option, codes, nat_eq}
use Rattle.std.specs.Option.{option_map_or}
use Rattle.um_decktext.specs.Words.{named}
use Rattle.um_decktext.specs.declared.section.Section.{Section}
use Rattle.um_decktext.specs.declared.section.Section.TheVariants as section

abbrev pub section_called : List ℕ → Option Section
section_called = named (
    (codes "NAME", section.Name) ∷ (codes "OBJSENSE", section.Objsense) ∷ (codes "ROWS", section.Rows)
    ∷ (codes "COLUMNS", section.Columns) ∷ (codes "RHS", section.Rhs) ∷ (codes "RANGES", section.Ranges)
    ∷ (codes "BOUNDS", section.Bounds) ∷ (codes "SOS", section.Sos) ∷ (codes "ARCS", section.Arcs)
    ∷ (codes "ENDATA", section.Endata) ∷ [])

abbrev pub rank : Section → ℕ
rank section.Name = 0
rank section.Objsense = 1
rank section.Rows = 2
rank section.Columns = 3
rank section.Rhs = 4
rank section.Ranges = 5
rank section.Bounds = 6
rank section.Sos = 7
rank section.Arcs = 8
rank section.Endata = 9

-- the section is found, and is this one
abbrev pub is_section : Section → Option Section → Bool
is_section s found = option_map_or (λ f. nat_eq (rank f) (rank s)) found false
