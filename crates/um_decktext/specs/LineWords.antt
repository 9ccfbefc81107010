-- The words of a deck's lines: kinds, markers, and the sets that lines name.
use Rattle.std.specs.Prelude.{ℕ, Bool, true, false, is_some, if◌then◌else◌, List, [], ◌∷◌, Option, Some, None, codes, slice_index_or}
use Rattle.std.specs.Option.{option_map_or}
use Rattle.std.specs.Str.{bytes_eq}
use Rattle.um_statements.specs.declared.parts.RowKind.{RowKind}
use Rattle.um_statements.specs.declared.parts.RowKind.TheVariants.{N, L, G, E}
use Rattle.um_statements.specs.declared.parts.BoundKind.{BoundKind}
use Rattle.um_statements.specs.declared.parts.BoundKind.TheVariants.{Up, Lo, Fx, Fr, Mi, Pl, Bv, Li, Ui, Sc}
use Rattle.um_statements.specs.Statements.{Name}
use Rattle.um_statements.specs.CallRules.{is_n}
use Rattle.um_decktext.specs.Words.{Words, first_word, named}

-- ---- kinds

abbrev pub row_kind : List ℕ → Option RowKind
row_kind = named ((codes "N", N) ∷ (codes "L", L) ∷ (codes "G", G) ∷ (codes "E", E) ∷ [])

-- whether the deck maximises
abbrev pub sense_called : List ℕ → Option Bool
sense_called = named ((codes "MIN", false) ∷ (codes "MINIMIZE", false) ∷ (codes "MAX", true) ∷ (codes "MAXIMIZE", true) ∷ [])

-- the kinds of bounds that need a value, and those that need none
abbrev pub valued_bound : List ℕ → Option BoundKind
valued_bound = named ((codes "UP", Up) ∷ (codes "LO", Lo) ∷ (codes "FX", Fx) ∷ (codes "LI", Li) ∷ (codes "UI", Ui) ∷ (codes "SC", Sc) ∷ [])

abbrev pub bare_bound : List ℕ → Option BoundKind
bare_bound = named ((codes "FR", Fr) ∷ (codes "MI", Mi) ∷ (codes "PL", Pl) ∷ (codes "BV", Bv) ∷ [])

-- a data line of an N row
abbrev pub is_objective_line : Words → Bool
is_objective_line ws = option_map_or is_n (row_kind (first_word ws)) false

-- ---- markers

-- three words, of which the second is `'MARKER'`
abbrev pub is_marker : Words → Bool
is_marker (name ∷ word ∷ end ∷ []) = bytes_eq word (codes "'MARKER'")
is_marker other = false

abbrev pub third_word : Words → List ℕ
third_word ws = slice_index_or ws 2 []

-- a marker that opens a block of integer columns
abbrev pub opens : Words → Bool
opens ws = bytes_eq (third_word ws) (codes "'INTORG'")

-- ---- sets

-- the set that a line of RHS or RANGES names: one of an even number of words names none
abbrev pub set_of_pairs : Words → Option Name
set_of_pairs (set ∷ row ∷ word ∷ []) = Some set
set_of_pairs (set ∷ row ∷ word ∷ row2 ∷ word2 ∷ []) = Some set
set_of_pairs other = None

-- the set that a bound names: three words with a value name none, and two without
abbrev pub set_of_bound : Words → Option Name
set_of_bound (kind ∷ set ∷ column ∷ []) = if is_some (valued_bound kind) then None else Some set
set_of_bound (kind ∷ set ∷ column ∷ word ∷ []) = Some set
set_of_bound other = None
