-- Examples: which rules some texts break, and the decks that others are. Each is computed.
use Rattle.std.specs.Prelude.{◌≡◌, ◌+◌, ℕ, zero, suc, take, drop, ℤ, pos, negsuc, map, false, Option, Some, None, List, [], ◌∷◌, ◌++◌, codes}
use Rattle.std.specs.List.{flat_map}
use Rattle.um_model.specs.Values.{DeckValue}
use Rattle.um_model.specs.declared.deck.Row.{Row}
use Rattle.um_model.specs.declared.deck.Kind.TheVariants.{Continuous, Integer, Semi}
use Rattle.um_model.specs.declared.deck.SetKind.TheVariants.{S1, S2}
use Rattle.um_statements.specs.declared.fault.Fault.TheVariants.{ArcRow, BadNumber, BadWords, CrossedBounds, EmptySet, Marker, NoEnd, NoObjective, NotFinite, SectionOrder, SemiInteger, TooFine, TooLarge, TwiceColumn, TwiceEntry, TwiceMember, TwiceRow, TwiceSet, UnknownColumn, UnknownKind, UnknownRow, UnknownSection}
use Rattle.um_decktext.specs.DeckText.{text_fault, text_deck}

-- these lines, each ended by LF
abbrev pub text : List (List ℕ) → List ℕ
text = flat_map (λ line. line ++ 10 ∷ [])

-- ---- a small integer deck, and the same with one line changed

abbrev pub plant : List (List ℕ)
plant =
    codes "NAME ROW2"
    ∷ codes "ROWS"
    ∷ codes " N COST"
    ∷ codes " L R1"
    ∷ codes " L R2"
    ∷ codes "COLUMNS"
    ∷ codes " M1 'MARKER' 'INTORG'"
    ∷ codes " x COST -5 R1 6"
    ∷ codes " x R2 1"
    ∷ codes " y COST -4 R1 4"
    ∷ codes " y R2 2"
    ∷ codes " M2 'MARKER' 'INTEND'"
    ∷ codes "RHS"
    ∷ codes " RHS R1 24 R2 6"
    ∷ codes "BOUNDS"
    ∷ codes " UP BND x 10"
    ∷ codes " UP BND y 10"
    ∷ codes "ENDATA" ∷ []

abbrev pub plant_deck : DeckValue
plant_deck = record {
  name = codes "ROW2";
  objective_name = codes "COST";
  maximise = false;
  scale = 0;
  constant = pos 0;
  rows = record { name = codes "R1"; scale = 0; low = None; high = Some (pos 24) } ∷ record { name = codes "R2"; scale = 0; low = None; high = Some (pos 6) } ∷ [];
  columns = record { name = codes "x"; kind = Integer; low = Some (pos 0); high = Some (pos 10000); cost = negsuc 4; entries = record { row = 0; value = pos 6 } ∷ record { row = 1; value = pos 1 } ∷ [] } ∷ record { name = codes "y"; kind = Integer; low = Some (pos 0); high = Some (pos 10000); cost = negsuc 3; entries = record { row = 0; value = pos 4 } ∷ record { row = 1; value = pos 2 } ∷ [] } ∷ [];
  sets = [];
  arcs = [];
}

-- the lines with this one as the k-th from 1, and without the k-th
abbrev pub put : ℕ → List ℕ → List (List ℕ)
put zero line = plant
put (suc k) line = take k plant ++ (line ∷ drop (k + 1) plant)

abbrev pub without : ℕ → List (List ℕ)
without zero = plant
without (suc k) = take k plant ++ drop (k + 1) plant

-- a numeral of more than five or six digits doesn't compute, so that the greatest numbers aren't here
pub record PlantFaults : Type 0 where
  pub whole : text_fault (text plant) ≡ None
  pub objective : text_fault (text (without 3)) ≡ Some (5, NoObjective)
  pub words : text_fault (text (put 4 (codes " L"))) ≡ Some (4, BadWords)
  pub row : text_fault (text (put 5 (codes " L R1"))) ≡ Some (5, TwiceRow)
  pub entry : text_fault (text (put 9 (codes " x R1 1"))) ≡ Some (9, TwiceEntry)
  pub marker : text_fault (text (without 12)) ≡ Some (12, Marker)
  pub bounds : text_fault (text (put 13 (codes "BOUNDS"))) ≡ Some (14, BadWords)
  pub number : text_fault (text (put 14 (codes " RHS R1 2x4 R2 6"))) ≡ Some (14, BadNumber)
  pub side : text_fault (text (put 14 (codes " RHS R1 1e31 R2 6"))) ≡ Some (18, TooLarge)
  pub kind : text_fault (text (put 16 (codes " ZZ BND x 10"))) ≡ Some (16, UnknownKind)
  pub column : text_fault (text (put 16 (codes " UP BND z 10"))) ≡ Some (16, UnknownColumn)
  pub fine : text_fault (text (put 16 (codes " UP BND x 10.0001"))) ≡ Some (16, TooFine)
  pub below : text_fault (text (put 16 (codes " UP BND x -1"))) ≡ Some (18, NotFinite)
  pub endless : text_fault (text (without 16)) ≡ Some (17, NotFinite)
  pub semi : text_fault (text (put 16 (codes " SC BND x 10"))) ≡ Some (16, SemiInteger)
  pub sets : text_fault (text (put 18 (codes "SOS"))) ≡ Some (18, NoEnd)
  pub arcs : text_fault (text (put 18 (codes "ARCS"))) ≡ Some (18, NoEnd)
  pub last : text_fault (text (without 18)) ≡ Some (17, NoEnd)
  pub none : text_fault [] ≡ Some (0, NoEnd)

-- ---- decks

-- costs have one decimal; the low end is 0 where no bound sets it
abbrev pub small_lines : List (List ℕ)
small_lines = codes "ROWS" ∷ codes " N COST" ∷ codes " L R1" ∷ codes "COLUMNS" ∷ codes " x COST -1.5 R1 6" ∷ codes "RHS" ∷ codes " RHS R1 24" ∷ codes "BOUNDS" ∷ codes " UP BND x 10" ∷ codes "ENDATA" ∷ []

abbrev pub small_deck : DeckValue
small_deck = record {
  name = [];
  objective_name = codes "COST";
  maximise = false;
  scale = 1;
  constant = pos 0;
  rows = record { name = codes "R1"; scale = 0; low = None; high = Some (pos 24) } ∷ [];
  columns = record { name = codes "x"; kind = Continuous; low = Some (pos 0); high = Some (pos 10000); cost = negsuc 14; entries = record { row = 0; value = pos 6 } ∷ [] } ∷ [];
  sets = [];
  arcs = [];
}

-- an E row with a right-hand side and a range below 0
abbrev pub range_lines : List (List ℕ)
range_lines = codes "ROWS" ∷ codes " N COST" ∷ codes " E R" ∷ codes "COLUMNS" ∷ codes " x R .25" ∷ codes "RHS" ∷ codes " R 10" ∷ codes "RANGES" ∷ codes " R -4" ∷ codes "ENDATA" ∷ []

abbrev pub sides : List Row → List (Option ℤ × Option ℤ)
sides = map (λ (r : Row). (r.low, r.high))

-- right-hand sides of the first set alone, with one on the objective, which is the negative of its constant
abbrev pub sets_lines : List (List ℕ)
sets_lines = codes "ROWS" ∷ codes " N C" ∷ codes " L R" ∷ codes "COLUMNS" ∷ codes " x R 1" ∷ codes "RHS" ∷ codes " A C 5" ∷ codes " B R 7" ∷ codes " A R 3" ∷ codes "ENDATA" ∷ []

-- a set whose weights are those of a reference row, one with weights of its own, a semicontinuous column, and an arc
abbrev pub form_lines : List (List ℕ)
form_lines = codes "ROWS" ∷ codes " N C" ∷ codes " N W" ∷ codes "COLUMNS" ∷ codes " x W 2" ∷ codes " y W 1" ∷ codes " z C 1" ∷ codes " v C 1" ∷ codes "BOUNDS" ∷ codes " UP B x 1" ∷ codes " UP B y 1" ∷ codes " UP B z 4" ∷ codes " SC B v 3" ∷ codes " LO B v 1" ∷ codes "SOS" ∷ codes " S1 A W" ∷ codes " x" ∷ codes " y" ∷ codes " S2 B" ∷ codes " y 1.5" ∷ codes "ARCS" ∷ codes " Q C z 2" ∷ codes "ENDATA" ∷ []

abbrev pub form_deck : DeckValue
form_deck = record {
  name = [];
  objective_name = codes "C";
  maximise = false;
  scale = 0;
  constant = pos 0;
  rows = [];
  columns =
      record { name = codes "x"; kind = Continuous; low = Some (pos 0); high = Some (pos 1000); cost = pos 0; entries = [] }
      ∷ record { name = codes "y"; kind = Continuous; low = Some (pos 0); high = Some (pos 1000); cost = pos 0; entries = [] }
      ∷ record { name = codes "z"; kind = Continuous; low = Some (pos 0); high = Some (pos 4000); cost = pos 1; entries = [] }
      ∷ record { name = codes "v"; kind = Semi (pos 1000); low = Some (pos 0); high = Some (pos 3000); cost = pos 1; entries = [] } ∷ [];
  sets =
      record { name = codes "A"; kind = S1; members = record { column = 1; weight = pos 1000000 } ∷ record { column = 0; weight = pos 2000000 } ∷ [] }
      ∷ record { name = codes "B"; kind = S2; members = record { column = 1; weight = pos 1500000 } ∷ [] } ∷ [];
  arcs = record { row = None; column = 2; value = pos 2 } ∷ [];
}

pub record Decks : Type 0 where
  pub plant_said : text_deck (text plant) ≡ plant_deck
  pub small_said : text_deck (text small_lines) ≡ small_deck
  pub range_sides : sides (text_deck (text range_lines)).rows ≡ (Some (pos 600), Some (pos 1000)) ∷ []
  pub first_set_sides : sides (text_deck (text sets_lines)).rows ≡ (None, Some (pos 3)) ∷ []
  pub first_set_constant : (text_deck (text sets_lines)).constant ≡ negsuc 4
  pub forms_said : text_deck (text form_lines) ≡ form_deck
  pub forms_whole : text_fault (text form_lines) ≡ None

-- ---- more texts

-- these lines behind a section ROWS, and behind a first column too
abbrev pub behind_rows : List (List ℕ) → List ℕ
behind_rows lines = text (codes "ROWS" ∷ codes " N C" ∷ codes " L R" ∷ codes " N F" ∷ codes "COLUMNS" ∷ lines)

abbrev pub behind_entry : List (List ℕ) → List ℕ
behind_entry lines = behind_rows (codes " x R 1" ∷ lines)

pub record MoreFaults0 : Type 0 where
  pub before : text_fault (text (codes " x" ∷ codes "ROWS" ∷ [])) ≡ Some (1, SectionOrder)
  pub end_early : text_fault (text (codes "ROWS" ∷ codes " N C" ∷ codes "ENDATA" ∷ [])) ≡ Some (3, SectionOrder)
  pub sense_line : text_fault (text (codes "OBJSENSE MAX" ∷ codes " MOST" ∷ codes "ROWS" ∷ [])) ≡ Some (2, UnknownKind)
  pub marker_five : text_fault (behind_rows (codes " M 'MARKER' 'INTORG' C 1" ∷ codes "ENDATA" ∷ [])) ≡ Some (6, BadNumber)
  pub unclosed_junk : text_fault (behind_rows (codes " M 'MARKER' 'INTORG'" ∷ codes " x C 1" ∷ codes "JUNK" ∷ [])) ≡ Some (8, UnknownSection)
  pub first_pair : text_fault (behind_rows (codes " x Z 1 R 1e" ∷ codes "ENDATA" ∷ [])) ≡ Some (6, BadNumber)
  pub range_words : text_fault (behind_entry (codes "RANGES" ∷ codes " A R 1" ∷ codes " B R 1 Z 2 Z" ∷ codes "ENDATA" ∷ [])) ≡ Some (9, BadWords)
  pub fr_set : text_fault (behind_entry (codes "BOUNDS" ∷ codes " FR x 5" ∷ codes "ENDATA" ∷ [])) ≡ Some (8, UnknownColumn)
  pub in_name : text_fault (text (codes "NAME T" ∷ codes " x" ∷ codes "ENDATA" ∷ [])) ≡ Some (2, SectionOrder)
  pub again : text_fault (text (codes "ROWS" ∷ codes " N C" ∷ codes "ROWS" ∷ [])) ≡ Some (3, SectionOrder)
  pub sense_words : text_fault (text (codes "OBJSENSE" ∷ codes " MAX MIN" ∷ codes "ROWS" ∷ [])) ≡ Some (2, BadWords)
  pub inside : text_fault (behind_rows (codes " M 'MARKER' 'INTORG'" ∷ codes " x C 1" ∷ codes " M 'MARKER' 'INTORG'" ∷ codes "ENDATA" ∷ [])) ≡ Some (8, Marker)
  pub column_again : text_fault (behind_rows (codes " x C 1" ∷ codes " y C 1" ∷ codes " x R 1" ∷ codes "ENDATA" ∷ [])) ≡ Some (8, TwiceColumn)
  pub unknown_row : text_fault (behind_rows (codes " x Z 1 R 1" ∷ codes "ENDATA" ∷ [])) ≡ Some (6, UnknownRow)
  pub kind_other_set : text_fault (behind_entry (codes "BOUNDS" ∷ codes " UP A x 1" ∷ codes " ZZ B x" ∷ codes "ENDATA" ∷ [])) ≡ Some (9, UnknownKind)
  pub fine_infinite : text_fault (behind_entry (codes "BOUNDS" ∷ codes " UP x 1e-4" ∷ codes "ENDATA" ∷ [])) ≡ Some (8, TooFine)
  pub sc_on_integer : text_fault (behind_entry (codes "BOUNDS" ∷ codes " UI x 1" ∷ codes " SC x 1" ∷ codes "ENDATA" ∷ [])) ≡ Some (9, SemiInteger)
  pub range_skipped : text_fault (behind_entry (codes "RHS" ∷ codes " F 1e-7" ∷ codes "RANGES" ∷ codes " C 1e-7" ∷ codes "ENDATA" ∷ [])) ≡ None
  pub rows_missing : text_fault (text (codes "COLUMNS" ∷ codes "ENDATA" ∷ [])) ≡ Some (1, SectionOrder)
  pub junk : text_fault (text (codes "ROWS" ∷ codes " N C" ∷ codes "JUNK" ∷ [])) ≡ Some (3, UnknownSection)
  pub star : text_fault (text (codes "* c" ∷ codes "ROWS" ∷ codes "" ∷ codes " N C" ∷ codes " *x" ∷ [])) ≡ Some (5, BadWords)
  pub outside : text_fault (behind_rows (codes " M 'MARKER' 'INTEND'" ∷ codes "ENDATA" ∷ [])) ≡ Some (6, Marker)

pub record MoreFaults1 : Type 0 where
  pub column_marker : text_fault (behind_rows (codes " x C 1" ∷ codes " M 'MARKER' 'INTORG'" ∷ codes " x R 1" ∷ codes "ENDATA" ∷ [])) ≡ Some (8, TwiceColumn)
  pub rhs_twice : text_fault (behind_entry (codes "RHS" ∷ codes " A F 0" ∷ codes " B Z 1x" ∷ codes " A R 1 F 0" ∷ codes "ENDATA" ∷ [])) ≡ Some (10, TwiceEntry)
  pub words_other_set : text_fault (behind_entry (codes "BOUNDS" ∷ codes " UP A x 1" ∷ codes " UP B" ∷ codes "ENDATA" ∷ [])) ≡ Some (9, BadWords)
  pub fx_large : text_fault (behind_entry (codes "BOUNDS" ∷ codes " FX x 1e20" ∷ codes "ENDATA" ∷ [])) ≡ Some (8, TooLarge)
  pub bv_up : text_fault (behind_entry (codes "BOUNDS" ∷ codes " BV x" ∷ codes " UP x -1" ∷ codes "ENDATA" ∷ [])) ≡ Some (10, CrossedBounds)
  pub set_twice : text_fault (behind_entry (codes "SOS" ∷ codes " S1 A" ∷ codes " S2 A F" ∷ codes "ENDATA" ∷ [])) ≡ Some (9, TwiceSet)
  pub arc_row : text_fault (behind_entry (codes "ARCS" ∷ codes " Q F x 0" ∷ codes "ENDATA" ∷ [])) ≡ Some (8, ArcRow)
  pub columns_missing : text_fault (text (codes "ROWS" ∷ codes " N C" ∷ codes "RHS" ∷ codes "ENDATA" ∷ [])) ≡ Some (3, SectionOrder)
  pub sense_head : text_fault (text (codes "OBJSENSE MOST" ∷ codes "ROWS" ∷ [])) ≡ Some (1, UnknownKind)
  pub marker_words : text_fault (behind_rows (codes " M 'MARKER'" ∷ codes "ENDATA" ∷ [])) ≡ Some (6, BadWords)
  pub unclosed : text_fault (behind_rows (codes " M 'MARKER' 'INTORG'" ∷ codes " x C 1" ∷ codes "BOUNDS" ∷ codes " UP x 1" ∷ codes "ENDATA" ∷ [])) ≡ Some (8, Marker)
  pub zero_twice : text_fault (behind_rows (codes " x F 0" ∷ codes " x R 1 F 0" ∷ codes "ENDATA" ∷ [])) ≡ Some (7, TwiceEntry)
  pub rhs_none : text_fault (behind_entry (codes "RHS" ∷ codes " R 1" ∷ codes " A Z 1" ∷ codes " C 1 R 2" ∷ codes "ENDATA" ∷ [])) ≡ Some (10, TwiceEntry)
  pub kind_words : text_fault (behind_entry (codes "BOUNDS" ∷ codes " ZZ B x 1 1" ∷ codes "ENDATA" ∷ [])) ≡ Some (8, BadWords)
  pub up_low : text_fault (behind_entry (codes "BOUNDS" ∷ codes " UP x -1e20" ∷ codes "ENDATA" ∷ [])) ≡ Some (8, TooLarge)
  pub side_large : text_fault (behind_entry (codes "RHS" ∷ codes " R 1e16" ∷ codes "ENDATA" ∷ [])) ≡ Some (9, TooLarge)
  pub columns_first : text_fault (text (codes " " ∷ codes "NAME A B C" ∷ codes "OBJSENSE MAX MOST" ∷ codes " MIN" ∷ codes " MAXIMIZE" ∷ codes "ROWS X" ∷ codes " L R" ∷ codes "COLUMNS" ∷ [])) ≡ Some (8, NoObjective)
  pub end_words : text_fault (behind_entry (codes "ENDATA NAME" ∷ codes "JUNK" ∷ [])) ≡ None
  pub range_fine : text_fault (behind_entry (codes "RANGES" ∷ codes " R 1e-7" ∷ codes "ENDATA" ∷ [])) ≡ Some (9, TooFine)
  pub semi_bare : text_fault (behind_entry (codes "BOUNDS" ∷ codes " UP A x 1" ∷ codes " SC B" ∷ [])) ≡ Some (9, BadWords)
  pub semi_other_set : text_fault (behind_entry (codes "BOUNDS" ∷ codes " UP A x 1" ∷ codes " SC B z 1e" ∷ [])) ≡ Some (9, NoEnd)

-- these lines behind two columns with bounds
abbrev pub ended : List (List ℕ) → List ℕ
ended lines = behind_rows (codes " x C 1 F 2" ∷ codes " y C 1" ∷ codes "BOUNDS" ∷ codes " UP B x 1" ∷ codes " UP B y 1" ∷ lines)

pub record FormFaults : Type 0 where
  pub member_first : text_fault (ended (codes "SOS" ∷ codes " x" ∷ [])) ≡ Some (12, BadWords)
  pub unknown_set_kind : text_fault (ended (codes "SOS" ∷ codes " S3 A" ∷ [])) ≡ Some (12, BadWords)
  pub weight_wanted : text_fault (ended (codes "SOS" ∷ codes " S1 A" ∷ codes " x" ∷ [])) ≡ Some (13, BadWords)
  pub weight_unwanted : text_fault (ended (codes "SOS" ∷ codes " S1 A F" ∷ codes " x 1" ∷ [])) ≡ Some (13, BadWords)
  pub last_set_counts : text_fault (ended (codes "SOS" ∷ codes " S1 A" ∷ codes " x 1" ∷ codes " S1 B F" ∷ codes " x" ∷ codes "ENDATA" ∷ [])) ≡ None
  pub kind_as_name : text_fault (ended (codes "SOS" ∷ codes " S1 S1" ∷ codes " S1 2" ∷ codes "ENDATA" ∷ [])) ≡ Some (14, EmptySet)
  pub weight_first : text_fault (ended (codes "SOS" ∷ codes " S1 A" ∷ codes " z 1x" ∷ [])) ≡ Some (13, BadNumber)
  pub member_twice : text_fault (ended (codes "SOS" ∷ codes " S1 A" ∷ codes " x 1" ∷ codes " x 2" ∷ [])) ≡ Some (14, TwiceMember)
  pub arc_kind : text_fault (ended (codes "ARCS" ∷ codes " P C x 1x" ∷ [])) ≡ Some (12, UnknownKind)
  pub arc_words : text_fault (ended (codes "ARCS" ∷ codes " Q C x" ∷ [])) ≡ Some (12, BadWords)
  pub arc_number : text_fault (ended (codes "ARCS" ∷ codes " Q Z x 1x" ∷ [])) ≡ Some (12, BadNumber)
  pub arc_again : text_fault (ended (codes "ARCS" ∷ codes " Q C x 0" ∷ codes " Q C x 1" ∷ [])) ≡ Some (13, TwiceEntry)
  pub semi_fine : text_fault (ended (codes " SC B x 1.0001" ∷ [])) ≡ Some (11, TooFine)
  pub semi_then_integer : text_fault (ended (codes " SC B x 1" ∷ codes " BV B x" ∷ [])) ≡ Some (12, SemiInteger)
