-- Examples of numerals and of normal texts.
use Rattle.std.specs.Prelude.{◌≡◌, ℕ, pos, negsuc, true, List, [], ◌∷◌, ◌++◌, codes, Some, None}
use Rattle.std.specs.List.{flat_map}
use Rattle.um_model.specs.Values.{DeckValue}
use Rattle.um_model.specs.declared.deck.Kind.TheVariants.{Continuous, Integer, Semi}
use Rattle.um_model.specs.declared.deck.SetKind.TheVariants.{S2}
use Rattle.um_decktext.specs.DeckText.{DeckText}
use Rattle.um_make.specs.Numerals.{numeral}
use Rattle.um_make.specs.NormalLines.{normal_text}

-- these lines, each with LF
abbrev pub text : List (List ℕ) → List ℕ
text = flat_map (λ line. line ++ 10 ∷ [])

-- a deck that maximises, with a constant, rows of each kind, an integer and a semicontinuous column, columns with all
-- choices of ends, an ordered set and an arc
abbrev pub small_deck : DeckValue
small_deck = record {
  name = codes "RICH";
  objective_name = codes "GAIN";
  maximise = true;
  scale = 1;
  constant = pos 25;
  rows = record { name = codes "LIM1"; scale = 2; low = Some (pos 600); high = Some (pos 1025) } ∷ record { name = codes "LIM2"; scale = 0; low = Some (pos 3); high = Some (pos 3) } ∷ record { name = codes "LIM3"; scale = 0; low = None; high = Some (pos 0) } ∷ record { name = codes "LIM4"; scale = 0; low = Some (pos 2); high = None } ∷ [];
  columns =
      record { name = codes "x"; kind = Integer; low = Some (pos 0); high = Some (pos 1000); cost = negsuc 14; entries = record { row = 0; value = pos 25 } ∷ record { row = 2; value = negsuc 0 } ∷ [] }
      ∷ record { name = codes "z"; kind = Continuous; low = None; high = Some (negsuc 999); cost = pos 0; entries = record { row = 1; value = pos 7 } ∷ [] }
      ∷ record { name = codes "w"; kind = Continuous; low = Some (pos 0); high = Some (pos 2000); cost = pos 0; entries = [] }
      ∷ record { name = codes "v"; kind = Continuous; low = None; high = None; cost = pos 0; entries = [] }
      ∷ record { name = codes "u"; kind = Continuous; low = Some (pos 500); high = None; cost = pos 0; entries = [] }
      ∷ record { name = codes "t"; kind = Continuous; low = Some (pos 0); high = None; cost = pos 0; entries = [] }
      ∷ record { name = codes "s"; kind = Semi (pos 1500); low = Some (pos 0); high = Some (pos 4000); cost = pos 20; entries = [] } ∷ [];
  sets = record { name = codes "PAIR"; kind = S2; members = record { column = 2; weight = pos 500000 } ∷ record { column = 6; weight = pos 2000000 } ∷ [] } ∷ [];
  arcs = record { row = None; column = 0; value = pos 5 } ∷ [];
}

-- its lines
abbrev pub small_lines : List (List ℕ)
small_lines =
    codes "NAME RICH"
    ∷ codes "OBJSENSE MAX"
    ∷ codes "ROWS"
    ∷ codes " N GAIN"
    ∷ codes " G LIM1"
    ∷ codes " E LIM2"
    ∷ codes " L LIM3"
    ∷ codes " G LIM4"
    ∷ codes "COLUMNS"
    ∷ codes " M 'MARKER' 'INTORG'"
    ∷ codes " x GAIN 1.5"
    ∷ codes " x LIM1 0.25"
    ∷ codes " x LIM3 -1"
    ∷ codes " M 'MARKER' 'INTEND'"
    ∷ codes " z LIM2 7"
    ∷ codes " w GAIN 0"
    ∷ codes " v GAIN 0"
    ∷ codes " u GAIN 0"
    ∷ codes " t GAIN 0"
    ∷ codes " s GAIN -2"
    ∷ codes "RHS"
    ∷ codes " RHS LIM1 6"
    ∷ codes " RHS LIM2 3"
    ∷ codes " RHS LIM4 2"
    ∷ codes " RHS GAIN 2.5"
    ∷ codes "RANGES"
    ∷ codes " RNG LIM1 4.25"
    ∷ codes "BOUNDS"
    ∷ codes " LO BND x 0"
    ∷ codes " UP BND x 1"
    ∷ codes " MI BND z"
    ∷ codes " UP BND z -1"
    ∷ codes " LO BND w 0"
    ∷ codes " UP BND w 2"
    ∷ codes " FR BND v"
    ∷ codes " LO BND u 0.5"
    ∷ codes " LO BND s 1.5"
    ∷ codes " SC BND s 4"
    ∷ codes "SOS"
    ∷ codes " S2 PAIR"
    ∷ codes " w 0.5"
    ∷ codes " s 2"
    ∷ codes "ARCS"
    ∷ codes " Q GAIN x -0.5"
    ∷ codes "ENDATA" ∷ []

-- what these numerals and this text are, and that the text is read as the deck
pub record Examples : Type 0 where
  pub whole : numeral 0 (pos 7) ≡ codes "7"
  pub below_one : numeral 3 (negsuc 49) ≡ codes "-0.05"
  pub no_last_zero : numeral 3 (pos 1500) ≡ codes "1.5"
  pub zero_number : numeral 3 (pos 0) ≡ codes "0"
  pub deck : normal_text small_deck ≡ text small_lines
  pub read : DeckText (text small_lines) small_deck
