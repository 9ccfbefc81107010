-- Which names a deck's text can say.
use Rattle.std.specs.Prelude.{◌≡◌, ℕ, Bool, true, not, is_some, List, ◌∷◌, codes, map}
use Rattle.std.specs.List.{list_all}
use Rattle.std.specs.Str.{bytes_eq}
use Rattle.um_text.specs.Words.{is_word_byte, is_word}
use Rattle.um_model.specs.Values.{DeckValue, ColumnValue, SetValue}
use Rattle.um_model.specs.declared.deck.Row.{Row}
use Rattle.um_model.specs.declared.deck.Member.{Member}
use Rattle.um_decktext.specs.SetLines.{set_kind}
use Rattle.um_make.specs.NormalLines.{column_name}

-- the word by which a line of COLUMNS is a marker
abbrev pub is_marker_word : List ℕ → Bool
is_marker_word name = bytes_eq name (codes "'MARKER'")

-- a word by which a line of SOS begins a set
abbrev pub is_set_word : List ℕ → Bool
is_set_word name = is_some (set_kind name)

-- the names of the objective and of all rows have this
abbrev pub row_names_are : (List ℕ → Bool) → DeckValue → Bool
row_names_are test d = list_all test (d.objective_name ∷ map (λ (r : Row). r.name) d.rows)

-- the names of all members of all sets have this
abbrev pub member_names_are : (List ℕ → Bool) → DeckValue → Bool
member_names_are test d = list_all (λ (s : SetValue). list_all (λ (m : Member). test (column_name d.columns m.column)) s.members) d.sets

-- names that a line can hold: each is one word; that of a row or the objective is no marker, and that of a member begins
-- no set; the deck's own may be empty
pub record HasWordNames (d : DeckValue) : Type 0 where
  pub name : list_all is_word_byte d.name ≡ true
  pub rows : row_names_are is_word d ≡ true
  pub no_marker : row_names_are (λ name. not (is_marker_word name)) d ≡ true
  pub columns : list_all (λ (c : ColumnValue). is_word c.name) d.columns ≡ true
  pub sets : list_all (λ (s : SetValue). is_word s.name) d.sets ≡ true
  pub members : member_names_are (λ name. not (is_set_word name)) d ≡ true
