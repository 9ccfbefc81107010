-- Headings of sections in their order.
use Rattle.std.proofs.Common.{◌≡◌, Bool, true, false, ◌&&◌, ◌||◌, nat_le, nat_lt, List, [], ◌∷◌, ◌++◌, Some, None, Ok, refl, ap, ◌∙◌, codes}
use Rattle.std.specs.List.{filter_map, last_or}
use Rattle.std.proofs.lemmas.Bool.{or_right}
use Rattle.std.proofs.lemmas.List.Elements.{filter_map-append}
use Rattle.std.proofs.lemmas.List.Folds.{list_any-append}
use Rattle.um_model.specs.Values.{DeckValue}
use Rattle.um_statements.specs.Statements.{Name}
use Rattle.um_decktext.specs.declared.section.Section.{Section}
use Rattle.um_decktext.specs.declared.section.Section.TheVariants as section
use Rattle.um_decktext.specs.Sections.{section_called, rank, is_section}
use Rattle.um_decktext.specs.Words.{Words}
use Rattle.um_decktext.specs.DeckLines.{Line, Heading, section_now, data_now, heading_of, data_words, is_heading}
use Rattle.um_decktext.specs.LinesSay.{line_says}
use Rattle.um_decktext.specs.Places.{place_of, is_open}
use Rattle.um_make.specs.NormalLines.{rows_data}
use Rattle.um_round.proofs.LinesTold.{IsBehind, place_is, last_push, after_this, or_more}

pub columns_heading : (d : DeckValue) (before : List Line) → IsBehind before section.Rows (rows_data d) false → line_says (place_of before) (Heading (codes "COLUMNS" ∷ [])) ≡ Ok []
unfolding line_says
columns_heading d before b = rw (place_is before section.Rows (rows_data d) false b) refl

-- a section behind COLUMNS that isn't one of the first four
pub record IsLater (now : Section) : Type 0 where
  pub name : is_section section.Name (Some now) ≡ false
  pub objsense : is_section section.Objsense (Some now) ≡ false
  pub columns : is_section section.Columns (Some now) ≡ false

pub later_heading : (before : List Line) (s now : Section) (words : List Words) (title : Name) → IsBehind before s words true → section_called title ≡ Some now
    → nat_lt (rank s) (rank now) ≡ true → IsLater now → (is_section section.Columns (Some s) && is_open words) ≡ false → line_says (place_of before) (Heading (title ∷ [])) ≡ Ok []
unfolding line_says
later_heading before s now words title b called order later closed =
    rw (place_is before s words true b, called, order, or_right (nat_le (rank now) 2) true refl, or_right (nat_le (rank now) 3) true refl, later.objsense, later.columns, closed, later.name) refl

pub behind_heading : (before : List Line) (s now : Section) (words : List Words) (columns : Bool) (title : Name) → IsBehind before s words columns → section_called title ≡ Some now
    → IsBehind (before ++ Heading (title ∷ []) ∷ []) now [] (columns || (is_section section.Columns (Some now) || false))
unfolding section_now data_now
behind_heading before s now words columns title b called = record {
  section = ap (last_or None) (filter_map-append heading_of before (Heading (title ∷ []) ∷ [])) ∙ rw called (last_push None (filter_map heading_of before) now);
  lines = ap (filter_map data_words) (after_this is_heading before (Heading (title ∷ [])) refl);
  rows_came = list_any-append _ before (Heading (title ∷ []) ∷ []) ∙ or_more _ _ b.rows_came;
  columns_came = list_any-append _ before (Heading (title ∷ []) ∷ []) ∙ rw (b.columns_came, called) refl;
}
