-- What holds of a place and a maker behind one line more.
use Rattle.std.proofs.Common.{◌≡◌, Bool, true, false, ◌&&◌, nat_le, nat_lt, is_some, [], Option, Some, None, Ok, refl, sym, ap, ◌∙◌, arith}
use Rattle.std.proofs.lemmas.Bool.Decides.{nat_tests}
use Rattle.std.specs.Option.{option_map_or}
use Rattle.um_statements.specs.declared.fault.Fault.TheVariants.{SectionOrder, UnknownSection}
use Rattle.um_statements.specs.Said.{Said, nothing_said}
use Rattle.um_statements.specs.CallRules.{with_all}
use Rattle.um_statements.specs.Tells.{TellsAll, says_fault, statements, wants_weight}
use Rattle.um_decktext.specs.Words.{Words, first_word}
use Rattle.um_decktext.specs.declared.section.Section.{Section}
use Rattle.um_decktext.specs.declared.section.Section.TheVariants as section
use Rattle.um_decktext.specs.Sections.{is_section, rank, section_called}
use Rattle.um_decktext.specs.DeckLines.{data_now, section_now}
use Rattle.um_decktext.specs.Places.{Place, place_of}
use Rattle.um_mps.specs.Behind.{HasItsColumn, behind_data, behind_heading, behind_section}
use Rattle.um_decktext.specs.LinesSay.{data_line, heading_line, heading_says, is_in_order}
use Rattle.um_mps.specs.Reading.{IsPlace, is_before_sets}
use Rattle.um_mps.proofs.SaysFine.{data_plain, heading_plain}
use Rattle.um_mps.proofs.SetsKept.{set_told, wants_kept}

false_true : false ≡ true → ⊥
false_true e = cc

some_none : {A : Type 0} (x : A) → Some x ≡ None → ⊥
some_none x e = cc

-- a place outside COLUMNS and SOS has neither a column nor weights
no_column : (p : Place) → p.column ≡ None → is_some p.column ≡ true → ⊥
no_column p none some = false_true (sym (ap is_some none) ∙ some)

-- ---- the first line

first_parts : (place : Place) → place ≡ place_of [] → (place.column ≡ None) × (place.section ≡ None)
unfolding place_of section_now data_now
first_parts place first = (ap (λ (p : Place). p.column) first, ap (λ (p : Place). p.section) first)

pub first_placed : (place : Place) (maker : Said) → place ≡ place_of [] → maker ≡ nothing_said → IsPlace place maker
first_placed place maker first new =
    let parts = first_parts place first in
    record {
      in_columns = λ e. absurd (no_column place parts.0 e);
      some = λ e. absurd (no_column place parts.0 e);
      in_sets = λ e. absurd (false_true (sym (ap (is_section section.Sos) parts.1) ∙ e));
      before_sets = λ e. ap wants_weight new;
    }

-- ---- data lines

section_stays : (now : Option Section) (ws : Words) (p : Place) → (behind_data now ws p).section ≡ p.section
section_stays (Some section.Rows) ws p = refl
section_stays (Some section.Columns) ws p = refl
section_stays (Some section.Rhs) ws p = refl
section_stays (Some section.Ranges) ws p = refl
section_stays (Some section.Bounds) ws p = refl
section_stays (Some section.Sos) ws p = refl
section_stays other ws p = refl

column_stays : (now : Option Section) (ws : Words) (p : Place) → is_section section.Columns now ≡ false → (behind_data now ws p).column ≡ p.column
column_stays (Some section.Columns) ws p other = absurd (false_true (sym other))
column_stays (Some section.Rows) ws p other = refl
column_stays (Some section.Rhs) ws p other = refl
column_stays (Some section.Ranges) ws p other = refl
column_stays (Some section.Bounds) ws p other = refl
column_stays (Some section.Sos) ws p other = refl
column_stays now ws p other = refl

not_sets : (now : Option Section) → is_before_sets now ≡ true → is_section section.Sos now ≡ false
not_sets None before = refl
not_sets (Some s) before = grind (arith, nat_tests)

-- in SOS the place behind a line has what the maker says
sets_behind : (now : Option Section) (ws : Words) (p next : Place) (maker more : Said) → p.weights ≡ wants_weight maker
    → says_fault maker (data_line now p ws) ≡ None → more ≡ with_all (statements (data_line now p ws)) maker → next ≡ behind_data now ws p
    → is_section section.Sos now ≡ true → next.weights ≡ wants_weight more
sets_behind (Some section.Sos) ws p next maker more same fine told moved here =
    ap (λ (q : Place). q.weights) moved ∙ sym (ap wants_weight told ∙ set_told p.weights ws maker same fine)
sets_behind None ws p next maker more same fine told moved here = absurd (false_true here)
sets_behind (Some s) ws p next maker more same fine told moved here = absurd (false_true here)

column_in : (now : Option Section) (ws : Words) (p : Place) → (is_some p.column ≡ true → is_section section.Columns now ≡ true)
    → is_some (behind_data now ws p).column ≡ true → is_section section.Columns now ≡ true
column_in now ws p old some = by (is_section section.Columns now) refl
  where
    by : (b : Bool) → is_section section.Columns now ≡ b → is_section section.Columns now ≡ true
    by true e = e
    by false e = old (ap is_some (sym (column_stays now ws p e)) ∙ some)

pub data_placed : (ws : Words) (place next : Place) (maker more : Said) → IsPlace place maker → TellsAll (data_line place.section place ws) maker (Ok tt) more
    → next ≡ behind_data place.section ws place → HasItsColumn next more → IsPlace next more
data_placed ws place next maker more k told moved goes =
    let here : next.section ≡ place.section = ap (λ (q : Place). q.section) moved ∙ section_stays place.section ws place in
    record {
      in_columns = λ e. ap (is_section section.Columns) here ∙ column_in place.section ws place k.in_columns (sym (ap (λ (q : Place). is_some q.column) moved) ∙ e);
      some = goes;
      in_sets = λ e. let sets = sym (ap (is_section section.Sos) here) ∙ e in sets_behind place.section ws place next maker more (k.in_sets sets) told.0 told.1 moved sets;
      before_sets = λ e.
          let before = sym (ap is_before_sets here) ∙ e in
          wants_kept (data_line place.section place ws) maker more (data_plain place.section place ws (not_sets place.section before)) told.1 ∙ k.before_sets before;
    }

-- ---- headings

in_order : (place : Place) (s : Section) (ws : Words) (maker : Said) → says_fault maker (heading_says place (Some s) ws) ≡ None → is_in_order place s ≡ true
in_order place s ws maker fine = by (is_in_order place s) refl
  where
    by : (b : Bool) → is_in_order place s ≡ b → is_in_order place s ≡ true
    by true e = e
    by false e = absurd (some_none SectionOrder (rw e at fine))

first_and : (a b : Bool) → (a && b) ≡ true → a ≡ true
first_and true b e = refl
first_and false b e = e

-- a section that comes up to SOS comes behind one before SOS
came : (last : Option Section) (s : Section) → option_map_or (λ t. nat_lt (rank t) (rank s)) last true ≡ true → nat_le (rank s) 7 ≡ true → is_before_sets last ≡ true
came None s later early = refl
came (Some t) s later early = grind (arith, nat_tests)

up_to_sets : (s : Section) → is_section section.Sos (Some s) ≡ true → nat_le (rank s) 7 ≡ true
up_to_sets s here = grind (arith, nat_tests)

up_to_before : (s : Section) → is_before_sets (Some s) ≡ true → nat_le (rank s) 7 ≡ true
up_to_before s before = grind (arith, nat_tests)

headed : (found : Option Section) (ws : Words) (place next : Place) (maker more : Said) → IsPlace place maker
    → says_fault maker (heading_says place found ws) ≡ None → more ≡ with_all (statements (heading_says place found ws)) maker → next ≡ behind_section found place → IsPlace next more
headed None ws place next maker more k fine told moved = absurd (some_none UnknownSection fine)
headed (Some s) ws place next maker more k fine told moved =
    let here : next.section ≡ Some s = ap (λ (q : Place). q.section) moved in
    let none : next.column ≡ None = ap (λ (q : Place). q.column) moved in
    let later = first_and _ _ (first_and _ _ (in_order place s ws maker fine)) in
    let kept : wants_weight more ≡ wants_weight maker = wants_kept (heading_says place (Some s) ws) maker more (heading_plain place (Some s) ws) told in
    record {
      in_columns = λ e. absurd (no_column next none e);
      some = λ e. absurd (no_column next none e);
      in_sets = λ e.
          ap (λ (q : Place). q.weights) moved
          ∙ sym (kept ∙ k.before_sets (came place.section s later (up_to_sets s (sym (ap (is_section section.Sos) here) ∙ e))));
      before_sets = λ e. kept ∙ k.before_sets (came place.section s later (up_to_before s (sym (ap is_before_sets here) ∙ e)));
    }

pub heading_placed : (ws : Words) (place next : Place) (maker more : Said) → IsPlace place maker → TellsAll (heading_line place ws) maker (Ok tt) more
    → next ≡ behind_heading ws place → IsPlace next more
heading_placed ws place next maker more k told moved = headed (section_called (first_word ws)) ws place next maker more k told.0 told.1 moved
