-- The columns that a box holds at 0, as members of sets outside the sets' intervals.
use Rattle.std.proofs.Common.{◌≡◌, ◌∙◌, ℕ, ◌+◌, ◌-◌, ◌<◌, nat_lt, Bool, true, false, ◌||◌, ◌&&◌, inl, inr, List, length, slice_get, slice_index_or, Some, sym, ap, subst, eqb-true, arith}
use Rattle.std.specs.Prelude.{◌==◌}
use Rattle.std.specs.List.{list_any, enumerate_from}
use Rattle.std.proofs.lemmas.Bool.{and_parts, and_from, or_left, or_right, eq-eqb, false_from_ne_true}
use Rattle.std.proofs.lemmas.Bool.Decides.{nat_tests}
use Rattle.std.proofs.lemmas.List.Folds.{list_any_at}
use Rattle.std.proofs.lemmas.List.FromFn.{length-enumerate_from, get_or-enumerate_from}
use Rattle.um_laws.proofs.Places.{item_of, item_at, at_map}
use Rattle.um_model.specs.Values.{DeckValue, SetValue}
use Rattle.um_model.specs.WellFormed.{AtPlace}
use Rattle.um_model.specs.Boxes.{BoxValue, Span, IsOutside, root, span_at, is_outside, is_shut_out}
use Rattle.um_model.specs.declared.deck.Member.{Member}
use Rattle.um_soundness.proofs.VoidBoxes.{passed, outside_is}

-- the column is a member of a set, at a position outside the set's interval
pub record IsHeld (d : DeckValue) (b : BoxValue) (column : ℕ) : Type 0 where
  pub set : ℕ
  pub whole : SetValue
  pub at_set : AtPlace d.sets set whole
  pub position : ℕ
  pub member : Member
  pub at_position : AtPlace whole.members position member
  pub is : member.column ≡ column
  pub outside : IsOutside (span_at b set) position

less_is : (m n : ℕ) → m < n → nat_lt m n ≡ true
less_is m n l = grind (arith, nat_tests)

is_outside_of : (span : Span) (position : ℕ) → IsOutside span position → (nat_lt position span.first || nat_lt span.last position) ≡ true
is_outside_of span position out = elim out [
  | inl l ↦ or_left (nat_lt position span.first) (nat_lt span.last position) (less_is position span.first l)
  | inr l ↦ or_right (nat_lt position span.first) (nat_lt span.last position) (less_is span.last position l)
]

from_nought : (n : ℕ) → 0 + n ≡ n
from_nought n = omega arith

-- an item with its place that passes
any_placed : {X : Type 0} (test : ℕ × X → Bool) (xs : List X) (place : ℕ) (x : X) → slice_get xs place ≡ Some x → test (place, x) ≡ true → list_any test (enumerate_from 0 xs) ≡ true
any_placed {X} test xs place x at e =
    let i = item_of xs place x at in
    let here : slice_index_or (enumerate_from 0 xs) place (0, x) ≡ (place, x) =
    get_or-enumerate_from 0 xs place (0, x) i.inside ∙ ap (λ (n : ℕ). (n, slice_index_or xs place x)) (from_nought place) ∙ ap (λ (y : X). (place, y)) (i.is x) in
    let inside = i.inside in
    list_any_at test (enumerate_from 0 xs) place (0, x) (omega (arith, inside, length-enumerate_from 0 xs)) (subst (λ (y : ℕ × X). test y ≡ true) (sym here) e)

module _ (d : DeckValue) (b : BoxValue) (column : ℕ) where
  held_in : (set : ℕ) (s : SetValue) → AtPlace d.sets set s → is_outside (span_at b set) s column ≡ true → IsHeld d b column
  held_in set s at e =
      let span : Span = span_at b set in
      let test : ℕ × Member → Bool = λ m. (m.1.column == column) && (nat_lt m.0 span.first || nat_lt span.last m.0) in
      let r = passed test 0 s.members e in
      let m = item_at s.members r.place r.inside in
      let passes : test (r.place, m.0) ≡ true = subst (λ (n : ℕ). test (n, m.0) ≡ true) (from_nought r.place) (subst (λ (x : Member). test (0 + r.place, x) ≡ true) ((item_of s.members r.place m.0 m.1).is m.0) (r.passes m.0)) in
      let both = and_parts (m.0.column == column) (nat_lt r.place span.first || nat_lt span.last r.place) passes in
      record {
        set = set;
        whole = s;
        at_set = at;
        position = r.place;
        member = m.0;
        at_position = m.1;
        is = eqb-true m.0.column column both.0;
        outside = outside_is span r.place both.1;
      }

  pub held : is_shut_out d b column ≡ true → IsHeld d b column
  held e =
      let test : ℕ × SetValue → Bool = λ s. is_outside (span_at b s.0) s.1 column in
      let r = passed test 0 d.sets e in
      let s = item_at d.sets r.place r.inside in
      held_in r.place s.0 s.1 (subst (λ (n : ℕ). test (n, s.0) ≡ true) (from_nought r.place) (subst (λ (x : SetValue). test (0 + r.place, x) ≡ true) ((item_of d.sets r.place s.0 s.1).is s.0) (r.passes s.0)))

  pub shut_out : IsHeld d b column → is_shut_out d b column ≡ true
  shut_out h =
      let span : Span = span_at b h.set in
      let test : ℕ × Member → Bool = λ m. (m.1.column == column) && (nat_lt m.0 span.first || nat_lt span.last m.0) in
      let passes : test (h.position, h.member) ≡ true = and_from (h.member.column == column) (nat_lt h.position span.first || nat_lt span.last h.position) (eq-eqb h.member.column column h.is) (is_outside_of span h.position h.outside) in
      any_placed (λ (s : ℕ × SetValue). is_outside (span_at b s.0) s.1 column) d.sets h.set h.whole h.at_set (any_placed test h.whole.members h.position h.member h.at_position passes)

-- ---- the root box

abbrev whole_span : SetValue → Span
whole_span s = record { first = 0; last = length s.members - 1 }

none_held : (d : DeckValue) (column : ℕ) → ¬ IsHeld d (root d) column
none_held d column h =
    let i = item_of d.sets h.set h.whole h.at_set in
    let span : span_at (root d) h.set ≡ whole_span h.whole = at_map whole_span d.sets h.set h.whole (record { first = 0; last = 0 }) i.inside ∙ ap whole_span (i.is h.whole) in
    let inside = (item_of h.whole.members h.position h.member h.at_position).inside in
    elim (subst (λ (x : Span). IsOutside x h.position) span h.outside) [ inl l ↦ absurd (omega (arith, l)) | inr l ↦ absurd (omega (arith, l, inside)) ]

-- whole sets hold no column
pub none_shut_out : (d : DeckValue) (column : ℕ) → is_shut_out d (root d) column ≡ false
none_shut_out d column = false_from_ne_true (is_shut_out d (root d) column) (λ e. none_held d column (held d (root d) column e))
