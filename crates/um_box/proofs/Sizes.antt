-- How large sets and counts are.
use Rattle.std.proofs.Common.{◌≡◌, ◌∙◌, ap, subst, ℕ, ◌+◌, ◌*◌, ◌<◌, ◌≤◌, ◌≢◌, List, [], length, map, get_or, arith, eqb, eqb-true, true, All}
use Rattle.std.specs.List.{list_any, enumerate_from, IsDistinct}
use Rattle.std.proofs.lemmas.Bool.Decides.{Decides-eqb}
use Rattle.std.proofs.lemmas.List.{length-map}
use Rattle.std.proofs.lemmas.List.Elements.{All-map}
use Rattle.std.proofs.lemmas.List.Folds.{Any-from_list_any}
use Rattle.std.proofs.lemmas.List.FromFn.{length-enumerate_from, get_or-enumerate_from}
use Rattle.std.proofs.lemmas.List.Sums.{count_by-le-length, sum_by-le, get_or-le-sum_by}
use Rattle.std.proofs.lemmas.Map.Made.{IsDistinct-from_AllPairs}
use Rattle.std.proofs.lemmas.Map.Steps.{length-le_from_distinct_below}
use Rattle.std.proofs.lemmas.Option.{get_or_from_slice_get, slice_get_within, slice_get-get_or}
use Rattle.um_model.specs.Values.{DeckValue, SetValue}
use Rattle.um_model.specs.WellFormed.{AtPlace, IsDeck, IsSet}
use Rattle.um_model.specs.Boxes.{BoxValue, Span, span_at}
use Rattle.um_model.specs.declared.deck.Member.{Member}
use Rattle.um_model.specs.declared.deck.SetKind.TheVariants.{S1}
use Rattle.um_box.specs.NodeBoxes.{NodeBoxValue, IsNodeBox}
use Rattle.um_deck.proofs.ListParts.{AllPairs-map}
use Rattle.um_box.specs.ShutOut.{is_held, times_outside, times_shut_out}

pub set_there : (d : DeckValue) (set : ℕ) (s : SetValue) → IsDeck d → AtPlace d.sets set s → IsSet d s
set_there d set s formed at =
    let h = formed.sets set s (slice_get_within d.sets set s at) in
    subst (IsSet d) (get_or_from_slice_get d.sets set s s at) h

-- a set's members have each a column of their own
pub few_members : (d : DeckValue) (set : ℕ) (s : SetValue) → IsDeck d → AtPlace d.sets set s → length s.members ≤ 4096
few_members d set s formed at =
    let is = set_there d set s formed at in
    let column : Member → ℕ = λ m. m.column in
    let columns : List ℕ = map column s.members in
    let distinct : IsDistinct eqb columns = IsDistinct-from_AllPairs Decides-eqb columns (AllPairs-map (λ (a b : ℕ). a ≢ b) column s.members is.columns) in
    let within : All (λ (k : ℕ). k < length d.columns) columns = All-map (λ (k : ℕ). k < length d.columns) column s.members (λ k m l. (is.members k m l).column) in
    let below : (q : ℕ) → list_any (eqb q) columns ≡ true → q < length d.columns = λ q h.
    let some = Any-from_list_any (eqb q) columns h in
    let same : q ≡ some.1 = eqb-true q some.1 some.4 in
    let there = within some.0 some.1 some.2 in
    omega (arith, there, same, some.3) in
    let few = length-le_from_distinct_below columns (length d.columns) distinct below in
    let most = formed.column_count in
    omega (arith, few, most, length-map s.members column)

module _ (d : DeckValue) (b : BoxValue) (column : ℕ) (formed : IsDeck d) where
  abbrev outside : ℕ × SetValue → ℕ
  outside x = times_outside (span_at b x.0) x.1.members column

  few_outside : (span : Span) (members : List Member) → times_outside span members column ≤ length members
  few_outside span members = omega (arith, count_by-le-length (is_held span column) (enumerate_from 0 members), length-enumerate_from 0 members)

  pub few_times : times_shut_out d b column ≤ 256 * 4096
  few_times =
      let each : All (λ (x : ℕ × SetValue). outside x ≤ 4096) (enumerate_from 0 d.sets) = λ k x l.
      let inside : k < length d.sets = omega (arith, length-enumerate_from 0 d.sets) in
      let s = get_or d.sets k x.1 in
      let few = few_members d k s formed (slice_get-get_or d.sets k x.1 inside) in
      let here : outside (get_or (enumerate_from 0 d.sets) k x) ≡ times_outside (span_at b (0 + k)) s.members column = ap outside (get_or-enumerate_from 0 d.sets k x inside) in
      omega (arith, few, here, few_outside (span_at b (0 + k)) s.members) in
      let sets = formed.set_count in
      omega (arith, sum_by-le outside 4096 (enumerate_from 0 d.sets) each, length-enumerate_from 0 d.sets, sets)

  module _ (set : ℕ) (s : SetValue) (at : AtPlace d.sets set s) where
    -- the counts leave room for one set more
    pub room_for_set : times_shut_out d b column + length s.members < 4294967296
    room_for_set = omega (arith, few_times, few_members d set s formed at)

    -- what a set adds is counted
    pub set_is_counted : times_outside (span_at b set) s.members column ≤ times_shut_out d b column
    set_is_counted =
        let inside = slice_get_within d.sets set s at in
        let within : set < length (enumerate_from 0 d.sets) = omega (arith, length-enumerate_from 0 d.sets, inside) in
        let place : 0 + set ≡ set = omega arith in
        let here : outside (get_or (enumerate_from 0 d.sets) set (set, s)) ≡ times_outside (span_at b set) s.members column =
        ap outside (get_or-enumerate_from 0 d.sets set (set, s) inside) ∙ ap (λ (k : ℕ). times_outside (span_at b k) (get_or d.sets set s).members column) place
        ∙ ap (λ (x : SetValue). times_outside (span_at b set) x.members column) (get_or_from_slice_get d.sets set s s at) in
        omega (arith, get_or-le-sum_by outside (enumerate_from 0 d.sets) set (set, s) within, here)

abbrev pub no_set : SetValue
no_set = record { name = []; kind = S1; members = [] }

-- each set's interval is short, and not empty
pub span_is_short : (b : NodeBoxValue) (set : ℕ) → IsNodeBox b → IsDeck b.deck → set < length b.deck.sets → ((span_at b.limits set).first ≤ (span_at b.limits set).last) × ((span_at b.limits set).last < 4096)
span_is_short b set node formed inside =
    let at = slice_get-get_or b.deck.sets set no_set inside in
    let interval = node.intervals set (get_or b.deck.sets set no_set) at in
    let few = few_members b.deck set (get_or b.deck.sets set no_set) formed at in
    let last = interval.inside in
    (interval.order, omega (arith, few, last))
