-- The members of a deck's set from the interval of a box.
use Rattle.std.proofs.Common.{◌≡◌, ℕ, ◌+◌, ◌<◌, List, arith, inl, inr, sym, subst, length, get_or, map, ap, ◌∙◌, Some}
use Rattle.um_laws.proofs.Places.{get_of}
use Rattle.um_model.specs.Values.{DeckValue, SetValue, PointValue, plain_set}
use Rattle.um_model.specs.WellFormed.{AtPlace}
use Rattle.um_model.specs.Boxes.{span_at}
use Rattle.um_model.specs.declared.deck.OrderedSet.{OrderedSet}
use Rattle.um_deck.specs.Decks.{IsDeckNow}
use Rattle.um_box.specs.NodeBoxes.{NodeBoxValue, IsNodeBox, IsInterval}
use Rattle.um_box.proofs.Sizes.{few_members, set_there}
use Rattle.um_point.specs.SmallPoints.{FitsMachine}
use Rattle.um_point.proofs.PlaceLemmas.{image_is}
use Rattle.um_split.specs.Intervals.{KeepsInterval}
use Rattle.um_split.specs.Stretches.{IsStretch}

-- the set that was read stands at its place
pub set-at : (d : DeckValue) (ss : List OrderedSet) (set : ℕ) (x : OrderedSet) → map plain_set ss ≡ d.sets → set < length d.sets → x ≡ get_or ss set x → AtPlace d.sets set (plain_set x)
set-at d ss set x same inside read = get_of d.sets set (plain_set x) inside ∙ ap Some (sym (image_is plain_set ss d.sets set x same inside read))

pub stretch-of : (d : DeckValue) (b : NodeBoxValue) (set : ℕ) (p : PointValue) (s : SetValue) → IsDeckNow d → IsNodeBox b → b.deck ≡ d → AtPlace d.sets set s → FitsMachine d p → KeepsInterval d b.limits set p
    → IsStretch s.members p.parts (span_at b.limits set).first ((span_at b.limits set).last + 1)
stretch-of d b set p s deck node same at small keeps =
    let is = set_there d set s deck.formed at in
    let interval : IsInterval s (span_at b.limits set) = node.intervals set s (subst (λ (x : DeckValue). AtPlace x.sets set s) (sym same) at) in
    let order = interval.order in
    let inside = interval.inside in
    record {
      few = few_members d set s deck.formed at;
      columns = λ k m l. subst (λ (n : ℕ). (get_or s.members k m).column < n) (sym small.parts) (is.members k m l).column;
      rise = is.weights;
      weights = λ k m l. (is.members k m l).weight;
      small = small.part_sizes;
      order = omega (arith, order);
      inside = omega (arith, inside);
      up = keeps.up s at;
      before = λ k l. keeps.outside s at k (inl l);
      behind = λ k l. keeps.outside s at k (inr (omega (arith, l)));
    }
