-- Each act of a search keeps that its turns had to be.
use Rattle.std.proofs.Common.{◌≡◌, ◌∙◌, ℕ, suc, ◌<◌, ◌≤◌, pos, inl, inr, [], ◌∷◌, ◌++◌, length, slice_get, Option, Some, None, sym, ap, subst, arith}
use Rattle.std.proofs.lemmas.Int.{ints}
use Rattle.um_multipliers.specs.PlainMultipliers.{MultipliersValue}
use Rattle.um_model.specs.Values.{DeckValue, PointValue}
use Rattle.um_model.specs.Boxes.{BoxValue}
use Rattle.um_model.specs.Feasible.{Feasible}
use Rattle.um_model.specs.Objective.{objective}
use Rattle.um_model.specs.LeafValue.{leaf_value, Closes}
use Rattle.um_model.specs.AnswerValues.{NodeValue}
use Rattle.um_soundness.proofs.Objectives.{reaches_below}
use Rattle.um_tree.specs.Growths.{GrowthValue, node_at}
use Rattle.um_cover.specs.Sites.{box_at}
use Rattle.um_nodes.specs.declared.open_nodes.Key.{Key}
use Rattle.um_progress.specs.declared.incumbent.Incumbent.{Incumbent}
use Rattle.um_progress.specs.Numbers.{Number, IsNumbered}
use Rattle.um_progress.specs.Waits.{KeyIs}
use Rattle.um_progress.proofs.Changes.{IsChange}
use Rattle.um_turns.specs.Turns.{Turn}
use Rattle.um_turns.specs.Histories.{History, HasVertex, IsBest}
use Rattle.um_turns.proofs.Lists.{get_pushed, get_inside}
use Rattle.um_turns.specs.NeededTurns.{IsOpenBefore, IsNeeded, AreNeeded}
use Rattle.um_loop.specs.Steps.{IsNotClosing}
use Rattle.um_loop.proofs.KeysClose.{open_still}

-- ---- a key that does not close a node at the best point
-- its multipliers close it at no feasible vertex
pub none_closes : (d : DeckValue) (history : History) (best : Option Incumbent) (b : BoxValue) (y : MultipliersValue) (k : Key) → IsBest d history best → KeyIs (leaf_value d b y) y.y0 k → IsNotClosing d best k
    → (place : ℕ) (p : PointValue) → HasVertex history place p → Feasible d p → ¬ Closes d b y (objective d p) (pos 0)
none_closes d history None b y k bests is still place p here feasible c = absurd (bests place p here feasible)
none_closes d history (Some i) b y k bests is still place p here feasible c =
    let up = c.y0 in
    let lower = reaches_below d y.y0 c.value (pos 0) i.objective (objective d p) (omega (arith, ints, up)) c.reaches (bests.least place p here feasible) in
    open_still d b y k (Some i) is still (record { y0 = c.y0; value = c.value; value_is = c.value_is; reaches = lower })

-- ---- one turn more
older_vertex : (history : History) (n : Number Turn) (k : ℕ) (p : PointValue) → k < length history → HasVertex (history ++ n ∷ []) k p → HasVertex history k p
older_vertex history n k p inside h = elim (get_pushed history n k h.number h.here) [
  | inl old ↦ record { number = h.number; here = old; own = h.own; vertex = h.vertex }
  | inr new ↦ let at = new.0 in absurd (omega (arith, inside, at))
]

open_more : (d : DeckValue) (history : History) (n : Number Turn) (place : ℕ) (b : BoxValue) (y : MultipliersValue) → place ≤ length history → IsOpenBefore d history place b y → IsOpenBefore d (history ++ n ∷ []) place b y
open_more d history n place b y within open_at k p before here feasible = open_at k p before (older_vertex history n k p (omega (arith, within, before)) here) feasible

-- which had to be, too
pub needed_more : (d : DeckValue) (g : GrowthValue) (history : History) (n : Number Turn) → IsNeeded d g (history ++ n ∷ []) (length history) n → AreNeeded d g history → AreNeeded d g (history ++ n ∷ [])
needed_more d g history n last all place m e = elim (get_pushed history n place m e) [
  | inl old ↦
      let here = get_inside history place m old in
      let was = all place m old in
      record {
        handed = open_more d history n place (box_at d g m.id) m.told.handed (omega (arith, here)) was.handed;
        split = λ branch p y what end. open_more d history n (suc place) (box_at d g m.id) y (omega (arith, here)) (was.split branch p y what end);
      }
  | inr new ↦ subst (IsNeeded d g (history ++ n ∷ []) place) new.1 (subst (λ (i : ℕ). IsNeeded d g (history ++ n ∷ []) i n) (sym new.0) last)
]

-- the last turn of a history: what closes its node at no vertex before does so behind it
pub open_last : (d : DeckValue) (history : History) (n : Number Turn) (b : BoxValue) (y : MultipliersValue) → IsOpenBefore d history (length history) b y → IsOpenBefore d (history ++ n ∷ []) (length history) b y
open_last d history n b y h = open_more d history n (length history) b y (omega arith) h

-- ---- an act on a node without a number
module _ (d : DeckValue) (g h : GrowthValue) (id : ℕ) (c : IsChange d g h id) (history : History) (was : (node_at g id).solved ≡ None) (numbered : IsNumbered Turn g history) where
  apart_from : (place : ℕ) (n : Number Turn) → slice_get history place ≡ Some n → ¬ (id ≡ n.id)
  apart_from place n e same = let on = numbered.on place n e in let at : (node_at g n.id).solved ≡ None = subst (λ (j : ℕ). (node_at g j).solved ≡ None) same was in absurd (cc)

  pub needed_on : AreNeeded d g history → AreNeeded d h history
  needed_on all place n e =
      let inside = numbered.inside place n e in
      let box = sym (c.box n.id inside) in
      let node = c.node n.id inside (apart_from place n e) in
      let old = all place n e in
      record {
        handed = subst (λ (b : BoxValue). IsOpenBefore d history place b n.told.handed) box old.handed;
        split = λ branch p y what end. subst (λ (b : BoxValue). IsOpenBefore d history (suc place) b y) box (old.split branch p y (ap (λ (x : NodeValue). x.what) (sym node) ∙ what) end);
      }
