-- One step of the way up, and one of the way down.
use Rattle.std.proofs.Common.{◌≡◌, ℕ, zero, suc, ◌-◌, ◌<◌, ◌≤◌, List, [], ◌∷◌, ◌++◌, length, drop, slice_index_or, Option, Some, None, refl, sym, ap, ◌∙◌, subst, arith, append_assoc}
use Rattle.std.proofs.lemmas.List.{append-nil}
use Rattle.um_model.specs.Values.{DeckValue}
use Rattle.um_model.specs.Boxes.{BoxValue}
use Rattle.um_model.specs.Branches.{Fits, child}
use Rattle.um_box.specs.NodeBoxes.{NodeBoxValue}
use Rattle.um_tree.specs.declared.growing.Origin.{Origin}
use Rattle.um_tree.specs.Growths.{GrowthValue, origin_at, IsGrowth}
use Rattle.um_cover.specs.Sites.{further, way_in, way, box_along}
use Rattle.um_cover.proofs.Ways.{way_some}
use Rattle.um_cover.specs.Descents.{SplitsFit, FitAlong}

way_none : (g : GrowthValue) (id : ℕ) → origin_at g id ≡ None → way g id ≡ []
way_none g id e = ap (λ (x : Option Origin). further x (way_in id g.origins)) e

-- ---- up
pub record IsUp (g : GrowthValue) (id at : ℕ) (steps : List Origin) : Type 0 where
  pub inside : at < length g.nodes
  pub rest : steps ++ way g at ≡ way g id

pub up_more : (g : GrowthValue) (id at : ℕ) (steps more : List Origin) (o : Origin) → IsGrowth g → IsUp g id at steps → origin_at g at ≡ Some o → more ≡ steps ++ o ∷ [] → IsUp g id o.parent more
up_more g id at steps more o growth up e m =
    let below = growth.older at o e in
    let inside = up.inside in
    record {
      inside = omega arith;
      rest = ap (λ (xs : List Origin). xs ++ way g o.parent) m ∙ append_assoc steps (o ∷ []) (way g o.parent) ∙ ap (λ (xs : List Origin). steps ++ xs) (sym (way_some g at o growth e)) ∙ up.rest;
    }

pub up_done : (g : GrowthValue) (id at : ℕ) (steps : List Origin) → IsUp g id at steps → origin_at g at ≡ None → steps ≡ way g id
up_done g id at steps up e = sym (append-nil steps) ∙ ap (λ (xs : List Origin). steps ++ xs) (sym (way_none g at e)) ∙ up.rest

-- ---- down
-- where each split's branch fits its box, the branches along the way of a node do
module _ (d : DeckValue) (g : GrowthValue) (growth : IsGrowth g) (fit : SplitsFit d g) where
  fit_from : (id : ℕ) (x : Option Origin) → id < length g.nodes → origin_at g id ≡ x → ((o : Origin) → o.parent < id → FitAlong d (way g o.parent)) → FitAlong d (way g id)
  fit_from id None inside e above = subst (FitAlong d) (sym (way_none g id e)) tt
  fit_from id (Some o) inside e above =
      let older = growth.older id o e in
      subst (FitAlong d) (sym (way_some g id o growth e)) (fit o.parent o.branch (omega (arith, older, inside)) (growth.split id o e), above o older)

  fit_within : (most id : ℕ) → id < most → id < length g.nodes → FitAlong d (way g id)
  fit_within zero id below inside = absurd (omega arith)
  fit_within (suc most) id below inside = fit_from id (origin_at g id) inside refl (λ o older. fit_within most o.parent (omega (arith, older, below)) (omega (arith, older, inside)))

  pub way_fits : (id : ℕ) → id < length g.nodes → FitAlong d (way g id)
  way_fits id inside = fit_within (suc id) id (omega arith) inside

-- a step at this place of a way, and the rest of the way behind it
pub record IsStepAt (d : DeckValue) (w : List Origin) (place : ℕ) (o : Origin) : Type 0 where
  pub here : drop place w ≡ o ∷ drop (suc place) w
  pub fits : Fits d (box_along d (drop (suc place) w)) o.branch

pub step_at : (d : DeckValue) (w : List Origin) (place : ℕ) (default : Origin) → place < length w → FitAlong d w → IsStepAt d w place (slice_index_or w place default)
step_at d [] place default h fit = absurd (omega arith)
step_at d (o ∷ os) zero default h fit = record { here = refl; fits = fit.0 }
step_at d (o ∷ os) (suc place) default h fit =
    let r = step_at d os place default (omega arith) fit.1 in
    record { here = r.here; fits = r.fits }

-- the box so far is that at the end of the last steps
pub record IsDown (d : DeckValue) (w : List Origin) (left : ℕ) (b : NodeBoxValue) : Type 0 where
  pub within : left ≤ length w
  pub deck : b.deck ≡ d
  pub limits : b.limits ≡ box_along d (drop left w)

module _ (d : DeckValue) (w : List Origin) (left less : ℕ) (b : NodeBoxValue) (o : Origin) (s : IsStepAt d w less o) (down : IsDown d w left b) (one : left ≡ suc less) where
  at_parent : b.limits ≡ box_along d (drop (suc less) w)
  at_parent = down.limits ∙ ap (λ (k : ℕ). box_along d (drop k w)) one

  pub down_fits : Fits b.deck b.limits o.branch
  down_fits = subst (λ (e : DeckValue). Fits e b.limits o.branch) (sym down.deck) (subst (λ (x : BoxValue). Fits d x o.branch) (sym at_parent) s.fits)

  pub down_more : (after : NodeBoxValue) → after ≡ record { deck = b.deck; limits = child b.deck b.limits o.branch o.side } → IsDown d w less after
  down_more after e = record {
    within = let h = down.within in omega (arith, h, one);
    deck = ap (λ (x : NodeBoxValue). x.deck) e ∙ down.deck;
    limits = ap (λ (x : NodeBoxValue). x.limits) e ∙ (λ i. child (down.deck i) (at_parent i) o.branch o.side) ∙ sym (ap (box_along d) s.here);
  }

pub down_done : (d : DeckValue) (w : List Origin) (b : NodeBoxValue) → IsDown d w 0 b → b ≡ record { deck = d; limits = box_along d w }
down_done d w b down = λ i. record { deck = down.deck i; limits = down.limits i }

-- the step that is taken next, in the words of the loop
pub step_of : (d : DeckValue) (w : List Origin) (left : ℕ) (b : NodeBoxValue) (default : Origin) → FitAlong d w → IsDown d w left b → 0 < left → IsStepAt d w (left - 1) (slice_index_or w (left - 1) default)
step_of d w left b default fit down some =
    let within = down.within in
    step_at d w (left - 1) default (omega arith) fit
