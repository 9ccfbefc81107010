-- A way with one more turn at its end.
use Rattle.std.proofs.Common.{◌≡◌, List, [], ◌∷◌, ◌++◌, refl, sym, ap, ◌∙◌, append_assoc, subst}
use Rattle.std.proofs.lemmas.List.{append-nil}
use Rattle.um_model.specs.Boxes.{BoxValue}
use Rattle.um_model.specs.Branches.{Fits, left, right}
use Rattle.um_model.specs.declared.branch.Branch.{Branch}
use Rattle.um_model.specs.declared.branch.Side.{Side}
use Rattle.um_model.specs.declared.branch.Side.TheVariants.{Left, Right}
use Rattle.um_box.specs.NodeBoxes.{NodeBoxValue, entered}
use Rattle.um_box.specs.Paths.{root_box}
use Rattle.um_box.specs.Undos.{undone, Belongs, Undoes}
use Rattle.um_check.specs.declared.walk.Turn.{Turn}
use Rattle.um_check.specs.Turns.{behind, end_of, beside, waiting, IsTurn, AreTurns, IsWay}

-- ---- one more turn

end_more : (b : NodeBoxValue) (ts : List Turn) (t : Turn) → end_of b (ts ++ t ∷ []) ≡ behind (end_of b ts) t
end_more b [] t = refl
end_more b (s ∷ ts) t = end_more (behind b s) ts t

end_deck : (b : NodeBoxValue) (ts : List Turn) → (end_of b ts).deck ≡ b.deck
end_deck b [] = refl
end_deck b (s ∷ ts) = end_deck (behind b s) ts

waiting_more : (b : NodeBoxValue) (ts : List Turn) (t : Turn) → waiting b (ts ++ t ∷ []) ≡ beside t.side (end_of b ts) t.branch ++ waiting b ts
waiting_more b [] t = sym (append-nil (beside t.side b t.branch))
waiting_more b (s ∷ ts) t =
    ap (λ (w : List BoxValue). w ++ beside s.side b s.branch) (waiting_more (behind b s) ts t)
    ∙ append_assoc (beside t.side (end_of (behind b s) ts) t.branch) (waiting (behind b s) ts) (beside s.side b s.branch)

turns_more : (b : NodeBoxValue) (ts : List Turn) (t : Turn) → AreTurns b ts → IsTurn (end_of b ts) t → AreTurns b (ts ++ t ∷ [])
turns_more b [] t each last = (last, tt)
turns_more b (s ∷ ts) t each last = (each.0, turns_more (behind b s) ts t each.1 last)

turns_less : (b : NodeBoxValue) (ts : List Turn) (t : Turn) → AreTurns b (ts ++ t ∷ []) → AreTurns b ts × IsTurn (end_of b ts) t
turns_less b [] t each = (tt, each.0)
turns_less b (s ∷ ts) t each = let r = turns_less (behind b s) ts t each.1 in ((each.0, r.0), r.1)

-- ---- back over the last turn

-- the last turn undone: its box is that in hand, and its right child waits where the turn was to the left
pub record IsBack (items ts : List Turn) (t : Turn) (here before : NodeBoxValue) : Type 0 where
  pub deck : before.deck ≡ here.deck
  pub way : IsWay before ts
  pub turn : IsTurn before t
  pub boxes : waiting (root_box here.deck) items ≡ beside t.side before t.branch ++ waiting (root_box before.deck) ts

module _ (items ts : List Turn) (t : Turn) (here : NodeBoxValue) (is : items ≡ ts ++ t ∷ []) (way : IsWay here items) where
  root : NodeBoxValue
  root = root_box here.deck

  split : AreTurns root ts × IsTurn (end_of root ts) t
  unfolding root
  split = turns_less root ts t (subst (AreTurns root) is way.each)

  here_is : here ≡ behind (end_of root ts) t
  unfolding root
  here_is = way.end ∙ ap (end_of root) is ∙ end_more root ts t

  undo_back : undone t.undo here ≡ end_of root ts
  unfolding root
  undo_back = ap (undone t.undo) here_is ∙ split.1.back.back

  -- with its undo the box in hand may be left
  pub last_belongs : Belongs t.undo here
  last_belongs = subst (Belongs t.undo) (sym here_is) split.1.back.belongs

  pub last_undone : (before : NodeBoxValue) → before ≡ undone t.undo here → IsBack items ts t here before
  unfolding root
  last_undone before e =
      let at : before ≡ end_of root ts = e ∙ undo_back in
      let deck : before.deck ≡ here.deck = ap (λ (b : NodeBoxValue). b.deck) at ∙ end_deck root ts in
      let start : root_box here.deck ≡ root_box before.deck = ap root_box (sym deck) in
      record {
        deck = deck;
        way = record { each = subst (λ (b : NodeBoxValue). AreTurns b ts) start split.0; end = at ∙ ap (λ (b : NodeBoxValue). end_of b ts) start };
        turn = subst (λ (b : NodeBoxValue). IsTurn b t) (sym at) split.1;
        boxes = ap (waiting root) is ∙ waiting_more root ts t ∙ (λ i. beside t.side (sym at i) t.branch ++ waiting (start i) ts);
      }

-- ---- on over a turn

-- a turn taken from the end of a way
pub record IsOn (items ts : List Turn) (t : Turn) (here after : NodeBoxValue) : Type 0 where
  pub deck : after.deck ≡ here.deck
  pub way : IsWay after items
  pub boxes : waiting (root_box after.deck) items ≡ beside t.side here t.branch ++ waiting (root_box here.deck) ts

pub turn_on : (items ts : List Turn) (t : Turn) (here after : NodeBoxValue) → items ≡ ts ++ t ∷ [] → IsWay here ts → Fits here.deck here.limits t.branch → after ≡ entered here t.branch t.side → Undoes t.undo here after
    → IsOn items ts t here after
turn_on items ts t here after is way fits child undo =
    let deck : after.deck ≡ here.deck = ap (λ (b : NodeBoxValue). b.deck) child in
    let turn : IsTurn here t = record { fits = fits; back = subst (Undoes t.undo here) child undo } in
    let start : root_box here.deck ≡ root_box after.deck = ap root_box (sym deck) in
    let each : AreTurns (root_box here.deck) items = subst (AreTurns (root_box here.deck)) (sym is) (turns_more (root_box here.deck) ts t way.each (subst (λ (b : NodeBoxValue). IsTurn b t) way.end turn)) in
    let end : after ≡ end_of (root_box here.deck) items = child ∙ ap (λ (b : NodeBoxValue). behind b t) way.end ∙ sym (ap (end_of (root_box here.deck)) is ∙ end_more (root_box here.deck) ts t) in
    record {
      deck = deck;
      way = record { each = subst (λ (b : NodeBoxValue). AreTurns b items) start each; end = end ∙ ap (λ (b : NodeBoxValue). end_of b items) start };
      boxes =
          ap (λ (b : NodeBoxValue). waiting b items) (sym start) ∙ ap (waiting (root_box here.deck)) is ∙ waiting_more (root_box here.deck) ts t
          ∙ ap (λ (b : NodeBoxValue). beside t.side b t.branch ++ waiting (root_box here.deck) ts) (sym way.end);
    }

-- from a box to its left child
pub record IsDescended (items ts : List Turn) (branch : Branch) (here after : NodeBoxValue) : Type 0 where
  pub deck : after.deck ≡ here.deck
  pub way : IsWay after items
  pub boxes : after.limits ∷ waiting (root_box after.deck) items ≡ left here.deck here.limits branch ∷ right here.deck here.limits branch ∷ waiting (root_box here.deck) ts

pub descended : (items ts : List Turn) (t : Turn) (branch : Branch) (here after : NodeBoxValue) → items ≡ ts ++ t ∷ [] → IsWay here ts → Fits here.deck here.limits branch
    → t.branch ≡ branch → t.side ≡ Left → after ≡ entered here branch Left → Undoes t.undo here after → IsDescended items ts branch here after
descended items ts t branch here after is way fits at to_left child undo =
    let child' : after ≡ entered here t.branch t.side = child ∙ (λ i. entered here (sym at i) (sym to_left i)) in
    let on = turn_on items ts t here after is way (subst (Fits here.deck here.limits) (sym at) fits) child' undo in
    let others : waiting (root_box after.deck) items ≡ right here.deck here.limits branch ∷ waiting (root_box here.deck) ts = on.boxes ∙ (λ i. beside (to_left i) here (at i) ++ waiting (root_box here.deck) ts) in
    record { deck = on.deck; way = on.way; boxes = λ i. (child i).limits ∷ others i }

-- from a left child, which has been left, to the right child beside it
pub record IsTurned (old new_ : List Turn) (here after : NodeBoxValue) : Type 0 where
  pub deck : after.deck ≡ here.deck
  pub way : IsWay after new_
  pub boxes : waiting (root_box here.deck) old ≡ after.limits ∷ waiting (root_box after.deck) new_

pub right_behind : (old ts new_ : List Turn) (t u : Turn) (here before after : NodeBoxValue) → IsBack old ts t here before → t.side ≡ Left → u.branch ≡ t.branch → u.side ≡ Right → after ≡ entered before t.branch Right
    → Undoes u.undo before after → new_ ≡ ts ++ u ∷ [] → IsTurned old new_ here after
right_behind old ts new_ t u here before after back from_left at to_right child undo is =
    let child' : after ≡ entered before u.branch u.side = child ∙ (λ i. entered before (sym at i) (sym to_right i)) in
    let on = turn_on new_ ts u before after is back.way (subst (Fits before.deck before.limits) (sym at) back.turn.fits) child' undo in
    let others : waiting (root_box after.deck) new_ ≡ waiting (root_box before.deck) ts = on.boxes ∙ ap (λ (s : Side). beside s before u.branch ++ waiting (root_box before.deck) ts) to_right in
    record {
      deck = on.deck ∙ back.deck;
      way = on.way;
      boxes = back.boxes ∙ ap (λ (s : Side). beside s before t.branch ++ waiting (root_box before.deck) ts) from_left ∙ (λ i. (sym child i).limits ∷ sym others i);
    }
