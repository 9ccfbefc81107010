-- The open leaves without a number have the multipliers that they were handed, as one after the other gets them; and the node in hand stays as it is.
use Rattle.std.proofs.Common.{◌≡◌, ◌∙◌, ℕ, ◌<◌, ◌⊎◌, inl, inr, List, [], ◌∷◌, ◌++◌, length, map, Option, None, refl, sym, ap, subst, arith}
use Rattle.std.proofs.Math.ListN.{length-set}
use Rattle.um_laws.proofs.Places.{at_set}
use Rattle.um_laws.specs.Rational.{Rational}
use Rattle.um_multipliers.specs.PlainMultipliers.{MultipliersValue}
use Rattle.um_model.specs.Values.{DeckValue}
use Rattle.um_model.specs.AnswerValues.{NodeValue, OpenLeaf}
use Rattle.um_tree.specs.Growths.{GrowthValue, node_at, no_node, what_at, origin_at, settled, IsAmong, IsNew, AreDistinct}
use Rattle.um_cover.specs.Sites.{box_at}
use Rattle.um_tree.proofs.Writes.{elsewhere}
use Rattle.um_nodes.specs.declared.open_nodes.OpenNode.{OpenNode}
use Rattle.um_progress.specs.Waits.{IsOpenLeaf, IsFresh, id_of}
use Rattle.um_progress.proofs.Changes.{settle_changes, which, fresh_on}
use Rattle.um_turns.specs.Histories.{History, IsHanded}
use Rattle.um_search.specs.Told.{IsOpenStill}
use Rattle.um_search.proofs.Emptying.{AreHandedBut, HasHand}

-- an open leaf without a number
abbrev pub leaf_under : MultipliersValue → NodeValue
leaf_under y = record { solved = None; what = OpenLeaf y }

open_there : (g : GrowthValue) (id : ℕ) (y : MultipliersValue) → node_at g id ≡ leaf_under y → IsOpenLeaf (what_at g id)
open_there g id y is = subst (λ (n : NodeValue). IsOpenLeaf n.what) (sym is) tt

-- what is put into the tree so is one
pub fresh_leaf : (g : GrowthValue) (id : ℕ) (y : MultipliersValue) → id < length g.nodes → IsFresh (settled g id (leaf_under y)) id
fresh_leaf g id y inside =
    let here : node_at (settled g id (leaf_under y)) id ≡ leaf_under y = at_set g.nodes id (leaf_under y) no_node inside in
    record { inside = omega (arith, inside, length-set g.nodes id (leaf_under y)); open_leaf = open_there (settled g id (leaf_under y)) id y here; solved = ap (λ (n : NodeValue). n.solved) here }

-- where all open leaves are among these ids, no other one is to be told of
pub none_but : (g : GrowthValue) (history : History) (ids : List ℕ) → ((id : ℕ) → id < length g.nodes → IsOpenLeaf (what_at g id) → IsAmong id ids) → AreHandedBut g history ids
none_but g history ids all id inside apart y is = absurd (apart (all id inside (open_there g id y is)))

-- the last of some entries, or one of the others
pub among_last : (ws : List OpenNode) (w : OpenNode) (id : ℕ) → IsAmong id (map id_of (ws ++ w ∷ [])) → (id ≡ w.node) ⊎ IsAmong id (map id_of ws)
among_last [] w id (inl same) = inl same
among_last [] w id (inr none) = absurd none
among_last (v ∷ vs) w id (inl same) = inr (inl same)
among_last (v ∷ vs) w id (inr more) = elim (among_last vs w id more) [ inl same ↦ inl same | inr a ↦ inr (inr a) ]

-- a node of some ids becomes another one, and where that is an open leaf without a number, it has what it was handed
pub but_on : (d : DeckValue) (g : GrowthValue) (history : History) (id : ℕ) (ids others : List ℕ) (node : NodeValue) → id < length g.nodes → ((j : ℕ) → IsAmong j ids → (j ≡ id) ⊎ IsAmong j others)
    → ((y : MultipliersValue) → node ≡ leaf_under y → IsHanded history (origin_at g id) y) → AreHandedBut g history ids → AreHandedBut (settled g id node) history others
but_on d g history id ids others node inside one own all j within apart y is = elim (which d g (settled g id node) id (settle_changes d g id node) j) [
  | inl same ↦
      let here : node_at (settled g id node) id ≡ node = at_set g.nodes id node no_node inside in
      let at : node_at (settled g id node) id ≡ leaf_under y = subst (λ (k : ℕ). node_at (settled g id node) k ≡ leaf_under y) (sym same) is in
      subst (λ (k : ℕ). IsHanded history (origin_at g k) y) same (own y (sym here ∙ at))
  | inr (inl older) ↦ all j older.0 (λ a. elim (one j a) [ inl e ↦ older.1 (sym e) | inr among ↦ apart among ]) y (sym (elsewhere g.nodes id j node no_node older.1) ∙ is)
  | inr (inr above) ↦ absurd (omega (arith, within, above, length-set g.nodes id node))
]

-- ---- the node in hand
not_among : (id : ℕ) (ids : List ℕ) → IsNew id ids → ¬ IsAmong id ids
not_among id [] new a = a
not_among id (j ∷ js) new (inl same) = new.0 same
not_among id (j ∷ js) new (inr more) = not_among id js new.1 more

-- it becomes an open leaf
pub hand_here : (d : DeckValue) (best : Option Rational) (g : GrowthValue) (id : ℕ) (y : MultipliersValue) (ids : List ℕ) → id < length g.nodes → AreDistinct (id ∷ ids) → IsOpenStill d best (box_at d g id) y → HasHand d best (settled g id (leaf_under y)) ids
hand_here d best g id y ids inside distinct still = record {
  hand = id;
  apart = not_among id ids distinct.0;
  fresh = fresh_leaf g id y inside;
  own = y;
  own_is = ap (λ (n : NodeValue). n.what) (at_set g.nodes id (leaf_under y) no_node inside);
  open_still = still;
}

-- a node of some ids becomes another one
pub hand_on : (d : DeckValue) (best : Option Rational) (g : GrowthValue) (ids others : List ℕ) (id : ℕ) (node : NodeValue) → IsAmong id ids → ((j : ℕ) → IsAmong j others → IsAmong j ids) → HasHand d best g ids → HasHand d best (settled g id node) others
hand_on d best g ids others id node among more h =
    let other : ¬ (id ≡ h.hand) = λ e. h.apart (subst (λ (j : ℕ). IsAmong j ids) e among) in
    record {
      hand = h.hand;
      apart = λ a. h.apart (more h.hand a);
      fresh = fresh_on d g (settled g id node) id (settle_changes d g id node) h.hand h.fresh other;
      own = h.own;
      own_is = ap (λ (n : NodeValue). n.what) (elsewhere g.nodes id h.hand node no_node other) ∙ h.own_is;
      open_still = h.open_still;
    }

-- the last of some entries is among them, and so are the others
pub last_is_among : (ws : List OpenNode) (w : OpenNode) → IsAmong w.node (map id_of (ws ++ w ∷ []))
last_is_among [] w = inl refl
last_is_among (v ∷ vs) w = inr (last_is_among vs w)

pub others_are_among : (ws : List OpenNode) (w : OpenNode) (id : ℕ) → IsAmong id (map id_of ws) → IsAmong id (map id_of (ws ++ w ∷ []))
others_are_among [] w id among = absurd among
others_are_among (v ∷ vs) w id (inl same) = inl same
others_are_among (v ∷ vs) w id (inr more) = inr (others_are_among vs w id more)
