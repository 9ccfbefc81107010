-- The root alone, which waits, is a search.
use Rattle.std.proofs.Common.{◌≡◌, ℕ, zero, suc, ◌<◌, ◌^◌, ℤ, pos, inl, List, [], ◌∷◌, length, None, refl, sym, ap, ◌∙◌, subst, arith}
use Rattle.std.specs.Prelude.{unsigned_abs, All}
use Rattle.std.proofs.lemmas.Int.{ints}
use Rattle.um_model.specs.Values.{DeckValue}
use Rattle.um_model.specs.Boxes.{BoxValue, root, IsVoid}
use Rattle.um_model.specs.LeafValue.{leaf_value}
use Rattle.um_multipliers.specs.PlainMultipliers.{MultipliersValue, plain_multipliers}
use Rattle.um_multipliers.specs.declared.multipliers.Price.{Price}
use Rattle.um_tree.specs.Growths.{GrowthValue, IsGrowth, node_at, what_at}
use Rattle.um_cover.specs.Sites.{box_at}
use Rattle.um_cover.specs.Nodes.{NodeIs, OpenIs}
use Rattle.um_nodes.specs.declared.open_nodes.OpenNode.{OpenNode}
use Rattle.um_progress.specs.Waits.{IsFresh, KeyIs, WaitsIn}
use Rattle.um_progress.specs.Searches.{IsSearch, IsBounded}
use Rattle.um_progress.specs.Ends.{rooted}

none_of : {X : Type 0} (xs : List X) → xs ≡ [] → (P : X → Type 0) → All P xs
none_of xs e P k d h = absurd (let l = ap length e in omega (arith, h, l))

-- the multiplier 1 and none bound every box that is not void
pub one_and_none_bound : (d : DeckValue) (b : BoxValue) (y : MultipliersValue) → ¬ IsVoid d b → y.y0 ≡ pos 1 → y.rows ≡ [] → OpenIs d b y
one_and_none_bound d b y full one none = record {
  full = full;
  small = record { y0 = subst (λ (z : ℤ). unsigned_abs z < 2 ^ 40) (sym one) (omega arith); rows = none_of y.rows none (λ (p : Price). unsigned_abs p.value < 2 ^ 40) };
  y0 = omega (arith, ints, one);
}

module _ (W : Type 0) (d : DeckValue) (t : ℤ) (y : MultipliersValue) (w : OpenNode) (growth : IsGrowth (rooted y)) (placed : OpenIs d (root d) y) (bounds : OpenIs d (root d) (plain_multipliers w.y)) (first : w.node ≡ 0) (key : KeyIs (leaf_value d (root d) (plain_multipliers w.y)) w.y.y0 w.key) (small : unsigned_abs w.key.value < 2 ^ 126) where
  abbrev g : GrowthValue
  g = rooted y

  nodes_are : (id : ℕ) → id < 1 → NodeIs d None t (box_at d g id) (what_at g id)
  nodes_are zero h = placed
  nodes_are (suc id) h = absurd (omega arith)

  only : (id : ℕ) → id < 1 → 0 ≡ id
  only id h = omega arith

  none_bounded : (id : ℕ) → id < 1 → ¬ IsBounded (what_at g id)
  none_bounded zero h b = b
  none_bounded (suc id) h b = absurd (omega arith)

  none_solved : (id : ℕ) → id < 1 → (node_at g id).solved ≡ None
  none_solved zero h = refl
  none_solved (suc id) h = absurd (omega arith)

  waits : WaitsIn d g w
  waits = record {
    fresh = subst (IsFresh g) (sym first) (record { inside = omega arith; open_leaf = tt; solved = refl });
    bounds = subst (λ (id : ℕ). OpenIs d (box_at d g id) (plain_multipliers w.y)) (sym first) bounds;
    key = subst (λ (id : ℕ). KeyIs (leaf_value d (box_at d g id) (plain_multipliers w.y)) w.y.y0 w.key) (sym first) key;
    size = small;
  }

  pub begun : IsSearch W d t [] None g (w ∷ []) None None
  begun = record {
    growth = growth;
    nodes = nodes_are;
    best = tt;
    waits = (waits, tt);
    distinct = (tt, tt);
    in_hand = tt;
    all = λ id h o. inl (sym (only id h) ∙ sym first);
    closed = record { among = tt; below = λ id h b. absurd (none_bounded id h b) };
    numbered = record { inside = λ place n e. absurd (cc); on = λ place n e. absurd (cc); only = λ id h s e. let none = none_solved id h in absurd (cc) };
    size = omega arith;
  }
