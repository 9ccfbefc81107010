-- The multipliers of the nodes that wait are those that they were handed, whatever act comes.
use Rattle.std.proofs.Common.{◌≡◌, ℕ, suc, pos, List, [], ◌∷◌, ◌++◌, length, Option, Some, None, sym, subst, arith}
use Rattle.um_multipliers.specs.PlainMultipliers.{MultipliersValue, plain_multipliers}
use Rattle.um_model.specs.Values.{DeckValue, PointValue}
use Rattle.um_model.specs.Boxes.{BoxValue}
use Rattle.um_model.specs.AnswerValues.{NodeValue, WhatValue, Split, Bounded, Empty, Void, OpenLeaf}
use Rattle.um_model.specs.declared.branch.Branch.{Branch}
use Rattle.um_model.specs.declared.branch.Side.{Side}
use Rattle.um_model.specs.declared.branch.Side.TheVariants.{Left, Right}
use Rattle.um_model.specs.declared.tree.Solved.{Solved}
use Rattle.um_tree.specs.Growths.{GrowthValue, IsGrowth, origin_at, left_of, right_of, parted}
use Rattle.um_tree.specs.declared.growing.Origin.{Origin}
use Rattle.um_tree.proofs.Writes.{in_front, first_more, second_more}
use Rattle.um_nodes.specs.Taking.{IsTaken}
use Rattle.um_nodes.specs.declared.open_nodes.OpenNode.{OpenNode}
use Rattle.um_progress.specs.Waits.{Every, WaitsIn}
use Rattle.um_progress.specs.Numbers.{Number}
use Rattle.um_progress.specs.Searches.{ChildWaits}
use Rattle.um_progress.specs.Ends.{rooted}
use Rattle.um_progress.proofs.Acts.{every_join}
use Rattle.um_turns.specs.Turns.{Turn, Reached}
use Rattle.um_turns.specs.Histories.{History, IsHanded, AreHanded}
use Rattle.um_turns.specs.NextTurns.{AreUnder}
use Rattle.um_turns.proofs.Lists.{get_last, every_map, every_both, every_last, every_out}
use Rattle.um_turns.proofs.Turning.{handed_more}

-- an entry has the multipliers that its node was handed
abbrev pub Handed : GrowthValue → History → OpenNode → Type 0
Handed g history w = IsHanded history (origin_at g w.node) (plain_multipliers w.y)

-- ---- the beginning
pub root_handed : (y : MultipliersValue) (w : OpenNode) → w.node ≡ 0 → plain_multipliers w.y ≡ record { y0 = pos 1; rows = [] } → AreHanded (rooted y) [] (w ∷ [])
root_handed y w at under = (subst (λ (id : ℕ). IsHanded [] (origin_at (rooted y) id) (plain_multipliers w.y)) (sym at) under, tt)

-- ---- one turn more
pub all_handed_more : (g : GrowthValue) (history : History) (n : Number Turn) (ws : List OpenNode) → AreHanded g history ws → AreHanded g (history ++ n ∷ []) ws
all_handed_more g history n ws e = every_map (Handed g history) (Handed g (history ++ n ∷ [])) ws (λ w h. handed_more history n (origin_at g w.node) (plain_multipliers w.y) h) e

-- ---- taking
pub handed_out : (g : GrowthValue) (history : History) (before after : List OpenNode) (w : OpenNode) → IsTaken before w after → AreHanded g history before → AreHanded g history after × IsHanded history (origin_at g w.node) (plain_multipliers w.y)
handed_out g history before after w k e =
    let out = every_out (Handed g history) k.front k.behind w (subst (Every (Handed g history)) k.before_is e) in
    (subst (Every (Handed g history)) (sym k.after_is) out.1, out.0)

pub handed_last : (g : GrowthValue) (history : History) (ws : List OpenNode) (w : OpenNode) → AreHanded g history (ws ++ w ∷ []) → IsHanded history (origin_at g w.node) (plain_multipliers w.y) × AreHanded g history ws
handed_last g history ws w e = every_last (Handed g history) ws w e

-- ---- a split
-- the entries that wait for a child have its id
child_at : (d : DeckValue) (b : BoxValue) (id : ℕ) (w : WhatValue) (more : List OpenNode) → ChildWaits d b id w more → Every (λ (v : OpenNode). v.node ≡ id) more
child_at d b id (Split branch) more c = absurd c
child_at d b id (Bounded y) more c = absurd c
child_at d b id (Empty y) more c = absurd c
child_at d b id (Void column) more c = subst (Every (λ (v : OpenNode). v.node ≡ id)) (sym c) tt
child_at d b id (OpenLeaf y) more c = subst (Every (λ (v : OpenNode). v.node ≡ id)) (sym c.1) (c.2.node, tt)

module _ (d : DeckValue) (g : GrowthValue) (history : History) (id : ℕ) (growth : IsGrowth g) (solved : Option Solved) (branch : Branch) (l r : NodeValue) (n : Number Turn) (at : n.id ≡ id) (p : PointValue) (y : MultipliersValue) (end : n.told.end ≡ Reached p y) where
  abbrev after : GrowthValue
  after = parted g id solved branch l r

  abbrev longer : History
  longer = history ++ n ∷ []

  -- a child is handed the multipliers of the vertex
  handed_down : (side : Side) → IsHanded longer (Some (record { parent = id; branch = branch; side = side })) y
  handed_down side = record { place = length history; number = n; here = get_last history n; parent = at; point = p; vertex = end }

  -- and so its entries have them
  child_handed : (b : BoxValue) (j : ℕ) (side : Side) (w : WhatValue) (more : List OpenNode) → origin_at after j ≡ Some (record { parent = id; branch = branch; side = side }) → ChildWaits d b j w more → AreUnder y more → AreHanded after longer more
  child_handed b j side w more origin waits under = every_both (λ (v : OpenNode). v.node ≡ j) (λ (v : OpenNode). plain_multipliers v.y ≡ y) (Handed after longer) more
      (λ v is its. subst (λ (i : ℕ). IsHanded longer (origin_at after i) (plain_multipliers v.y)) (sym is) (subst (λ (o : Option Origin). IsHanded longer o (plain_multipliers v.y)) (sym origin) (subst (IsHanded longer (Some (record { parent = id; branch = branch; side = side }))) (sym its) (handed_down side))))
      (child_at d b j w more waits) under

  -- those that waited came from where they came
  still_handed : (ws : List OpenNode) → Every (WaitsIn d g) ws → AreHanded g history ws → AreHanded after longer ws
  still_handed ws waits e = every_both (WaitsIn d g) (Handed g longer) (Handed after longer) ws
      (λ w i h. subst (λ (o : Option Origin). IsHanded longer o (plain_multipliers w.y)) (sym (in_front g.origins (left_of id branch ∷ right_of id branch ∷ []) w.node None (let s = growth.size in let inside = i.fresh.inside in omega (arith, s, inside)))) h)
      waits (all_handed_more g history n ws e)

  pub part_handed : (bl br : BoxValue) (ws more_left more_right : List OpenNode) → ChildWaits d bl (length g.nodes) l.what more_left → ChildWaits d br (suc (length g.nodes)) r.what more_right → AreUnder y more_left → AreUnder y more_right → Every (WaitsIn d g) ws
      → AreHanded g history ws → AreHanded after longer ((ws ++ more_left) ++ more_right)
  part_handed bl br ws more_left more_right cl cr ul ur waits e =
      every_join (Handed after longer) (ws ++ more_left) more_right
      (every_join (Handed after longer) ws more_left (still_handed ws waits e) (child_handed bl (length g.nodes) Left l.what more_left (first_more g.origins (left_of id branch) (right_of id branch) (length g.nodes) None (sym growth.size)) cl ul))
      (child_handed br (suc (length g.nodes)) Right r.what more_right (second_more g.origins (left_of id branch) (right_of id branch) (length g.nodes) None (sym growth.size)) cr ur)
