-- The node that comes next is taken.
use Rattle.std.proofs.Common.{◌≡◌, ℕ, ◌+◌, ◌<◌, ◌≤◌, ◌^◌, pos, ◌<ℤ◌, List, ◌∷◌, length, Some, None, sym, ap, subst, arith, length-append}
use Rattle.um_multipliers.specs.PlainMultipliers.{plain_multipliers}
use Rattle.um_model.specs.Values.{DeckValue}
use Rattle.um_model.specs.LeafValue.{leaf_value}
use Rattle.um_lp.specs.States.{State}
use Rattle.um_tree.specs.Growths.{GrowthValue, IsOpenAt, what_at}
use Rattle.um_cover.specs.Sites.{box_at}
use Rattle.um_nodes.specs.Taking.{IsTaken}
use Rattle.um_nodes.specs.declared.open_nodes.OpenNode.{OpenNode}
use Rattle.um_progress.specs.Waits.{Every, IsFresh, WaitsIn}
use Rattle.um_progress.proofs.Acts.{open_leaf}
use Rattle.um_progress.proofs.Settling.{takes, room_for_two}
use Rattle.um_turns.specs.Turns.{Turn}
use Rattle.um_turns.proofs.Lists.{every_out}
use Rattle.um_turns.proofs.Waiting.{handed_out}
use Rattle.um_loop.specs.declared.search.Search.{Search}
use Rattle.um_loop.specs.Goings.{IsKeyOf, IsGoing, HasTaken}
use Rattle.um_loop.proofs.KeysClose.{key_below}
use Rattle.um_loop.proofs.Depths.{way_within}

pub takes_going : (d : DeckValue) (start : State) (most : ℕ) (s : Search) (board : State) (left : ℕ) (w : OpenNode) (after : List OpenNode) → IsTaken s.open w after → IsGoing d start most None s board left → HasTaken d start most w (record s { «open» = after }) board left
takes_going d start most s board left w after k g =
    let taken = takes Turn d (pos 0) g.history s.growth s.incumbent s.least s.open after w k g.search in
    let handed = handed_out s.growth g.history s.open after w k g.handed in
    let keys = every_out (IsKeyOf s.growth) k.front k.behind w (subst (Every (IsKeyOf s.growth)) k.before_is g.keys) in
    record {
      going = record {
        history = g.history;
        search = taken.0;
        solved = g.solved;
        told = g.told;
        finished = g.finished;
        handed = handed.0;
        keys = subst (Every (IsKeyOf s.growth)) (sym k.after_is) keys.1;
        unnumbered = g.unnumbered;
        lineage = g.lineage;
        needed = g.needed;
        best = g.best;
        board_is = g.board_is;
        left_is = g.left_is;
        found = g.found;
        ray_is = g.ray_is;
        no_best = g.no_best;
      };
      waits = taken.1;
      handed = handed.1;
      key = keys.0;
    }

-- one fewer waits
pub takes_one : (before after : List OpenNode) (w : OpenNode) → IsTaken before w after → length before ≡ length after + 1
takes_one before after w k =
    let was = ap length k.before_is in
    let is = ap length k.after_is in
    omega (arith, was, is, length-append k.front (w ∷ k.behind), length-append k.front k.behind)

-- ---- what is known of a node in hand

pub open_at : (g : GrowthValue) (id : ℕ) → IsFresh g id → IsOpenAt g id
open_at g id f = record { inside = f.inside; leaf = open_leaf (what_at g id) f.open_leaf }

pub taken_below : (d : DeckValue) (g : GrowthValue) (w : OpenNode) → WaitsIn d g w → w.key.y0 <ℤ pos (2 ^ 40)
taken_below d g w i = key_below (leaf_value d (box_at d g w.node) (plain_multipliers w.y)) w.y.y0 w.key i.bounds.small.y0 i.key

-- with fewer than 100,000 numbers there is room for two nodes more
pub room_of : (d : DeckValue) (start : State) (most : ℕ) (w : OpenNode) (s : Search) (board : State) (left : ℕ) → HasTaken d start most w s board left → s.solved < 100000 → length s.growth.nodes + 2 ≤ 200001
room_of d start most w s board left t few =
    let counted = t.going.solved in
    room_for_two Turn d (pos 0) t.going.history (Some w.node) s.growth s.open s.incumbent s.least t.going.search (omega (arith, few, counted))

-- and its depth is small
pub depth_below : (d : DeckValue) (start : State) (most : ℕ) (w : OpenNode) (s : Search) (board : State) (left : ℕ) → HasTaken d start most w s board left → s.solved < 100000 → w.key.depth < 200001
depth_below d start most w s board left t few =
    let room = room_of d start most w s board left t few in
    let depth = t.key.depth_is in
    let inside = t.waits.fresh.inside in
    omega (arith, room, depth, inside, way_within s.growth w.node)
