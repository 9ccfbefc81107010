-- A search begins: its root waits with the multipliers 1 and none.
use Rattle.std.proofs.Common.{◌≡◌, ℕ, zero, suc, ◌<◌, ◌^◌, ◌<ℤ◌, pos, List, [], ◌∷◌, length, Some, None, refl, sym, ap, ◌∙◌, subst, arith}
use Rattle.std.specs.Prelude.{unsigned_abs}
use Rattle.std.proofs.lemmas.Int.{ints}
use Rattle.um_multipliers.specs.PlainMultipliers.{MultipliersValue, plain_multipliers}
use Rattle.um_model.specs.Values.{DeckValue}
use Rattle.um_model.specs.Boxes.{BoxValue, IsVoid, root}
use Rattle.um_model.specs.LeafValue.{leaf_value}
use Rattle.um_bound.specs.Usable.{AreUsable}
use Rattle.um_lp.specs.States.{State}
use Rattle.um_lp.specs.Boards.{IsBoard, IsStart}
use Rattle.um_duality.specs.Relaxed.{deck_frame}
use Rattle.um_model.specs.AnswerValues.{Split}
use Rattle.um_model.specs.declared.branch.Branch.{Branch}
use Rattle.um_tree.specs.Growths.{GrowthValue, what_at, origin_at}
use Rattle.um_tree.specs.declared.growing.Origin.{Origin}
use Rattle.um_cover.specs.Sites.{way}
use Rattle.um_cover.specs.Nodes.{OpenIs}
use Rattle.um_nodes.specs.Keys.{IsKey}
use Rattle.um_nodes.specs.declared.open_nodes.OpenNode.{OpenNode}
use Rattle.um_progress.specs.Ends.{rooted}
use Rattle.um_progress.specs.Waits.{KeyIs}
use Rattle.um_progress.specs.Searches.{IsEntryOf, IsSearch}
use Rattle.um_progress.specs.Lineage.{IsLineage}
use Rattle.um_progress.proofs.Beginning.{one_and_none_bound}
use Rattle.um_progress.proofs.KeyBounds.{entry_key}
use Rattle.um_progress.proofs.Settling.{begins}
use Rattle.um_turns.specs.Turns.{Turn}
use Rattle.um_turns.proofs.Bests.{best_begins}
use Rattle.um_turns.proofs.Turning.{history_begins}
use Rattle.um_turns.proofs.Waiting.{root_handed}
use Rattle.um_loop.specs.Goings.{IsGoing}
use Rattle.um_loop.specs.Checkables.{AreCheckable}
use Rattle.um_turns.specs.UnnumberedNodes.{AreUnnumbered}
use Rattle.um_loop.proofs.Rising.{none_rises}

abbrev pub one : MultipliersValue
one = record { y0 = pos 1; rows = [] }

pub one_bounds : (d : DeckValue) (b : BoxValue) (y : MultipliersValue) → ¬ IsVoid d b → y ≡ one → OpenIs d b y
one_bounds d b y full is = one_and_none_bound d b y full (ap (λ (m : MultipliersValue). m.y0) is) (ap (λ (m : MultipliersValue). m.rows) is)

pub one_positive : (y : MultipliersValue) → y ≡ one → pos 0 <ℤ y.y0
one_positive y is = subst (λ (m : MultipliersValue). pos 0 <ℤ m.y0) (sym is) (omega (arith, ints))

pub one_usable : (d : DeckValue) (y : MultipliersValue) → ¬ IsVoid d (root d) → y ≡ one → AreUsable (length d.rows) y
one_usable d y full is =
    let open_is = one_bounds d (root d) y full is in
    let up = one_positive y is in
    record { y0 = omega (arith, ints); small = open_is.small; rising = none_rises d y is }

-- ---- the root alone
-- it is an open leaf
root_unnumbered : (y : MultipliersValue) → AreUnnumbered (rooted y) []
root_unnumbered y zero h none = tt
root_unnumbered y (suc id) h none = absurd (omega arith)

root_unsplit : (y : MultipliersValue) (id : ℕ) (branch : Branch) → id < length (rooted y).nodes → ¬ (what_at (rooted y) id ≡ Split branch)
root_unsplit y zero branch h e = absurd (cc)
root_unsplit y (suc id) branch h e = absurd (omega arith)

-- and has no parent
root_first : (y : MultipliersValue) (id : ℕ) (o : Origin) → id < length (rooted y).nodes → ¬ (origin_at (rooted y) id ≡ Some o)
root_first y zero o h e = absurd (cc)
root_first y (suc id) o h e = absurd (omega arith)

root_lineage : (y : MultipliersValue) → IsLineage (rooted y)
root_lineage y = record {
  splits = λ id branch h e. absurd (root_unsplit y id branch h e);
  above = λ id o p n h e parent own. absurd (root_first y id o h e);
}

module _ (d : DeckValue) (w : OpenNode) (full : ¬ IsVoid d (root d)) (own : plain_multipliers w.y ≡ one) (first : w.node ≡ 0) (key : KeyIs (leaf_value d (root d) (plain_multipliers w.y)) w.y.y0 w.key) (small : unsigned_abs w.key.value < 2 ^ 126) (key_id : w.key.id ≡ 0) (key_depth : w.key.depth ≡ 0) where
  entry : IsEntryOf d (root d) 0 w
  entry = record { node = first; bounds = one_bounds d (root d) (plain_multipliers w.y) full own; key = key; size = small }

  pub root_key : IsKey w.key
  root_key = entry_key d (root d) 0 w entry

  module _ (y : MultipliersValue) (also : y ≡ one) (start : State) (most : ℕ) (starts : IsStart (deck_frame d) start) (board : IsBoard start) where
    search : IsSearch Turn d (pos 0) [] None (rooted y) (w ∷ []) None None
    search = begins Turn d (pos 0) y w (one_bounds d (root d) y full also) entry

    going : IsGoing d start most None (record { growth = rooted y; «open» = w ∷ []; incumbent = None; least = None; solved = 0; ray = None }) start most
    going = record {
      history = [];
      search = search;
      solved = refl;
      told = history_begins d start most y starts board;
      finished = tt;
      handed = root_handed y w first own;
      keys = (record { id_is = key_id ∙ sym first; depth_is = key_depth ∙ ap (λ (id : ℕ). length (way (rooted y) id)) (sym first) }, tt);
      unnumbered = root_unnumbered y;
      lineage = root_lineage y;
      needed = λ place n e. absurd (cc);
      best = best_begins d;
      board_is = refl;
      left_is = refl;
      found = λ e. absurd (cc);
      ray_is = refl;
      no_best = λ some. refl;
    }

    pub began : (g : GrowthValue) (ws : List OpenNode) → g ≡ rooted y → ws ≡ w ∷ [] → IsGoing d start most None (record { growth = g; «open» = ws; incumbent = None; least = None; solved = 0; ray = None }) start most
    began g ws is waits =
        subst (λ (x : GrowthValue). IsGoing d start most None (record { growth = x; «open» = ws; incumbent = None; least = None; solved = 0; ray = None }) start most) (sym is)
        (subst (λ (xs : List OpenNode). IsGoing d start most None (record { growth = rooted y; «open» = xs; incumbent = None; least = None; solved = 0; ray = None }) start most) (sym waits) going)

root_checkable : (d : DeckValue) (y : MultipliersValue) → y ≡ one → AreCheckable d (rooted y)
root_checkable d y is zero h = none_rises d y is
root_checkable d y is (suc id) h = absurd (omega arith)

pub began_checkable : (d : DeckValue) (y : MultipliersValue) (g : GrowthValue) → y ≡ one → g ≡ rooted y → AreCheckable d g
began_checkable d y g one_is is = subst (AreCheckable d) (sym is) (root_checkable d y one_is)
