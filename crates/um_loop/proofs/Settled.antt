-- A node in hand that is closed or solved, and how the search goes on.
use Rattle.std.proofs.Common.{◌≡◌, ℕ, suc, ◌+◌, ◌-◌, ◌<◌, ◌≤◌, ◌^◌, pos, ◌<ℤ◌, List, [], ◌∷◌, ◌++◌, length, Option, Some, None, refl, sym, ap, ◌∙◌, subst, arith, length-append}
use Rattle.std.specs.Prelude.{ℤ, IsSome, IsNone}
use Rattle.um_num.specs.Listed.{Listed}
use Rattle.um_laws.specs.Rational.{Rational}
use Rattle.um_multipliers.specs.PlainMultipliers.{MultipliersValue, plain_multipliers}
use Rattle.um_multipliers.specs.Sizes.{AreBelow}
use Rattle.um_model.specs.Values.{DeckValue, PointValue}
use Rattle.um_model.specs.Boxes.{BoxValue}
use Rattle.um_model.specs.Branches.{Fits, left as left_box, right as right_box}
use Rattle.um_model.specs.LeafValue.{leaf_value, Closes}
use Rattle.um_model.specs.Feasible.{Feasible}
use Rattle.um_model.specs.Objective.{objective}
use Rattle.um_model.specs.AnswerValues.{NodeValue, WhatValue, Split, Bounded, Empty, Void, OpenLeaf}
use Rattle.um_model.specs.declared.branch.Branch.{Branch}
use Rattle.um_model.specs.declared.tree.Solved.{Solved}
use Rattle.um_lp.specs.States.{State}
use Rattle.um_laws.proofs.Places.{at_set}
use Rattle.um_tree.specs.Growths.{IsGrowth, IsLeaf, no_node, origin_at, what_at, parted, settled}
use Rattle.um_tree.proofs.Writes.{no_leaf, growth_after}
use Rattle.um_cover.specs.Nodes.{NodeIs, OpenIs}
use Rattle.um_cover.specs.Sites.{way, box_at}
use Rattle.um_nodes.specs.declared.open_nodes.OpenNode.{OpenNode}
use Rattle.um_progress.specs.declared.incumbent.Incumbent.{Incumbent}
use Rattle.um_progress.specs.Numbers.{Number}
use Rattle.um_progress.specs.Waits.{Every, IsFresh, KeyIs, WaitsIn}
use Rattle.um_progress.specs.Searches.{IsSearch, ChildIs, Settles}
use Rattle.um_progress.specs.Incumbents.{objective_of}
use Rattle.um_progress.specs.Lineage.{number_of, IsLineage}
use Rattle.um_progress.proofs.Acts.{open_leaf}
use Rattle.um_progress.proofs.Settling.{settles_search}
use Rattle.um_progress.proofs.Changes.{IsChange, settle_changes, split_changes}
use Rattle.um_progress.proofs.Lineages.{settle_lineage, part_lineage}
use Rattle.um_progress.proofs.Parting.{part_act}
use Rattle.um_split.specs.Branchings.{IsBranchOf}
use Rattle.um_children.specs.NewChildren.{IsEntryUnder}
use Rattle.um_turns.specs.Turns.{Turn, TurnEnd, Reached, Halted, EndHolds, Became, IsFinished, kept_multipliers}
use Rattle.um_opening.specs.Numbers.{parts_of}
use Rattle.um_turns.specs.Histories.{History, HasVertex, IsHanded, IsBest, left_behind, ray_of}
use Rattle.um_turns.specs.NextTurns.{IsNextTurn}
use Rattle.um_turns.proofs.Chains.{state_more, left_more}
use Rattle.um_turns.proofs.Lists.{every_more}
use Rattle.um_turns.proofs.Turning.{settle_history, settle_turn, part_turn}
use Rattle.um_turns.proofs.Waiting.{all_handed_more, part_handed}
use Rattle.um_loop.specs.declared.search.Search.{Search}
use Rattle.um_loop.specs.declared.search.Halt.{Halt}
use Rattle.um_loop.specs.Goings.{IsKeyOf, IsGoing, HasTaken, HaltedAt, ray_with}
use Rattle.um_turns.specs.NeededTurns.{IsOpenBefore, IsNeeded}
use Rattle.um_loop.specs.Steps.{IsClosing, IsNotClosing, HasClosed, HasOwn}
use Rattle.um_loop.proofs.ChildParts.{handed_under}
use Rattle.um_loop.proofs.Depths.{keys_settled, part_keys}
use Rattle.um_loop.proofs.KeysClose.{key_closes, key_bound}
use Rattle.um_loop.proofs.NeededTurns.{none_closes, needed_more, needed_on, open_last}
use Rattle.um_loop.proofs.Takings.{room_of}
use Rattle.um_loop.proofs.UnnumberedNodes.{settled_unnumbered, parted_unnumbered, unnumbered_more, child_leaf, child_unbounded}

-- what the node in hand becomes is a leaf
settles_leaf : (d : DeckValue) (b : BoxValue) (w : WhatValue) (least after : Option Rational) → Settles d b w least after → IsLeaf w
settles_leaf d b (Split branch) least after h = absurd h
settles_leaf d b (Bounded y) least after h = tt
settles_leaf d b (Empty y) least after h = tt
settles_leaf d b (Void column) least after h = tt
settles_leaf d b (OpenLeaf y) least after h = tt

-- the ray of a history with one turn more
pub ray_more : (history : History) (n : Number Turn) → ray_of (history ++ n ∷ []) ≡ ray_with history n.told.ray
ray_more [] n = refl
ray_more (m ∷ ms) n = refl

pub some_kept : (r : Option (Listed ℤ)) (parts : Option (List ℤ)) → parts_of r ≡ parts → IsSome parts → IsSome r
some_kept None parts e some = absurd (cc)
some_kept (Some x) parts e some = refl

-- with this number
next_number : (solved : Solved) (what : WhatValue) (number : ℕ) → solved.number ≡ number → (n : ℕ) → number_of (record { solved = Some solved; what = what }) ≡ Some n → n ≡ number
next_number solved what number is n e = let own : solved.number ≡ n = cc in sym own ∙ is

module _ (d : DeckValue) (start : State) (most : ℕ) (taken : OpenNode) (s : Search) (board : State) (left : ℕ) (t : HasTaken d start most taken s board left) where
  abbrev history : History
  history = t.going.history

  abbrev box : BoxValue
  box = box_at d s.growth taken.node

  abbrev handed : MultipliersValue
  handed = plain_multipliers taken.y

  -- ---- it is closed by its key, and gets no number
  pub closed_goes : (bound : Rational) (after : Search) → IsClosing d s.incumbent taken.key bound → HasClosed s taken.node None handed bound after → IsGoing d start most None after board left
  closed_goes bound after closing closed =
      let node : NodeValue = record { solved = None; what = Bounded handed } in
      let holds = key_closes d box handed taken.key t.waits.bounds t.waits.key s.incumbent bound closing in
      let counts = key_bound d box handed taken.key t.waits.bounds t.waits.key s.incumbent bound closing in
      subst (λ (x : Search). IsGoing d start most None x board left) (sym closed.after_is) (record {
        history = history;
        search = settles_search Turn d (pos 0) history history taken.node s.growth s.open s.incumbent s.least (Some closed.least) node t.going.search holds (bound, counts, closed.lesser) refl;
        solved = t.going.solved;
        told = settle_history d start most s.growth history taken.node t.waits.fresh.solved t.going.search.numbered t.going.told node;
        finished = t.going.finished;
        handed = t.going.handed;
        keys = keys_settled s.growth taken.node node s.open t.going.keys;
        unnumbered = settled_unnumbered s.growth history taken.node node (λ _. t.handed) t.going.unnumbered;
        lineage = settle_lineage Turn d s.growth history taken.node node t.going.search.growth t.going.search.numbered t.waits.fresh tt (λ n e. absurd (cc)) t.going.lineage;
        needed = needed_on d s.growth (settled s.growth taken.node node) taken.node (settle_changes d s.growth taken.node node) history t.waits.fresh.solved t.going.search.numbered t.going.needed;
        best = t.going.best;
        board_is = t.going.board_is;
        left_is = t.going.left_is;
        found = λ some. refl;
        ray_is = t.going.ray_is;
        no_best = t.going.no_best;
      })

  -- ---- it keeps its own multipliers
  pub own_waits : (w : OpenNode) (y : MultipliersValue) → HasOwn d box taken y w → AreBelow (2 ^ 40) y → pos 0 <ℤ y.y0 → WaitsIn d s.growth w
  own_waits w y own below positive =
      let same : box ≡ box_at d s.growth w.node = ap (box_at d s.growth) (sym own.node_is) in
      let placed : OpenIs d box y = record { full = t.waits.bounds.full; small = below; y0 = positive } in
      record {
        fresh = subst (IsFresh s.growth) (sym own.node_is) t.waits.fresh;
        bounds = subst (λ (b : BoxValue). OpenIs d b (plain_multipliers w.y)) same (subst (OpenIs d box) (sym own.multipliers) placed);
        key = subst (λ (b : BoxValue). KeyIs (leaf_value d b (plain_multipliers w.y)) w.y.y0 w.key) same (subst (λ (m : MultipliersValue). KeyIs (leaf_value d box m) m.y0 w.key) (sym own.multipliers) own.key_is);
        size = own.key_size;
      }

  pub own_key : (w : OpenNode) (y : MultipliersValue) → HasOwn d box taken y w → IsKeyOf s.growth w
  own_key w y own = record { id_is = own.key_id ∙ t.key.id_is ∙ sym own.node_is; depth_is = own.key_depth ∙ t.key.depth_is ∙ ap (λ (j : ℕ). length (way s.growth j)) (sym own.node_is) }

  -- `shown` is the ray that the turn has shown, and `kept` the search's own behind it
  module _ (pivots : ℕ) (after : State) (end : TurnEnd) (shown : Option (List ℤ)) (kept : Option (Listed ℤ)) where
    abbrev turn : Turn
    turn = record { before = board; after = after; left = left; ray = shown; handed = handed; end = end }

    abbrev number : Number Turn
    number = record { id = taken.node; pivots = pivots; told = turn }

    abbrev longer : History
    longer = history ++ number ∷ []

    abbrev counted : Solved
    counted = record { number = suc (length history); pivots = pivots }

    module _ (within : pivots ≤ left) (run : EndHolds d box turn pivots (suc (length history)) end) (still : IsNotClosing d s.incumbent taken.key) (kept_is : parts_of kept ≡ ray_with history shown) where
      next : IsNextTurn d start most s.growth history taken.node number
      next = record { at = refl; before = t.going.board_is; left = t.going.left_is; few = subst (λ (n : ℕ). pivots ≤ n) t.going.left_is within; run = run; handed = t.handed }

      longer_is : s.solved + 1 ≡ length longer
      longer_is = let c = t.going.solved in omega (arith, c, length-append history (number ∷ []))

      rest_is : left - pivots ≡ left_behind most longer
      rest_is = ap (λ (n : ℕ). n - pivots) t.going.left_is ∙ sym (left_more most history number)

      handed_open : IsOpenBefore d history (length history) box handed
      handed_open = λ k p before here feasible. none_closes d history s.incumbent box handed taken.key t.going.best t.waits.key still k p here feasible

      -- ---- the search stops, and the node stays in hand
      pub halts : (halt : Halt) (own : Option MultipliersValue) → (IsSome kept → IsNone s.incumbent) → end ≡ Halted halt.why own → halt.hand.node ≡ taken.node → halt.solved ≡ Some counted → s.solved < 100000 → WaitsIn d s.growth halt.hand → IsKeyOf s.growth halt.hand → plain_multipliers halt.hand.y ≡ kept_multipliers handed own
          → HaltedAt d start most (record s { solved = s.solved + 1; ray = kept }) halt after (left - pivots)
      halts halt own no_best end_is node_is solved few waits hand_key keeps = record {
        history = history;
        search = subst (λ (id : ℕ). IsSearch Turn d (pos 0) history (Some id) s.growth s.open s.incumbent s.least) (sym node_is) t.going.search;
        told = t.going.told;
        finished = t.going.finished;
        handed = t.going.handed;
        keys = t.going.keys;
        unnumbered = t.going.unnumbered;
        lineage = t.going.lineage;
        needed = t.going.needed;
        best = t.going.best;
        found = t.going.found;
        solved = let c = t.going.solved in omega (arith, c);
        few = let c = t.going.solved in omega (arith, c, few);
        turn = turn;
        pivots = pivots;
        own = own;
        end_is = end_is;
        number_is = solved;
        run = subst (λ (id : ℕ). EndHolds d (box_at d s.growth id) turn pivots (suc (length history)) end) (sym node_is) run;
        before_is = t.going.board_is;
        left_is = t.going.left_is;
        within = within;
        hand_needed = subst (λ (id : ℕ). IsOpenBefore d history (length history) (box_at d s.growth id) handed) (sym node_is) handed_open;
        handed_is = subst (λ (id : ℕ). IsHanded history (origin_at s.growth id) handed) (sym node_is) t.handed;
        waits = waits;
        hand_key = hand_key;
        kept = keeps;
        board_is = refl;
        rest_is = refl;
        no_best = λ some. no_best (some_kept kept (ray_with history shown) kept_is some);
      }

      -- ---- the search goes on
      module _ (solved : Solved) (solved_is : solved ≡ counted) (best : Option Incumbent) (searching : IsSearch Turn d (pos 0) history (Some taken.node) s.growth s.open best s.least) (bests : IsBest d longer best) (finished : IsFinished end) (no_best : IsSome kept → IsNone best) where
        -- as a leaf
        leaf_needed : (what : WhatValue) (least : Option Rational) → Settles d box what s.least least → IsNeeded d (settled s.growth taken.node (record { solved = Some solved; what = what })) longer (length history) number
        leaf_needed what least settles =
            let node : NodeValue = record { solved = Some solved; what = what } in
            record {
              handed = open_last d history number box handed handed_open;
              split = λ branch p y is end. absurd (no_leaf what branch (ap (λ (x : NodeValue). x.what) (sym (at_set s.growth.nodes taken.node node no_node t.waits.fresh.inside)) ∙ is) (settles_leaf d box what s.least least settles));
            }

        pub leaf_goes : (what : WhatValue) (least : Option Rational) → NodeIs d (objective_of best) (pos 0) box what → Settles d box what s.least least → Became d handed end what → (IsSome best → IsSome least)
            → IsGoing d start most None (record s { growth = settled s.growth taken.node (record { solved = Some solved; what = what }); incumbent = best; least = least; solved = s.solved + 1; ray = kept }) after (left - pivots)
        leaf_goes what least holds settles became found =
            let node : NodeValue = record { solved = Some solved; what = what } in
            record {
              history = longer;
              search = settles_search Turn d (pos 0) history longer taken.node s.growth s.open best s.least least node searching holds settles (number, refl, solved_is, refl);
              solved = longer_is;
              told = settle_turn d start most s.growth history taken.node t.waits.fresh.solved t.going.search.numbered t.going.told node number t.waits.fresh.inside next became;
              finished = every_more (λ (n : Number Turn). IsFinished n.told.end) history number t.going.finished finished;
              handed = all_handed_more s.growth history number s.open t.going.handed;
              keys = keys_settled s.growth taken.node node s.open t.going.keys;
              unnumbered = unnumbered_more (settled s.growth taken.node node) history number (settled_unnumbered s.growth history taken.node node (λ none. absurd (cc)) t.going.unnumbered);
              lineage = settle_lineage Turn d s.growth history taken.node node t.going.search.growth t.going.search.numbered t.waits.fresh (settles_leaf d box what s.least least settles) (next_number solved what (suc (length history)) (ap (λ (x : Solved). x.number) solved_is)) t.going.lineage;
              needed = needed_more d (settled s.growth taken.node node) history number (leaf_needed what least settles) (needed_on d s.growth (settled s.growth taken.node node) taken.node (settle_changes d s.growth taken.node node) history t.waits.fresh.solved t.going.search.numbered t.going.needed);
              best = bests;
              board_is = sym (state_more start history number);
              left_is = rest_is;
              found = found;
              ray_is = kept_is ∙ sym (ray_more history number);
              no_best = no_best;
            }

        -- as a split
        module _ (p : PointValue) (y : MultipliersValue) (end_is : end ≡ Reached p y) (branch : Branch) (fits : Fits d box branch) (asked : IsBranchOf d p branch) (few : s.solved < 100000) (found : IsSome best → IsSome s.least)
            (none_closing : (k : ℕ) (q : PointValue) → HasVertex longer k q → Feasible d q → ¬ Closes d box y (objective d q) (pos 0)) where
          module _ (l r : NodeValue) (more_left more_right : List OpenNode) (cl : ChildIs d (objective_of best) (pos 0) (left_box d box branch) (length s.growth.nodes) l more_left) (cr : ChildIs d (objective_of best) (pos 0) (right_box d box branch) (suc (length s.growth.nodes)) r more_right) (hl : Every (IsEntryUnder (length s.growth.nodes) (taken.key.depth + 1) y) more_left) (hr : Every (IsEntryUnder (suc (length s.growth.nodes)) (taken.key.depth + 1) y) more_right) where
            became : Became d handed end (Split branch)
            became = subst (λ (e : TurnEnd). Became d handed e (Split branch)) (sym end_is) asked

            few_numbers : length history < 100000
            few_numbers = let c = t.going.solved in omega (arith, c, few)

            split_change : IsChange d s.growth (parted s.growth taken.node (Some solved) branch l r) taken.node
            split_change = split_changes d s.growth taken.node (Some solved) branch l r t.going.search.growth t.waits.fresh.inside cl.solved cr.solved
                (child_unbounded d (left_box d box branch) (length s.growth.nodes) l.what more_left cl.waits) (child_unbounded d (right_box d box branch) (suc (length s.growth.nodes)) r.what more_right cr.waits)

            parted_growth : IsGrowth (parted s.growth taken.node (Some solved) branch l r)
            parted_growth = growth_after s.growth taken.node (Some solved) branch l r t.waits.fresh.inside t.going.search.growth (open_leaf (what_at s.growth taken.node) t.waits.fresh.open_leaf)
                (child_leaf d (left_box d box branch) (length s.growth.nodes) l.what more_left cl.waits) (child_leaf d (right_box d box branch) (suc (length s.growth.nodes)) r.what more_right cr.waits)
                (room_of d start most taken s board left t few)

            same_vertex : (q : PointValue) (z : MultipliersValue) → Reached p y ≡ Reached q z → y ≡ z
            same_vertex q z e = cc

            split_needed : IsNeeded d (parted s.growth taken.node (Some solved) branch l r) longer (length history) number
            split_needed =
                let same : box_at d (parted s.growth taken.node (Some solved) branch l r) taken.node ≡ box = split_change.box taken.node t.waits.fresh.inside in
                record {
                  handed = subst (λ (b : BoxValue). IsOpenBefore d longer (length history) b handed) (sym same) (open_last d history number box handed handed_open);
                  split = λ branched q z is at. subst (λ (b : BoxValue). IsOpenBefore d longer (suc (length history)) b z) (sym same)
                      (subst (IsOpenBefore d longer (suc (length history)) box) (same_vertex q z (sym end_is ∙ at)) (λ k v before here feasible. none_closing k v here feasible));
                }

            pub split_goes : IsGoing d start most None (record s { growth = parted s.growth taken.node (Some solved) branch l r; «open» = (s.open ++ more_left) ++ more_right; incumbent = best; solved = s.solved + 1; ray = kept }) after (left - pivots)
            split_goes = record {
              history = longer;
              search = subst (λ (x : Solved). IsSearch Turn d (pos 0) longer None (parted s.growth taken.node (Some x) branch l r) ((s.open ++ more_left) ++ more_right) best s.least) (sym solved_is)
                  (part_act Turn d (pos 0) history taken.node s.growth s.open best s.least searching number refl branch fits l r more_left more_right cl cr few_numbers);
              solved = longer_is;
              told = part_turn d start most s.growth history taken.node t.waits.fresh.solved t.going.search.numbered t.going.told t.going.search.growth t.waits.fresh.inside (Some solved) branch l r number next became;
              finished = every_more (λ (n : Number Turn). IsFinished n.told.end) history number t.going.finished finished;
              unnumbered = unnumbered_more (parted s.growth taken.node (Some solved) branch l r) history number
                  (parted_unnumbered d s.growth history taken.node solved branch l r t.going.search.growth t.waits.fresh.inside (left_box d box branch) (right_box d box branch) more_left more_right cl.waits cr.waits t.going.unnumbered);
              lineage = subst (λ (x : Solved). IsLineage (parted s.growth taken.node (Some x) branch l r)) (sym solved_is)
                  (part_lineage Turn d s.growth history taken.node pivots branch l r t.going.search.growth t.going.search.numbered t.waits.fresh cl.solved cr.solved
                  (child_leaf d (left_box d box branch) (length s.growth.nodes) l.what more_left cl.waits) (child_leaf d (right_box d box branch) (suc (length s.growth.nodes)) r.what more_right cr.waits)
                  (child_unbounded d (left_box d box branch) (length s.growth.nodes) l.what more_left cl.waits) (child_unbounded d (right_box d box branch) (suc (length s.growth.nodes)) r.what more_right cr.waits)
                  t.going.lineage);
              needed = needed_more d (parted s.growth taken.node (Some solved) branch l r) history number split_needed
                  (needed_on d s.growth (parted s.growth taken.node (Some solved) branch l r) taken.node split_change history t.waits.fresh.solved t.going.search.numbered t.going.needed);
              handed = part_handed d s.growth history taken.node t.going.search.growth (Some solved) branch l r number refl p y end_is (left_box d box branch) (right_box d box branch) s.open more_left more_right cl.waits cr.waits (handed_under (length s.growth.nodes) (taken.key.depth + 1) y more_left hl) (handed_under (suc (length s.growth.nodes)) (taken.key.depth + 1) y more_right hr) t.going.search.waits t.going.handed;
              keys = part_keys s.growth taken.node (Some solved) branch l r t.going.search.growth parted_growth t.waits.fresh.inside d (left_box d box branch) (right_box d box branch) taken.key.depth y s.open more_left more_right t.key.depth_is cl.waits cr.waits hl hr t.going.search.waits t.going.keys;
              best = bests;
              board_is = sym (state_more start history number);
              left_is = rest_is;
              found = found;
              ray_is = kept_is ∙ sym (ray_more history number);
              no_best = no_best;
            }
