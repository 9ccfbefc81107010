-- The multipliers that the turns of a history read, and hand on, are of rows of the deck in rising order.
use Rattle.std.proofs.Common.{◌≡◌, ℕ, zero, suc, ◌+◌, ◌-◌, pos, inl, inr, List, [], ◌∷◌, length, Option, Some, None, refl, sym, subst, arith}
use Rattle.std.specs.Prelude.{slice_get}
use Rattle.um_multipliers.specs.PlainMultipliers.{MultipliersValue, plain_multipliers}
use Rattle.um_multipliers.specs.NormalForm.{HasRisingRows}
use Rattle.um_model.specs.Values.{DeckValue, PointValue}
use Rattle.um_model.specs.Boxes.{BoxValue}
use Rattle.um_model.specs.declared.answer.Why.{Why}
use Rattle.um_model.specs.declared.answer.Why.TheVariants as why
use Rattle.um_lp.specs.States.{State}
use Rattle.um_duality.specs.Relaxed.{StandsFor}
use Rattle.um_solving.proofs.NodeReadings.{held-law, stopped-law}
use Rattle.um_relax.proofs.Runs.{run_stands}
use Rattle.um_opening.proofs.Begun.{begun_stands}
use Rattle.um_solving.proofs.Prices.{none_of, no_pairs}
use Rattle.um_tree.specs.Growths.{GrowthValue, origin_at}
use Rattle.um_tree.specs.declared.growing.Origin.{Origin}
use Rattle.um_cover.specs.Sites.{box_at}
use Rattle.um_nodes.specs.declared.open_nodes.OpenNode.{OpenNode}
use Rattle.um_progress.specs.Numbers.{Number}
use Rattle.um_progress.specs.Waits.{Every}
use Rattle.um_turns.specs.Turns.{Turn, Reached, HaltHolds, EndHolds, IsFinished, kept_multipliers, RunStopped}
use Rattle.um_turns.proofs.Going.{RanTurn, ran_of}
use Rattle.um_turns.specs.Histories.{History, AreChained, IsHanded, IsHistory, AreFinished, AreHanded, state_behind}

abbrev pub Rises : DeckValue → MultipliersValue → Type 0
Rises d y = HasRisingRows (length d.rows) y.rows

-- 1 and none
pub none_rises : (d : DeckValue) (y : MultipliersValue) → y ≡ record { y0 = pos 1; rows = [] } → Rises d y
none_rises d y is = subst (Rises d) (sym is) (record { within = none_of _; rise = no_pairs })

some_is : {X : Type 0} (x y : X) → Some x ≡ Some y → x ≡ y
some_is x y e = cc

-- ---- the states of the board

-- each turn ran on the box of its node
abbrev AllRan : DeckValue → GrowthValue → ℕ → History → Type 0
AllRan d g number ns = (k : ℕ) (n : Number Turn) → slice_get ns k ≡ Some n → IsFinished n.told.end → RanTurn d (box_at d g n.id) n.told n.pivots (number + k)

later_ran : (d : DeckValue) (g : GrowthValue) (number : ℕ) (m : Number Turn) (ms : History) → AllRan d g number (m ∷ ms) → AllRan d g (suc number) ms
later_ran d g number m ms runs k n e f = subst (RanTurn d (box_at d g n.id) n.told n.pivots) (let same : number + suc k ≡ suc number + k = omega arith in same) (runs (suc k) n e f)

module _ (d : DeckValue) (g : GrowthValue) where
  -- behind a turn on a board that stands for the deck the board stands for it
  stands_after : (number : ℕ) (s : State) (n : Number Turn) → StandsFor d s → n.told.before ≡ s → RanTurn d (box_at d g n.id) n.told n.pivots number → StandsFor d n.told.after
  stands_after number s n st is ran = run_stands d (box_at d g n.id) ran.begun ran.steps n.told.after (begun_stands d number n.told.before ran.early n.told.ray ran.begun (subst (StandsFor d) (sym is) st) ran.begins) ran.run

  stands_in : (number : ℕ) (s : State) (left : ℕ) (ns : History) → StandsFor d s → AreChained s left ns → AreFinished ns → AllRan d g number ns → (k : ℕ) (n : Number Turn) → slice_get ns k ≡ Some n → StandsFor d n.told.before
  stands_in number s left [] st c f runs k n e = absurd (cc)
  stands_in number s left (m ∷ ms) st c f runs zero n e = subst (λ (x : Number Turn). StandsFor d x.told.before) (some_is m n e) (subst (StandsFor d) (sym c.0) st)
  stands_in number s left (m ∷ ms) st c f runs (suc k) n e = stands_in (suc number) m.told.after (left - m.pivots) ms (stands_after (number + 0) s m st c.0 (runs 0 m refl f.0)) c.3 f.1 (later_ran d g number m ms runs) k n e

  stands_at_end : (number : ℕ) (s : State) (left : ℕ) (ns : History) → StandsFor d s → AreChained s left ns → AreFinished ns → AllRan d g number ns → StandsFor d (state_behind s ns)
  stands_at_end number s left [] st c f runs = st
  stands_at_end number s left (m ∷ ms) st c f runs = stands_at_end (suc number) m.told.after (left - m.pivots) ms (stands_after (number + 0) s m st c.0 (runs 0 m refl f.0)) c.3 f.1 (later_ran d g number m ms runs)

-- ---- what is handed on, and what is read
module _ (d : DeckValue) (plain : d.arcs ≡ []) (start : State) (most : ℕ) (g : GrowthValue) (history : History) (told : IsHistory d start most g history) (finished : AreFinished history) where
  runs : AllRan d g 1 history
  runs k n e f = subst (RanTurn d (box_at d g n.id) n.told n.pivots) (let same : suc k ≡ 1 + k = omega arith in same) (ran_of d (box_at d g n.id) n.told n.pivots (suc k) n.told.end (told.holds k n e).run f)

  first_stands : StandsFor d start
  first_stands = record { frame = told.starts.frame; placed = told.starts.placed }

  pub stands_behind : StandsFor d (state_behind start history)
  stands_behind = stands_at_end d g 1 start most history first_stands told.chained finished runs

  vertex_rises : (k : ℕ) (n : Number Turn) → slice_get history k ≡ Some n → (p : PointValue) (y : MultipliersValue) → n.told.end ≡ Reached p y → Rises d y
  vertex_rises k n here p y at =
      let vertex = subst (EndHolds d (box_at d g n.id) n.told n.pivots (suc k)) at (told.holds k n here).run in
      let before = stands_in d g 1 start most history first_stands told.chained finished runs k n here in
      (held-law d (box_at d g n.id) vertex.begun vertex.steps n.told.after p y plain (begun_stands d (suc k) n.told.before vertex.early n.told.ray vertex.begun before vertex.begins) vertex.holds).rising

  pub handed_rises : (o : Option Origin) (y : MultipliersValue) → IsHanded history o y → Rises d y
  handed_rises None y h = none_rises d y h
  handed_rises (Some o) y h = vertex_rises h.place h.number h.here h.point y h.vertex

  -- of each node that waits
  pub all_rise : (ws : List OpenNode) → AreHanded g history ws → Every (λ (w : OpenNode). Rises d (plain_multipliers w.y)) ws
  all_rise [] h = tt
  all_rise (w ∷ ws) h = (handed_rises (origin_at g w.node) (plain_multipliers w.y) h.0, all_rise ws h.1)

  -- what the node keeps in whose turn the search stopped
  module _ (b : BoxValue) (t : Turn) (pivots number : ℕ) (before_is : t.before ≡ state_behind start history) where
    stands_now : StandsFor d t.before
    stands_now = subst (StandsFor d) (sym before_is) stands_behind

    run_rises : (begun : State) (early steps left : ℕ) (cause : Why) (y : MultipliersValue) → StandsFor d begun → RunStopped d b begun t.after early steps left number cause (Some y) → Rises d y
    run_rises begun early steps left why.Nodes y on h = absurd h
    run_rises begun early steps left why.Pivots y on h = (stopped-law d b begun early steps left number why.Pivots y on h).rising
    run_rises begun early steps left (why.Points column) y on h = absurd h
    run_rises begun early steps left (why.Grid n) y on h = subst (Rises d) (sym (some_is y h.own_is h.are)) (held-law d b begun steps t.after h.point h.own_is plain on h.vertex).rising
    run_rises begun early steps left (why.Pivot n step wide) y on h = (stopped-law d b begun early steps left number (why.Pivot n step wide) y on h).rising
    run_rises begun early steps left (why.Value n step wide) y on h = (stopped-law d b begun early steps left number (why.Value n step wide) y on h).rising
    run_rises begun early steps left (why.Leaf n) y on h = (stopped-law d b begun early steps left number (why.Leaf n) y on h).rising
    run_rises begun early steps left (why.Vertex n) y on h = (stopped-law d b begun early steps left number (why.Vertex n) y on h).rising
    run_rises begun early steps left why.Ray y on h = absurd h

    own_rises : (cause : Why) (y : MultipliersValue) → HaltHolds d b t pivots number cause (Some y) → Rises d y
    own_rises cause y (inl r) = run_rises r.begun r.early r.steps (t.left - r.early) cause y (begun_stands d number t.before r.early t.ray r.begun stands_now r.begins) r.holds
    own_rises cause y (inr o) = absurd (let none = o.unread in cc)

    pub kept_rises : (cause : Why) (own : Option MultipliersValue) → HaltHolds d b t pivots number cause own → (o : Option Origin) → IsHanded history o t.handed → Rises d (kept_multipliers t.handed own)
    kept_rises cause None h o handed = handed_rises o t.handed handed
    kept_rises cause (Some y) h o handed = own_rises cause y h
