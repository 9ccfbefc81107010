-- On a deck with a ray each open leaf has the multipliers 1 and none, and no node has a bound: the board takes no costs, so that each vertex has them, and a node is handed those of the root or of a vertex.
use Rattle.std.proofs.Common.{◌≡◌, ◌≢◌, ◌∙◌, ℕ, suc, ◌+◌, ◌-◌, ◌<◌, pos, inl, inr, List, [], ◌∷◌, ◌++◌, length, slice_get, Option, Some, None, refl, sym, ap, subst, arith}
use Rattle.std.specs.Prelude.{ℤ, IsSome, IsNone, IfSome}
use Rattle.um_laws.specs.Rational.{Rational}
use Rattle.um_multipliers.specs.PlainMultipliers.{MultipliersValue}
use Rattle.um_model.specs.Values.{DeckValue, PointValue}
use Rattle.um_model.specs.WellFormed.{IsDeck}
use Rattle.um_model.specs.Boxes.{BoxValue}
use Rattle.um_model.specs.Rays.{Ray}
use Rattle.um_model.specs.AnswerValues.{NodeValue, OpenLeaf}
use Rattle.um_model.specs.declared.answer.Why.{Why}
use Rattle.um_model.specs.declared.answer.Why.TheVariants as why
use Rattle.um_model.specs.declared.tree.Solved.{Solved}
use Rattle.um_lp.specs.States.{State}
use Rattle.um_lp.specs.DualSteps.{IsNext, Ended}
use Rattle.um_lp.specs.declared.board.Costs.TheVariants.{Nothing}
use Rattle.um_duality.specs.Readings.{multipliers, vertex}
use Rattle.um_duality.specs.Relaxed.{StandsFor}
use Rattle.um_relax.specs.Runs.{IsRun}
use Rattle.um_solving.specs.RootBoxes.{IsWithinRoot}
use Rattle.um_solving.specs.Solvings.{AtVertex, IsUnread, OwnMultipliers, VertexValues, FarkasMultipliers}
use Rattle.um_solving.proofs.Goings.{next-law}
use Rattle.um_solving.proofs.NoCosts.{no-costs-vertex-law}
use Rattle.um_relax.proofs.Runs.{same-costs-law}
use Rattle.um_opening.specs.Numbers.{Begins, Onward, WithCosts, WithoutCosts, MayGoOn}
use Rattle.um_opening.specs.Openings.{ShowsRay}
use Rattle.um_opening.proofs.Begun.{begun-law, begun-without-law, shown-ray-law}
use Rattle.um_tree.specs.Growths.{GrowthValue, IsGrowth, node_at, what_at, origin_at}
use Rattle.um_tree.specs.declared.growing.Origin.{Origin}
use Rattle.um_cover.specs.Descents.{SplitsFit}
use Rattle.um_cover.specs.Nodes.{NodesAre, bounds_by}
use Rattle.um_cover.specs.Sites.{box_at}
use Rattle.um_progress.specs.declared.incumbent.Incumbent.{Incumbent}
use Rattle.um_progress.specs.Waits.{Every}
use Rattle.um_progress.specs.Incumbents.{objective_of}
use Rattle.um_progress.specs.Numbers.{Number, IsNumbered}
use Rattle.um_turns.specs.Turns.{Turn, TurnEnd, Reached, Emptied, Halted, RunStopped, EndHolds, Became, IsFinished, kept_multipliers}
use Rattle.um_turns.specs.Histories.{History, IsHistory, IsHanded, AreChained, AreFinished, ray_of}
use Rattle.um_turns.proofs.Going.{ran_of}
use Rattle.um_turns.proofs.Lists.{every_at}
use Rattle.um_turns.proofs.TreeWithin.{box_within}
use Rattle.um_loop.proofs.TreeBoxes.{splits_fit}
use Rattle.um_search.specs.Told.{IsOneAndNone, HaveOneAndNone, IsEndedBy, IsHaltedLast, OpenLeavesAreHanded}
use Rattle.um_search.proofs.EndlessLeaves.{unbounded_node}

-- ---- the end of a run that is begun without costs

-- the multipliers that are read at the end of a turn are 1 and none, but for those of Farkas
abbrev IsPlainEnd : TurnEnd → Type 0
IsPlainEnd (Reached p y) = IsOneAndNone y
IsPlainEnd (Emptied y) = Unit {0}
IsPlainEnd (Halted cause own) = IfSome own IsOneAndNone

not_read : (own : Option MultipliersValue) → own ≡ None → IfSome own IsOneAndNone
not_read own is = subst (λ (o : Option MultipliersValue). IfSome o IsOneAndNone) (sym is) tt

module _ (d : DeckValue) (b : BoxValue) (begun : State) (stands : StandsFor d begun) (none : begun.costs ≡ Nothing) where
  at_vertex : (steps : ℕ) (s : State) (p : PointValue) (y : MultipliersValue) → AtVertex d b begun steps s p y → IsOneAndNone y
  at_vertex steps s p y h = no-costs-vertex-law d b begun steps s p y stands none h

  own_read : (steps : ℕ) (s : State) (own : Option MultipliersValue) → IsRun d b begun steps s → IsNext s Ended → own ≡ Some (multipliers s) → IfSome own IsOneAndNone
  own_read steps s own run ended is =
      subst (λ (o : Option MultipliersValue). IfSome o IsOneAndNone) (sym is) (at_vertex steps s (vertex s) (multipliers s) (record { run = run; ended = ended; point = refl; multipliers = refl }))

  own_unread : (steps : ℕ) (s : State) (own : Option MultipliersValue) → IsRun d b begun steps s → IsUnread s own → IfSome own IsOneAndNone
  own_unread steps s own run (OwnMultipliers ended is) = not_read own is
  own_unread steps s own run (VertexValues ended is small) = own_read steps s own run ended is
  own_unread steps s own run (FarkasMultipliers row ended is) = not_read own is

  own_stopped : (after : State) (early steps left number : ℕ) (cause : Why) (own : Option MultipliersValue) → RunStopped d b begun after early steps left number cause own → IfSome own IsOneAndNone
  own_stopped after early steps left number why.Nodes own h = absurd h
  own_stopped after early steps left number why.Pivots own h = not_read own h.unread
  own_stopped after early steps left number (why.Points column) own h = absurd h
  own_stopped after early steps left number (why.Grid told) own h = subst (λ (o : Option MultipliersValue). IfSome o IsOneAndNone) (sym h.are) (at_vertex steps after h.point h.own_is h.vertex)
  own_stopped after early steps left number (why.Pivot told step wide) own h = not_read own h.unread
  own_stopped after early steps left number (why.Value told step wide) own (inl h) = not_read own h.unread
  own_stopped after early steps left number (why.Value told step wide) own (inr h) = own_unread steps h.state own h.run h.unread
  own_stopped after early steps left number (why.Leaf told) own h = not_read own h.unread
  own_stopped after early steps left number (why.Vertex told) own h = own_read steps h.state own h.run h.ended h.multipliers
  own_stopped after early steps left number why.Ray own h = absurd h

-- ---- the beginning of a run

some_none : (ray : Option (List ℤ)) → IsSome ray → ray ≡ None → ⊥
some_none None some none = absurd (cc)
some_none (Some x) some none = absurd (cc)

-- the first number shows a ray, and a later one goes on without costs
begun_plain : (d : DeckValue) (number : ℕ) (before : State) (early : ℕ) (ray : Option (List ℤ)) (begun : State) → (number ≡ 1 → IsSome ray) → (number ≢ 1 → before.costs ≡ Nothing) → Begins d number before early ray begun → begun.costs ≡ Nothing
begun_plain d number before early ray begun first later (Onward other none_early no_ray same) = ap (λ (s : State). s.costs) same ∙ later other
begun_plain d number before early ray begun first later (WithCosts one no_ray h) = absurd (some_none ray (first one) no_ray)
begun_plain d number before early ray begun first later (WithoutCosts one shown is h) = begun-without-law d number before early shown begun (WithoutCosts one shown refl h)

-- ---- the turns

-- the board on which the next number is solved takes no costs, but for number 1
record IsPlainBoard (d : DeckValue) (number : ℕ) (s : State) : Type 0 where
  pub may : MayGoOn d number s
  pub costs : number ≢ 1 → s.costs ≡ Nothing

turn_plain : (d : DeckValue) (b : BoxValue) (t : Turn) (pivots number : ℕ) (e : TurnEnd) → d.arcs ≡ [] → IsPlainBoard d number t.before → (number ≡ 1 → IsSome t.ray) → EndHolds d b t pivots number e → IsPlainEnd e
turn_plain d b t pivots number (Reached p y) arcs board first r =
    at_vertex d b r.begun (begun-law d number t.before r.early t.ray r.begun arcs board.may r.begins).stands (begun_plain d number t.before r.early t.ray r.begun first board.costs r.begins) r.steps t.after p y r.holds
turn_plain d b t pivots number (Emptied y) arcs board first r = tt
turn_plain d b t pivots number (Halted cause own) arcs board first (inl r) =
    own_stopped d b r.begun (begun-law d number t.before r.early t.ray r.begun arcs board.may r.begins).stands (begun_plain d number t.before r.early t.ray r.begun first board.costs r.begins) t.after r.early r.steps (t.left - r.early) number cause own r.holds
turn_plain d b t pivots number (Halted cause own) arcs board first (inr o) = not_read own o.unread

-- the turn of a number, on some box within the root box
record WasRun (d : DeckValue) (n : Number Turn) (number : ℕ) : Type 0 where
  pub box : BoxValue
  pub within : IsWithinRoot d box
  pub holds : EndHolds d box n.told n.pivots number n.told.end

-- the turns from this number on
abbrev WereRun : DeckValue → ℕ → History → Type 0
WereRun d number [] = Unit {0}
WereRun d number (n ∷ ns) = WasRun d n number × WereRun d (suc number) ns

were_run : (d : DeckValue) (number : ℕ) (ns : History) → ((k : ℕ) (n : Number Turn) → slice_get ns k ≡ Some n → WasRun d n (number + k)) → WereRun d number ns
were_run d number [] f = tt
were_run d number (n ∷ ns) f = (
  subst (WasRun d n) (let e : number + 0 ≡ number = omega arith in e) (f 0 n refl),
  were_run d (suc number) ns (λ k m e. subst (WasRun d m) (let s : number + suc k ≡ suc number + k = omega arith in s) (f (suc k) m e)),
)

-- no turn but the last stopped the search
abbrev AreFinishedToLast : History → Type 0
AreFinishedToLast [] = Unit {0}
AreFinishedToLast (n ∷ ns) = (ns ≢ [] → IsFinished n.told.end) × AreFinishedToLast ns

all_finished : (ns : History) → AreFinished ns → AreFinishedToLast ns
all_finished [] f = tt
all_finished (n ∷ ns) f = (λ more. f.0, all_finished ns f.1)

last_halted : (ns : History) (last : Number Turn) → AreFinished ns → AreFinishedToLast (ns ++ last ∷ [])
last_halted [] last f = (λ more. absurd (more refl), tt)
last_halted (n ∷ ns) last f = (λ more. f.0, last_halted ns last f.1)

halted_last : (history : History) (cause : Why) → IsHaltedLast history cause → AreFinishedToLast history
halted_last history cause h = subst AreFinishedToLast (sym h.history_is) (last_halted h.before h.last h.finished)

ended_finished : (history : History) (cause : Option Why) → IsEndedBy history cause → AreFinishedToLast history
ended_finished history None h = all_finished history h
ended_finished history (Some why.Nodes) h = all_finished history h
ended_finished history (Some why.Pivots) h = halted_last history why.Pivots h
ended_finished history (Some (why.Points column)) h = halted_last history (why.Points column) h
ended_finished history (Some (why.Grid number)) h = halted_last history (why.Grid number) h
ended_finished history (Some (why.Pivot number step wide)) h = halted_last history (why.Pivot number step wide) h
ended_finished history (Some (why.Value number step wide)) h = halted_last history (why.Value number step wide) h
ended_finished history (Some (why.Leaf number)) h = halted_last history (why.Leaf number) h
ended_finished history (Some (why.Vertex number)) h = halted_last history (why.Vertex number) h
ended_finished history (Some why.Ray) h = halted_last history why.Ray h

module _ (d : DeckValue) (formed : IsDeck d) (arcs : d.arcs ≡ []) where
  after_plain : (number : ℕ) (n : Number Turn) → number ≢ 0 → IsPlainBoard d number n.told.before → (number ≡ 1 → IsSome n.told.ray) → WasRun d n number → IsFinished n.told.end → IsPlainBoard d (suc number) n.told.after
  after_plain number n some board first was finished =
      let ran = ran_of d was.box n.told n.pivots number n.told.end was.holds finished in
      let begun = begun-law d number n.told.before ran.early n.told.ray ran.begun arcs board.may ran.begins in
      record {
        may = record {
          board = ran.run.board;
          first = λ one. absurd (some (omega (arith, one)));
          later = λ _. next-law d was.box ran.begun ran.steps n.told.after formed was.within begun.stands ran.run;
        };
        costs = λ _. same-costs-law d was.box ran.begun ran.steps n.told.after ran.run ∙ begun_plain d number n.told.before ran.early n.told.ray ran.begun first board.costs ran.begins;
      }

  all_plain : (number : ℕ) (s : State) (left : ℕ) (ns : History) → number ≢ 0 → (ns ≢ [] → IsPlainBoard d number s) → (number ≡ 1 → IsSome (ray_of ns)) → AreChained s left ns → WereRun d number ns → AreFinishedToLast ns → Every (λ (n : Number Turn). IsPlainEnd n.told.end) ns
  all_plain number s left [] some board first c w f = tt
  all_plain number s left (n ∷ ns) some board first c w f =
      let before : IsPlainBoard d number n.told.before = subst (IsPlainBoard d number) (sym c.0) (board (λ e. absurd (cc))) in (
        turn_plain d w.0.box n.told n.pivots number n.told.end arcs before first w.0.holds,
        all_plain (suc number) n.told.after (left - n.pivots) ns (λ e. absurd (cc)) (λ more. after_plain number n some before first w.0 (f.0 more)) (λ one. absurd (some (omega (arith, one)))) c.3 w.1 f.1,
      )

-- ---- the leaves

open_node : (n : NodeValue) (y : MultipliersValue) → n.solved ≡ None → n.what ≡ OpenLeaf y → n ≡ record { solved = None; what = OpenLeaf y }
open_node n y none is = λ i. record { solved = none i; what = is i }

kept_plain : (handed : MultipliersValue) (own : Option MultipliersValue) → IsOneAndNone handed → IfSome own IsOneAndNone → IsOneAndNone (kept_multipliers handed own)
kept_plain handed None h o = h
kept_plain handed (Some y) h o = o

became_plain : (d : DeckValue) (handed : MultipliersValue) (e : TurnEnd) (z : MultipliersValue) → IsOneAndNone handed → IsPlainEnd e → Became d handed e (OpenLeaf z) → IsOneAndNone z
became_plain d handed (Reached p y) z h plain became = absurd became
became_plain d handed (Emptied y) z h plain became = absurd became
became_plain d handed (Halted cause own) z h plain became = became ∙ kept_plain handed own h plain

module _ (d : DeckValue) (formed : IsDeck d) (arcs : d.arcs ≡ []) (start : State) (most : ℕ) (g : GrowthValue) (history : History) (growth : IsGrowth g) (fit : SplitsFit d g) (numbered : IsNumbered Turn g history) (told : IsHistory d start most g history) (handed : OpenLeavesAreHanded g history) (finished : AreFinishedToLast history) (shown : IsSome (ray_of history)) where
  ran : (place : ℕ) (n : Number Turn) → slice_get history place ≡ Some n → WasRun d n (suc place)
  ran place n e = record { box = box_at d g n.id; within = box_within d g n.id formed growth fit (numbered.inside place n e); holds = (told.holds place n e).run }

  plain_ends : Every (λ (n : Number Turn). IsPlainEnd n.told.end) history
  plain_ends =
      all_plain d formed arcs 1 start most history (λ e. absurd (cc))
      (λ _. record { may = record { board = told.board; first = λ _. told.starts; later = λ later. absurd (later refl) }; costs = λ later. absurd (later refl) })
      (λ _. shown) told.chained
      (were_run d 1 history (λ place n e. subst (WasRun d n) (let s : suc place ≡ 1 + place = omega arith in s) (ran place n e))) finished

  handed_plain : (o : Option Origin) (y : MultipliersValue) → IsHanded history o y → IsOneAndNone y
  handed_plain None y h = h
  handed_plain (Some o) y h = subst IsPlainEnd h.vertex (every_at (λ (n : Number Turn). IsPlainEnd n.told.end) history h.place h.number plain_ends h.here)

  -- with a number, and without one
  solved_plain : (id : ℕ) (y : MultipliersValue) (s : Solved) → id < length g.nodes → what_at g id ≡ OpenLeaf y → (node_at g id).solved ≡ Some s → IsOneAndNone y
  solved_plain id y s inside is some =
      let b = numbered.only id inside s some in
      let n : Number Turn = b.1 in
      let t = told.holds b.0 n b.2 in
      became_plain d n.told.handed n.told.end y (handed_plain (origin_at g n.id) n.told.handed t.handed) (every_at (λ (m : Number Turn). IsPlainEnd m.told.end) history b.0 n plain_ends b.2)
      (subst (Became d n.told.handed n.told.end) (ap (what_at g) b.3 ∙ is) t.became)

  leaf_plain : (id : ℕ) (y : MultipliersValue) → id < length g.nodes → what_at g id ≡ OpenLeaf y → IsOneAndNone y
  leaf_plain id y inside is = by (node_at g id).solved refl
    where
      by : (s : Option Solved) → (node_at g id).solved ≡ s → IsOneAndNone y
      by None none = handed_plain (origin_at g id) y (handed id inside y (open_node (node_at g id) y none is))
      by (Some s) some = solved_plain id y s inside is some

-- ---- the ray that is shown
begins_shows : (d : DeckValue) (before : State) (early : ℕ) (ray : Option (List ℤ)) (begun : State) → IsSome ray → Begins d 1 before early ray begun → (steps : ℕ) × (shown : List ℤ) × ShowsRay d before steps shown
begins_shows d before early ray begun some (Onward other none_early no_ray same) = absurd (other refl)
begins_shows d before early ray begun some (WithCosts one no_ray h) = absurd (some_none ray some no_ray)
begins_shows d before early ray begun some (WithoutCosts one shown is h) = (early, shown, h.shows)

turn_shows : (d : DeckValue) (b : BoxValue) (t : Turn) (pivots : ℕ) (e : TurnEnd) → IsSome t.ray → EndHolds d b t pivots 1 e → (steps : ℕ) × (shown : List ℤ) × ShowsRay d t.before steps shown
turn_shows d b t pivots (Reached p y) some r = begins_shows d t.before r.early t.ray r.begun some r.begins
turn_shows d b t pivots (Emptied y) some r = begins_shows d t.before r.early t.ray r.begun some r.begins
turn_shows d b t pivots (Halted cause own) some (inl r) = begins_shows d t.before r.early t.ray r.begun some r.begins
turn_shows d b t pivots (Halted cause own) some (inr o) = absurd (some_none t.ray some o.no_ray)

shown_ray : (d : DeckValue) (start : State) (most : ℕ) (g : GrowthValue) (history : History) → IsDeck d → d.arcs ≡ [] → IsHistory d start most g history → IsSome (ray_of history) → (ray : List ℤ) × Ray d ray
shown_ray d start most g [] formed arcs told some = absurd (cc)
shown_ray d start most g (n ∷ ns) formed arcs told some =
    let h = turn_shows d (box_at d g n.id) n.told n.pivots n.told.end some (told.holds 0 n refl).run in
    (h.1, shown-ray-law d start h.0 h.1 formed arcs told.starts told.board (subst (λ (s : State). ShowsRay d s h.0 h.1) told.chained.0 h.2))

-- ---- all together
module _ (d : DeckValue) (formed : IsDeck d) (arcs : d.arcs ≡ []) (start : State) (most : ℕ) (g : GrowthValue) (i : Option Incumbent) (history : History) (cause : Option Why) (growth : IsGrowth g) (nodes : NodesAre d (objective_of i) (pos 0) g) (numbered : IsNumbered Turn g history) (told : IsHistory d start most g history) (handed : OpenLeavesAreHanded g history) (ended : IsEndedBy history cause) (shown : IsSome (ray_of history)) where
  fits : SplitsFit d g
  fits = splits_fit d (objective_of i) (pos 0) g nodes

  pub have_one_and_none : HaveOneAndNone g
  have_one_and_none = leaf_plain d formed arcs start most g history growth fits numbered told handed (ended_finished history cause ended) shown

  -- no node has a bound, where there is no best point
  pub no_bounds : IsNone i → (id : ℕ) (x : Rational) → id < length g.nodes → ¬ (bounds_by d g id ≡ Some x ∷ [])
  no_bounds none =
      let ray = shown_ray d start most g history formed arcs told shown in
      unbounded_node d formed arcs ray.0 ray.1 g i none nodes (λ id inside. box_within d g id formed growth fits inside) have_one_and_none
