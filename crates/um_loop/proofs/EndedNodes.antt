-- What is known of the numbers with which a node in hand ended.
use Rattle.std.proofs.Common.{◌≡◌, ◌≢◌, ◌∙◌, ℕ, suc, ◌-◌, ◌^◌, pos, inl, inr, [], ◌∷◌, List, length, Option, Some, None, refl, sym, ap, subst, ◌⊎◌, arith}
use Rattle.std.specs.Prelude.{ℤ, IfSome, IsNone, option_map}
use Rattle.um_num.specs.Listed.{Listed}
use Rattle.um_multipliers.specs.PlainMultipliers.{MultipliersValue, plain_multipliers}
use Rattle.um_multipliers.specs.Sizes.{AreBelow}
use Rattle.um_multipliers.specs.declared.multipliers.Multipliers.{Multipliers}
use Rattle.um_model.specs.Values.{DeckValue, PointValue, plain_point}
use Rattle.um_model.specs.WellFormed.{IsDeck}
use Rattle.um_model.specs.Accepted.{IsSmallPoint}
use Rattle.um_model.specs.Boxes.{BoxValue}
use Rattle.um_model.specs.declared.answer.Why.{Why}
use Rattle.um_lp.specs.States.{State}
use Rattle.um_lp.specs.declared.board.Costs.TheVariants.{Given}
use Rattle.um_duality.specs.Relaxed.{StandsFor}
use Rattle.um_cover.specs.Descents.{SplitsFit}
use Rattle.um_cover.specs.Sites.{box_at}
use Rattle.um_nodes.specs.declared.open_nodes.OpenNode.{OpenNode}
use Rattle.um_progress.specs.Incumbents.{objective_of}
use Rattle.um_solving.specs.RootBoxes.{IsWithinRoot}
use Rattle.um_solving.specs.Endings.{EndedAs}
use Rattle.um_solving.specs.Laws.{MayBegin, HeldSays, OwnSays}
use Rattle.um_solving.specs.Solvings.{StoppedBy}
use Rattle.um_solving.specs.declared.node.NodeEnd.{NodeEnd}
use Rattle.um_solving.specs.declared.node.NodeEnd.TheVariants as end
use Rattle.um_solving.proofs.NodeReadings.{held-law, vertex-law, empty-law, stopped-law}
use Rattle.um_opening.specs.Numbers.{Begins, NumberEndedAs, MayGoOn, parts_of}
use Rattle.um_opening.proofs.Begun.{begun-law, begun-costs-law}
use Rattle.um_turns.specs.Histories.{History}
use Rattle.um_turns.proofs.Going.{goes_on, going_costs, no_ray_later}
use Rattle.um_turns.proofs.TreeWithin.{box_within}
use Rattle.um_turns.proofs.Vertices.{vertex_point, feasible_vertex}
use Rattle.um_loop.specs.declared.search.Search.{Search}
use Rattle.um_loop.specs.Goings.{HasTaken}
use Rattle.um_loop.specs.Steps.{IsReadVertex, EndSays}
use Rattle.um_loop.proofs.TreeBoxes.{splits_fit}

-- ---- stopped in the run

own_says : (d : DeckValue) (b : BoxValue) (before : State) (early pivots left number : ℕ) (cause : Why) (own : Option MultipliersValue) → StandsFor d before → StoppedBy d b before early pivots left number cause own → IfSome own (OwnSays d)
own_says d b before early pivots left number cause None stands h = tt
own_says d b before early pivots left number cause (Some y) stands h = stopped-law d b before early pivots left number cause y stands h

own_plain : (d : DeckValue) (own : Option Multipliers) → IfSome (option_map plain_multipliers own) (OwnSays d) → IfSome own (λ y. OwnSays d (plain_multipliers y))
own_plain d None h = tt
own_plain d (Some y) h = h

-- no parts, and so no ray
no_parts : (r : Option (Listed ℤ)) → IsNone r → parts_of r ≡ None
no_parts None none = refl
no_parts (Some x) none = absurd (cc)

none_is : (r : Option (Listed ℤ)) → IsNone r → r ≡ None
none_is None none = refl
none_is (Some x) none = absurd (cc)

-- an empty history has no later number
not_empty : (history : History) → suc (length history) ≢ 1 → history ≢ []
not_empty [] later e = later refl
not_empty (n ∷ ns) later e = absurd (cc)

module _ (d : DeckValue) (start : State) (most : ℕ) (taken : OpenNode) (s : Search) (board : State) (left : ℕ) (t : HasTaken d start most taken s board left) (formed : IsDeck d) (plain : d.arcs ≡ []) where
  abbrev box : BoxValue
  box = box_at d s.growth taken.node

  abbrev history : History
  history = t.going.history

  abbrev number : ℕ
  number = suc (length history)

  fit : SplitsFit d s.growth
  fit = splits_fit d (objective_of s.incumbent) (pos 0) s.growth t.going.search.nodes

  -- the box of the node lies within the root box, and its number may be solved
  pub hand_within : IsWithinRoot d box
  hand_within = box_within d s.growth taken.node formed t.going.search.growth fit t.waits.fresh.inside

  pub hand_goes : MayGoOn d number board
  hand_goes = subst (MayGoOn d number) (sym t.going.board_is) (goes_on d start most s.growth history formed plain t.going.search.growth fit t.going.search.numbered t.going.told t.going.finished)

  -- without a ray the board takes the given costs, but for number 1
  given_before : s.ray ≡ None → number ≢ 1 → board.costs ≡ Given
  given_before none later =
      ap (λ (x : State). x.costs) t.going.board_is
      ∙ going_costs d start most s.growth history formed plain t.going.search.growth fit t.going.search.numbered t.going.told t.going.finished (sym t.going.ray_is ∙ ap parts_of none) (not_empty history later)

  -- at a vertex
  read_vertex : (p : PointValue) (y : MultipliersValue) → IsSmallPoint p → AreBelow (2 ^ 40) y → HeldSays d box p y → IsReadVertex d box p y
  read_vertex p y small below says = record {
    small = small;
    below = below;
    says = says;
    point = vertex_point d s.growth taken.node p formed plain t.going.search.growth fit t.waits.fresh.inside says.holds;
    feasible = feasible_vertex d s.growth taken.node p formed t.going.search.growth fit t.waits.fresh.inside says.holds;
  }

  -- the ray that is kept: number 1 keeps what it has shown, and a later one what was there
  module _ (shown kept : Option (Listed ℤ)) (first : number ≡ 1 → kept ≡ shown) (later : number ≢ 1 → kept ≡ s.ray) where
    -- without one the node is begun with the given costs
    begun_given : (early : ℕ) (begun : State) → Begins d number board early (parts_of shown) begun → IsNone kept → begun.costs ≡ Given
    begun_given early begun begins none = elim (one_or_not number) [
      | inl one ↦
          let no_shown : parts_of shown ≡ None = no_parts shown (subst (λ (r : Option (Listed ℤ)). IsNone r) (first one) none) in
          begun-costs-law d number board early begun plain hand_goes (subst (λ (r : Option (List ℤ)). Begins d number board early r begun) no_shown begins) (λ other. absurd (other one))
      | inr other ↦
          begun-costs-law d number board early begun plain hand_goes (subst (λ (r : Option (List ℤ)). Begins d number board early r begun) (no_ray_later d number board early (parts_of shown) begun other begins) begins)
          (given_before (none_is s.ray (subst (λ (r : Option (Listed ℤ)). IsNone r) (later other) none)))
    ]
      where
        one_or_not : (n : ℕ) → (n ≡ 1) ⊎ (n ≢ 1)
        one_or_not n = grind arith

    module _ (pivots : ℕ) (after : State) where
      -- in the run on its box, however it ended
      run_says : (begun : State) (early steps rest : ℕ) (e : NodeEnd) → Begins d number board early (parts_of shown) begun → EndedAs d box begun early steps rest number e after → EndSays d box kept e
      run_says begun early steps rest (end.Vertex point y) begins h =
          let may : MayBegin d begun = begun-law d number board early (parts_of shown) begun plain hand_goes begins in (
            read_vertex (plain_point point) (plain_multipliers y) h.1 h.2 (held-law d box begun steps after (plain_point point) (plain_multipliers y) plain may.stands h.0),
            λ none. vertex-law d box begun steps after (plain_point point) (plain_multipliers y) plain may.stands (begun_given early begun begins none) h.0,
          )
      run_says begun early steps rest (end.Empty y) begins h =
          let may : MayBegin d begun = begun-law d number board early (parts_of shown) begun plain hand_goes begins in
          (h.1, empty-law d box begun steps after (plain_multipliers y) plain may.stands h.0)
      run_says begun early steps rest (end.Stopped cause own) begins h =
          let may : MayBegin d begun = begun-law d number board early (parts_of shown) begun plain hand_goes begins in
          own_plain d own (own_says d box begun early steps rest number cause (option_map plain_multipliers own) may.stands h)

      pub end_says : (e : NodeEnd) → NumberEndedAs d box board pivots left number (record { end = e; ray = shown }) after → EndSays d box kept e
      end_says e (inl r) = run_says r.begun r.early r.steps (left - r.early) e r.begins r.holds
      end_says e (inr n) = subst (EndSays d box kept) (sym n.end_is) tt
