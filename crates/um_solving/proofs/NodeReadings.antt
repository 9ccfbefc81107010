-- What the ends of a node mean for the deck.
use Rattle.std.proofs.Common.{◌≡◌, ◌∙◌, ℕ, ◌^◌, pos, ◌<ℤ◌, ◌⊎◌, inl, inr, length, Some, None, sym, ap, subst, arith}
use Rattle.std.proofs.lemmas.Int.{ints}
use Rattle.std.specs.Prelude.{List}
use Rattle.um_num.specs.declared.exact.Wide.{Wide}
use Rattle.um_model.specs.Values.{DeckValue}
use Rattle.um_model.specs.Boxes.{BoxValue}
use Rattle.um_model.specs.Objective.{objective}
use Rattle.um_model.specs.LeafValue.{leaf_value, leaf_bound}
use Rattle.um_model.specs.Accepted.{IsEnded}
use Rattle.um_model.specs.declared.answer.Why.TheVariants as why
use Rattle.um_multipliers.specs.NormalForm.{HasRisingRows}
use Rattle.um_multipliers.specs.PlainMultipliers.{MultipliersValue}
use Rattle.um_multipliers.specs.Sizes.{AreBelow}
use Rattle.um_multipliers.specs.declared.multipliers.Price.{Price}
use Rattle.um_lp.specs.States.{State, Frame}
use Rattle.um_lp.proofs.Denominators.{denominator_positive}
use Rattle.um_duality.specs.Laws.{HoldsOnBox}
use Rattle.um_duality.specs.Readings.{multipliers, slack_costs, AreFarkas}
use Rattle.um_duality.specs.Relaxed.{StandsFor}
use Rattle.um_duality.specs.WholeMultiples.{whole_multiples}
use Rattle.um_duality.proofs.Multiples.{multiples-length}
use Rattle.um_duality.proofs.ReadNumbers.{costs-length}
use Rattle.um_duality.proofs.FeasibleVertex as FeasibleVertex
use Rattle.um_duality.proofs.StrongDuality.{strong-duality-law}
use Rattle.um_duality.proofs.NoPoint.{farkas-law}
use Rattle.um_relax.specs.Runs.{IsRun}
use Rattle.um_solving.specs.Laws.{VertexLaw, HeldLaw, EmptyLaw, StoppedLaw, OwnSays}
use Rattle.um_solving.specs.Solvings.{IsUnread, OwnMultipliers, VertexValues, FarkasMultipliers, WideEnds, WideReading}
use Rattle.um_solving.proofs.Prices.{rising_prices}
use Rattle.um_relax.proofs.Runs.{run_stands, on_box, same-costs-law}

positive_multipliers : (s : State) → pos 0 <ℤ (multipliers s).y0
positive_multipliers s = let h = denominator_positive (slack_costs s) in omega (arith, ints)

module _ (d : DeckValue) (b : BoxValue) (before : State) (pivots : ℕ) (s : State) (stands : StandsFor d before) (run : IsRun d b before pivots s) where
  -- there are as many rows as in the deck
  same_rows : s.frame.rows ≡ length d.rows
  same_rows = ap (λ (f : Frame). f.rows) (run_stands d b before pivots s stands run).frame

  rising_multipliers : HasRisingRows (length d.rows) (multipliers s).rows
  rising_multipliers =
      let count : length (whole_multiples (slack_costs s)) ≡ length d.rows = multiples-length (slack_costs s) ∙ costs-length s run.board.shape ∙ same_rows in
      rising_prices (length d.rows) (whole_multiples (slack_costs s)) count

  rising_farkas : (row : ℕ) (y : MultipliersValue) → AreFarkas s row y → HasRisingRows (length d.rows) y.rows
  rising_farkas row y h =
      let count : length h.numbers ≡ length d.rows = h.are.count ∙ same_rows in
      subst (λ (ps : List Price). HasRisingRows (length d.rows) ps) (sym h.rows) (rising_prices (length d.rows) h.numbers count)

pub held-law : HeldLaw
held-law d b before pivots s p y no_arcs stands h = record {
  holds = subst (HoldsOnBox d b) (sym h.point) (FeasibleVertex.vertex-law d b s (on_box d b before pivots s no_arcs stands h.run) h.ended);
  positive = subst (λ (m : MultipliersValue). pos 0 <ℤ m.y0) (sym h.multipliers) (positive_multipliers s);
  rising = subst (λ (m : MultipliersValue). HasRisingRows (length d.rows) m.rows) (sym h.multipliers) (rising_multipliers d b before pivots s stands h.run);
}

pub vertex-law : VertexLaw
vertex-law d b before pivots s p y no_arcs stands given h =
    let on = on_box d b before pivots s no_arcs stands h.run in
    let (value, value_is, bound_is) = strong-duality-law d b s on (same-costs-law d b before pivots s h.run ∙ given) in
    let held = held-law d b before pivots s p y no_arcs stands h in
    record {
      holds = held.holds;
      positive = held.positive;
      rising = held.rising;
      value = value;
      value_is = ap (leaf_value d b) h.multipliers ∙ value_is;
      bound_is = ap (λ (m : MultipliersValue). leaf_bound d m.y0 value) h.multipliers ∙ bound_is ∙ ap (objective d) (sym h.point);
    }

pub empty-law : EmptyLaw
empty-law d b before pivots s y no_arcs stands h =
    let empties = farkas-law d b s h.row y (on_box d b before pivots s no_arcs stands h.run) h.ended h.multipliers in
    record {
      empties = empties;
      sign = record { y0 = (let y0 = empties.y0 in omega (arith, ints)); ended = subst IsEnded (sym empties.value_is) tt };
      rising = rising_farkas d b before pivots s stands h.run h.row y h.multipliers;
    }

-- ---- the node's own multipliers where the search stopped at it

none_own : (d : DeckValue) (y : MultipliersValue) → Some y ≡ None → OwnSays d y
none_own d y e = absurd (cc)

module _ (d : DeckValue) (b : BoxValue) (before : State) (pivots : ℕ) (y : MultipliersValue) (stands : StandsFor d before) where
  own_says : (s : State) → IsRun d b before pivots s → Some y ≡ Some (multipliers s) → AreBelow (2 ^ 40) (multipliers s) → OwnSays d y
  own_says s run is below =
      let same : multipliers s ≡ y = cc in
      subst (OwnSays d) same (record { positive = positive_multipliers s; below = below; rising = rising_multipliers d b before pivots s stands run })

  unread_says : (s : State) → IsRun d b before pivots s → IsUnread s (Some y) → OwnSays d y
  unread_says s run (OwnMultipliers ended e) = none_own d y e
  unread_says s run (VertexValues ended own below) = own_says s run own below
  unread_says s run (FarkasMultipliers row no_point e) = none_own d y e

  value_says : (early number told step : ℕ) (w : Wide) → WideEnds d b before early pivots number told step w (Some y) ⊎ WideReading d b before early pivots number told step w (Some y) → OwnSays d y
  value_says early number told step w (inl h) = none_own d y h.unread
  value_says early number told step w (inr h) = unread_says h.state h.run h.unread

pub stopped-law : StoppedLaw
stopped-law d b before early pivots left number why.Nodes y stands h = absurd h
stopped-law d b before early pivots left number why.Pivots y stands h = none_own d y h.unread
stopped-law d b before early pivots left number (why.Points column) y stands h = absurd h
stopped-law d b before early pivots left number (why.Grid told) y stands h = absurd h
stopped-law d b before early pivots left number (why.Pivot told step wide) y stands h = none_own d y h.unread
stopped-law d b before early pivots left number (why.Value told step wide) y stands h = value_says d b before pivots y stands early number told step wide h
stopped-law d b before early pivots left number (why.Leaf told) y stands h = none_own d y h.unread
stopped-law d b before early pivots left number (why.Vertex told) y stands h = own_says d b before pivots y stands h.state h.run h.multipliers h.small
stopped-law d b before early pivots left number why.Ray y stands h = absurd h
