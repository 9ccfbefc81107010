-- How a refused reading ends a node.
use Rattle.std.proofs.Common.{◌≡◌, ℕ, ◌^◌, Some, None, Result, Ok, Err, refl, sym, ap, subst, inl, inr}
use Rattle.std.specs.Prelude.{IfOk, IsErr}
use Rattle.um_num.specs.declared.Memory.{Memory}
use Rattle.um_model.specs.Values.{DeckValue}
use Rattle.um_model.specs.Boxes.{BoxValue}
use Rattle.um_model.specs.declared.answer.Why.TheVariants as why
use Rattle.um_multipliers.specs.declared.multipliers.Multipliers.{Multipliers}
use Rattle.um_multipliers.specs.PlainMultipliers.{plain_multipliers}
use Rattle.um_multipliers.specs.Sizes.{AreBelow}
use Rattle.um_lp.specs.States.{State}
use Rattle.um_lp.specs.DualSteps.{IsNext, Ended, NoPoint}
use Rattle.um_duality.specs.Readings.{multipliers, slack_costs, natural_values}
use Rattle.um_relax.specs.Limits.{AreSmall, HasLargeFarkas}
use Rattle.um_relax.specs.Refusals.{IsRefusedReading}
use Rattle.um_relax.specs.declared.large.Large.{Large}
use Rattle.um_relax.specs.declared.large.Large.TheVariants as large
use Rattle.um_solving.specs.Solvings.{OwnMultipliers, VertexValues, FarkasMultipliers}
use Rattle.um_solving.specs.Endings.{HasEndedAs, RefusedAs}
use Rattle.um_solving.specs.declared.node.NodeEnd.{NodeEnd}
use Rattle.um_solving.specs.declared.node.NodeEnd.TheVariants as end

module _ (d : DeckValue) (b : BoxValue) (step number : ℕ) (s : State) (result : Result NodeEnd Memory) where
  -- the reading ended the node, or found no memory
  abbrev HasEnding : Result NodeEnd Memory → Type 0
  HasEnding r = IfOk r (λ e. HasEndedAs d b step number e s)

  none_read : (r : Result NodeEnd Memory) → IsErr r → HasEnding r
  none_read (Ok e) h = absurd (cc)
  none_read (Err m) h = tt

  ended : (e : NodeEnd) → result ≡ Ok e → HasEndedAs d b step number e s → HasEnding result
  ended e is h = subst HasEnding (sym is) h

  -- the multipliers of a vertex are too large
  pub large_multipliers : (how : Large) → IsNext s Ended → IsRefusedReading s (¬ AreSmall (2 ^ 40) (slack_costs s)) how → RefusedAs how (why.Leaf number) number step None result → HasEnding result
  large_multipliers large.Large next h is = ended (end.Stopped (why.Leaf number) None) is (λ before early pivots left at run. record { state = s; run = run; same = refl; cause = inl (next, h); unread = refl })
  large_multipliers (large.Wide w) next h is = ended (end.Stopped (why.Value number step w) None) is (λ before early pivots left at run. inr (record { state = s; run = run; same = refl; at = at; refused = h; unread = OwnMultipliers next refl }))
  large_multipliers large.Memory next h is = none_read result is

  -- those of Farkas are
  pub large_farkas : (row : ℕ) (how : Large) → IsNext s (NoPoint row) → IsRefusedReading s (HasLargeFarkas (2 ^ 40) s row) how → RefusedAs how (why.Leaf number) number step None result → HasEnding result
  large_farkas row large.Large next h is = ended (end.Stopped (why.Leaf number) None) is (λ before early pivots left at run. record { state = s; run = run; same = refl; cause = inr (row, next, h); unread = refl })
  large_farkas row (large.Wide w) next h is = ended (end.Stopped (why.Value number step w) None) is (λ before early pivots left at run. inr (record { state = s; run = run; same = refl; at = at; refused = h; unread = FarkasMultipliers row next refl }))
  large_farkas row large.Memory next h is = none_read result is

  -- the vertex is, and its multipliers are read
  pub large_vertex : (y : Multipliers) (how : Large) → IsNext s Ended → plain_multipliers y ≡ multipliers s → AreBelow (2 ^ 40) (plain_multipliers y) → IsRefusedReading s (¬ AreSmall (2 ^ 36) (natural_values s)) how
      → RefusedAs how (why.Vertex number) number step (Some y) result → HasEnding result
  large_vertex y large.Large next read small h is =
      ended (end.Stopped (why.Vertex number) (Some y)) is (λ before early pivots left at run. record { state = s; run = run; same = refl; ended = next; large = h; multipliers = ap Some read; small = subst (AreBelow (2 ^ 40)) read small })
  large_vertex y (large.Wide w) next read small h is =
      ended (end.Stopped (why.Value number step w) (Some y)) is (λ before early pivots left at run. inr (record { state = s; run = run; same = refl; at = at; refused = h; unread = VertexValues next (ap Some read) (subst (AreBelow (2 ^ 40)) read small) }))
  large_vertex y large.Memory next read small h is = none_read result is
