-- How a node ended.
use Rattle.std.specs.Prelude.{◌≡◌, ℕ, ◌+◌, Option, option_map, Result, Ok, IsErr}
use Rattle.um_num.specs.declared.Memory.{Memory}
use Rattle.um_model.specs.Values.{DeckValue, plain_point}
use Rattle.um_model.specs.Boxes.{BoxValue}
use Rattle.um_model.specs.Accepted.{IsSmallPoint}
use Rattle.um_model.specs.declared.answer.Why.{Why}
use Rattle.um_model.specs.declared.answer.Why.TheVariants as why
use Rattle.um_model.specs.declared.limits.TheConstants.{MULTIPLIER_SIZE}
use Rattle.um_multipliers.specs.declared.multipliers.Multipliers.{Multipliers}
use Rattle.um_multipliers.specs.PlainMultipliers.{plain_multipliers}
use Rattle.um_multipliers.specs.Sizes.{AreBelow}
use Rattle.um_lp.specs.States.{State}
use Rattle.um_relax.specs.declared.large.Large.{Large}
use Rattle.um_relax.specs.declared.large.Large.TheVariants as large
use Rattle.um_relax.specs.Runs.{IsRun}
use Rattle.um_solving.specs.Solvings.{AtVertex, WithoutPoint, StoppedBy}
use Rattle.um_solving.specs.declared.node.NodeEnd.{NodeEnd}
use Rattle.um_solving.specs.declared.node.NodeEnd.TheVariants as end

-- the node of this number, begun with the board in the one state after so many early pivots, ended with it in the other, after so many pivots more of those that were left; the numbers that a tree takes are small
abbrev pub EndedAs : DeckValue → BoxValue → State → ℕ → ℕ → ℕ → ℕ → NodeEnd → State → Type 0
EndedAs d b before early pivots left number (end.Vertex point y) after = AtVertex d b before pivots after (plain_point point) (plain_multipliers y) × IsSmallPoint (plain_point point) × AreBelow MULTIPLIER_SIZE (plain_multipliers y)
EndedAs d b before early pivots left number (end.Empty y) after = WithoutPoint d b before pivots after (plain_multipliers y) × AreBelow MULTIPLIER_SIZE (plain_multipliers y)
EndedAs d b before early pivots left number (end.Stopped cause own) after = StoppedBy d b before early pivots left number cause (option_map plain_multipliers own)

-- the node ended with the board in this state, after so many steps under its number, by any run that leads there, from whatever state and however many pivots were left; so many of the steps were made early
abbrev pub HasEndedAs : DeckValue → BoxValue → ℕ → ℕ → NodeEnd → State → Type 0
HasEndedAs d b step number e after = (before : State) (early pivots left : ℕ) → step ≡ early + pivots → IsRun d b before pivots after → EndedAs d b before early pivots left number e after

-- a reading of the node of this number was refused after so many pivots: with a large number for the given cause, with an operation out of range as a value, and without memory
abbrev pub RefusedAs : Large → Why → ℕ → ℕ → Option Multipliers → Result NodeEnd Memory → Type 0
RefusedAs large.Large cause number step own result = result ≡ Ok (end.Stopped cause own)
RefusedAs (large.Wide w) cause number step own result = result ≡ Ok (end.Stopped (why.Value number step w) own)
RefusedAs large.Memory cause number step own result = IsErr result
