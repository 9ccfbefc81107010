use Rattle.std.proofs.Common.{ℕ, ◌<◌, get_or}
use Rattle.um_model.specs.Values.{SetValue, plain_point}
use Rattle.um_model.specs.Feasible.{SetHolds}
use Rattle.um_split.proofs.branching.broken_set.Given as goal

abbrev pub invariant-loop-set : goal.invariant-loop-set
invariant-loop-set l = (k : ℕ) (d : SetValue) → k < l.set → SetHolds (plain_point l.point) k (get_or l.deck.sets k d)
