use Rattle.std.proofs.Common.{refl}
use Rattle.um_model.specs.Values.{plain_point}
use Rattle.um_split.proofs.FirstSets.{some_set}
use Rattle.um_split.proofs.branching.branch_of.Goals as goal

pub returns-clause-branch : goal.returns-clause-branch
returns-clause-branch c = some_set c.args.deck.now (plain_point c.args.point.now) (c.in_default.ensures.none.0 refl) (c.in_default-broken_semi.ensures.none.0 refl) c.broken_set.result c.broken_set.ensures.branch
