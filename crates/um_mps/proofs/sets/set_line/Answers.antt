use Rattle.std.proofs.Common.{◌∙◌, ap}
use Rattle.um_mps.proofs.SetsKept.{weights_behind}
use Rattle.um_mps.proofs.sets.set_line.Goals as goal

pub returns-in-Ok-clause-place : goal.returns-in-Ok-clause-place
returns-in-Ok-clause-place c =
    c.keep_weights.ensures
    ∙ ap (λ w. record c.args.place.now { weights = w }) c.wants_weight.ensures
    ∙ weights_behind c.args.words.now c.args.place.now c.args.maker.now c.set_line.new.maker c.requires.weights c.in-Ok.ensures.0 c.in-Ok.ensures.1
