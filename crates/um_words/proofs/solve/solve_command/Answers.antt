use Rattle.std.proofs.Common.{◌∙◌, ap₂}
use Rattle.std.proofs.lemmas.Result.{IfOk-weaker}
use Rattle.clap.specs.Words.{with_rule}
use Rattle.um_words.proofs.solve.solve_command.Goals as goal

pub returns : goal.returns
returns c = IfOk-weaker c.arg-4.result _ _ (λ m h. h.shape c.option-tree.ensures.local
    ∙ ap₂ with_rule (c.in_ok-arg-3.ensures.shape c.option-pivots.ensures.local
    ∙ ap₂ with_rule (c.in_ok-arg-2.ensures.shape c.option-nodes.ensures.local
    ∙ ap₂ with_rule (c.in_ok-arg.ensures.shape c.new-deck.ensures.optional.1
    ∙ ap₂ with_rule c.new.ensures.app c.new-deck.ensures.rule) c.option-nodes.ensures.rule) c.option-pivots.ensures.rule) c.option-tree.ensures.rule) c.arg-4.ensures
