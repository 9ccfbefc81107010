use Rattle.std.proofs.Common.{rules, sym, ◌∙◌, append-nil}
use Rattle.um_text.proofs.Puts.{refused, one_word_less, one_word_more, word_refused}
use Rattle.um_text.proofs.text.Text.words.Goals as goal

pub loop-word-init : goal.loop-word-init
loop-word-init c = (search rules, sym (append-nil c.args.self.now))

pub loop-word-preserved : goal.loop-word-preserved
loop-word-preserved c = (
  one_word_less (λ x. x.now) c.args.words.now c.loop-word.word-index _ _ _ (search rules) c.in_ok-word.ensures.ok ∙ c.loop-word.invariant.0,
  one_word_more (λ x. x.now) c.args.words.now c.loop-word.word-index _ _ _ _ (search rules) c.loop-word.invariant.1 c.in_ok-word.ensures.ok,
)

pub returns-in_err-word-clause-kept : goal.returns-in_err-word-clause-kept
returns-in_err-word-clause-kept c =
    refused c.from_residual.result (word_refused (λ x. x.now) c.args.words.now c.loop-word.word-index _ _ _ _ (search rules) c.loop-word.invariant.1 c.in_err-word.ensures.kept)
