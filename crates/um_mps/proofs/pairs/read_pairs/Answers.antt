use Rattle.std.proofs.Common.{◌≡◌, ◌+◌, ◌∙◌, ap, [], get_or, length, arith}
use Rattle.um_decktext.specs.Numbers.{number}
use Rattle.um_mps.proofs.PairSteps.{second_broken}
use Rattle.um_mps.proofs.pairs.read_pairs.Goals as goal

pub returns-in-Err-clause-value : goal.returns-in-Err-clause-value
returns-in-Err-clause-value c =
    let long : length c.args.words.now ≡ c.args.from + 4 = omega arith in
    let place : c.args.from + 3 ≡ c.args.from + 2 + 1 = omega arith in
    second_broken c.args.words.now c.args.from _ _ long c.in_ok-first.ensures.value.1 (ap (λ n. number (get_or c.args.words.now n [])) place ∙ c.in-Err.ensures.value)
