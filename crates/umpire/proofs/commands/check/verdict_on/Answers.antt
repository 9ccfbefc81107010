use Rattle.std.proofs.Common.{subst}
use Rattle.um_model.specs.Accepted.{IsVerdict}
use Rattle.um_model.specs.AnswerValues.{plain_answer}
use Rattle.um_model.specs.Values.{DeckValue}
use Rattle.um_soundness.proofs.AcceptedTrees.{accepted-is-right-law}
use Rattle.umpire.proofs.commands.check.verdict_on.Goals as goal

pub returns-clause-ok : goal.returns-clause-ok
returns-clause-ok c =
    let a = plain_answer c.args.answer.now in
    let given : IsVerdict c.args.deck.now a c.verdict.result = subst (λ (d : DeckValue). IsVerdict d a c.verdict.result) c.in_ok-checker.ensures c.verdict.ensures.verdict in
    record {
      verdict = given;
      right = λ yes. accepted-is-right-law c.args.deck.now a c.known.ensures.formed (subst (IsVerdict c.args.deck.now a) yes given);
    }
