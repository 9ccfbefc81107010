-- The verdict on an answer.
use Rattle.std.specs.Prelude.{◌≡◌}
use Rattle.um_model.specs.Values.{DeckValue}
use Rattle.um_model.specs.AnswerValues.{AnswerValue}
use Rattle.um_model.specs.Accepted.{IsVerdict}
use Rattle.um_model.specs.Right.{IsRight}
use Rattle.um_model.specs.declared.verdict.Verdict.{Verdict}
use Rattle.um_model.specs.declared.verdict.Verdict.TheVariants.{Yes}

-- this is the verdict on the answer; and where it is yes, the answer is right
pub record IsFinding (d : DeckValue) (a : AnswerValue) (v : Verdict) : Type 0 where
  pub verdict : IsVerdict d a v
  pub right : v ≡ Yes → IsRight d a
