use Rattle.um_mps.proofs.LawSteps.{rule-law}
use Rattle.um_mps.proofs.laws.rule_law.Goals as goal

pub returns : goal.returns
returns c = rule-law
