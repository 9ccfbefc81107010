use Rattle.um_round.proofs.Assembly.{round-law}
use Rattle.um_round.proofs.laws.round_law.Goals as goal

pub returns : goal.returns
returns c = round-law
