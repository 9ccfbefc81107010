use Rattle.um_solving.proofs.SetMembers.{members-law}
use Rattle.um_solving.proofs.laws.members_law.Goals as goal

pub returns : goal.returns
returns c = members-law
