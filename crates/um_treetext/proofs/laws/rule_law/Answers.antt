use Rattle.um_treetext.proofs.NoMemory.{no_memory}
use Rattle.um_treetext.proofs.laws.rule_law.Goals as goal

pub returns : goal.returns
returns c = no_memory
