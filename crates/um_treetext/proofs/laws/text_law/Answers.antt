use Rattle.um_treetext.proofs.OneReading.{one_reading}
use Rattle.um_treetext.proofs.laws.text_law.Goals as goal

pub returns : goal.returns
returns c = one_reading
