use Rattle.um_progress.proofs.Acts.{put_back_act}
use Rattle.um_progress.proofs.laws.putting_back_law.Goals as goal

pub returns : goal.returns
returns c = put_back_act (Unit {0})
