use Rattle.std.proofs.Common.{inr}
use Rattle.um_mps.proofs.LoopSteps.{too_long}
use Rattle.um_mps.proofs.reader.read.Goals as goal

pub returns-then-bytes-gt-MOST_DECK_BYTES : goal.returns-then-bytes-gt-MOST_DECK_BYTES
returns-then-bytes-gt-MOST_DECK_BYTES c = inr (too_long c.args.bytes.now c.if-bytes-gt-MOST_DECK_BYTES.true)
