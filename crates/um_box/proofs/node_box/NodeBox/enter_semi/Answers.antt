use Rattle.std.proofs.Common.{subst}
use Rattle.um_model.specs.WellFormed.{IsDeck}
use Rattle.um_model.specs.Branches.{threshold_of}
use Rattle.um_box.proofs.CurveEnds.{not_semi}
use Rattle.um_box.proofs.node_box.NodeBox.enter_semi.Goals as goal

pub put_low-requires-clause-curve : goal.put_low-requires-clause-curve
put_low-requires-clause-curve c h =
    let d = c.args.self.now.deck in
    absurd (not_semi d c.args.column (subst IsDeck c.deck.ensures c.known.ensures.formed) h (threshold_of d c.args.column) c.requires.kind)
