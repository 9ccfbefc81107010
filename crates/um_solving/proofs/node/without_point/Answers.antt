use Rattle.std.proofs.Common.{◌∙◌, sym}
use Rattle.um_solving.proofs.Refusals.{large_farkas}
use Rattle.um_solving.proofs.node.without_point.Goals as goal

pub farkas-requires-clause-frame : goal.farkas-requires-clause-frame
farkas-requires-clause-frame g c = c.requires.stands.frame ∙ sym c.requires.frame

pub returns-in-Err : goal.returns-in-Err
returns-in-Err g c = large_farkas c.args.node.now.deck c.args.node.now.limits c.args.step c.args.number (g.B.Board.state c.args.board.now) c.refused.result c.args.row c.in-Err.large c.requires.no_point c.in-Err.ensures.refused c.refused.ensures
