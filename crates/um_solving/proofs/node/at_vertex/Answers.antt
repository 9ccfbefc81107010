use Rattle.std.proofs.Common.{◌∙◌, sym}
use Rattle.um_solving.proofs.Refusals.{large_multipliers, large_vertex}
use Rattle.um_solving.proofs.node.at_vertex.Goals as goal

pub multipliers-requires-clause-frame : goal.multipliers-requires-clause-frame
multipliers-requires-clause-frame g c = c.requires.stands.frame ∙ sym c.requires.frame

pub vertex-requires-clause-frame : goal.vertex-requires-clause-frame
vertex-requires-clause-frame g c = c.requires.stands.frame ∙ sym c.requires.frame

pub returns-in-Err : goal.returns-in-Err
returns-in-Err g c = large_multipliers c.args.node.now.deck c.args.node.now.limits c.args.step c.args.number (g.B.Board.state c.args.board.now) c.refused.result c.in-Err.large c.requires.ended c.in-Err.ensures.refused c.refused.ensures

pub returns-in-Err-vertex : goal.returns-in-Err-vertex
returns-in-Err-vertex g c =
    large_vertex c.args.node.now.deck c.args.node.now.limits c.args.step c.args.number (g.B.Board.state c.args.board.now) c.refused-in-Err-vertex.result c.in-Ok.y c.in-Err-vertex.large c.requires.ended c.in-Ok.ensures.value c.in-Ok.ensures.small
    c.in-Err-vertex.ensures.refused c.refused-in-Err-vertex.ensures
