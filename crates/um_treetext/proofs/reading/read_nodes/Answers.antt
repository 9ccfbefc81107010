use Rattle.std.proofs.Common.{◌∷◌, [], map, arith}
use Rattle.std.proofs.lemmas.List.{map-append, length_push}
use Rattle.um_model.specs.AnswerValues.{plain_node}
use Rattle.um_treetext.proofs.LineSteps.{reads_fails, said_ok, said_err, promised_ok, promised_err}
use Rattle.um_treetext.proofs.FaultSteps.{hands_on_at}
use Rattle.um_treetext.proofs.NodeSteps.{line_not_there, node_fails, more_read, all_nodes_read}
use Rattle.um_treetext.proofs.reading.read_nodes.Goals as goal

pub returns-in_err-next : goal.returns-in_err-next
returns-in_err-next c =
    reads_fails _ c.in_err-next.field-0.0 _ _ c.from_residual.ensures.1
    (line_not_there c.args.deck.now c.args.count c.loop-i.i c.args.lines.now c.loop-i.lines (map plain_node c.loop-i.tree) _ c.loop-i-test.true c.loop-i.invariant.read c.in_err-next.ensures)

pub returns-in_err-node : goal.returns-in_err-node
returns-in_err-node c =
    let s = said_err _ c.read_node.result c.at_line.result c.in_err-node.field-0.0 c.at_line.ensures c.in_err-node.was in
    let w = promised_err c.read_node.result _ _ _ s.0 c.read_node.ensures in
    hands_on_at _ c.in_err-node.field-0.0 _ _ c.from_residual-in_err-node.ensures.1
    (node_fails c.args.deck.now c.args.count c.loop-i.i c.args.lines.now c.loop-i.lines _ (map plain_node c.loop-i.tree) _ c.in_err-node.field-0.0 c.loop-i-test.true c.loop-i.invariant.read c.in_ok-next.ensures w s.1)

pub loop-i-preserved : goal.loop-i-preserved
loop-i-preserved c =
    let pushed = promised_ok c.push.result _ _ _ (said_ok _ c.push.result c.at_line-in-loop-i.result _ c.at_line-in-loop-i.ensures c.in_ok-at_line.was) c.push.ensures in
    let said = promised_ok c.read_node.result _ _ _ (said_ok _ c.read_node.result c.at_line.result _ c.at_line.ensures c.in_ok-node.was) c.read_node.ensures in
    let more = more_read c.args.deck.now c.args.count c.loop-i.i c.args.lines.now c.loop-i.lines _ (map plain_node c.loop-i.tree) _ _ c.loop-i-test.true c.loop-i.invariant.read c.in_ok-next.ensures said in
    let long = length_push c.loop-i.tree c.in_ok-node.node in
    let count = c.loop-i.invariant.count in
    rw pushed (record { count = omega (arith, long, count); read = rw (map-append plain_node c.loop-i.tree (c.in_ok-node.node ∷ [])) more })

pub returns : goal.returns
returns c = all_nodes_read c.args.deck.now c.args.count c.loop-i.i c.args.lines.now c.loop-i.lines (map plain_node c.loop-i.tree) c.loop-i-test.false c.loop-i.invariant.read
