use Rattle.std.proofs.Common.{rules, map, FitsSigned}
use Rattle.std.specs.Int.{w64}
use Rattle.um_model.specs.AnswerValues.{plain_node}
use Rattle.um_treetext.specs.Calls.{plain_values}
use Rattle.um_treetext.proofs.FaultSteps.{hands_on_at}
use Rattle.um_treetext.proofs.NumberWords.{short_bits}
use Rattle.um_treetext.proofs.ReadCheckable.{is_checkable}
use Rattle.um_treetext.proofs.ReadSteps.{front_fails, values_fail, nodes_fail, end_fails, text_read}
use Rattle.um_treetext.proofs.reading.read.Goals as goal

pub returns-in_err-front-clause-answer : goal.returns-in_err-front-clause-answer
returns-in_err-front-clause-answer c =
    hands_on_at _ c.in_err-front.field-0.0 _ _ c.from_residual.ensures.1
    (front_fails c.args.deck.now c.args.bytes.now c.of-lines.result c.in_err-front.field-0.0 c.of-lines.ensures c.in_err-front.ensures)

pub returns-in_err-values-clause-answer : goal.returns-in_err-values-clause-answer
returns-in_err-values-clause-answer c =
    hands_on_at _ c.in_err-values.field-0.0 _ _ c.from_residual-in_err-values.ensures.1
    (values_fail c.args.deck.now c.args.bytes.now c.of-lines.result _ _ c.in_err-values.field-0.0 c.of-lines.ensures c.in_ok-front.ensures c.in_err-values.ensures.values)

pub returns-in_err-tree-clause-answer : goal.returns-in_err-tree-clause-answer
returns-in_err-tree-clause-answer c =
    hands_on_at _ c.in_err-tree.field-0.0 _ _ c.from_residual-in_err-tree.ensures.1
    (nodes_fail c.args.deck.now c.args.bytes.now c.of-lines.result _ _ _ (plain_values c.in_ok-values.values) c.in_err-tree.field-0.0 c.of-lines.ensures c.in_ok-front.ensures c.in_ok-values.ensures.values c.in_err-tree.ensures)

pub returns-in_err-read_end-clause-answer : goal.returns-in_err-read_end-clause-answer
returns-in_err-read_end-clause-answer c =
    hands_on_at _ c.in_err-read_end.field-0.0 _ _ c.from_residual-in_err-read_end.ensures.1
    (end_fails c.args.deck.now c.args.bytes.now c.of-lines.result _ _ _ _ (plain_values c.in_ok-values.values) (map plain_node c.in_ok-tree.tree) c.in_err-read_end.field-0.0 c.of-lines.ensures c.in_ok-front.ensures c.in_ok-values.ensures.values c.in_ok-tree.ensures c.in_err-read_end.ensures)

pub returns-clause-answer : goal.returns-clause-answer
returns-clause-answer c =
    let fits : FitsSigned w64 c.in_ok-front.front.tolerance = search rules in
    rw (short_bits c.in_ok-front.front.tolerance fits)
    (text_read c.args.deck.now c.args.bytes.now c.of-lines.result _ _ _ _ c.in_ok-front.front (plain_values c.in_ok-values.values) (map plain_node c.in_ok-tree.tree) c.of-lines.ensures c.in_ok-front.ensures c.in_ok-values.ensures.values c.in_ok-tree.ensures c.in_ok-read_end.ensures)

pub returns-clause-checkable : goal.returns-clause-checkable
returns-clause-checkable c =
    let fits : FitsSigned w64 c.in_ok-front.front.tolerance = search rules in
    rw (short_bits c.in_ok-front.front.tolerance fits)
    (is_checkable c.args.deck.now c.args.bytes.now _
    (text_read c.args.deck.now c.args.bytes.now c.of-lines.result _ _ _ _ c.in_ok-front.front (plain_values c.in_ok-values.values) (map plain_node c.in_ok-tree.tree) c.of-lines.ensures c.in_ok-front.ensures c.in_ok-values.ensures.values c.in_ok-tree.ensures c.in_ok-read_end.ensures))
