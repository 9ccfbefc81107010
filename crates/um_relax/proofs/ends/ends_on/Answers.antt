use Rattle.std.proofs.Common.{get_or, None, arith}
use Rattle.um_relax.proofs.BoxEnds.{AreSlackEnds, read_ordered, slack_pair, slack_keeps}
use Rattle.um_relax.proofs.ends.ends_on.Goals as goal

pub returns-then-column-relaxation-clause-ordered : goal.returns-then-column-relaxation-clause-ordered
returns-then-column-relaxation-clause-ordered c =
    read_ordered c.args.node.now.deck c.args.node.now.limits c.args.column c.ends-low.result c.wide.result c.wide-then-column-relaxation.result c.requires.full (omega (arith, c.requires.relaxed.columns)) c.ends-low.ensures c.wide.ensures c.wide-then-column-relaxation.ensures

pub returns-else-column-relaxation-clause-ends : goal.returns-else-column-relaxation-clause-ends
returns-else-column-relaxation-clause-ends c =
    slack_pair c.args.node.now.deck c.args.node.now.limits c.args.relaxation.now c.args.column c.as_slice.result.now c.as_slice-else-column-relaxation.result.now c.requires.relaxed c.if-column-relaxation.false c.as_slice.ensures
    c.as_slice-else-column-relaxation.ensures

keeps : (c : goal.After-result-else-column-relaxation-1) → AreSlackEnds (get_or c.as_slice.result.now c.args.column None, get_or c.as_slice-else-column-relaxation.result.now c.args.column None)
keeps c =
    slack_keeps c.args.node.now.deck c.deck.result.now c.args.node.now.limits c.args.relaxation.now c.args.column c.as_slice.result.now c.as_slice-else-column-relaxation.result.now c.known-2.ensures c.deck.ensures c.requires.relaxed
    c.if-column-relaxation.false c.as_slice.ensures c.as_slice-else-column-relaxation.ensures

pub returns-else-column-relaxation-clause-low_in : goal.returns-else-column-relaxation-clause-low_in
returns-else-column-relaxation-clause-low_in c = (keeps c).low

pub returns-else-column-relaxation-clause-high_in : goal.returns-else-column-relaxation-clause-high_in
returns-else-column-relaxation-clause-high_in c = (keeps c).high

pub returns-else-column-relaxation-clause-ordered : goal.returns-else-column-relaxation-clause-ordered
returns-else-column-relaxation-clause-ordered c = (keeps c).ordered
