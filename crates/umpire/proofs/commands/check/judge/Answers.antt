use Rattle.um_model.specs.AnswerValues.{plain_answer}
use Rattle.umpire.proofs.CheckCalls.{judged_ok, judged_err, tree_stopped}
use Rattle.umpire.proofs.commands.check.judge.Goals as goal

pub returns-in-Ok-clause-ok : goal.returns-in-Ok-clause-ok
returns-in-Ok-clause-ok g c =
    judged_ok (record { deck = c.args.deck_name.now; tree = c.args.tree_name.now }) c.in_ok-deck.deck (plain_answer c.in-Ok.answer) (g.D.Desk.scene c.args.desk.now) (g.D.Desk.scene c.read_deck.new.desk) (g.D.Desk.scene c.read_tree.new.desk) c.verdict_on.result c.in_ok-deck.ensures.ok c.in-Ok.ensures.ok c.verdict_on.ensures.ok

pub returns-in-Ok-clause-err : goal.returns-in-Ok-clause-err
returns-in-Ok-clause-err g c =
    judged_err (record { deck = c.args.deck_name.now; tree = c.args.tree_name.now }) c.in_ok-deck.deck (plain_answer c.in-Ok.answer) (g.D.Desk.scene c.args.desk.now) (g.D.Desk.scene c.read_deck.new.desk) (g.D.Desk.scene c.read_tree.new.desk) c.verdict_on.result c.in_ok-deck.ensures.ok c.in-Ok.ensures.ok c.verdict_on.ensures.err

pub returns-clause-err : goal.returns-clause-err
returns-clause-err g c =
    tree_stopped (record { deck = c.args.deck_name.now; tree = c.args.tree_name.now }) c.in_ok-deck.deck c.in-Err.stop (g.D.Desk.scene c.args.desk.now) (g.D.Desk.scene c.read_deck.new.desk) (g.D.Desk.scene c.read_tree.new.desk) c.in_ok-deck.ensures.ok c.in-Err.ensures.err
