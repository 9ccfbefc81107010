use Rattle.std.proofs.Common.{◌≡◌, ◌∙◌, Some, rules}
use Rattle.um_model.specs.AnswerValues.{plain_answer}
use Rattle.umpire.proofs.SolveCalls.{kept_if, searched_as, solved_alone, solved_to, unread_as, unwritten_to}
use Rattle.umpire.proofs.commands.solve.find.Goals as goal

pub returns-in-Ok-clause-ok : goal.returns-in-Ok-clause-ok
returns-in-Ok-clause-ok g c =
    let before = g.D.Desk.scene c.args.desk.now in
    let between = g.D.Desk.scene c.read_searched.new.desk in
    let named : c.args.asked.now.tree ≡ Some c.as_text-2.result.now = search rules in
    solved_to c.args.asked.now c.as_text-2.result.now c.args.budget c.in_ok-deck.deck c.in_ok-answer.answer c.in_ok-report.report.items c.as_slice.result.now before between (g.D.Desk.scene c.write_file.new.desk) named
    (searched_as c.as_text.result.now c.args.asked.now.deck c.in_ok-deck.deck before between c.as_text.ensures c.in_ok-deck.ensures.ok) c.in_ok-answer.ensures.answers c.in_ok-report.ensures (c.as_slice.ensures ∙ c.in_ok-text.ensures) c.in-Ok.ensures.ok

pub returns-clause-err : goal.returns-clause-err
returns-clause-err g c =
    let before = g.D.Desk.scene c.args.desk.now in
    let between = g.D.Desk.scene c.read_searched.new.desk in
    let named : c.args.asked.now.tree ≡ Some c.as_text-2.result.now = search rules in
    unwritten_to c.args.asked.now c.as_text-2.result.now c.args.budget c.in_ok-deck.deck (plain_answer c.in_ok-answer.answer) before between (g.D.Desk.scene c.write_file.new.desk) named
    (searched_as c.as_text.result.now c.args.asked.now.deck c.in_ok-deck.deck before between c.as_text.ensures c.in_ok-deck.ensures.ok) c.in_ok-answer.ensures.answers c.in-Err.ensures.err

pub returns-in_default-clause-ok : goal.returns-in_default-clause-ok
returns-in_default-clause-ok g c =
    let before = g.D.Desk.scene c.args.desk.now in
    let between = g.D.Desk.scene c.read_searched.new.desk in
    solved_alone c.args.asked.now c.args.budget c.in_ok-deck.deck c.in_ok-answer.answer c.in_ok-report.report.items before between c.in_default.is
    (searched_as c.as_text.result.now c.args.asked.now.deck c.in_ok-deck.deck before between c.as_text.ensures c.in_ok-deck.ensures.ok) c.in_ok-answer.ensures.answers c.in_ok-report.ensures

pub returns-in_err-deck-clause-err : goal.returns-in_err-deck-clause-err
returns-in_err-deck-clause-err g c =
    let before = g.D.Desk.scene c.args.desk.now in
    let between = g.D.Desk.scene c.read_searched.new.desk in
    unread_as c.args.asked.now c.args.budget c.as_text.result.now c.in_err-deck.field-0.0 before between c.from_residual.result
    c.as_text.ensures c.in_err-deck.ensures.err c.from_residual.ensures.1

pub returns-in_err-answer-clause-err : goal.returns-in_err-answer-clause-err
returns-in_err-answer-clause-err g c =
    let before = g.D.Desk.scene c.args.desk.now in
    let between = g.D.Desk.scene c.read_searched.new.desk in
    kept_if c.args.asked.now c.args.budget c.in_ok-deck.deck before between c.from_residual-in_err-answer.result
    (searched_as c.as_text.result.now c.args.asked.now.deck c.in_ok-deck.deck before between c.as_text.ensures c.in_ok-deck.ensures.ok) c.from_residual-in_err-answer.ensures.1

pub returns-in_err-report-clause-err : goal.returns-in_err-report-clause-err
returns-in_err-report-clause-err g c =
    let before = g.D.Desk.scene c.args.desk.now in
    let between = g.D.Desk.scene c.read_searched.new.desk in
    kept_if c.args.asked.now c.args.budget c.in_ok-deck.deck before between c.from_residual-in_err-report.result
    (searched_as c.as_text.result.now c.args.asked.now.deck c.in_ok-deck.deck before between c.as_text.ensures c.in_ok-deck.ensures.ok) c.from_residual-in_err-report.ensures.1

pub returns-in_err-text-clause-err : goal.returns-in_err-text-clause-err
returns-in_err-text-clause-err g c =
    let before = g.D.Desk.scene c.args.desk.now in
    let between = g.D.Desk.scene c.read_searched.new.desk in
    kept_if c.args.asked.now c.args.budget c.in_ok-deck.deck before between c.from_residual-in_err-text.result
    (searched_as c.as_text.result.now c.args.asked.now.deck c.in_ok-deck.deck before between c.as_text.ensures c.in_ok-deck.ensures.ok) c.from_residual-in_err-text.ensures.1
