use Rattle.um_tableau.proofs.RefusedActs.{own_minus_one, pivot_refused}
use Rattle.um_lines.proofs.LineValues.{on_ok}
use Rattle.um_tableau.proofs.BoardActs.{sheet_of, pivot_is, by_result, Keeps, keeps_still, keeps_pivot}
use Rattle.um_tableau.proofs.tableau.TableauBoard.pivot.Goals as goal

pub pivot-requires-clause-sheet : goal.pivot-requires-clause-sheet
pivot-requires-clause-sheet c = let t = c.args.self.now in sheet_of t.given t.sheet t.size t.stands t.ends_in

pub invariant_of-self : goal.invariant_of-self
invariant_of-self c =
    let t = c.args.self.now in
    let r = c.requires in
    let after = c.pivot.new.self in
    let keeps : Keeps t.given after c.pivot.new.spare =
    by_result c.pivot.result c.pivot.ensures.pivoted c.pivot.ensures.kept
    (λ p. keeps_pivot t.given t.sheet after c.pivot.new.spare c.args.row c.args.column c.args.to _ t.ends_in c.pivot.ensures.spare (pivot_is t.given t.sheet after c.args.row c.args.column c.args.to t.stands r.row_in r.column_in r.nonbasic r.not_zero r.finite p) p)
    (λ e. keeps_still t.given t.sheet after c.pivot.new.spare t.stands t.ends_in c.pivot.ensures.spare e) in
    record { size = t.size; first_are = t.first_are; stands = keeps.stands; ends_in = keeps.ends_in; room = keeps.room }

pub returns-clause-ok : goal.returns-clause-ok
returns-clause-ok c =
    let t = c.args.self.now in
    let r = c.requires in
    on_ok c.pivot.result c.pivot.ensures.pivoted (λ p. pivot_is t.given t.sheet c.pivot.new.self c.args.row c.args.column c.args.to t.stands r.row_in r.column_in r.nonbasic r.not_zero r.finite p)

pub pivot-requires-clause-own : goal.pivot-requires-clause-own
pivot-requires-clause-own c = let t = c.args.self.now in own_minus_one t.given t.sheet c.args.row t.stands c.requires.row_in

pub returns-clause-wide : goal.returns-clause-wide
returns-clause-wide c =
    let t = c.args.self.now in
    let r = c.requires in
    pivot_refused t.given t.sheet c.args.row c.args.column c.args.to c.pivot.result t.stands r.row_in r.column_in r.nonbasic r.not_zero r.finite c.pivot.ensures.wide c.pivot.ensures.narrow
