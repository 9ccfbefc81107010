use Rattle.um_tableau.proofs.RefusedActs.{rebox_refused}
use Rattle.std.proofs.Common.{arith}
use Rattle.um_lines.proofs.LineValues.{on_ok}
use Rattle.um_tableau.proofs.BoardActs.{sheet_of, rebox_is, by_result, Keeps, keeps_still, keeps_rebox}
use Rattle.um_tableau.proofs.tableau.TableauBoard.rebox.Goals as goal

pub rebox-requires-clause-sheet : goal.rebox-requires-clause-sheet
rebox-requires-clause-sheet c = let t = c.args.self.now in sheet_of t.given t.sheet t.size t.stands t.ends_in

pub invariant_of-self : goal.invariant_of-self
invariant_of-self c =
    let t = c.args.self.now in
    let r = c.requires in
    let after = c.rebox.new.self in
    let keeps : Keeps t.given after c.rebox.new.spare =
    by_result c.rebox.result c.rebox.ensures.reboxed c.rebox.ensures.kept
    (λ p. keeps_rebox t.given t.sheet after c.rebox.new.spare c.args.column (c.args.low, c.args.high) t.ends_in c.rebox.ensures.spare (omega (arith, t.stands.ends)) r.low_in r.high_in (rebox_is t.given t.sheet after c.args.column (c.args.low, c.args.high) t.stands r.column_in p) p)
    (λ e. keeps_still t.given t.sheet after c.rebox.new.spare t.stands t.ends_in c.rebox.ensures.spare e) in
    record { size = t.size; first_are = t.first_are; stands = keeps.stands; ends_in = keeps.ends_in; room = keeps.room }

pub returns-clause-ok : goal.returns-clause-ok
returns-clause-ok c =
    let t = c.args.self.now in
    on_ok c.rebox.result c.rebox.ensures.reboxed (λ p. rebox_is t.given t.sheet c.rebox.new.self c.args.column (c.args.low, c.args.high) t.stands c.requires.column_in p)

pub returns-clause-wide : goal.returns-clause-wide
returns-clause-wide c =
    let t = c.args.self.now in
    rebox_refused t.given t.sheet c.args.column (c.args.low, c.args.high) c.rebox.result t.stands c.requires.column_in c.rebox.ensures.wide c.rebox.ensures.narrow
