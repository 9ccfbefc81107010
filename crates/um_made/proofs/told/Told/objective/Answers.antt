use Rattle.std.proofs.Common.{◌≡◌, None, Some, FitsSigned, w64, rules, sym, ◌∙◌}
use Rattle.std.proofs.lemmas.Int.{to_z-of_z}
use Rattle.um_statements.specs.Said.{Said, RowSaid}
use Rattle.um_statements.specs.Made.{objective}
use Rattle.um_made.specs.Views.{row_said}
use Rattle.um_made.specs.Parts.{said}
use Rattle.um_made.proofs.RowSteps.{objective_here}
use Rattle.um_made.proofs.RowRules.{rules_there, objective_made, objective_rules_none, objective_rules_some}
use Rattle.um_made.proofs.ToldFacts.{row_at, coefficients_at, arcs_at, small_coefficients, small_arcs}
use Rattle.um_made.proofs.told.Told.objective.Goals as goal

pub scaled_row-requires-clause-coefficients : goal.scaled_row-requires-clause-coefficients
scaled_row-requires-clause-coefficients c =
    let within = rw c.deref-row-items.ensures.value at c.loop-place-test.true in
    small_coefficients c.args.self.now c.args.numbers.now c.requires.numbers c.loop-place.place c.index-numbers-place.result within c.index-numbers-place.is c.requires.well

pub scaled_row-requires-clause-arcs : goal.scaled_row-requires-clause-arcs
scaled_row-requires-clause-arcs c =
    let within = rw c.deref-row-items.ensures.value at c.loop-place-test.true in
    small_arcs c.args.self.now c.args.numbers.now c.requires.numbers c.loop-place.place c.index-numbers-place.result within c.index-numbers-place.is c.requires.well

pub scaled_row-requires-clause-beside : goal.scaled_row-requires-clause-beside
scaled_row-requires-clause-beside c =
    let within = rw c.deref-row-items.ensures.value at c.loop-place-test.true in
    row_at c.args.self.now c.requires.well c.loop-place.place c.row-item.result within (rw c.deref-row-items.ensures.value at c.row-item.is)

pub returns-in-Ok : goal.returns-in-Ok
returns-in-Ok c =
    let s : Said = said c.args.self.now in
    let r : RowSaid = row_said c.row-item.result in
    let within = rw c.deref-row-items.ensures.value at c.loop-place-test.true in
    let is : objective s ≡ Some (c.loop-place.place, r) = sym c.loop-place.invariant ∙ objective_here c.args.self.now.rows.items c.loop-place.place c.row-item.result within (rw c.deref-row-items.ensures.value at c.row-item.is) (sym c.is_n.ensures ∙ c.if-is_n.true) in
    let first = coefficients_at c.args.self.now c.args.numbers.now c.requires.numbers c.loop-place.place c.index-numbers-place.result within c.index-numbers-place.is in
    let second = arcs_at c.args.self.now c.args.numbers.now c.requires.numbers c.loop-place.place c.index-numbers-place.result within c.index-numbers-place.is in (
      objective_rules_none s (c.loop-place.place, r) is (rules_there s c.loop-place.place r c.index-numbers-place.result.coefficients.items c.index-numbers-place.result.arcs.items first second None c.in-Ok.ensures.0),
      objective_made s c.loop-place.place r c.index-numbers-place.result.coefficients.items c.index-numbers-place.result.arcs.items first second c.in-Ok.scaled _ is c.in-Ok.ensures.1 (let fits : FitsSigned w64 c.in-Ok.scaled.sides.side = search rules in simp to_z-of_z),
    )

pub returns-in-Err : goal.returns-in-Err
returns-in-Err c =
    let s : Said = said c.args.self.now in
    let r : RowSaid = row_said c.row-item.result in
    let within = rw c.deref-row-items.ensures.value at c.loop-place-test.true in
    let is : objective s ≡ Some (c.loop-place.place, r) = sym c.loop-place.invariant ∙ objective_here c.args.self.now.rows.items c.loop-place.place c.row-item.result within (rw c.deref-row-items.ensures.value at c.row-item.is) (sym c.is_n.ensures ∙ c.if-is_n.true) in
    let first = coefficients_at c.args.self.now c.args.numbers.now c.requires.numbers c.loop-place.place c.index-numbers-place.result within c.index-numbers-place.is in
    let second = arcs_at c.args.self.now c.args.numbers.now c.requires.numbers c.loop-place.place c.index-numbers-place.result within c.index-numbers-place.is in
    objective_rules_some s (c.loop-place.place, r) c.in-Err.fault is (rules_there s c.loop-place.place r c.index-numbers-place.result.coefficients.items c.index-numbers-place.result.arcs.items first second (Some c.in-Err.fault) c.in-Err.ensures)
