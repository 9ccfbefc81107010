use Rattle.std.proofs.Common.{◌≡◌, ◌+◌, false, List, [], ◌++◌, map, flat_map, drop, None, Some, inr, sym, ap, subst, ◌∙◌}
use Rattle.std.proofs.lemmas.List.{drop_all, append-nil}
use Rattle.um_num.specs.Listed.{Listed}
use Rattle.um_statements.specs.Statements.{Name}
use Rattle.um_statements.specs.CallRules.{is_n, first_fault}
use Rattle.um_statements.specs.Made.{sided_rows}
use Rattle.um_statements.specs.DeckRules.{row_rules}
use Rattle.um_made.specs.declared.parts.RowPart.{RowPart}
use Rattle.um_made.specs.declared.rows.SidedRow.{SidedRow}
use Rattle.um_made.specs.RowWords.{sided_row}
use Rattle.um_statements.specs.Said.{Said, RowSaid}
use Rattle.um_made.specs.Views.{row_said}
use Rattle.um_made.specs.Parts.{said}
use Rattle.um_made.proofs.RowSteps.{sided_from, row_broken_here, row_fine_here, row_made_here, sided_later}
use Rattle.um_made.proofs.RowRules.{rules_there, sided_made}
use Rattle.um_made.proofs.ToldFacts.{row_at, coefficients_at, arcs_at, small_coefficients, small_arcs}
use Rattle.um_made.proofs.told.Told.sided_rows.Goals as goal

pub scaled_row-requires-clause-coefficients : goal.scaled_row-requires-clause-coefficients
scaled_row-requires-clause-coefficients c =
    let within = rw c.deref-row-items.ensures.value at c.loop-place-test.true in
    small_coefficients c.args.self.now c.args.numbers.now c.requires.numbers c.loop-place.place c.index-numbers-place.result within c.index-numbers-place.is c.requires.well

pub scaled_row-requires-clause-arcs : goal.scaled_row-requires-clause-arcs
scaled_row-requires-clause-arcs c =
    let within = rw c.deref-row-items.ensures.value at c.loop-place-test.true in
    small_arcs c.args.self.now c.args.numbers.now c.requires.numbers c.loop-place.place c.index-numbers-place.result within c.index-numbers-place.is c.requires.well

pub scaled_row-requires-clause-beside : goal.scaled_row-requires-clause-beside
scaled_row-requires-clause-beside c =
    let within = rw c.deref-row-items.ensures.value at c.loop-place-test.true in
    row_at c.args.self.now c.requires.well c.loop-place.place c.row-item.result within (rw c.deref-row-items.ensures.value at c.row-item.is)

pub returns-in-Err : goal.returns-in-Err
returns-in-Err c =
    let s : Said = said c.args.self.now in
    let rows : List (Name × RowPart) = c.args.self.now.rows.items in
    let within = rw c.deref-row-items.ensures.value at c.loop-place-test.true in
    let is = rw c.deref-row-items.ensures.value at c.row-item.is in
    let r : RowSaid = row_said c.row-item.result in
    let sided : is_n c.row-item.result.1.kind ≡ false = sym c.is_n.ensures ∙ c.if-is_n.false in
    let first = coefficients_at c.args.self.now c.args.numbers.now c.requires.numbers c.loop-place.place c.index-numbers-place.result within c.index-numbers-place.is in
    let second = arcs_at c.args.self.now c.args.numbers.now c.requires.numbers c.loop-place.place c.index-numbers-place.result within c.index-numbers-place.is in
    inr (sym c.loop-place.invariant.fault
    ∙ row_broken_here s rows c.loop-place.place c.row-item.result within is sided c.in-Err.fault
    (rules_there s c.loop-place.place r c.index-numbers-place.result.coefficients.items c.index-numbers-place.result.arcs.items first second (Some c.in-Err.fault) c.in-Err.ensures))

pub loop-place-preserved : goal.loop-place-preserved
loop-place-preserved c =
    let s : Said = said c.args.self.now in
    let rows : List (Name × RowPart) = c.args.self.now.rows.items in
    let within = rw c.deref-row-items.ensures.value at c.loop-place-test.true in
    let is = rw c.deref-row-items.ensures.value at c.row-item.is in
    let r : RowSaid = row_said c.row-item.result in
    let sided : is_n c.row-item.result.1.kind ≡ false = sym c.is_n.ensures ∙ c.if-is_n.false in
    let first = coefficients_at c.args.self.now c.args.numbers.now c.requires.numbers c.loop-place.place c.index-numbers-place.result within c.index-numbers-place.is in
    let second = arcs_at c.args.self.now c.args.numbers.now c.requires.numbers c.loop-place.place c.index-numbers-place.result within c.index-numbers-place.is in
    let fine = rules_there s c.loop-place.place r c.index-numbers-place.result.coefficients.items c.index-numbers-place.result.arcs.items first second None c.in-Ok.ensures.0 in
    let items = ap (λ (l : Listed SidedRow). l.items) c.in_ok-push.ensures.ok in
    record {
      made = subst (λ (zs : List SidedRow). zs ++ map (sided_row s) (sided_from (c.loop-place.place + 1) (map row_said (drop (c.loop-place.place + 1) rows))) ≡ map (sided_row s) (sided_rows s)) (sym items)
          (row_made_here s rows c.loop-place.place c.row-item.result within is sided c.loop-place.rows.items (map (sided_row s) (sided_rows s)) _
          (sided_made s c.loop-place.place r c.index-numbers-place.result.coefficients.items c.index-numbers-place.result.arcs.items first second c.in-Ok.scaled c.in-Ok.ensures.1) c.loop-place.invariant.made);
      fault = sym (row_fine_here s rows c.loop-place.place c.row-item.result within is sided fine) ∙ c.loop-place.invariant.fault;
    }

pub loop-place-preserved-then-is_n : goal.loop-place-preserved-then-is_n
loop-place-preserved-then-is_n c =
    let s : Said = said c.args.self.now in
    let rows : List (Name × RowPart) = c.args.self.now.rows.items in
    let within = rw c.deref-row-items.ensures.value at c.loop-place-test.true in
    let is = rw c.deref-row-items.ensures.value at c.row-item.is in
    let later = sided_later rows c.loop-place.place c.row-item.result within is (sym c.is_n.ensures ∙ c.if-is_n.true) in
    record {
      made = sym (ap (λ ps. c.loop-place.rows.items ++ map (sided_row s) ps) later) ∙ c.loop-place.invariant.made;
      fault = sym (ap (λ ps. first_fault (flat_map (row_rules s) ps)) later) ∙ c.loop-place.invariant.fault;
    }

pub returns : goal.returns
returns c =
    let s : Said = said c.args.self.now in
    let rows : List (Name × RowPart) = c.args.self.now.rows.items in
    let none : drop c.loop-place.place rows ≡ [] = drop_all c.loop-place.place rows (rw c.deref-row-items.ensures.value at c.loop-place-test.false) in (
      sym c.loop-place.invariant.fault ∙ ap (λ (xs : List (Name × RowPart)). first_fault (flat_map (row_rules s) (sided_from c.loop-place.place (map row_said xs)))) none,
      sym (append-nil c.loop-place.rows.items)
          ∙ (sym (ap (λ (xs : List (Name × RowPart)). c.loop-place.rows.items ++ map (sided_row s) (sided_from c.loop-place.place (map row_said xs))) none) ∙ c.loop-place.invariant.made),
    )
