use Rattle.std.proofs.Common.{◌≡◌, ◌^◌, ℕ, FitsSigned, w64, rules, List, Option, None, sym, subst, ◌∙◌, arith}
use Rattle.std.proofs.lemmas.Int.{to_z-of_z}
use Rattle.std.proofs.lemmas.List.{get_or_default}
use Rattle.um_num.specs.declared.decimal.Decimal.{Decimal}
use Rattle.um_statements.specs.Said.{Said, ColumnSaid}
use Rattle.um_statements.specs.Made.{entry_in}
use Rattle.um_statements.proofs.MadeColumns.{row_facts}
use Rattle.um_made.specs.Views.{column_said}
use Rattle.um_made.specs.Parts.{said}
use Rattle.um_made.specs.ColumnWords.{Fits}
use Rattle.um_made.proofs.ToldFacts.{row_count, slots_are}
use Rattle.um_made.proofs.NumbersFit.{column_known, objective_within, objective_fine, coefficient_fits}
use Rattle.um_made.proofs.EntryFacts.{entries_made, places_within, scales_low, slots_fit, cost_made, sided_count}
use Rattle.um_made.proofs.told.Told.column_left.Goals as goal

pub slots-requires-clause-within : goal.slots-requires-clause-within
slots-requires-clause-within c =
    let known = column_known (said c.args.self.now) c.requires.well (column_said c.args.column.now) c.requires.column in
    let count = row_count c.args.self.now in
    rw c.as_slice.ensures (λ k d inside. let place = (known.parts k d inside).place in omega (arith, place, count))

pub slots-requires-clause-distinct : goal.slots-requires-clause-distinct
slots-requires-clause-distinct c =
    let known = column_known (said c.args.self.now) c.requires.well (column_said c.args.column.now) c.requires.column in
    rw c.as_slice.ensures known.distinct

pub index-requires : goal.index-requires
index-requires c =
    let inside = objective_within (said c.args.self.now) (c.args.objective.now.place, c.requires.objective.row) c.requires.objective.is in
    omega (arith, inside, row_count c.args.self.now, c.in_ok-slots.ensures.length_is)

pub cost_of-cost-requires-clause-scale : goal.cost_of-cost-requires-clause-scale
cost_of-cost-requires-clause-scale c =
    let s : Said = said c.args.self.now in
    let o = c.requires.objective in
    let fine = objective_fine s (c.args.objective.now.place, o.row) c.requires.fine o.is in
    rw o.scale_is (row_facts s (c.args.objective.now.place, o.row) fine).scale

pub cost_of-cost-requires-clause-fits : goal.cost_of-cost-requires-clause-fits
cost_of-cost-requires-clause-fits c =
    let s : Said = said c.args.self.now in
    let col : ColumnSaid = column_said c.args.column.now in
    let slots : List (Option Decimal) = c.in_ok-slots.slots.items in
    let are = slots_are c.args.self.now c.as_slice.result.now col.entries c.len.result slots c.in_ok-slots.ensures c.as_slice.ensures (omega arith) in
    let o = c.requires.objective in
    let fine = objective_fine s (c.args.objective.now.place, o.row) c.requires.fine o.is in
    let inside = objective_within s (c.args.objective.now.place, o.row) o.is in
    let there : c.index.result.now ≡ entry_in c.args.objective.now.place col = c.index.ensures ∙ (get_or_default slots c.args.objective.now.place _ None (rw are.length_is inside) ∙ are.each c.args.objective.now.place inside) in
    λ v e. subst (λ (n : ℕ). Fits (2 ^ 31) n v) (sym o.scale_is) (coefficient_fits s c.requires.well (c.args.objective.now.place, o.row) fine col c.requires.column v (sym there ∙ e))

pub entries-requires-clause-count : goal.entries-requires-clause-count
entries-requires-clause-count c = rw c.requires.rows (sided_count (said c.args.self.now) c.requires.well)

pub entries-requires-clause-within : goal.entries-requires-clause-within
entries-requires-clause-within c =
    let s : Said = said c.args.self.now in
    let col : ColumnSaid = column_said c.args.column.now in
    let slots : List (Option Decimal) = c.in_ok-slots.slots.items in
    let are = slots_are c.args.self.now c.as_slice.result.now col.entries c.len.result slots c.in_ok-slots.ensures c.as_slice.ensures (omega arith) in
    rw (c.requires.rows, c.deref.ensures.value) (places_within s col slots are)

pub entries-requires-clause-scales : goal.entries-requires-clause-scales
entries-requires-clause-scales c = rw c.requires.rows (scales_low (said c.args.self.now) c.requires.fine)

pub entries-requires-clause-fit : goal.entries-requires-clause-fit
entries-requires-clause-fit c =
    let s : Said = said c.args.self.now in
    let col : ColumnSaid = column_said c.args.column.now in
    let slots : List (Option Decimal) = c.in_ok-slots.slots.items in
    let are = slots_are c.args.self.now c.as_slice.result.now col.entries c.len.result slots c.in_ok-slots.ensures c.as_slice.ensures (omega arith) in
    rw (c.requires.rows, c.deref.ensures.value) (slots_fit s c.requires.well c.requires.fine col slots c.requires.column are)

pub returns : goal.returns
returns c =
    let s : Said = said c.args.self.now in
    let col : ColumnSaid = column_said c.args.column.now in
    let slots : List (Option Decimal) = c.in_ok-slots.slots.items in
    let are = slots_are c.args.self.now c.as_slice.result.now col.entries c.len.result slots c.in_ok-slots.ensures c.as_slice.ensures (omega arith) in
    let o = c.requires.objective in
    let inside = objective_within s (c.args.objective.now.place, o.row) o.is in
    let there : c.index.result.now ≡ entry_in c.args.objective.now.place col = c.index.ensures ∙ (get_or_default slots c.args.objective.now.place _ None (rw are.length_is inside) ∙ are.each c.args.objective.now.place inside) in
    let fits : FitsSigned w64 c.for_minimising.result = search rules in
    let fits_cost : FitsSigned w64 c.cost_of-cost.result = search rules in
    let turned = simp to_z-of_z at c.for_minimising.ensures in
    record {
      kind_is = c.kind_of.ensures;
      low_is = c.low_end.ensures;
      high_is = c.high_end.ensures;
      cost_is = simp to_z-of_z (cost_made s c.args.objective.now o col c.index.result.now c.cost_of-cost.result c.for_minimising.result there c.cost_of-cost.ensures.value turned);
      entries_are = (rw (c.deref.ensures.value, c.requires.rows) at c.in_ok-entries.ensures) ∙ entries_made s col slots are;
    }
