use Rattle.std.proofs.Common.{◌≡◌, ◌+◌, ◌^◌, ◌<◌, ◌*ℤ◌, ◌+ℤ◌, ℕ, ℤ, pos, List, length, take, get_or, unsigned_abs, refl, ap, sym, subst, ◌∙◌, arith}
use Rattle.std.proofs.lemmas.Int.{ints}
use Rattle.std.proofs.lemmas.List.{take_all}
use Rattle.um_laws.specs.Sums.{sum_of}
use Rattle.um_model.specs.Feasible.{part}
use Rattle.um_model.specs.declared.deck.Entry.{Entry}
use Rattle.um_point.specs.RowSums.{HaveGrown}
use Rattle.um_point.proofs.EntrySums.{entry_in, entry_here, entry_there, entry_room}
use Rattle.um_point.proofs.RowSteps.{grown_at, sum_fits, sum_is}
use Rattle.um_check.proofs.rays.add_column.Goals as goal

pub loop-entry-init : goal.loop-entry-init
loop-entry-init c = record { long = refl; each = λ row l. omega (arith, ints) }

pub overflow_add-sums : goal.overflow_add-sums
overflow_add-sums c =
    let es : List Entry = c.as_slice-entry-items.result.now in
    let none : Entry = record { row = 0; value = pos 0 } in
    let e : Entry = get_or es c.loop-entry.entry-index none in
    let same : es ≡ c.args.column.now.entries.items = c.as_slice-entry-items.ensures in
    let inside : e.row < length c.args.sums.now = rw same (omega (arith, c.requires.sums, c.requires.column.rows c.loop-entry.entry-index none (rw same at c.loop-entry-test.true))) in
    sum_fits (part c.loop-entry.sums e.row) c.entry_term.result
    (entry_room es c.args.part.now c.loop-entry.entry-index none c.args.sums.now c.loop-entry.sums c.loop-entry-test.true (rw same c.requires.column.few) (rw same c.requires.column.entries) (omega (arith, c.requires.part)) inside c.requires.sizes c.loop-entry.invariant)
    (omega (arith, c.entry_term.ensures.size))

pub loop-entry-preserved : goal.loop-entry-preserved
loop-entry-preserved c =
    let es : List Entry = c.as_slice-entry-items.result.now in
    let none : Entry = record { row = 0; value = pos 0 } in
    let i : ℕ = c.loop-entry.entry-index in
    let e : Entry = get_or es i none in
    let share : ℤ = c.args.part.now in
    let same : es ≡ c.args.column.now.entries.items = c.as_slice-entry-items.ensures in
    let inside : e.row < length c.args.sums.now = rw same (omega (arith, c.requires.sums, c.requires.column.rows i none (rw same at c.loop-entry-test.true))) in
    let room : unsigned_abs (part c.loop-entry.sums e.row) < 2 ^ 126 =
    entry_room es share i none c.args.sums.now c.loop-entry.sums c.loop-entry-test.true (rw same c.requires.column.few) (rw same c.requires.column.entries) (omega (arith, c.requires.part)) inside c.requires.sizes c.loop-entry.invariant in
    grown_at (λ row. sum_of (entry_in row) (take i es) *ℤ share) (λ row. sum_of (entry_in row) (take (i + 1) es) *ℤ share) c.args.sums.now c.loop-entry.sums e.row c.entry_term.result _ inside c.loop-entry.invariant
    (entry_here es share i none c.loop-entry-test.true ∙ ap (λ (z : ℤ). sum_of (entry_in e.row) (take i es) *ℤ share +ℤ z) (sym c.entry_term.ensures.value))
    (entry_there es share i none c.loop-entry-test.true)
    (sum_is (part c.loop-entry.sums e.row) c.entry_term.result room (omega (arith, c.entry_term.ensures.size)))

pub returns : goal.returns
returns c =
    let es : List Entry = c.as_slice-entry-items.result.now in
    let all : take c.loop-entry.entry-index es ≡ c.args.column.now.entries.items = take_all c.loop-entry.entry-index es c.loop-entry-test.false ∙ c.as_slice-entry-items.ensures in
    subst (λ (xs : List Entry). HaveGrown (λ row. sum_of (entry_in row) xs *ℤ c.args.part.now) c.args.sums.now c.loop-entry.sums) all c.loop-entry.invariant
