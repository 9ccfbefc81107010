use Rattle.std.proofs.Common.{◌≡◌, ◌+◌, ◌*ℤ◌, List, ℤ, pos, take, sym, ap, ◌∙◌, arith, to_z, of_z}
use Rattle.std.specs.Int.{w128}
use Rattle.std.proofs.lemmas.Int.{ints, to_z-of_z}
use Rattle.std.proofs.lemmas.List.{take_all, length-replicate, get_or-replicate}
use Rattle.um_laws.specs.Sums.{dot}
use Rattle.um_model.specs.Values.{plain_column}
use Rattle.um_model.specs.Feasible.{coefficient}
use Rattle.um_model.specs.declared.deck.Column.{Column}
use Rattle.um_point.specs.SmallPoints.{IsSmallColumn}
use Rattle.um_deck.proofs.BoundedSums.{dot-map, fits_128}
use Rattle.um_point.proofs.EntrySums.{columns_give, columns_size, column_more}
use Rattle.um_point.proofs.PlaceLemmas.{image_at}
use Rattle.um_point.proofs.RowSteps.{sums_size, sums_grown}
use Rattle.um_point.proofs.row_sums.entry_sums.Goals as goal

pub loop-index-init : goal.loop-index-init
loop-index-init c = record { long = length-replicate 512 (pos 0); each = λ row l. omega (arith, ints, get_or-replicate 512 row (pos 0) (pos 0) l) }

pub add_column-requires-clause-sizes : goal.add_column-requires-clause-sizes
add_column-requires-clause-sizes c =
    sums_size (columns_give c.args.columns.now c.args.point.now.parts.items c.args.point.now.den c.loop-index.index) c.loop-index.sums c.loop-index.invariant
    (λ row. columns_size c.args.columns.now c.args.point.now.parts.items c.args.point.now.den c.loop-index.index row c.loop-index.auto.index-end c.requires.few c.requires.columns c.requires.parts c.requires.den)

pub add_column-requires-clause-column : goal.add_column-requires-clause-column
add_column-requires-clause-column c = image_at IsSmallColumn plain_column c.args.columns.now c.loop-index.index c.index-columns-index.result c.loop-index-test.true c.index-columns-index.is c.requires.columns

pub loop-index-preserved : goal.loop-index-preserved
loop-index-preserved c =
    let factor : ℤ = to_z w128 (of_z w128 c.scaled_part.result) in
    let same : factor ≡ c.scaled_part.result = to_z-of_z w128 c.scaled_part.result (fits_128 c.scaled_part.result (omega (arith, c.scaled_part.ensures.size))) in
    sums_grown (columns_give c.args.columns.now c.args.point.now.parts.items c.args.point.now.den c.loop-index.index) (λ row. coefficient row (plain_column c.index-columns-index.result) *ℤ factor)
    (columns_give c.args.columns.now c.args.point.now.parts.items c.args.point.now.den (c.loop-index.index + 1)) c.loop-index.sums c.add_column.new.sums c.loop-index.invariant c.add_column.ensures
    (λ row. column_more c.args.columns.now c.args.point.now.parts.items c.args.point.now.den c.loop-index.index row c.index-columns-index.result factor c.loop-index-test.true
    (omega (arith, c.loop-index-test.true, c.requires.beside)) c.index-columns-index.is (same ∙ c.scaled_part.ensures.value))

pub returns-clause-sums : goal.returns-clause-sums
returns-clause-sums c =
    let all : take c.loop-index.index c.args.columns.now ≡ c.args.columns.now = take_all c.loop-index.index c.args.columns.now c.loop-index-test.false in record {
      long = c.loop-index.invariant.long;
      each = λ row within.
          c.loop-index.invariant.each row within
          ∙ ap (λ (cs : List Column). c.args.point.now.den *ℤ dot (λ (x : Column). coefficient row (plain_column x)) cs c.args.point.now.parts.items) all
          ∙ ap (λ (z : ℤ). c.args.point.now.den *ℤ z) (sym (dot-map (coefficient row) plain_column c.args.columns.now c.args.point.now.parts.items));
    }

pub returns-clause-sizes : goal.returns-clause-sizes
returns-clause-sizes c =
    sums_size (columns_give c.args.columns.now c.args.point.now.parts.items c.args.point.now.den c.loop-index.index) c.loop-index.sums c.loop-index.invariant
    (λ row. columns_size c.args.columns.now c.args.point.now.parts.items c.args.point.now.den c.loop-index.index row c.loop-index.auto.index-end c.requires.few c.requires.columns c.requires.parts c.requires.den)
