use Rattle.std.proofs.Common.{◌≡◌, ◌+◌, ◌*ℤ◌, List, pos, take, sym, ap, ◌∙◌, arith}
use Rattle.std.proofs.lemmas.Int.{ints}
use Rattle.std.proofs.lemmas.List.{take_all, length-replicate, get_or-replicate}
use Rattle.um_laws.specs.Sums.{dot}
use Rattle.um_model.specs.Values.{plain_column}
use Rattle.um_model.specs.Feasible.{coefficient, part}
use Rattle.um_model.specs.declared.deck.Column.{Column}
use Rattle.um_deck.proofs.BoundedSums.{dot-map}
use Rattle.um_point.specs.SmallPoints.{IsSmallColumn}
use Rattle.um_point.proofs.PlaceLemmas.{image_at}
use Rattle.um_point.proofs.RowSteps.{sums_size, sums_grown}
use Rattle.um_check.proofs.RaySums.{columns_give, columns_size, column_more}
use Rattle.um_check.proofs.rays.linear_sums.Goals as goal

pub loop-index-init : goal.loop-index-init
loop-index-init c = record { long = length-replicate 512 (pos 0); each = λ row l. omega (arith, ints, get_or-replicate 512 row (pos 0) (pos 0) l) }

pub add_column-requires-clause-sizes : goal.add_column-requires-clause-sizes
add_column-requires-clause-sizes c =
    sums_size (columns_give c.args.columns.now c.args.ray.now c.loop-index.index) c.loop-index.sums c.loop-index.invariant
    (λ row. columns_size c.args.columns.now c.args.ray.now c.loop-index.index row c.loop-index.auto.index-end c.requires.few c.requires.columns c.requires.small)

pub add_column-requires-clause-column : goal.add_column-requires-clause-column
add_column-requires-clause-column c = image_at IsSmallColumn plain_column c.args.columns.now c.loop-index.index c.index-columns-index.result c.loop-index-test.true c.index-columns-index.is c.requires.columns

pub loop-index-preserved : goal.loop-index-preserved
loop-index-preserved c =
    sums_grown (columns_give c.args.columns.now c.args.ray.now c.loop-index.index) (λ row. coefficient row (plain_column c.index-columns-index.result) *ℤ part c.args.ray.now c.loop-index.index)
    (columns_give c.args.columns.now c.args.ray.now (c.loop-index.index + 1)) c.loop-index.sums c.add_column.new.sums c.loop-index.invariant c.add_column.ensures
    (λ row. column_more c.args.columns.now c.args.ray.now c.loop-index.index row c.index-columns-index.result c.loop-index-test.true (omega (arith, c.loop-index-test.true, c.requires.beside)) c.index-columns-index.is)

pub returns : goal.returns
returns c =
    let all : take c.loop-index.index c.args.columns.now ≡ c.args.columns.now = take_all c.loop-index.index c.args.columns.now c.loop-index-test.false in record {
      long = c.loop-index.invariant.long;
      each = λ row within.
          c.loop-index.invariant.each row within
          ∙ ap (λ (cs : List Column). dot (λ (x : Column). coefficient row (plain_column x)) cs c.args.ray.now) all
          ∙ sym (dot-map (coefficient row) plain_column c.args.columns.now c.args.ray.now);
    }
