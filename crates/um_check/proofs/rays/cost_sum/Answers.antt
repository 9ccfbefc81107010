use Rattle.std.proofs.Common.{pos, ◌^◌, arith, sym, take, ◌≡◌, ◌∙◌}
use Rattle.std.proofs.lemmas.List.{take_all}
use Rattle.um_model.specs.Values.{ColumnValue, plain_column}
use Rattle.um_model.specs.declared.deck.Column.{Column}
use Rattle.um_point.specs.SmallPoints.{IsSmallColumn}
use Rattle.um_deck.proofs.BoundedSums.{dot_step, dot-map}
use Rattle.um_point.proofs.PlaceLemmas.{image_at}
use Rattle.um_check.proofs.rays.cost_sum.Goals as goal

pub cost_term-sum-requires-clause-column : goal.cost_term-sum-requires-clause-column
cost_term-sum-requires-clause-column c = image_at IsSmallColumn plain_column c.args.columns.now c.loop-index.index c.index-columns-index.result c.loop-index-test.true c.index-columns-index.is c.requires.columns

pub loop-index-preserved : goal.loop-index-preserved
loop-index-preserved c =
    dot_step (λ (x : Column). x.cost) c.args.columns.now c.args.ray.now 4096 (2 ^ 93) (omega arith) c.requires.few c.requires.beside c.loop-index.index c.index-columns-index.result (pos 0) _ c.cost_term-sum.result
    c.loop-index-test.true c.index-columns-index.is c.loop-index.invariant c.cost_term-sum.ensures.value c.cost_term-sum.ensures.size

pub returns-clause-value : goal.returns-clause-value
returns-clause-value c =
    let all : take c.loop-index.index c.args.columns.now ≡ c.args.columns.now = take_all c.loop-index.index c.args.columns.now c.loop-index-test.false in
    let so_far = rw all at c.loop-index.invariant.value in
    so_far ∙ sym (dot-map (λ (x : ColumnValue). x.cost) plain_column c.args.columns.now c.args.ray.now)
