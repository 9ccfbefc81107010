use Rattle.std.proofs.Common.{◌^◌, arith, refl, ap, ◌*ℤ◌, ◌∙◌, ℤ, List}
use Rattle.um_laws.specs.Sums.{dot}
use Rattle.um_model.specs.Values.{ColumnValue}
use Rattle.um_deck.proofs.BoundedSums.{abs_product}
use Rattle.um_point.proofs.DeckSizes.{small_columns}
use Rattle.um_point.proofs.Quotients.{product_fits, product_is}
use Rattle.um_point.proofs.value.costs.Goals as goal

pub cost_sum-requires-clause-columns : goal.cost_sum-requires-clause-columns
cost_sum-requires-clause-columns c = small_columns c.args.deck.now c.columns.result.now c.known.ensures c.columns.ensures

pub overflow_mul-result : goal.overflow_mul-result
overflow_mul-result c =
    product_fits c.args.point.now.den c.cost_sum.result c.args.point.now.den c.cost_sum.result (2 ^ 36) (2 ^ 79) refl refl (omega (arith, c.requires.den_size)) c.cost_sum.ensures.size (omega arith) (omega arith) (omega arith)

pub returns-clause-value : goal.returns-clause-value
returns-clause-value c =
    let cost = λ (x : ColumnValue). x.cost in
    let linear = c.cost_sum.ensures.value ∙ ap (λ (xs : List ColumnValue). dot (λ (x : ColumnValue). x.cost) xs c.as_slice.result.now) c.columns.ensures ∙ ap (λ (ps : List ℤ). dot (λ (x : ColumnValue). x.cost) c.args.deck.now.columns ps) c.as_slice.ensures in
    product_is c.args.point.now.den c.cost_sum.result c.args.point.now.den c.cost_sum.result (2 ^ 36) (2 ^ 79) refl refl (omega (arith, c.requires.den_size)) c.cost_sum.ensures.size (omega arith) (omega arith) (omega arith)
    ∙ ap (λ (z : ℤ). c.args.point.now.den *ℤ z) linear

pub returns-clause-size : goal.returns-clause-size
returns-clause-size c =
    let is = product_is c.args.point.now.den c.cost_sum.result c.args.point.now.den c.cost_sum.result (2 ^ 36) (2 ^ 79) refl refl (omega (arith, c.requires.den_size)) c.cost_sum.ensures.size (omega arith) (omega arith) (omega arith) in
    rw is (abs_product c.args.point.now.den c.cost_sum.result (2 ^ 36) (2 ^ 79) (omega (arith, c.requires.den_size)) c.cost_sum.ensures.size)
