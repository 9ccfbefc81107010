use Rattle.std.proofs.Common.{ap, ◌∙◌}
use Rattle.um_num.specs.Listed.{Listed}
use Rattle.um_multipliers.specs.declared.multipliers.Price.{Price}
use Rattle.um_relax.proofs.NormalPrices.{price_pushed, price_left_out}
use Rattle.um_relax.proofs.whole.normal.Goals as goal
use Rattle.um_relax.proofs.whole.normal.Goals.{in-Some+in_ok-push, in_default}

pub loop-row-preserved : goal.loop-row-preserved
loop-row-preserved c =
    elim c.match-price.branch [
      | in-Some+in_ok-push w ↦
          ap (λ (l : Listed Price). l.items) (w.rows-is ∙ w.in_ok-push.ensures.ok)
          ∙ price_pushed c.args.numbers.now c.loop-row.row c.loop-row.rows.items w.in-Some.price c.loop-row-test.true w.in-Some.ensures c.loop-row.invariant
      | in_default w ↦ ap (λ (l : Listed Price). l.items) w.rows-is ∙ price_left_out c.args.numbers.now c.loop-row.row c.loop-row.rows.items c.loop-row-test.true w.in_default.ensures c.loop-row.invariant
    ]
