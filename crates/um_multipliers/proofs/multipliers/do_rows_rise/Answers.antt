use Rattle.std.proofs.Common.{refl, arith}
use Rattle.um_laws.proofs.RisingLists.{rises_between}
use Rattle.um_multipliers.specs.declared.multipliers.Price.{Price}
use Rattle.um_multipliers.proofs.multipliers.do_rows_rise.Goals as goal

pub returns : goal.returns
returns c = (λ h. rises_between (λ (p : Price). p.row) c.args.prices.now (λ k d l. c.loop-i.invariant k d (omega arith)), λ h. refl)
