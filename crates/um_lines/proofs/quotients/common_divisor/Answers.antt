use Rattle.std.proofs.Common.{arith, FitsSigned, rules, ℕ, ap, subst, unsigned_abs, to_z}
use Rattle.std.specs.Int.{◌∣◌}
use Rattle.std.specs.Int.{w128}
use Rattle.std.proofs.lemmas.Int.{to_z-of_z, ints}
use Rattle.um_lines.specs.Lines.{whole_at}
use Rattle.um_lines.proofs.Wholes.{one_divides, shares_none, shared_step}
use Rattle.um_lines.proofs.quotients.common_divisor.Goals as goal

pub returns-then-shared-eq1-clause-den : goal.returns-then-shared-eq1-clause-den
returns-then-shared-eq1-clause-den c = one_divides _

pub returns-then-shared-eq1-clause-nums : goal.returns-then-shared-eq1-clause-nums
returns-then-shared-eq1-clause-nums c j p = one_divides _

pub loop-num-init : goal.loop-num-init
loop-num-init c = let f3 = c.ranges.den in simp to_z-of_z (shares_none c.args.nums.now c.args.den c.requires.positive c.requires.den_in)

pub loop-num-preserved : goal.loop-num-preserved
loop-num-preserved c =
    let r = c.requires.nums_in c.loop-num.num-index (omega arith) in
    let f1 : FitsSigned w128 (whole_at c.args.nums.now c.loop-num.num-index) = omega (arith, ints, r) in
    let f2 : FitsSigned w128 c.shared_by-shared.result = search rules in
    let f3 = c.ranges.den in
    let left = simp to_z-of_z at c.shared_by-shared.ensures.num in
    let right = c.shared_by-shared.ensures.den in
    simp to_z-of_z (shared_step c.args.nums.now c.loop-num.num-index c.args.den _ c.shared_by-shared.result (simp to_z-of_z at c.loop-num.invariant) c.shared_by-shared.ensures.positive c.shared_by-shared.ensures.range right left (simp to_z-of_z at c.shared_by-shared.ensures.greatest))

pub returns-clause-den : goal.returns-clause-den
returns-clause-den c = let f3 = c.ranges.den in let i = simp to_z-of_z at c.loop-num.invariant in i.den_part

pub returns-clause-nums : goal.returns-clause-nums
returns-clause-nums c j p = c.loop-num.invariant.nums_part j (omega arith)

pub returns-then-shared-eq1-clause-greatest : goal.returns-then-shared-eq1-clause-greatest
returns-then-shared-eq1-clause-greatest c d hd hk =
    let f3 = c.ranges.den in
    let i = simp to_z-of_z at c.loop-num.invariant in
    let r = i.greatest d hd (λ k p. hk k (omega arith)) in
    subst (λ (z : ℕ). d ∣ z) (ap unsigned_abs (ap (to_z w128) c.if-shared-eq1.true)) r

pub returns-clause-greatest : goal.returns-clause-greatest
returns-clause-greatest c d hd hk =
    let f3 = c.ranges.den in
    let i = simp to_z-of_z at c.loop-num.invariant in
    i.greatest d hd (λ k p. hk k (omega arith))
