use Rattle.std.proofs.Common.{◌∙◌, sym, subst, pos, ℤ, neg_ℤ, ◌+ℤ◌, ◌*ℤ◌, ◌≤ℤ◌, ◌<ℤ◌, ◌≤◌, unsigned_abs, arith}
use Rattle.std.specs.Int.{int_div_euclid}
use Rattle.std.proofs.lemmas.Int.{ints}
use Rattle.um_bound.proofs.CurveSteps.{dividend_is, divisor_is, turned_is}
use Rattle.um_bound.proofs.Vertices.{nearest_is, not_below, not_above}
use Rattle.um_bound.proofs.curves.Curve.nearest.Goals as goal

-- the quotient, turned, is between the ends
between : (c : goal.After-floor_div) → (c.args.low ≤ℤ neg_ℤ c.floor_div.result) × (neg_ℤ c.floor_div.result ≤ℤ c.args.high)
between c =
    let l = c.args.self.now.linear in
    let s = c.args.self.now.square in
    let q = c.floor_div.result in
    let dividend = dividend_is l s c.requires.small.linear c.requires.small.square in
    let divisor = divisor_is l s c.requires.small.linear c.requires.small.square in
    let at_most : (q *ℤ (pos 2 *ℤ s)) ≤ℤ (pos 1000 *ℤ l +ℤ s) = rw (sym dividend, sym divisor) c.floor_div.ensures.low in
    let above : (pos 1000 *ℤ l +ℤ s) <ℤ ((q +ℤ pos 1) *ℤ (pos 2 *ℤ s)) = rw (sym dividend, sym divisor) c.floor_div.ensures.high in (
      not_below l s q c.args.low c.args.high c.requires.upwards c.requires.falls c.requires.rises at_most above,
      not_above l s q c.args.low c.args.high c.requires.upwards c.requires.falls c.requires.rises at_most above,
    )

small : (c : goal.After-floor_div) → unsigned_abs c.floor_div.result ≤ 8000000
small c = let b = between c in let l = c.requires.low in let h = c.requires.high in omega (arith, ints, b.0, b.1, l, h)

pub returns-clause-value : goal.returns-clause-value
returns-clause-value c =
    let l = c.args.self.now.linear in
    let s = c.args.self.now.square in
    turned_is c.floor_div.result (small c)
    ∙ nearest_is l s c.floor_div.result c.requires.upwards
    (c.floor_div.ensures.value ∙ (λ i. int_div_euclid (dividend_is l s c.requires.small.linear c.requires.small.square i) (divisor_is l s c.requires.small.linear c.requires.small.square i)))

pub returns-clause-size : goal.returns-clause-size
returns-clause-size c =
    let h = small c in
    let turned : unsigned_abs (neg_ℤ c.floor_div.result) ≤ 8000000 = omega (arith, ints, h) in
    subst (λ (z : ℤ). unsigned_abs z ≤ 8000000) (sym (turned_is c.floor_div.result h)) turned
