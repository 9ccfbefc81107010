use Rattle.std.proofs.Common.{refl, arith, unsigned_abs, ◌^◌, ◌<◌, ◌≤◌}
use Rattle.std.proofs.lemmas.Bool.{lt-ltb, le-ltb}
use Rattle.std.proofs.lemmas.Int.{ints}
use Rattle.um_num.proofs.Parts.{from_bits}
use Rattle.um_treetext.specs.FrontLines.{nodes_said}
use Rattle.um_treetext.proofs.Takes.{fails_with}
use Rattle.um_treetext.proofs.NumberWords.{natural_err, zero_natural}
use Rattle.um_treetext.proofs.reading.values.node_count.Goals as goal

pub returns-in_err-count-clause-value : goal.returns-in_err-count-clause-value
unfolding nodes_said
returns-in_err-count-clause-value c = fails_with _ c.in_err-count.field-0.0 _ c.from_residual.ensures.1 (rw (natural_err (2 ^ 127) _ _ (omega arith) c.in_err-count.ensures.value) refl)

pub returns-then-count-clause-value : goal.returns-then-count-clause-value
unfolding nodes_said
returns-then-count-clause-value c =
    let z = c.in_ok-count.count in
    let n = zero_natural _ z c.in_ok-count.ensures.value c.in_ok-count.ensures.range in
    let h = rw (from_bits z c.in_ok-count.ensures.range) at c.if-count.true in
    let more : 200001 < unsigned_abs z = omega (arith, ints, h, n.1) in
    rw (n.0, lt-ltb 200001 (unsigned_abs z) more) refl

pub overflow_cast-result : goal.overflow_cast-result
overflow_cast-result c =
    let z = c.in_ok-count.count in
    let n = zero_natural _ z c.in_ok-count.ensures.value c.in_ok-count.ensures.range in
    let h = rw (from_bits z c.in_ok-count.ensures.range) at c.if-count.false in
    let few : unsigned_abs z ≤ 200001 = omega (arith, ints, h, n.1) in
    rw (from_bits z c.in_ok-count.ensures.range) (omega (arith, ints, n.1), omega (arith, few))

pub returns-clause-value : goal.returns-clause-value
unfolding nodes_said
returns-clause-value c =
    let z = c.in_ok-count.count in
    let n = zero_natural _ z c.in_ok-count.ensures.value c.in_ok-count.ensures.range in
    let h = rw (from_bits z c.in_ok-count.ensures.range) at c.if-count.false in
    let few : unsigned_abs z ≤ 200001 = omega (arith, ints, h, n.1) in
    rw (from_bits z c.in_ok-count.ensures.range, n.0, le-ltb 200001 (unsigned_abs z) few) refl

pub returns-clause-within : goal.returns-clause-within
returns-clause-within c =
    let z = c.in_ok-count.count in
    let n = zero_natural _ z c.in_ok-count.ensures.value c.in_ok-count.ensures.range in
    let h = rw (from_bits z c.in_ok-count.ensures.range) at c.if-count.false in
    rw (from_bits z c.in_ok-count.ensures.range) (omega (arith, ints, h, n.1))
