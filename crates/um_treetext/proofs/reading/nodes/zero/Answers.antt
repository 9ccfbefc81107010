use Rattle.std.proofs.Common.{refl, arith, ap, unsigned_abs}
use Rattle.std.proofs.lemmas.Bool.{eq-eqb, ne_eqb}
use Rattle.std.proofs.lemmas.Int.{ints}
use Rattle.um_num.proofs.Parts.{from_bits}
use Rattle.um_treetext.specs.NodeLines.{zero_word}
use Rattle.um_treetext.proofs.Takes.{fails_with}
use Rattle.um_treetext.proofs.NumberWords.{as_count, of_count}
use Rattle.um_treetext.proofs.reading.nodes.zero.Goals as goal

pub returns-in_err-number : goal.returns-in_err-number
unfolding zero_word
returns-in_err-number c = fails_with _ c.in_err-number.field-0.0 _ c.from_residual.ensures.1 (rw (← c.in_err-number.ensures.value) refl)

pub returns-then-number-ne0 : goal.returns-then-number-ne0
unfolding zero_word
returns-then-number-ne0 c =
    let z = c.in_ok-number.number in
    rw (← c.in_ok-number.ensures.value, ne_eqb (unsigned_abs z) 0 (λ e. c.if-number-ne0.true (of_count z 0 (omega arith) (omega (arith, ints, e))))) refl

pub returns : goal.returns
unfolding zero_word
returns c =
    let z = c.in_ok-number.number in
    let is = as_count z 0 c.in_ok-number.ensures.range (omega arith) c.if-number-ne0.false in
    rw (from_bits z c.in_ok-number.ensures.range, ← c.in_ok-number.ensures.value, eq-eqb (unsigned_abs z) 0 (ap unsigned_abs is)) refl
