use Rattle.std.proofs.Common.{◌≡◌, arith, refl, pos, get_or, map, take, FitsSigned, rules}
use Rattle.std.proofs.lemmas.List.{take_all}
use Rattle.std.proofs.lemmas.Int.{to_z-of_z}
use Rattle.std.specs.Int.{w128}
use Rattle.std.specs.Fmt.{signed_decimal}
use Rattle.um_text.proofs.Puts.{on_ok, next_put, more_words, line_rest_is}
use Rattle.um_treetext.proofs.writer.put_numbers.Goals as goal

pub loop-number-preserved : goal.loop-number-preserved
loop-number-preserved c =
    let number = get_or c.args.numbers.now c.loop-number.number-index (pos 0) in
    let fits : FitsSigned w128 number = search rules in
    let put = simp to_z-of_z at c.in_ok-whole_word.ensures.ok in
    next_put _ _ _ _ _ _ c.loop-number.invariant put (more_words signed_decimal c.args.numbers.now c.loop-number.number-index number (pos 0) (omega arith) refl)

pub returns : goal.returns
returns c =
    let all : take c.loop-number.number-index c.args.numbers.now ≡ c.args.numbers.now = take_all c.loop-number.number-index c.args.numbers.now c.loop-number-test.false in
    let put = rw all at c.loop-number.invariant in
    on_ok c.end_line.result c.end_line.ensures.ok (λ e. next_put _ _ _ _ _ _ put e (line_rest_is (map signed_decimal c.args.numbers.now)))
