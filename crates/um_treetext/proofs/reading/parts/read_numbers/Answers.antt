use Rattle.std.proofs.Common.{arith, ap, sym, ◌∙◌, ◌-◌, ◌+◌, inl, inr, refl, ℤ}
use Rattle.um_num.specs.Listed.{Listed}
use Rattle.um_num.proofs.Parts.{from_bits}
use Rattle.um_treetext.specs.declared.fault.TreeWord.TheVariants.{Memory}
use Rattle.um_treetext.proofs.CountedNumbers.{numbers_behind, none_read, one_read, no_word, no_number, all_numbers_read}
use Rattle.um_treetext.proofs.WantOfMemory.{hands_on}
use Rattle.um_treetext.proofs.reading.parts.read_numbers.Goals as goal

pub loop-i-init : goal.loop-i-init
loop-i-init c = rw c.new-numbers.ensures.items (none_read c.args.count _ c.args.words.now (omega arith))

pub loop-i-preserved : goal.loop-i-preserved
loop-i-preserved c =
    let z = c.in_ok-whole_number.field-0 in
    let now = rw (from_bits z c.in_ok-whole_number.ensures.range) at c.in_ok-push.ensures.ok in
    let left = c.args.count - (c.loop-i._i + 1) in
    c.loop-i.invariant
    ∙ one_read c.loop-i.numbers.items left (c.args.count - c.loop-i._i) c.loop-i.words c.word.new.self _ z (omega arith) c.in_ok-word.ensures c.in_ok-whole_number.ensures.value
    ∙ ap (λ (l : Listed ℤ). numbers_behind l.items left c.word.new.self) (sym now)

pub returns-in_err-word : goal.returns-in_err-word
returns-in_err-word c =
    hands_on _ c.in_err-word.field-0.0 _ _ c.from_residual.ensures.1
    (inr (c.loop-i.invariant ∙ no_word _ (c.args.count - (c.loop-i._i + 1)) _ c.loop-i.words _ (omega arith) c.in_err-word.ensures))

pub returns-in_err-whole_number : goal.returns-in_err-whole_number
returns-in_err-whole_number c =
    hands_on _ c.in_err-whole_number.field-0.0 _ _ c.from_residual-in_err-whole_number.ensures.1
    (inr (c.loop-i.invariant ∙ no_number _ (c.args.count - (c.loop-i._i + 1)) _ c.loop-i.words c.word.new.self _ _ (omega arith) c.in_ok-word.ensures c.in_err-whole_number.ensures.value))

pub returns-in_err-push : goal.returns-in_err-push
returns-in_err-push c = hands_on _ Memory _ _ c.from_residual-in_err-push.ensures.1 (inl refl)

pub returns : goal.returns
returns c = c.loop-i.invariant ∙ all_numbers_read c.loop-i.numbers.items _ c.loop-i.words (omega arith)
