use Rattle.std.proofs.Common.{◌≡◌, Err, refl, inr, rules, FitsSigned}
use Rattle.std.specs.Int.{w128}
use Rattle.um_treetext.specs.FrontLines.{numbers}
use Rattle.um_treetext.specs.Words.{taking}
use Rattle.um_treetext.proofs.NumberWords.{held}
use Rattle.um_treetext.proofs.MemoryFaults.{for_whole}
use Rattle.um_treetext.proofs.WantOfMemory.{hands_on}
use Rattle.um_treetext.proofs.reading.parts.read_point.Goals as goal

pub returns-in_err-fixed : goal.returns-in_err-fixed
unfolding taking
returns-in_err-fixed c = hands_on _ c.in_err-fixed.field-0.0 _ _ c.from_residual.ensures.1 (inr (rw c.in_err-fixed.ensures refl))

pub returns-in_err-end : goal.returns-in_err-end
unfolding taking
returns-in_err-end c = hands_on _ c.in_err-end.field-0.0 _ _ c.from_residual-in_err-end.ensures.1 (inr (rw (c.in_ok-fixed.ensures, ← c.if-is_next.ensures, ← c.skip.ensures, c.in_err-end.ensures) refl))

pub returns-then-is_next : goal.returns-then-is_next
unfolding taking
returns-then-is_next c = rw (c.in_ok-fixed.ensures, ← c.if-is_next.ensures, ← c.skip.ensures, c.in_ok-end.ensures) refl

pub returns-in_err-word : goal.returns-in_err-word
unfolding taking
returns-in_err-word c = hands_on _ c.in_err-word.field-0.0 _ _ c.from_residual-in_err-word.ensures.1 (inr (rw (c.in_ok-fixed.ensures, ← c.if-is_next.ensures, c.in_err-word.ensures) refl))

pub returns-in_err-den : goal.returns-in_err-den
unfolding taking
returns-in_err-den c = hands_on _ c.in_err-den.field-0.0 _ _ c.from_residual-in_err-den.ensures.1 (inr (rw (c.in_ok-fixed.ensures, ← c.if-is_next.ensures, c.in_ok-word.ensures, ← c.in_err-den.ensures) refl))

pub returns-in_err-parts : goal.returns-in_err-parts
unfolding taking
returns-in_err-parts c =
    hands_on _ c.in_err-parts.field-0.0 _ _ c.from_residual-in_err-parts.ensures.1
    (for_whole c.in_err-parts.ensures (λ (e : numbers c.args.columns c.word.new.self ≡ Err c.in_err-parts.field-0.0). rw (c.in_ok-fixed.ensures, ← c.if-is_next.ensures, c.in_ok-word.ensures, ← c.in_ok-den.ensures, e) refl))

pub returns-in_err-end-2 : goal.returns-in_err-end-2
unfolding taking
returns-in_err-end-2 c = hands_on _ c.in_err-end-2.field-0.0 _ _ c.from_residual-in_err-end-2.ensures.1 (inr (rw (c.in_ok-fixed.ensures, ← c.if-is_next.ensures, c.in_ok-word.ensures, ← c.in_ok-den.ensures, c.in_ok-parts.ensures, c.in_err-end-2.ensures) refl))

pub returns : goal.returns
unfolding taking
returns c =
    let fits : FitsSigned w128 c.in_ok-den.den = search rules in
    rw (held c.in_ok-den.den fits, c.in_ok-fixed.ensures, ← c.if-is_next.ensures, c.in_ok-word.ensures, ← c.in_ok-den.ensures, c.in_ok-parts.ensures, c.in_ok-end-2.ensures) refl
