use Rattle.std.proofs.Common.{◌≡◌, Err, refl, inr}
use Rattle.um_treetext.specs.FrontLines.{numbers}
use Rattle.std.proofs.lemmas.Bool.{eq-eqb, ne_eqb}
use Rattle.um_treetext.proofs.MemoryFaults.{for_whole}
use Rattle.um_treetext.proofs.WantOfMemory.{hands_on}
use Rattle.um_treetext.proofs.reading.parts.read_ray.Goals as goal

pub returns-in_err-fixed : goal.returns-in_err-fixed
returns-in_err-fixed c = hands_on _ c.in_err-fixed.field-0.0 _ _ c.from_residual.ensures.1 (inr (rw c.in_err-fixed.ensures refl))

pub returns-in_err-end : goal.returns-in_err-end
returns-in_err-end c = hands_on _ c.in_err-end.field-0.0 _ _ c.from_residual-in_err-end.ensures.1 (inr (rw (c.in_ok-fixed.ensures, ← c.if-is_next.ensures, ← c.skip.ensures, c.in_err-end.ensures) refl))

pub returns-then-is_next : goal.returns-then-is_next
returns-then-is_next c = rw (c.in_ok-fixed.ensures, ← c.if-is_next.ensures, ← c.skip.ensures, c.in_ok-end.ensures) refl

pub returns-then-columns-eq0 : goal.returns-then-columns-eq0
returns-then-columns-eq0 c = inr (rw (c.in_ok-fixed.ensures, ← c.if-is_next.ensures, eq-eqb c.args.columns 0 c.if-columns-eq0.true) refl)

pub returns-in_err-parts : goal.returns-in_err-parts
returns-in_err-parts c =
    hands_on _ c.in_err-parts.field-0.0 _ _ c.from_residual-in_err-parts.ensures.1
    (for_whole c.in_err-parts.ensures (λ (e : numbers c.args.columns c.fixed.new.self ≡ Err c.in_err-parts.field-0.0). rw (c.in_ok-fixed.ensures, ← c.if-is_next.ensures, ne_eqb c.args.columns 0 c.if-columns-eq0.false, e) refl))

pub returns-in_err-end-2 : goal.returns-in_err-end-2
returns-in_err-end-2 c =
    hands_on _ c.in_err-end-2.field-0.0 _ _ c.from_residual-in_err-end-2.ensures.1
    (inr (rw (c.in_ok-fixed.ensures, ← c.if-is_next.ensures, ne_eqb c.args.columns 0 c.if-columns-eq0.false, c.in_ok-parts.ensures, c.in_err-end-2.ensures) refl))

pub returns : goal.returns
returns c = rw (c.in_ok-fixed.ensures, ← c.if-is_next.ensures, ne_eqb c.args.columns 0 c.if-columns-eq0.false, c.in_ok-parts.ensures, c.in_ok-end-2.ensures) refl
