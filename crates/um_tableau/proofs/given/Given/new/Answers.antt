use Rattle.std.proofs.Common.{◌≡◌, length, map, arith, ap, sym, subst, ◌∙◌}
use Rattle.std.specs.Prelude.{ℤ, List}
use Rattle.um_num.specs.Listed.{Listed}
use Rattle.um_lp.specs.declared.relaxation.Term.{Term}
use Rattle.um_tableau.specs.Frames.{items_of}
use Rattle.um_lines.specs.Lines.{AreInRange}
use Rattle.um_tableau.proofs.Coefficients.{in_range_at, rising_terms}
use Rattle.um_tableau.proofs.FrameLemmas.{length-columns_of, length-same, frame_is}
use Rattle.um_tableau.proofs.given.Given.new.Goals as goal

pub invariant_of-result : goal.invariant_of-result
invariant_of-result c =
    let r = c.args.relaxation.now in
    let costs : c.in_ok-from_slice.field-0.items ≡ r.costs.items = ap (λ (l : Listed ℤ). l.items) c.in_ok-from_slice.ensures ∙ c.as_slice.ensures in
    let terms : length c.in_ok-copy_terms.field-0.items ≡ length r.entries.items = length-same _ _ c.in_ok-copy_terms.ensures ∙ ap length c.as_slice-2.ensures in
    let costs_long = ap length costs in
    let wide = length-columns_of r.costs.items r.entries.items (c.requires.entries ∙ sym c.requires.costs) in
    record {
      same = omega (arith, c.requires.costs, c.requires.entries);
      costs_in = subst (λ (nums : List ℤ). AreInRange nums) (sym costs) (in_range_at r.costs.items c.requires.costs_in);
      terms_in = rising_terms r.rows _ r.entries.items (c.in_ok-copy_terms.ensures ∙ ap (λ (l : List (Listed Term)). map items_of l) c.as_slice-2.ensures) c.requires.terms;
      size = omega (arith, c.requires.size, c.requires.costs, c.len-bends.ensures);
    }

pub returns : goal.returns
returns c =
    let r = c.args.relaxation.now in
    let costs : c.in_ok-from_slice.field-0.items ≡ r.costs.items = ap (λ (l : Listed ℤ). l.items) c.in_ok-from_slice.ensures ∙ c.as_slice.ensures in
    let terms : map items_of c.in_ok-copy_terms.field-0.items ≡ map items_of r.entries.items = c.in_ok-copy_terms.ensures ∙ ap (λ (l : List (Listed Term)). map items_of l) c.as_slice-2.ensures in
    frame_is r.rows c.len-bends.result (length r.bends.items) c.in_ok-from_slice.field-0.items r.costs.items c.in_ok-copy_terms.field-0.items r.entries.items c.len-bends.ensures costs terms
