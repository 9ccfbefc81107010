use Rattle.std.proofs.Common.{◌≡◌, ℤ, sym, ◌∙◌, ap, pos, rules}
use Rattle.std.specs.Ordering.{int_cmp}
use Rattle.um_laws.specs.Rational.{Rational}
use Rattle.um_num.proofs.Parts.{from_bits}
use Rattle.um_lines.specs.Lines.{whole_at}
use Rattle.um_lines.specs.Nums.{nums_of}
use Rattle.um_lines.proofs.LineValues.{number_in_line}
use Rattle.um_lines.proofs.SameSigns.{sign_above}
use Rattle.um_lines.proofs.line.Line.sign.Goals as goal

pub returns : goal.returns
returns c =
    let i = c.self.inside in
    let read : c.cmp.result ≡ int_cmp c.get.result (pos 0) = search (rules, from_bits c.get.result c.get.ensures.range) in
    read
    ∙ ap (λ (z : ℤ). int_cmp z (pos 0)) c.get.ensures.value
    ∙ sign_above (whole_at (nums_of i.nums) c.args.column) i.den c.self.invariant.line.positive
    ∙ ap (λ (x : Rational). int_cmp x.num (pos 0)) (sym (number_in_line i.den (nums_of i.nums) c.args.self.now c.args.column c.self.view_is c.requires))
