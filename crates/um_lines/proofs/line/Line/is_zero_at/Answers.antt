use Rattle.std.proofs.Common.{◌≡◌, ◌∙◌, sym, arith, of_z}
use Rattle.std.specs.Int.{w128}
use Rattle.std.proofs.lemmas.Int.{ints}
use Rattle.std.proofs.lemmas.Bool.{eqb-true, eq-eqb}
use Rattle.um_lines.specs.Nums.{nums_of}
use Rattle.um_lines.proofs.LineValues.{zero_in_line, zero_of_line}
use Rattle.um_lines.proofs.line.Line.is_zero_at.Goals as goal

pub returns : goal.returns
returns c =
    let i = c.self.inside in
    let read = c.get.ensures.value in
    let r = c.get.ensures.range in (
      λ h. let z : of_z w128 c.get.result ≡ 0 = eqb-true _ _ h in zero_in_line i.den (nums_of i.nums) c.args.self.now c.args.column c.self.view_is c.requires c.self.invariant.line.positive (sym read ∙ omega (arith, ints, z, r)),
      λ e. let p = zero_of_line i.den (nums_of i.nums) c.args.self.now c.args.column c.self.view_is c.requires c.self.invariant.line.positive e in let z : of_z w128 c.get.result ≡ 0 = omega (arith, ints, read ∙ p) in eq-eqb _ _ z,
    )
