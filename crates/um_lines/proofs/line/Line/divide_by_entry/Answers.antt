use Rattle.std.proofs.Common.{◌≡◌, ◌<◌, neg_ℤ, length, arith, rules, FitsSigned, to_z, of_z}
use Rattle.std.specs.Int.{w128}
use Rattle.std.proofs.lemmas.Int.{to_z-of_z}
use Rattle.um_lines.specs.Nums.{nums_of}
use Rattle.um_lines.specs.Lines.{whole_at}
use Rattle.um_lines.proofs.Lowests.{minus_in_line}
use Rattle.um_lines.proofs.LineValues.{length-line, turned_held, zero_in_line}
use Rattle.um_lines.proofs.line.Line.divide_by_entry.Goals as goal

pub divide_by_entry-out-inside-requires-clause-not_zero : goal.divide_by_entry-out-inside-requires-clause-not_zero
divide_by_entry-out-inside-requires-clause-not_zero c e =
    let i = c.self.inside in
    c.requires.not_zero (zero_in_line i.den (nums_of i.nums) c.args.self.now c.args.column c.self.view_is c.requires.column_in c.self.invariant.line.positive e)

pub returns-clause-value : goal.returns-clause-value
returns-clause-value c =
    let i = c.self.inside in
    let f : FitsSigned w128 c.divide_by_entry-out-inside.result = search rules in
    turned_held i.den (nums_of i.nums) c.args.self.now (to_z w128 (of_z w128 c.divide_by_entry-out-inside.result)) (nums_of c.divide_by_entry-out-inside.new.out) c.args.column c.self.view_is c.divide_by_entry-out-inside.ensures.long c.requires.column_in
    (λ j p. simp to_z-of_z (c.divide_by_entry-out-inside.ensures.value i.den c.self.invariant.line.positive j p))

pub invariant_of-out : goal.invariant_of-out
invariant_of-out c =
    let i = c.self.inside in
    let nums = nums_of i.nums in
    let own_long : length nums ≡ length c.args.self.now = length-line i.den nums c.args.self.now c.self.view_is in
    let place = c.requires.own.0 in
    let within : place < length nums = omega (arith, c.requires.own.1) in
    let minus : whole_at nums place ≡ neg_ℤ i.den = minus_in_line i.den nums c.args.self.now place c.self.view_is c.requires.own.1 c.self.invariant.line.positive c.requires.own.2 in
    let f : FitsSigned w128 c.divide_by_entry-out-inside.result = search rules in
    simp to_z-of_z
    (record {
      line = c.divide_by_entry-out-inside.ensures.out;
      lowest = c.divide_by_entry-out-inside.ensures.lowest i.den place c.self.invariant.line.positive within minus c.self.invariant.lowest;
    })
