use Rattle.std.proofs.Common.{ℤ, List, length, ◌≡◌, unsigned_abs, FitsSigned, arith, pos, ◌≤ℤ◌, ◌<ℤ◌, ◌-ℤ◌, neg_ℤ, ◌∙◌, sym, ap}
use Rattle.std.specs.Int.{w128}
use Rattle.std.proofs.lemmas.Int.{to_z-of_z, ints}
use Rattle.um_laws.specs.Rational.{mul, neg, inverse}
use Rattle.um_num.specs.Views.{rational}
use Rattle.um_lines.specs.Lines.{whole_at}
use Rattle.um_lines.specs.Nums.{nums_of, AreSameWholes, AreTurned}
use Rattle.um_lines.proofs.Lowests.{lowest_turned}
use Rattle.um_lines.proofs.Wholes.{neg_same, size_of_neg}
use Rattle.um_lines.proofs.LineNumbers.{turned_above, turned_below, not_zero, below_zero}
use Rattle.um_lines.proofs.sums.divide_by_entry.Goals as goal

-- a copy, turned
turned_copy : (nums copy out : List ℤ) → length copy ≡ length nums → AreSameWholes nums copy → AreTurned copy out → AreTurned nums out
turned_copy nums copy out long same turned j p = turned j (omega arith) ∙ ap neg_ℤ (same j p)

pub returns-then-entry-gt0-clause-value : goal.returns-then-entry-gt0-clause-value
returns-then-entry-gt0-clause-value c den up j p =
    let a : ℤ = c.get-entry.result in
    let e = c.get-entry.ensures.value in
    let f : FitsSigned w128 c.get-entry.result = omega (arith, ints, c.get-entry.ensures.range) in
    let above : pos 0 <ℤ c.get-entry.result = omega (arith, ints, c.if-entry-gt0.true) in
    simp to_z-of_z
    (ap (λ (z : ℤ). rational z c.get-entry.result) (turned_copy (nums_of c.args.nums.now) (nums_of c.copy_to.new.out) (nums_of c.turn.new.self) c.copy_to.ensures.long c.copy_to.ensures.same c.turn.ensures.turned j p)
    ∙ turned_above (whole_at (nums_of c.args.nums.now) j) c.get-entry.result den up above (not_zero c.get-entry.result den up (λ h. c.requires.not_zero (sym e ∙ h)))
    ∙ ap (λ (z : ℤ). mul (neg (inverse (rational z den))) (rational (whole_at (nums_of c.args.nums.now) j) den)) e)

pub returns-else-entry-gt0-clause-value : goal.returns-else-entry-gt0-clause-value
returns-else-entry-gt0-clause-value c den up j p =
    let e = c.get-entry.ensures.value in
    let f : FitsSigned w128 c.get-entry.result = omega (arith, ints, c.get-entry.ensures.range) in
    let g : FitsSigned w128 (pos 0 -ℤ c.get-entry.result) = omega (arith, ints, c.get-entry.ensures.range) in
    let low : c.get-entry.result ≤ℤ pos 0 = omega (arith, ints, c.if-entry-gt0.false) in
    simp to_z-of_z
    (ap (λ (z : ℤ). rational (whole_at (nums_of c.copy_to.new.out) j) z) (neg_same c.get-entry.result)
    ∙ ap (λ (z : ℤ). rational z (neg_ℤ c.get-entry.result)) (c.copy_to.ensures.same j p)
    ∙ turned_below (whole_at (nums_of c.args.nums.now) j) c.get-entry.result den up (below_zero _ (λ h. c.requires.not_zero (sym e ∙ h)) low) (not_zero c.get-entry.result den up (λ h. c.requires.not_zero (sym e ∙ h)))
    ∙ ap (λ (z : ℤ). mul (neg (inverse (rational z den))) (rational (whole_at (nums_of c.args.nums.now) j) den)) e)

pub returns-then-entry-gt0-clause-lowest : goal.returns-then-entry-gt0-clause-lowest
returns-then-entry-gt0-clause-lowest c den place up l own lowest =
    lowest_turned den _ (nums_of c.args.nums.now) (nums_of c.turn.new.self) c.args.column place (omega arith) c.requires.column_in l own
    (λ j p. ap unsigned_abs (turned_copy (nums_of c.args.nums.now) (nums_of c.copy_to.new.out) (nums_of c.turn.new.self) c.copy_to.ensures.long c.copy_to.ensures.same c.turn.ensures.turned j p) ∙ size_of_neg (whole_at (nums_of c.args.nums.now) j)) lowest

pub returns-else-entry-gt0-clause-lowest : goal.returns-else-entry-gt0-clause-lowest
returns-else-entry-gt0-clause-lowest c den place up l own lowest =
    lowest_turned den _ (nums_of c.args.nums.now) (nums_of c.copy_to.new.out) c.args.column place (omega arith) c.requires.column_in l own (λ j p. ap unsigned_abs (c.copy_to.ensures.same j p)) lowest
