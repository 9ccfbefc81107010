use Rattle.std.proofs.Common.{rules, ◌≡◌, ◌∷◌, [], false, nat_eq, FitsSigned, decimal}
use Rattle.std.specs.Int.{w128}
use Rattle.std.proofs.lemmas.Int.{to_z-of_z}
use Rattle.std.proofs.lemmas.Result.{on_err_weaker}
use Rattle.um_text.specs.NumberWords.{fraction_word}
use Rattle.um_text.specs.Texts.{GoesOn}
use Rattle.um_text.proofs.Puts.{refused, due_is, stops_early, stops_later, two_parts}
use Rattle.um_text.proofs.text.Text.fraction.Goals as goal

pub returns-in_err-put-clause-kept : goal.returns-in_err-put-clause-kept
returns-in_err-put-clause-kept c =
    let fits : FitsSigned w128 c.num-num.result = search rules in
    let more : nat_eq c.args.fraction.now.den 1 ≡ false = search rules in
    refused c.from_residual-in_err-put.result
    (due_is (two_parts c.args.fraction.now c.num-num.result c.num-num.ensures.value more) (stops_later _ (simp to_z-of_z at c.in_ok-whole.ensures.ok) (stops_early (decimal c.args.fraction.now.den) c.in_err-put.ensures.kept)))

pub returns-clause-kept : goal.returns-clause-kept
returns-clause-kept c =
    let num_fits : FitsSigned w128 c.num-num.result = search rules in
    let den_fits : FitsSigned w128 c.den-den.result = search rules in
    let more : nat_eq c.args.fraction.now.den 1 ≡ false = search rules in
    let den_due : GoesOn c.put.new.self (decimal c.args.fraction.now.den) c.whole-3.new.self → GoesOn c.args.self.now (fraction_word c.args.fraction.now) c.whole-3.new.self
    = λ g. due_is (two_parts c.args.fraction.now c.num-num.result c.num-num.ensures.value more) (stops_later _ (simp to_z-of_z at c.in_ok-whole.ensures.ok) (stops_later (47 ∷ []) c.in_ok-put.ensures.ok g)) in
    on_err_weaker c.whole-3.result den_due (rw c.den-den.ensures.value at (simp to_z-of_z at c.whole-3.ensures.kept))

pub returns-in_err-whole-clause-kept : goal.returns-in_err-whole-clause-kept
returns-in_err-whole-clause-kept c =
    let fits : FitsSigned w128 c.num-num.result = search rules in
    let more : nat_eq c.args.fraction.now.den 1 ≡ false = search rules in
    refused c.from_residual.result
    (due_is (two_parts c.args.fraction.now c.num-num.result c.num-num.ensures.value more) (stops_early (47 ∷ decimal c.args.fraction.now.den) (simp to_z-of_z at c.in_err-whole.ensures.kept)))
