use Rattle.std.proofs.Common.{◌≡◌, ℕ, unsigned_abs, subst, sym}
use Rattle.std.specs.Int.{◌∣◌}
use Rattle.std.proofs.lemmas.Int.{to_z-of_z}
use Rattle.um_lines.proofs.Guesses.{divisor_up}
use Rattle.um_lines.proofs.guess.next_guess.Goals as goal

pub returns-clause-positive : goal.returns-clause-positive
returns-clause-positive c = divisor_up c.short_gcd.result c.args.guess.shared c.short_gcd.ensures.0 c.requires

pub returns-clause-greatest : goal.returns-clause-greatest
returns-clause-greatest c d hd hn =
    let f = c.ranges.sum in
    let size : c.unsigned_abs-size.result ≡ unsigned_abs c.args.sum = simp to_z-of_z at c.unsigned_abs-size.ensures.value in
    c.short_gcd.ensures.2 d hd (subst (λ (z : ℕ). d ∣ z) (sym size) hn)
