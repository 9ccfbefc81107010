use Rattle.std.proofs.Common.{ℕ, ◌+◌, negsuc, slice_set, arith, ap, ◌∙◌}
use Rattle.um_laws.specs.Rational.{whole}
use Rattle.um_lines.specs.Lines.{whole_at}
use Rattle.um_tableau.proofs.Starting.{system_at}
use Rattle.um_tableau.proofs.start.write_row.Goals as goal

pub returns-clause-value : goal.returns-clause-value
returns-clause-value c j l =
    ap (λ (n : ℕ). whole (whole_at (slice_set c.write_coefficients.new.nums (n + c.args.row) (negsuc 0)) j)) c.first_slack.ensures
    ∙ system_at c.args.given.now c.args.row c.write_coefficients.new.nums (omega (arith, c.requires.long, c.requires.row_in)) c.write_coefficients.ensures.value j l
