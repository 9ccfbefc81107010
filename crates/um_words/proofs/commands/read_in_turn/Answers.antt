use Rattle.std.proofs.Common.{inl, refl, map, string_bytes}
use Rattle.um_words.specs.CheckWords.{check_words}
use Rattle.um_words.specs.SolveWords.{solve_words}
use Rattle.um_words.specs.PrintWords.{print_words}
use Rattle.um_words.proofs.Reading.{found_here, passed_by, refused_here}
use Rattle.um_words.proofs.commands.read_in_turn.Goals as goal

pub returns-in_err-job-2 : goal.returns-in_err-job-2
returns-in_err-job-2 c =
    let words = map string_bytes c.args.words.now in
    passed_by (check_words words) _ _ _ c.in_ok-job.ensures c.in_default.is
    (refused_here (solve_words words) _ _ c.in_err-job-2.field-0.0 c.in_err-job-2.ensures c.from_residual-in_err-job-2.ensures.1)

pub returns-in-Some-2 : goal.returns-in-Some-2
returns-in-Some-2 c =
    let words = map string_bytes c.args.words.now in
    passed_by (check_words words) _ _ _ c.in_ok-job.ensures c.in_default.is
    (found_here (solve_words words) _ _ c.in-Some-2.job c.in_ok-job-2.ensures c.in-Some-2.is)

pub returns : goal.returns
returns c =
    let words = map string_bytes c.args.words.now in
    passed_by (check_words words) _ _ _ c.in_ok-job.ensures c.in_default.is
    (passed_by (solve_words words) _ _ _ c.in_ok-job-2.ensures c.in_default-2.is
    (passed_by (print_words words) _ _ _ c.in_ok-job-3.ensures c.in_default-3.is (inl refl)))
