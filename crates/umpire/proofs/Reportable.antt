-- The answer to a deck can be reported.
use Rattle.std.proofs.Common.{◌≡◌, ℤ, pos, ◌≤ℤ◌, Option, Some, None, IfSome, sym, subst, inl, inr, arith}
use Rattle.std.proofs.lemmas.Int.{ints}
use Rattle.um_model.specs.Values.{DeckValue, PointValue}
use Rattle.um_model.specs.Accepted.{IsVerdict, NumbersSmall, IsSmallPoint}
use Rattle.um_model.specs.AnswerValues.{AnswerValue}
use Rattle.um_model.specs.Checkable.{IsCheckable, IsCheckablePoint}
use Rattle.um_model.specs.declared.verdict.Verdict.TheVariants.{Yes}
use Rattle.um_model.specs.declared.answer.AnswerKind.{AnswerKind}
use Rattle.um_model.specs.declared.answer.AnswerKind.TheVariants.{Optimal, Infeasible as HasNone, Unbounded, Limit, Overflow}
use Rattle.um_report.specs.Reports.{IsReportable, IsReportablePoint}
use Rattle.um_search.specs.Told.{TellsOf}
use Rattle.um_search.specs.declared.budget.Budget.{Budget}
use Rattle.umpire.specs.Solutions.{Answers}

-- the numbers of an accepted answer are small
accepted_small : (d : DeckValue) (a : AnswerValue) → IsVerdict d a Yes → NumbersSmall a
accepted_small d a (inl (tolerance, inl (fields, inl (small, rest)))) = small
accepted_small d a (inl (tolerance, inl (fields, inr (large, e)))) = cc
accepted_small d a (inl (tolerance, inr (other, e))) = cc
accepted_small d a (inr (other, e)) = cc

point_reportable : (d : DeckValue) (o : Option PointValue) → IfSome o (IsCheckablePoint d) → IfSome o IsSmallPoint → IfSome o (IsReportablePoint d)
point_reportable d None h small = tt
point_reportable d (Some p) h small = record {
  den = h.den;
  den_in = omega (arith, small.den);
  parts = h.parts;
  parts_in = λ k x inside. omega (arith, small.parts k x inside);
}

-- whatever an answer tells, its tolerance is 0
tolerance_of : (kind : AnswerKind) (d : DeckValue) (budget : Budget) (a : AnswerValue) → TellsOf kind d budget a → a.tolerance ≡ pos 0
tolerance_of Optimal d budget a h = h.tolerance
tolerance_of HasNone d budget a h = h.tolerance
tolerance_of Unbounded d budget a h = h.tolerance
tolerance_of Limit d budget a h = h.tolerance
tolerance_of Overflow d budget a h = h.tolerance

pub reportable : (d : DeckValue) (budget : Budget) (a : AnswerValue) → IsCheckable d a → Answers d budget a → IsReportable d a
reportable d budget a checkable answers = record {
  tolerance = subst (λ (t : ℤ). pos 0 ≤ℤ t) (sym (tolerance_of a.kind d budget a answers.tells)) (omega (arith, ints));
  point = point_reportable d a.point checkable.point (accepted_small d a answers.accepted).point;
  ray = checkable.ray;
}
