use Rattle.std.proofs.Common.{None, Some, inl, inr, sym}
use Rattle.um_made.specs.Parts.{said}
use Rattle.um_made.proofs.DeckFaults.{objective_broken, row_broken, column_broken, sets_decide}
use Rattle.um_made.proofs.told.Told.parts.Goals as goal

pub returns-in-Err : goal.returns-in-Err
returns-in-Err c = inr (objective_broken (said c.args.self) c.in-Err.fault c.in-Err.ensures)

pub returns-in-Err-sided_rows : goal.returns-in-Err-sided_rows
returns-in-Err-sided_rows c =
    elim c.in-Err-sided_rows.ensures [ inl memory ↦ inl memory | inr broken ↦ inr (row_broken (said c.args.self) c.in-Err-sided_rows.fault c.in-Ok.ensures.0 broken) ]

pub returns-in-Some : goal.returns-in-Some
returns-in-Some c = inr (column_broken (said c.args.self) c.in-Some.fault c.in-Ok.ensures.0 c.in-Ok-sided_rows.ensures.0 (sym c.in-Some.ensures))

pub returns-in-Err-sets_left : goal.returns-in-Err-sets_left
returns-in-Err-sets_left c =
    elim c.in-Err-sets_left.ensures [
      | inl memory ↦ inl memory
      | inr broken ↦ inr (sets_decide (said c.args.self) (Some c.in-Err-sets_left.fault) c.in-Ok.ensures.0 c.in-Ok-sided_rows.ensures.0 (sym c.in-None.ensures) broken)
    ]

pub returns : goal.returns
returns c = (
  sets_decide (said c.args.self) None c.in-Ok.ensures.0 c.in-Ok-sided_rows.ensures.0 (sym c.in-None.ensures) c.in-Ok-sets_left.ensures.0,
  c.in_ok-parts.ensures,
)
