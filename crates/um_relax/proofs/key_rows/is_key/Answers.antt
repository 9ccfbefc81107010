use Rattle.std.proofs.Common.{sym, refl, ◌∙◌}
use Rattle.std.proofs.lemmas.Bool.{false≢true}
use Rattle.um_relax.proofs.key_rows.is_key.Goals as goal
use Rattle.um_relax.proofs.key_rows.is_key.Goals.{then-are_equal_sides, else-are_equal_sides}

pub returns-then-has_equal_coefficients : goal.returns-then-has_equal_coefficients
returns-then-has_equal_coefficients c =
    elim c.if-are_equal_sides.branch [
      | then-are_equal_sides w ↦ (
        λ h. record {
          equation = w.if-are_equal_sides.ensures.0 refl;
          equal = w.has_equal_coefficients.ensures.0 (sym w.value-is ∙ c.if-has_equal_coefficients.true);
          free = c.is_free.ensures.0 h;
        },
        λ key. c.is_free.ensures.1 key.free,
      )
      | else-are_equal_sides w ↦ absurd (false≢true (sym w.if-are_equal_sides.false ∙ sym w.value-is ∙ c.if-has_equal_coefficients.true))
    ]
