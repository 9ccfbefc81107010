use Rattle.std.proofs.Common.{ℕ, ◌<◌, get_or}
use Rattle.um_model.specs.declared.deck.Column.{Column}
use Rattle.um_relax.specs.KeyTests.{IsApartIn}
use Rattle.um_relax.proofs.key_rows.is_free.Given as goal

abbrev pub invariant-loop-column : goal.invariant-loop-column
invariant-loop-column l = (k : ℕ) (d : Column) → k < l.column-index → IsApartIn l.keys l.row (get_or l.columns k d).entries.items
