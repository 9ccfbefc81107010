use Rattle.std.proofs.Common.{◌∙◌, sym, refl}
use Rattle.um_statements.specs.Said.{ColumnSaid}
use Rattle.um_statements.specs.CallRules.{holds_row}
use Rattle.um_made.specs.Views.{column_said}
use Rattle.um_maker.proofs.SeenItems.{last_seen, none_seen}
use Rattle.um_maker.proofs.maker.DeckMaker.has_entry.Goals as goal

pub returns-in-Some : goal.returns-in-Some
returns-in-Some c =
    rw (← c.self.view_is) (c.holds_row.ensures ∙ rw c.as_slice.ensures (sym (last_seen column_said (λ (k : ColumnSaid). holds_row c.args.place k.entries) _ c.self.inside.columns c.in-Some.column.now c.in-Some.ensures (λ n. refl))))

pub returns-in-None : goal.returns-in-None
returns-in-None c = rw (← c.self.view_is) (sym (none_seen column_said (λ (k : ColumnSaid). holds_row c.args.place k.entries) c.self.inside.columns c.in-None.ensures))
