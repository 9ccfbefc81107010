-- Parts of a deck with their names.
use Rattle.std.specs.Prelude.{List, [], ◌∷◌, if◌then◌else◌}
use Rattle.um_num.specs.Listed.{Listed}
use Rattle.um_model.specs.Values.{ColumnValue, SetValue}
use Rattle.um_model.specs.declared.deck.Row.{Row}
use Rattle.um_model.specs.declared.deck.Member.{Member}
use Rattle.um_statements.specs.Statements.{Name}
use Rattle.um_statements.specs.CallRules.{is_n}
use Rattle.um_made.specs.declared.parts.RowPart.{RowPart}
use Rattle.um_made.specs.declared.parts.ColumnPart.{ColumnPart}
use Rattle.um_made.specs.declared.parts.SetPart.{SetPart}
use Rattle.um_made.specs.declared.rows.SidedRow.{SidedRow}
use Rattle.um_made.specs.declared.columns.ColumnLeft.{ColumnLeft}
use Rattle.um_made.specs.ColumnWords.{named_column}

-- a row of this name
abbrev pub named_row : Name → SidedRow → Row
named_row name r = record { name = name; scale = r.scale; low = r.low; high = r.high }

-- each row that is not N takes the next of these
abbrev pub named_rows : List (Name × RowPart) → List SidedRow → List Row
named_rows [] left = []
named_rows (e ∷ rows) [] = []
named_rows (e ∷ rows) (r ∷ left) = if is_n e.1.kind then named_rows rows (r ∷ left) else named_row e.0 r ∷ named_rows rows left

-- each column takes the next of these
abbrev pub named_columns : List (Name × ColumnPart) → List ColumnLeft → List ColumnValue
named_columns [] left = []
named_columns (e ∷ columns) [] = []
named_columns (e ∷ columns) (c ∷ left) = named_column e.0 c ∷ named_columns columns left

-- each set takes the next of these
abbrev pub named_sets : List (Name × SetPart) → List (Listed Member) → List SetValue
named_sets [] left = []
named_sets (e ∷ sets) [] = []
named_sets (e ∷ sets) (m ∷ left) = record { name = e.0; kind = e.1.kind; members = m.items } ∷ named_sets sets left
