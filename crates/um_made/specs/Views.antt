-- How a maker is seen: as what was said so far.
use Rattle.std.specs.Prelude.{Bool, List, [], map, Option, unwrap_or}
use Rattle.um_statements.specs.declared.parts.ArcPart.{ArcPart}
use Rattle.um_statements.specs.Statements.{Name}
use Rattle.um_statements.specs.Said.{Said, RowSaid, ColumnSaid, SetSaid}
use Rattle.um_made.specs.declared.parts.RowPart.{RowPart}
use Rattle.um_made.specs.declared.parts.ColumnPart.{ColumnPart}
use Rattle.um_made.specs.declared.parts.SetPart.{SetPart}

abbrev pub row_said : Name × RowPart → RowSaid
row_said e = record { name = e.0; kind = e.1.kind; side = e.1.side; range = e.1.range }

abbrev pub column_said : Name × ColumnPart → ColumnSaid
column_said e = record { name = e.0; ends = e.1.ends; entries = e.1.entries.items }

abbrev pub set_said : Name × SetPart → SetSaid
set_said e = record { name = e.0; kind = e.1.kind; reference = e.1.reference; members = e.1.members.items }

-- what was said, from the parts of a maker
abbrev pub said_of : Option Name → Bool → List (Name × RowPart) → List (Name × ColumnPart) → List (Name × SetPart) → List ArcPart → Said
said_of name maximise rows columns sets arcs = record {
  name = unwrap_or name [];
  maximise = maximise;
  rows = map row_said rows;
  columns = map column_said columns;
  sets = map set_said sets;
  arcs = arcs;
}
