-- Pairs of a row and a number, and what they say.
use Rattle.std.specs.Prelude.{◌<◌, List, [], ◌∷◌, length}
use Rattle.um_num.specs.declared.decimal.Decimal.{Decimal}
use Rattle.um_statements.specs.Statements.{Name, Statement, EntryTold, Side, Range}
use Rattle.um_statements.specs.Said.{Said}
use Rattle.um_statements.specs.WellSaid.{IsNumber}
use Rattle.um_mps.specs.declared.pairs.Pairs.{Pairs}
use Rattle.um_mps.specs.declared.pairs.Pairs.TheVariants.{One, Two}
use Rattle.um_mps.specs.declared.pairs.Part.{Part}
use Rattle.um_mps.specs.declared.pairs.Part.TheVariants as part

-- the rows and numbers
abbrev pub pairs_of : Pairs → List (Name × Decimal)
pairs_of (One p) = (p.row.now, p.value) ∷ []
pairs_of (Two p q) = (p.row.now, p.value) ∷ (q.row.now, q.value) ∷ []

abbrev pub AreNumbers : Pairs → Type 0
AreNumbers (One p) = IsNumber p.value
AreNumbers (Two p q) = IsNumber p.value × IsNumber q.value

-- what a pair says of a deck
abbrev pub statement : Part → Name → Decimal → Statement
statement part.Entry = EntryTold
statement part.Side = Side
statement part.Range = Range

-- an entry wants a column
abbrev pub MayTell : Part → Said → Type 0
MayTell part.Entry said = 0 < length said.columns
MayTell other said = Unit {0}
