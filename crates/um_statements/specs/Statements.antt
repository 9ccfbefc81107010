-- What a maker of decks can be told.
use Rattle.std.specs.Prelude.{ℕ, Bool, List, Option}
use Rattle.um_num.specs.declared.decimal.Decimal.{Decimal}
use Rattle.um_model.specs.declared.deck.SetKind.{SetKind}
use Rattle.um_statements.specs.declared.parts.RowKind.{RowKind}
use Rattle.um_statements.specs.declared.parts.BoundKind.{BoundKind}

abbrev pub Name : Type 0
Name = List ℕ

-- One thing said of a deck. An entry goes to the last column before it, and a member to the last set.
pub data Statement : Type 0 where
  Title : Name → Statement
  Sense : (maximise : Bool) → Statement
  RowTold : RowKind → Name → Statement
  Column : Name → (integer : Bool) → Statement
  EntryTold : (row : Name) → Decimal → Statement
  Side : (row : Name) → Decimal → Statement
  Range : (row : Name) → Decimal → Statement
  Bound : BoundKind → (column : Name) → Option Decimal → Statement
  Set : SetKind → Name → (reference : Option Name) → Statement
  MemberTold : (column : Name) → (weight : Option Decimal) → Statement
  ArcTold : (row column : Name) → Decimal → Statement
