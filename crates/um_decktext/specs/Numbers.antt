-- The numerals of a deck's lines.
use Rattle.std.specs.Prelude.{ℕ, List, Result, Ok, Err}
use Rattle.um_num.specs.declared.decimal.Decimal.{Decimal}
use Rattle.um_text.specs.Decimals.{decimal_number}
use Rattle.um_text.specs.declared.numeral.NumberFault.{NumberFault}
use Rattle.um_text.specs.declared.numeral.NumberFault.TheVariants as number_fault
use Rattle.um_statements.specs.declared.fault.Fault.{Fault}
use Rattle.um_statements.specs.declared.fault.Fault.TheVariants.{BadNumber, TooWide}

-- a word that is no numeral, or one out of range, as a fault of decks
abbrev pub as_fault : NumberFault → Fault
as_fault number_fault.NotNumber = BadNumber
as_fault number_fault.TooWide = TooWide

-- the number, or the fault of decks
abbrev pub read_as : Result Decimal NumberFault → Result Decimal Fault
read_as (Ok v) = Ok v
read_as (Err e) = Err (as_fault e)

-- the value of a numeral
abbrev pub number : List ℕ → Result Decimal Fault
number word = read_as (decimal_number word)
