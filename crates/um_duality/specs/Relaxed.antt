-- The linear relaxation of a deck without arcs: what a board for it is made from.
use Rattle.std.specs.Prelude.{◌≡◌, ℤ, pos, ◌*ℤ◌, [], length, map, Option, option_map}
use Rattle.um_model.specs.Values.{DeckValue, ColumnValue}
use Rattle.um_model.specs.declared.deck.Entry.{Entry}
use Rattle.um_lp.specs.States.{ColumnData, Frame, State}
use Rattle.um_lp.specs.declared.relaxation.Term.{Term}

-- an entry of the deck, as a term; the columns are in thousandths, and so are the rows' sums
abbrev pub term_of : Entry → Term
term_of e = record { row = e.row; value = e.value }

-- a side of a row, which is scaled, is an end of its slack in thousandths of that
abbrev pub side_end : Option ℤ → Option ℤ
side_end side = option_map (λ v. pos 1000 *ℤ v) side

-- what a column of the deck costs, and what it has in the rows
abbrev pub column_data : ColumnValue → ColumnData
column_data c = record { cost = c.cost; terms = map term_of c.entries }

-- the frame of a board that is made for the deck's relaxation
abbrev pub deck_frame : DeckValue → Frame
deck_frame d = record { rows = length d.rows; columns = map column_data d.columns; places = 0 }

-- the board is made from the deck's rows and costs; which costs it takes is free: the given ones, or none
pub record StandsFor (d : DeckValue) (s : State) : Type 0 where
  pub frame : s.frame ≡ deck_frame d
  pub placed : s.placed ≡ []
