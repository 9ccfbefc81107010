-- The start problem of a deck: how far a point can go, from 0 on, in directions in which no end stops it.
use Rattle.std.specs.Prelude.{ℤ, pos, negsuc, [], map, Option, Some, None}
use Rattle.um_model.specs.Values.{DeckValue, ColumnValue}
use Rattle.um_model.specs.declared.deck.Row.{Row}

-- how far a column may fall: by 1 where it has no low end
abbrev pub fall : Option ℤ → Option ℤ
fall None = Some (negsuc 0)
fall (Some low) = Some (pos 0)

-- how far it may rise: by 1 where it has no high end
abbrev pub rise : Option ℤ → Option ℤ
rise None = Some (pos 1)
rise (Some high) = Some (pos 0)

-- a side of a row that is there is 0; an infinite one stays open
abbrev pub still : Option ℤ → Option ℤ
still None = None
still (Some side) = Some (pos 0)

-- a column of the deck; its ends are how far it may fall and rise
abbrev pub moving_column : ColumnValue → ColumnValue
moving_column c = record c { low = fall c.low; high = rise c.high }

-- a row of the deck; each of its sides that is there is 0
abbrev pub moving_row : Row → Row
moving_row r = record r { low = still r.low; high = still r.high }

-- the deck whose points are these directions: the costs and entries of the deck, with such ends and sides, and no sets. Its relaxation over its root box is the start problem
abbrev pub directions : DeckValue → DeckValue
directions d = record d { rows = map moving_row d.rows; columns = map moving_column d.columns; sets = [] }
