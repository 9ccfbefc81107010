-- What is built for a deck without arcs.
use Rattle.std.specs.Prelude.{◌≡◌, false, [], ◌++◌, length, map}
use Rattle.um_num.specs.Listed.{Listed}
use Rattle.um_model.specs.Values.{DeckValue, ColumnValue}
use Rattle.um_model.specs.declared.deck.Row.{Row}
use Rattle.um_lp.specs.declared.relaxation.Term.{Term}
use Rattle.um_lp.specs.declared.relaxation.Relaxation.{Relaxation}
use Rattle.um_duality.specs.Relaxed.{term_of, side_end}
use Rattle.um_relax.specs.KeyRows.{AreKeyRows}

-- the relaxation has the deck's columns, costs and entries, and the slack of each row has the row's sides as its ends
pub record IsRelaxationOf (d : DeckValue) (r : Relaxation) : Type 0 where
  pub columns : r.columns ≡ length d.columns
  pub rows : r.rows ≡ length d.rows
  pub costs : r.costs.items ≡ map (λ (c : ColumnValue). c.cost) d.columns
  pub entries : map (λ (t : Listed Term). t.items) r.entries.items ≡ map (λ (c : ColumnValue). map term_of c.entries) d.columns
  pub lows : r.lows.items ≡ map (λ (c : ColumnValue). c.low) d.columns ++ map (λ (row : Row). side_end row.low) d.rows
  pub highs : r.highs.items ≡ map (λ (c : ColumnValue). c.high) d.columns ++ map (λ (row : Row). side_end row.high) d.rows
  -- no arc stands anywhere
  pub bends : r.bends.items ≡ []
  pub bent_cost : r.bent_cost ≡ false
  pub bent_rows : r.bent_rows.items ≡ map (λ (row : Row). false) d.rows
  pub keys : AreKeyRows d.columns d.rows (length d.rows) r.keys.items
  pub room : r.room.items ≡ []
