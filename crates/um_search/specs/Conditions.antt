-- Which decks are searched so far, and which budgets there are.
use Rattle.std.specs.Prelude.{◌≡◌, ◌≤◌, pos, []}
use Rattle.um_model.specs.Values.{DeckValue}
use Rattle.um_model.specs.declared.limits.TheConstants.{MOST_NUMBERS, MOST_PIVOTS}
use Rattle.um_search.specs.declared.budget.Budget.{Budget}

-- no arcs; the columns, their kinds and their ends, the ordered sets, the rows, their sides, the
-- scales and the sense are free
pub record IsSearched (d : DeckValue) : Type 0 where
  pub arcs : d.arcs ≡ []

-- from 1 to 100,000 nodes and from 1 to 10,000,000 pivots; the tolerance of a deck without arcs is
-- 0
pub record IsBudget (b : Budget) : Type 0 where
  pub some_nodes : 1 ≤ b.nodes
  pub nodes : b.nodes ≤ MOST_NUMBERS
  pub some_pivots : 1 ≤ b.pivots
  pub pivots : b.pivots ≤ MOST_PIVOTS
  pub tolerance : b.tolerance ≡ pos 0

-- what a search is asked for: the answer to this deck, within this budget
pub record Task : Type 0 where
  pub deck : DeckValue
  pub budget : Budget
