-- What a tableau keeps of a state that is a board.
use Rattle.std.specs.Prelude.{◌≡◌, List, [], length}
use Rattle.std.proofs.lemmas.List.Elements.{All-get_or}
use Rattle.um_laws.specs.Rational.{Rational}
use Rattle.um_lp.specs.Boards.{IsBoard}
use Rattle.um_lp.specs.States.{State, width}
use Rattle.um_tableau.specs.Stands.{Stands}

-- a board keeps it
pub stands_of : (s : State) → IsBoard s → Stands s
stands_of s b = record {
  basic = b.shape.basic;
  at = b.shape.at;
  ends = b.shape.ends;
  entries = b.shape.entries;
  long = λ i l. All-get_or (λ (row : List Rational). length row ≡ width s.frame) s.entries i [] l b.shape.long;
  reduced = b.shape.reduced;
  values = b.shape.values;
  named = b.basis.named;
  found = λ column l e none. let row = b.basis.found column l e in none row.0 row.1 row.2;
  tableau = b.tableau;
  reduced_costs = b.reduced;
  values_are = b.values;
}
