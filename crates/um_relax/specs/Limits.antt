-- Which numbers of a board a tree takes: those below a limit in size.
use Rattle.std.specs.Prelude.{ℕ, ◌<◌, ℤ, unsigned_abs, List, All}
use Rattle.um_laws.specs.Rational.{Rational}
use Rattle.um_lp.specs.States.{State}
use Rattle.um_lp.specs.DualSteps.{Leaves}
use Rattle.um_lp.specs.WideStates.{common_denominator}
use Rattle.um_lp.specs.declared.board.At.{At}
use Rattle.um_duality.specs.Readings.{AreFarkasNumbers}
use Rattle.um_duality.specs.WholeMultiples.{whole_multiples}

-- the least common denominator and all whole multiples are below this limit in size
pub record AreSmall (limit : ℕ) (numbers : List Rational) : Type 0 where
  pub denominator : common_denominator numbers < limit
  pub multiples : All (λ (z : ℤ). unsigned_abs z < limit) (whole_multiples numbers)

-- one of the numbers of Farkas is this large or larger in size
pub record HasLargeFarkas (limit : ℕ) (s : State) (row : ℕ) : Type 0 where
  pub to : At
  pub leaves : Leaves s row to
  pub numbers : List ℤ
  pub are : AreFarkasNumbers s row to numbers
  pub large : ¬ All (λ (z : ℤ). unsigned_abs z < limit) numbers
