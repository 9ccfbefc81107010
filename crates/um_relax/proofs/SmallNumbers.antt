-- The numbers of a reading are small where the state is not wide.
use Rattle.std.proofs.Common.{◌≡◌, ℕ, ◌<◌, pos, List, length, arith, sym, subst, inl, inr, All}
use Rattle.std.proofs.lemmas.List.Elements.{All-from_get_or}
use Rattle.um_laws.specs.Rational.{Rational, whole}
use Rattle.um_num.specs.Views.{rational}
use Rattle.um_lp.specs.Boards.{IsBoard}
use Rattle.um_num.specs.NumberLists.{number_at}
use Rattle.um_lp.specs.States.{State, slack}
use Rattle.um_lp.specs.WideStates.{numbers_of, AreNarrow}
use Rattle.um_lp.specs.declared.board.At.{At}
use Rattle.um_num.specs.Sizes.{IsSmall}
use Rattle.um_lp.proofs.RefusedReads.{entry_small, whole_small, neg_small}
use Rattle.um_relax.specs.Parts.{AreSlackEntries, IsSigned, IsDivisor}
use Rattle.um_relax.proofs.Readings.{is_thousand}

pub thousand_small : (f : Rational) → f ≡ rational (pos 1000) (pos 1) → IsSmall f
thousand_small f e = subst IsSmall (sym (is_thousand f e)) (whole_small (pos 1000) (omega arith))

slack_small : (s : State) (row : ℕ) (entries : List Rational) → IsBoard s → row < s.frame.rows → AreSlackEntries s row s.frame.rows entries → AreNarrow (numbers_of s) → (i : ℕ) → i < length entries → IsSmall (number_at entries i)
slack_small s row entries b l h narrow i p =
    let li : i < s.frame.rows = omega (arith, h.long) in
    subst IsSmall (sym (h.are i li)) (entry_small s row (slack s.frame i) b l (omega arith) narrow)

pub slacks_small : (s : State) (row : ℕ) (entries : List Rational) → IsBoard s → row < s.frame.rows → AreSlackEntries s row s.frame.rows entries → AreNarrow (numbers_of s) → All IsSmall entries
slacks_small s row entries b l h narrow = All-from_get_or IsSmall entries (whole (pos 0)) (slack_small s row entries b l h narrow)

signed_small : (to : At) (entry divisor : Rational) → IsSigned to entry divisor → IsSmall entry → IsSmall divisor
signed_small to entry divisor h k = elim h.same [
  | inl e ↦ subst IsSmall (sym e) k
  | inr e ↦ subst IsSmall (sym e) (neg_small entry k)
]

pub divisor_small : (s : State) (row : ℕ) (to : At) (entries : List Rational) (divisor : Rational) → IsBoard s → row < s.frame.rows → AreSlackEntries s row s.frame.rows entries → IsDivisor to entries divisor → AreNarrow (numbers_of s) → IsSmall divisor
divisor_small s row to entries divisor b l h d narrow = signed_small to (number_at entries d.place) divisor d.signed (slack_small s row entries b l h narrow d.place d.within)
