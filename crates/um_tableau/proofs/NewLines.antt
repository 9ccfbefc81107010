-- The new line of a pivot.
use Rattle.std.proofs.Common.{◌≡◌, ℕ, ◌<◌, pos, List, length, arith, sym, ◌∙◌, ap}
use Rattle.std.proofs.lemmas.List.{ext_get_or}
use Rattle.um_laws.specs.Rational.{Rational, mul, neg, inverse, whole}
use Rattle.um_lp.specs.Basis.{pivot_line}
use Rattle.um_num.specs.NumberLists.{number_at}
use Rattle.um_tableau.specs.Rows.{row_at, entry_at}

-- a row over minus one of its entries
pub new_line : (entries : List (List Rational)) (row column w : ℕ) (own out : List Rational) → own ≡ row_at entries row → length (row_at entries row) ≡ w → length out ≡ length own
    → ((j : ℕ) → j < length own → number_at out j ≡ mul (neg (inverse (number_at own column))) (number_at own j))
    → (length out ≡ w) × ((j : ℕ) → j < w → number_at out j ≡ pivot_line (entry_at entries) row column j)
new_line entries row column w own out here wide long value = (
  long ∙ ap length here ∙ wide,
  λ j l. value j (let e = ap length here in omega arith) ∙ ap (λ (r : List Rational). mul (neg (inverse (number_at r column))) (number_at r j)) here,
)

-- a list with the same numbers is the same
pub same_line : (xs ys : List Rational) (w : ℕ) (f : ℕ → Rational) → length xs ≡ w → length ys ≡ w → ((j : ℕ) → j < w → number_at xs j ≡ f j) → ((j : ℕ) → j < w → number_at ys j ≡ f j) → xs ≡ ys
same_line xs ys w f lx ly hx hy = ext_get_or (whole (pos 0)) xs ys (lx ∙ sym ly) (λ j l. hx j (omega arith) ∙ sym (hy j (omega arith)))
