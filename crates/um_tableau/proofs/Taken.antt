-- The lines of a board after they have been exchanged.
use Rattle.std.proofs.Common.{◌≡◌, ◌≢◌, ℕ, zero, suc, ◌<◌, List, length, slice_set, cond, arith, sym, ◌∙◌, ap, subst, refl, inl, inr, ◌⊎◌, ℤ, negsuc}
use Rattle.std.specs.Prelude.{pos}
use Rattle.um_laws.specs.Rational.{Rational, whole, add, mul}
use Rattle.um_num.proofs.Parts.{parts_zero, zero_parts}
use Rattle.um_lp.specs.Basis.{pivot_line, pivot_entry}
use Rattle.um_num.specs.NumberLists.{number_at}
use Rattle.um_lp.proofs.Rows.{by_row}
use Rattle.um_tableau.specs.Rows.{row_at, entry_at, AreLong, IsNextLine}
use Rattle.um_tableau.proofs.RowSteps.{row_at-set_same, row_at-set_other}
use Rattle.um_tableau.proofs.ValueSteps.{unmoved}

-- a number is 0 or not
pub zero_or_not : (x : Rational) → (x ≡ whole (pos 0)) ⊎ (x ≢ whole (pos 0))
zero_or_not x = go x.num refl
  where
    go : (n : ℤ) → x.num ≡ n → (x ≡ whole (pos 0)) ⊎ (x ≢ whole (pos 0))
    go (pos zero) e = inl (parts_zero x e)
    go (pos (suc n)) e = inr (λ q. let z : pos (suc n) ≡ pos 0 = sym e ∙ zero_parts x q in cc)
    go (negsuc n) e = inr (λ q. let z : negsuc n ≡ pos 0 = sym e ∙ zero_parts x q in cc)

-- a line that was taken where it is not 0 at the column, and kept where it is
pub taken_line : (own next after line : List Rational) (column : ℕ) → IsNextLine own column line next → (number_at own column ≢ whole (pos 0) → after ≡ next) → (number_at own column ≡ whole (pos 0) → after ≡ own)
    → (j : ℕ) → j < length own → number_at after j ≡ add (number_at own j) (mul (number_at own column) (number_at line j))
taken_line own next after line column h taken kept j l = go (zero_or_not (number_at own column))
  where
    go : (number_at own column ≡ whole (pos 0)) ⊎ (number_at own column ≢ whole (pos 0)) → number_at after j ≡ add (number_at own j) (mul (number_at own column) (number_at line j))
    go (inl z) = ap (λ (r : List Rational). number_at r j) (kept z) ∙ unmoved (number_at own j) (number_at own column) (number_at line j) z
    go (inr d) = ap (λ (r : List Rational). number_at r j) (taken d) ∙ h d j l

-- the rows, of which the one that leaves is exchanged for the new line
pub taken_rows : (w : ℕ) (rows next after : List (List Rational)) (row column : ℕ) (line : List Rational)
    → row < length after → length after ≡ length rows → AreLong w rows
    → ((j : ℕ) → j < w → number_at line j ≡ pivot_line (entry_at rows) row column j)
    → ((i : ℕ) → i < length rows → i ≢ row → IsNextLine (row_at rows i) column line (row_at next i))
    → ((i : ℕ) → i < length rows → i ≢ row → entry_at rows i column ≢ whole (pos 0) → row_at after i ≡ row_at next i)
    → ((i : ℕ) → i < length rows → i ≢ row → entry_at rows i column ≡ whole (pos 0) → row_at after i ≡ row_at rows i)
    → (i j : ℕ) → i < length rows → j < w → entry_at (slice_set after row line) i j ≡ pivot_entry (entry_at rows) row column i j
taken_rows w rows next after row column line lr height long hl hn taken kept i j li lj =
    by_row (λ b. entry_at (slice_set after row line) i j ≡ cond b (pivot_line (entry_at rows) row column j) (add (entry_at rows i j) (mul (entry_at rows i column) (pivot_line (entry_at rows) row column j)))) i row
    (λ same. subst (λ (n : ℕ). entry_at (slice_set after row line) n j ≡ pivot_line (entry_at rows) row column j) (sym same) (ap (λ (r : List Rational). number_at r j) (row_at-set_same after row line lr) ∙ hl j lj))
    (λ other.
    ap (λ (r : List Rational). number_at r j) (row_at-set_other after row i line other)
    ∙ taken_line (row_at rows i) (row_at next i) (row_at after i) line column (hn i li other) (taken i li other) (kept i li other) j (let e : length (row_at rows i) ≡ w = long i li in omega arith)
    ∙ ap (λ (x : Rational). add (entry_at rows i j) (mul (entry_at rows i column) x)) (hl j lj))
