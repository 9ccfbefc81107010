-- The tableau of a basis: a table of entries by which each basic column is a sum of the nonbasic columns.
use Rattle.std.specs.Prelude.{◌≡◌, ◌≢◌, ℕ, ◌+◌, ◌<◌, zero, suc, nat_eq, pos, if◌then◌else◌}
use Rattle.um_laws.specs.Rational.{Rational, whole, add, mul, neg, inverse}

-- the sum of f over the numbers below m
abbrev pub sum_below : ℕ → (ℕ → Rational) → Rational
sum_below zero f = whole (pos 0)
sum_below (suc m) f = add (sum_below m f) (f m)

-- A system has m rows over w columns. Row i says that the sum of `row i j` times column j is 0. Its slack, column n + i, has -1 there and 0 in each other row, so that it is the sum of the others.
-- A basis names a basic column for each row. The entries e are its tableau: the sum of `e r j` times column j is 0 too, the row's own basic column has -1 there and the other basic ones have 0, so that each basic column is the sum of its entries times the nonbasic columns.
pub record TableauOf (m w n : ℕ) (row : ℕ → ℕ → Rational) (basic : ℕ → ℕ) (e : ℕ → ℕ → Rational) : Type 0 where
  pub in_range : (r : ℕ) → r < m → basic r < w
  -- the basic column of a row in its own row
  pub own : (r : ℕ) → r < m → e r (basic r) ≡ neg (whole (pos 1))
  -- and in the others
  pub others : (r s : ℕ) → r < m → s < m → r ≢ s → e r (basic s) ≡ whole (pos 0)
  -- each row of entries is the sum of the system's rows, each times minus the entry at its slack
  pub within : (r j : ℕ) → r < m → j < w → e r j ≡ neg (sum_below m (λ i. mul (e r (n + i)) (row i j)))
  -- each row of the system is the sum of the entries' rows, each times minus what the system's row has at the basic column; so a basis has one table
  pub spans : (i j : ℕ) → i < m → j < w → row i j ≡ neg (sum_below m (λ r. mul (row i (basic r)) (e r j)))

-- x solves the rows: the sum of each is 0
abbrev pub Solves : ℕ → ℕ → (ℕ → ℕ → Rational) → (ℕ → Rational) → Type 0
Solves m w e x = (r : ℕ) → r < m → sum_below w (λ j. mul (e r j) (x j)) ≡ whole (pos 0)

-- ---- pivots

-- what a row has where its basic column leaves and column k enters: the row over minus its entry at k
abbrev pub pivot_line : (ℕ → ℕ → Rational) → ℕ → ℕ → ℕ → Rational
pivot_line e r k j = mul (neg (inverse (e r k))) (e r j)

-- the entries after column k takes the place of the basic column of row r
abbrev pub pivot_entry : (ℕ → ℕ → Rational) → ℕ → ℕ → ℕ → ℕ → Rational
pivot_entry e r k i j = if nat_eq i r then pivot_line e r k j else add (e i j) (mul (e i k) (pivot_line e r k j))

-- the basic columns after it
abbrev pub pivot_basic : (ℕ → ℕ) → ℕ → ℕ → ℕ → ℕ
pivot_basic basic r k s = if nat_eq s r then k else basic s
