-- Cases on which row a number is.
use Rattle.std.proofs.Common.{◌≡◌, ◌≢◌, ℕ, ◌<◌, ◌≤◌, arith, sym, subst, refl, nat_eq, nat_lt, Bool, true, false, ◌⊎◌, inl, inr}
use Rattle.std.specs.Prelude.{zero, suc}
use lib.Dec.{T, eqb→eq}
use Rattle.std.proofs.lemmas.Bool.Decides.{nat_tests}

-- cases on whether two rows are one
pub by_row : (P : Bool → Type 0) (i r : ℕ) → (i ≡ r → P true) → (i ≢ r → P false) → P (nat_eq i r)
by_row P i r same other = go (nat_eq i r) refl
  where
    go : (b : Bool) → nat_eq i r ≡ b → P b
    go true e = same (eqb→eq i r (subst T (sym e) tt))
    go false e = other (λ s. (let f : nat_eq i i ≡ false = subst (λ (x : ℕ). nat_eq i x ≡ false) (sym s) e in grind (arith, nat_tests)))

pub same_or_not : (i r : ℕ) → (i ≡ r) ⊎ (i ≢ r)
same_or_not i r = go (nat_eq i r) refl
  where
    go : (b : Bool) → nat_eq i r ≡ b → (i ≡ r) ⊎ (i ≢ r)
    go true e = inl (eqb→eq i r (subst T (sym e) tt))
    go false e = inr (λ s. (let f : nat_eq i i ≡ false = subst (λ (x : ℕ). nat_eq i x ≡ false) (sym s) e in grind (arith, nat_tests)))

-- a number that some row has, or none
pub row_with : (m : ℕ) (f : ℕ → ℕ) (j : ℕ) → ((i : ℕ) × (i < m) × (f i ≡ j)) ⊎ ((i : ℕ) → i < m → f i ≢ j)
row_with zero f j = inr (λ i l e. absurd (omega arith))
row_with (suc m) f j = go (row_with m f j) (same_or_not (f m) j)
  where
    go : ((i : ℕ) × (i < m) × (f i ≡ j)) ⊎ ((i : ℕ) → i < m → f i ≢ j) → (f m ≡ j) ⊎ (f m ≢ j) → ((i : ℕ) × (i < suc m) × (f i ≡ j)) ⊎ ((i : ℕ) → i < suc m → f i ≢ j)
    go (inl h) e = inl (h.0, omega (arith, h.1), h.2)
    go (inr none) (inl e) = inl (m, omega arith, e)
    go (inr none) (inr d) = inr (λ i l. at_last i l (same_or_not i m))
      where
        at_last : (i : ℕ) → i < suc m → (i ≡ m) ⊎ (i ≢ m) → f i ≢ j
        at_last i l (inl q) = subst (λ (k : ℕ). f k ≢ j) (sym q) d
        at_last i l (inr q) = none i (omega arith)

-- cases on whether a number is below another
pub by_below : (P : Bool → Type 0) (m n : ℕ) → (m < n → P true) → (n ≤ m → P false) → P (nat_lt m n)
by_below P m n below other = go (nat_lt m n) refl
  where
    go : (b : Bool) → nat_lt m n ≡ b → P b
    go true e = below (grind (arith, nat_tests))
    go false e = other (grind (arith, nat_tests))

pub below_or : (m n : ℕ) → (m < n) ⊎ (n ≤ m)
below_or m n = grind arith
