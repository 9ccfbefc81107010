-- Parts that are 0, and parts that are not.
use Rattle.std.proofs.Common.{◌≡◌, ℕ, ◌<◌, zero, suc, ℤ, pos, ◌⊎◌, inl, inr, List, [], ◌∷◌, refl, arith}
use Rattle.um_laws.proofs.Places.{zero_or_not}
use Rattle.um_model.specs.Feasible.{part, IsNonzeroAt}

-- all parts are 0, or one is not
pub somewhere : (xs : List ℤ) → ((k : ℕ) → part xs k ≡ pos 0) ⊎ ((k : ℕ) × IsNonzeroAt xs k)
somewhere [] = inl (λ k. refl)
somewhere (x ∷ xs) = elim (zero_or_not x) [ inr n ↦ inr (0, n) | inl e ↦ elim (somewhere xs) [ inl f ↦ inl (both x xs e f) | inr s ↦ inr (suc s.0, s.1) ] ]
  where
    both : (x : ℤ) (xs : List ℤ) → x ≡ pos 0 → ((k : ℕ) → part xs k ≡ pos 0) → (k : ℕ) → part (x ∷ xs) k ≡ pos 0
    both x xs e f zero = e
    both x xs e f (suc k) = f k

-- all parts behind a place are 0, or one of them is not
pub behind : (xs : List ℤ) (at : ℕ) → ((k : ℕ) → at < k → part xs k ≡ pos 0) ⊎ ((k : ℕ) × (at < k) × IsNonzeroAt xs k)
behind [] at = inl (λ k h. refl)
behind (x ∷ xs) zero = elim (somewhere xs) [ inl f ↦ inl (later x xs f) | inr s ↦ inr (suc s.0, omega arith, s.1) ]
  where
    later : (x : ℤ) (xs : List ℤ) → ((k : ℕ) → part xs k ≡ pos 0) → (k : ℕ) → 0 < k → part (x ∷ xs) k ≡ pos 0
    later x xs f zero h = absurd (omega arith)
    later x xs f (suc k) h = f k
behind (x ∷ xs) (suc at) = elim (behind xs at) [ inl f ↦ inl (later x xs at f) | inr s ↦ inr (suc s.0, let h = s.1 in omega arith, s.2) ]
  where
    later : (x : ℤ) (xs : List ℤ) (at : ℕ) → ((k : ℕ) → at < k → part xs k ≡ pos 0) → (k : ℕ) → suc at < k → part (x ∷ xs) k ≡ pos 0
    later x xs at f zero h = absurd (omega arith)
    later x xs at f (suc k) h = f k (omega arith)
