-- What a denominator and the sums so far have in common.
use Rattle.std.proofs.Common.{◌≡◌, ℕ, zero, suc, ◌+◌, ◌<◌, ◌≤◌, ◌*◌, ◌^◌, ℤ, pos, ◌≤ℤ◌, List, length, arith, unsigned_abs, sym, ap, subst}
use Rattle.std.specs.Int.{◌∣◌, w64}
use Rattle.std.proofs.lemmas.Int.{ints, int_wrap_fits}
use Rattle.std.proofs.Math.Nat.{dvd_refl, dvd_trans, eq-zero_of_zero-dvd}
use Rattle.um_num.specs.Numbers.{IsInRange}
use Rattle.um_lines.specs.Combined.{sum_at, IsGuess}
use Rattle.um_lines.specs.Lines.{whole_at}
use Rattle.um_lines.specs.Turns.{AreWithin, wrapped_at}
use Rattle.um_lines.proofs.ShortSums.{sum_short}

-- before the first sum
pub first_guess : (den : ℤ) (sums : ℕ → ℤ) → pos 1 ≤ℤ den → IsInRange den → IsGuess den sums 0 den
first_guess den sums up r = record { positive = up; range = r; divides = dvd_refl (unsigned_abs den); greatest = λ d h k. h }

-- after one more sum
pub guess_step : (den : ℤ) (sums : ℕ → ℤ) (i : ℕ) (shared next sum : ℤ) → IsGuess den sums i shared → sum ≡ sums i → pos 1 ≤ℤ next → IsInRange next → unsigned_abs next ∣ unsigned_abs shared
    → ((d : ℕ) → d ∣ unsigned_abs shared → d ∣ unsigned_abs sum → d ∣ unsigned_abs next) → IsGuess den sums (i + 1) next
guess_step den sums i shared next sum h same up r divides most =
    record {
      positive = up;
      range = r;
      divides = dvd_trans (unsigned_abs next) divides h.divides;
      greatest = λ d hd hk. most d (h.greatest d hd (λ k p. hk k (omega arith))) (subst (λ (z : ℤ). d ∣ unsigned_abs z) (sym same) (hk i (omega arith)));
    }

-- a guess from the first of the sums is one for all
pub guess_of_all : (den : ℤ) (sums : ℕ → ℤ) (i n : ℕ) (shared : ℤ) → i ≤ n → IsGuess den sums i shared → IsGuess den sums n shared
guess_of_all den sums i n shared l h =
    record {
      positive = h.positive;
      range = h.range;
      divides = h.divides;
      greatest = λ d hd hk. h.greatest d hd (λ k p. hk k (omega arith));
    }

-- where the sums have 64 bits, they are what is left of them there
pub guess_of_wrapped : (den : ℤ) (size shared m n : ℕ) (s t : ℤ) (own other : List ℤ) → pos size ≡ den → IsInRange den → 1 ≤ shared → shared ∣ size → AreWithin m own → AreWithin n other → length other ≡ length own → m * unsigned_abs s + n * unsigned_abs t < 2 ^ 63
    → ((d : ℕ) → d ∣ size → ((j : ℕ) → j < length own → d ∣ unsigned_abs (wrapped_at s t own other j)) → d ∣ shared) → shared < 2 ^ 64 → IsGuess den (sum_at s t own other) (length own) (pos shared)
guess_of_wrapped den size shared m n s t own other same den_in up divides within_own within_other long short most below =
    let size_is : size ≡ unsigned_abs den = ap unsigned_abs same in
    record {
      positive = omega (arith, ints);
      range = omega (arith, ints);
      divides = subst (λ (z : ℕ). shared ∣ z) size_is divides;
      greatest = λ d hd hk.
          most d (subst (λ (z : ℕ). d ∣ z) (sym size_is) hd)
          (λ j l.
          subst (λ (z : ℤ). d ∣ unsigned_abs z) (sym (int_wrap_fits w64 (sum_at s t own other j) (sum_short (whole_at own j) (whole_at other j) s t m n (within_own j l) (within_other j (omega arith)) short)))
          (hk j l));
    }

-- ---- guesses of 64 bits
pub record IsShared (den : ℕ) (sums : ℕ → ℤ) (i : ℕ) (shared : ℕ) : Type 0 where
  pub positive : 1 ≤ shared
  pub divides : shared ∣ den
  pub greatest : (d : ℕ) → d ∣ den → ((j : ℕ) → j < i → d ∣ unsigned_abs (sums j)) → d ∣ shared

pub first_shared : (den : ℕ) (sums : ℕ → ℤ) → 1 ≤ den → IsShared den sums 0 den
first_shared den sums up = record { positive = up; divides = dvd_refl den; greatest = λ d h k. h }

pub shared_sum_step : (den : ℕ) (sums : ℕ → ℤ) (i shared next : ℕ) (sum : ℤ) → IsShared den sums i shared → sum ≡ sums i → 1 ≤ next → next ∣ shared → ((d : ℕ) → d ∣ shared → d ∣ unsigned_abs sum → d ∣ next) → IsShared den sums (i + 1) next
shared_sum_step den sums i shared next sum h same up divides most =
    record {
      positive = up;
      divides = dvd_trans next divides h.divides;
      greatest = λ d hd hk. most d (h.greatest d hd (λ k p. hk k (omega arith))) (subst (λ (z : ℤ). d ∣ unsigned_abs z) (sym same) (hk i (omega arith)));
    }

pub shared_of_all : (den : ℕ) (sums : ℕ → ℤ) (i n shared d : ℕ) → i ≤ n → IsShared den sums i shared → d ∣ den → ((j : ℕ) → j < n → d ∣ unsigned_abs (sums j)) → d ∣ shared
shared_of_all den sums i n shared d l h hd hk = h.greatest d hd (λ k p. hk k (omega arith))

-- what divides a positive number is positive
pub divisor_up : (g n : ℕ) → g ∣ n → 1 ≤ n → 1 ≤ g
divisor_up zero n h up = let e : n ≡ 0 = eq-zero_of_zero-dvd h in absurd (omega (arith, e))
divisor_up (suc g) n h up = omega arith
