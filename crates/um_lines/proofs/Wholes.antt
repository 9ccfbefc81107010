-- Rows of whole numbers.
use Rattle.std.proofs.Common.{◌≡◌, ◌≢◌, ℕ, zero, suc, ◌+◌, ◌<◌, ◌≤◌, ℤ, pos, negsuc, ◌-ℤ◌, ◌*ℤ◌, ◌*◌, ◌≤ℤ◌, List, length, slice_set, arith, unsigned_abs, sym, ◌∙◌, ap, subst, refl, below_more, inl, inr, ◌⊎◌, Result, IfOk}
use Rattle.std.specs.Int.{◌∣◌}
use Rattle.std.proofs.lemmas.Int.{ints, unsigned_abs-mul}
use Rattle.std.proofs.lemmas.Bool.{cases_Bool, cond-true, cond-false}
use Rattle.std.proofs.lemmas.List.{get_or-set_same, get_or-set_other, length-set}
use Rattle.std.proofs.Math.Nat.{dvd_refl, dvd_trans, dvd-mul_right, one-dvd, mul-le-mul_left}
use lib.IntN.{neg_ℤ}
use Rattle.um_num.specs.Numbers.{IsInRange, exact, in_range, stepped}
use Rattle.um_num.specs.declared.exact.Op.{Op}
use Rattle.um_num.specs.declared.exact.Wide.{Wide}
use Rattle.um_lines.specs.Lines.{whole_at, AreInRange}

-- ---- steps
-- a step that is taken gives the exact result
pub step_value : (op : Op) (a b : ℤ) (r : Result ℤ Wide) → r ≡ stepped op a b → IfOk r (λ z. z ≡ exact op a b)
unfolding stepped
step_value op a b r e =
    elim (cases_Bool (in_range (exact op a b))) [
      | inl t ↦ rw (e ∙ cond-true _ _ _ t) refl
      | inr t ↦ rw (e ∙ cond-false _ _ _ t) tt
    ]

-- ---- one more number of a row is written
same_or : (a b : ℕ) → (a ≡ b) ⊎ (a ≢ b)
same_or a b = grind arith

pub range_step : (xs : List ℤ) (i : ℕ) (z : ℤ) → AreInRange xs → i < length xs → IsInRange z → AreInRange (slice_set xs i z)
range_step xs i z h l r k p =
    elim (same_or k i) [
      | inl same ↦ subst (λ (n : ℕ). IsInRange (whole_at (slice_set xs i z) n)) (sym same) (subst IsInRange (sym (get_or-set_same xs i z (pos 0) l)) r)
      | inr other ↦ subst IsInRange (sym (get_or-set_other xs i k z (pos 0) other)) (h k (let len : length (slice_set xs i z) ≡ length xs = length-set xs i z in omega arith))
    ]

pub written_step : (xs : List ℤ) (i : ℕ) (z : ℤ) (g : ℕ → ℤ) → i < length xs → ((k : ℕ) → k < i → whole_at xs k ≡ g k) → z ≡ g i → (k : ℕ) → k < i + 1 → whole_at (slice_set xs i z) k ≡ g k
written_step xs i z g l below here = below_more _ i (λ k p. get_or-set_other xs i k z (pos 0) (let n : k ≢ i = omega arith in n) ∙ below k p) (get_or-set_same xs i z (pos 0) l ∙ here)

-- the numbers behind it stay
pub left_step : (xs ys : List ℤ) (i : ℕ) (z : ℤ) → ((k : ℕ) → i ≤ k → whole_at xs k ≡ whole_at ys k) → (k : ℕ) → i + 1 ≤ k → whole_at (slice_set xs i z) k ≡ whole_at ys k
left_step xs ys i z h k p = get_or-set_other xs i k z (pos 0) (let n : k ≢ i = omega arith in n) ∙ h k (omega arith)

-- a number over a divisor times it is written
pub divided_step : (xs ys : List ℤ) (i : ℕ) (z d : ℤ) → i < length xs → ((k : ℕ) → k < i → whole_at xs k *ℤ d ≡ whole_at ys k) → z *ℤ d ≡ whole_at ys i → (k : ℕ) → k < i + 1 → whole_at (slice_set xs i z) k *ℤ d ≡ whole_at ys k
divided_step xs ys i z d l below here =
    below_more _ i
    (λ k p. ap (λ (x : ℤ). x *ℤ d) (get_or-set_other xs i k z (pos 0) (let n : k ≢ i = omega arith in n)) ∙ below k p)
    (ap (λ (x : ℤ). x *ℤ d) (get_or-set_same xs i z (pos 0) l) ∙ here)

-- ---- sizes
pub size_of_neg : (n : ℤ) → unsigned_abs (neg_ℤ n) ≡ unsigned_abs n
size_of_neg (pos zero) = refl
size_of_neg (pos (suc n)) = refl
size_of_neg (negsuc n) = refl

pub neg_same : (n : ℤ) → pos 0 -ℤ n ≡ neg_ℤ n
neg_same n = omega (arith, ints)

-- a number over a divisor is no longer than it
pub quotient_in : (a d q : ℤ) → pos 1 ≤ℤ d → q *ℤ d ≡ a → IsInRange a → IsInRange q
quotient_in a d q up e h =
    let size : unsigned_abs q * unsigned_abs d ≡ unsigned_abs a = sym (unsigned_abs-mul q d) ∙ ap unsigned_abs e in
    let one : 1 ≤ unsigned_abs d = omega (arith, ints) in
    omega (arith, mul-le-mul_left (unsigned_abs q) one)

-- ---- common divisors
pub one_divides : (n : ℕ) → 1 ∣ n
one_divides n = one-dvd n

-- what is shared with one number more divides it and all before it
pub record SharesMore (nums : List ℤ) (i : ℕ) (den shared : ℤ) : Type 0 where
  pub positive : pos 1 ≤ℤ shared
  pub range : IsInRange shared
  pub den_part : unsigned_abs shared ∣ unsigned_abs den
  pub nums_part : (k : ℕ) → k < i → unsigned_abs shared ∣ unsigned_abs (whole_at nums k)
  pub greatest : (d : ℕ) → d ∣ unsigned_abs den → ((k : ℕ) → k < i → d ∣ unsigned_abs (whole_at nums k)) → d ∣ unsigned_abs shared

pub shares_none : (nums : List ℤ) (den : ℤ) → pos 1 ≤ℤ den → IsInRange den → SharesMore nums 0 den den
shares_none nums den up r = record { positive = up; range = r; den_part = dvd_refl (unsigned_abs den); nums_part = λ k p. absurd (omega arith); greatest = λ d h k. h }

pub shared_step : (nums : List ℤ) (i : ℕ) (den shared next : ℤ) → SharesMore nums i den shared → pos 1 ≤ℤ next → IsInRange next → unsigned_abs next ∣ unsigned_abs shared → unsigned_abs next ∣ unsigned_abs (whole_at nums i) → ((d : ℕ) → d ∣ unsigned_abs shared → d ∣ unsigned_abs (whole_at nums i) → d ∣ unsigned_abs next) → SharesMore nums (i + 1) den next
shared_step nums i den shared next h up r right left most =
    record {
      positive = up;
      range = r;
      den_part = dvd_trans (unsigned_abs next) right h.den_part;
      nums_part = below_more _ i (λ k p. dvd_trans (unsigned_abs next) right (h.nums_part k p)) left;
      greatest = λ d hd hk. most d (h.greatest d hd (λ k p. hk k (omega arith))) (hk i (omega arith));
    }

-- a number times another is a multiple of it
pub multiple_of : (q d a : ℤ) → q *ℤ d ≡ a → unsigned_abs d ∣ unsigned_abs a
multiple_of q d a e =
    let size : unsigned_abs d * unsigned_abs q ≡ unsigned_abs a = omega (arith, sym (unsigned_abs-mul q d) ∙ ap unsigned_abs e) in
    subst (λ (n : ℕ). unsigned_abs d ∣ n) size (dvd-mul_right (unsigned_abs d) (unsigned_abs q))

-- one more number is written that is a sum over a divisor
pub summed_step : (xs : List ℤ) (i : ℕ) (z d : ℤ) (g : ℕ → ℤ) → i < length xs → ((k : ℕ) → k < i → whole_at xs k *ℤ d ≡ g k) → z *ℤ d ≡ g i → (k : ℕ) → k < i + 1 → whole_at (slice_set xs i z) k *ℤ d ≡ g k
summed_step xs i z d g l below here =
    below_more _ i
    (λ k p. ap (λ (x : ℤ). x *ℤ d) (get_or-set_other xs i k z (pos 0) (let n : k ≢ i = omega arith in n)) ∙ below k p)
    (ap (λ (x : ℤ). x *ℤ d) (get_or-set_same xs i z (pos 0) l) ∙ here)
