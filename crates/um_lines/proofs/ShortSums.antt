-- Sums of 64-bit numbers over a divisor.
use Rattle.std.proofs.Common.{refl, [], ◌∷◌, ◌≡◌, ℕ, zero, suc, ◌+◌, ◌-◌, ◌<◌, ◌≤◌, ◌^◌, ◌%◌, ◌*◌, ◌/◌, ℤ, pos, negsuc, ◌+ℤ◌, ◌*ℤ◌, ◌≤ℤ◌, List, length, arith, unsigned_abs, FitsSigned, sym, ◌∙◌, ap}
use Rattle.std.specs.Int.{w64, int_shr}
use Rattle.std.proofs.lemmas.Int.{ints, unsigned_abs-mul}
use Rattle.std.proofs.lemmas.Nat.{shr_split, shr_high, pow_pos}
use lib.IntN.{pos-*ℤ-pos}
use Rattle.std.proofs.Math.Nat.{mul-le-mul_right, mul-lt-mul_of_pos_left}
use Rattle.um_laws.proofs.Ring.{ring, var, ◌⊗◌}
use Rattle.um_laws.proofs.WholeRing.{whole_ring, env}
use Rattle.um_lines.specs.Lines.{whole_at}
use Rattle.um_lines.specs.Turns.{turned, IsTurns, IsTopOver, AreWithin}
use Rattle.um_lines.specs.declared.short.Turns.{Turns}
use Rattle.um_lines.proofs.Turned.{turned_exact}

-- ---- shifts that lose nothing
below_over : (a k : ℕ) → suc a % 2 ^ k ≡ 0 → suc (a / 2 ^ k) ≡ suc a / 2 ^ k
below_over a k e = whole_part (suc a / 2 ^ k) (shr_split (suc a) k ∙ refl)
  where
    whole_part : (q : ℕ) → q * 2 ^ k + suc a % 2 ^ k ≡ suc a → suc (a / 2 ^ k) ≡ q
    whole_part zero h = absurd (omega (arith, e))
    whole_part (suc q) h =
        let p = pow_pos k in
        let is : a ≡ q * 2 ^ k + (2 ^ k - 1) = omega (arith, e, h, p) in
        ap suc (ap (λ (n : ℕ). n / 2 ^ k) is ∙ shr_high q k (2 ^ k - 1) (omega (arith, p)))

pub shr_exact : (z : ℤ) (k : ℕ) → unsigned_abs z % 2 ^ k ≡ 0 → int_shr z k *ℤ pos (2 ^ k) ≡ z
shr_exact (pos n) k e = let s = shr_split n k in omega (arith, ints, s, e)
shr_exact (negsuc a) k e =
    let s = shr_split (suc a) k in
    let q = below_over a k e in
    let f : suc (a / 2 ^ k) * 2 ^ k ≡ suc a = ap (λ (n : ℕ). n * 2 ^ k) q ∙ omega (arith, s, e) in
    omega (arith, ints, f)

-- ---- a quotient
le_cancel : (a b m : ℕ) → 0 < m → a * m ≤ b * m → a ≤ b
le_cancel a b m up h = by_not (b < a) (λ n. let l : m * b < m * a = mul-lt-mul_of_pos_left n up in omega arith)
  where
    by_not : (P : Type 0) → ((b < a) → a ≤ b) → a ≤ b
    by_not P f = grind arith

-- ---- sums of numbers within bounds
sum_size : (a b : ℤ) → unsigned_abs (a +ℤ b) ≤ unsigned_abs a + unsigned_abs b
sum_size a b = omega (arith, ints)

short_fits : (z : ℤ) → unsigned_abs z < 2 ^ 63 → FitsSigned w64 z
short_fits z h = omega (arith, ints)

pub sum_short : (x y s t : ℤ) (m n : ℕ) → unsigned_abs x ≤ m → unsigned_abs y ≤ n → m * unsigned_abs s + n * unsigned_abs t < 2 ^ 63 → FitsSigned w64 (x *ℤ s +ℤ y *ℤ t)
sum_short x y s t m n hx hy h =
    let left = mul-le-mul_right (unsigned_abs s) hx in
    let right = mul-le-mul_right (unsigned_abs t) hy in
    let size = sum_size (x *ℤ s) (y *ℤ t) in
    let p = unsigned_abs-mul x s in
    let q = unsigned_abs-mul y t in
    let below : unsigned_abs (x *ℤ s +ℤ y *ℤ t) < 2 ^ 63 = omega (arith, left, right, size, p, q, h) in
    short_fits _ below

pos_of : (z : ℤ) → pos 0 ≤ℤ z → pos (unsigned_abs z) ≡ z
pos_of (pos n) h = refl
pos_of (negsuc n) h = absurd (omega (arith, ints))

-- what is written is the sum over the divisor
pub over_divisor : (turns : Turns) (x y s t z q : ℤ) (m n sizes top divisor : ℕ) → IsTurns s t divisor turns → IsTopOver turns sizes top
    → unsigned_abs x ≤ m → unsigned_abs y ≤ n → m * unsigned_abs s + n * unsigned_abs t < 2 ^ 63
    → z ≡ turned turns x y → unsigned_abs z ≤ sizes → unsigned_abs z % 2 ^ turns.shift ≡ 0 → q ≡ int_shr z turns.shift
    → (q *ℤ pos divisor ≡ x *ℤ s +ℤ y *ℤ t) × (unsigned_abs q ≤ top)
over_divisor turns x y s t z q m n sizes top divisor is over hx hy short hz low even hq =
    let up : pos (unsigned_abs turns.odd) ≡ turns.odd = pos_of turns.odd is.up in
    let size : unsigned_abs (z *ℤ turns.odd) ≡ unsigned_abs z * unsigned_abs turns.odd = unsigned_abs-mul z turns.odd in
    let less = mul-le-mul_right (unsigned_abs turns.odd) low in
    let below : unsigned_abs (z *ℤ turns.odd) < 2 ^ 63 = omega (arith, size, less, over.short) in
    let fits : FitsSigned w64 (z *ℤ turns.odd) = short_fits _ below in
    let back : q *ℤ pos (2 ^ turns.shift) ≡ z = ap (λ (u : ℤ). u *ℤ pos (2 ^ turns.shift)) hq ∙ shr_exact z turns.shift even in
    let split : pos divisor ≡ turns.odd *ℤ pos (2 ^ turns.shift) = ap pos (sym is.split) ∙ sym (pos-*ℤ-pos (unsigned_abs turns.odd) (2 ^ turns.shift)) ∙ ap (λ (u : ℤ). u *ℤ pos (2 ^ turns.shift)) up in
    let short_size : unsigned_abs q * 2 ^ turns.shift ≡ unsigned_abs z = sym (unsigned_abs-mul q (pos (2 ^ turns.shift))) ∙ ap unsigned_abs back in (
      ap (λ (u : ℤ). q *ℤ u) split
          ∙ ring whole_ring (env (q ∷ turns.odd ∷ pos (2 ^ turns.shift) ∷ [])) (var 0 ⊗ (var 1 ⊗ var 2)) ((var 0 ⊗ var 2) ⊗ var 1) refl
          ∙ ap (λ (u : ℤ). u *ℤ turns.odd) back
          ∙ turned_exact x y turns.own turns.other turns.odd s t z hz is.own_turn is.other_turn fits (sum_short x y s t m n hx hy short),
      le_cancel (unsigned_abs q) top (2 ^ turns.shift) (pow_pos turns.shift) (omega (arith, short_size, low, over.value)),
    )

-- rows that are written
pub are_summed : (turns : Turns) (s t : ℤ) (divisor sizes top m n : ℕ) (own other out : List ℤ) → IsTurns s t divisor turns → IsTopOver turns sizes top
    → AreWithin m own → AreWithin n other → length other ≡ length own → m * unsigned_abs s + n * unsigned_abs t < 2 ^ 63
    → ((j : ℕ) → j < length own → whole_at out j ≡ int_shr (turned turns (whole_at own j) (whole_at other j)) turns.shift)
    → ((j : ℕ) → j < length own → unsigned_abs (turned turns (whole_at own j) (whole_at other j)) ≤ sizes)
    → ((j : ℕ) → j < length own → sizes % 2 ^ turns.shift ≡ 0 → unsigned_abs (turned turns (whole_at own j) (whole_at other j)) % 2 ^ turns.shift ≡ 0)
    → (j : ℕ) → j < length own → (whole_at out j *ℤ pos divisor ≡ whole_at own j *ℤ s +ℤ whole_at other j *ℤ t) × (unsigned_abs (whole_at out j) ≤ top)
are_summed turns s t divisor sizes top m n own other out is over within_own within_other long short value sizes_of even j l =
    over_divisor turns (whole_at own j) (whole_at other j) s t (turned turns (whole_at own j) (whole_at other j)) (whole_at out j) m n sizes top divisor is over
    (within_own j l) (within_other j (omega arith)) short refl (sizes_of j l) (even j l over.even) (value j l)
