-- A run is shorter than there are ways for the columns to stand.
use Rattle.std.proofs.Common.{◌≡◌, ◌≢◌, ℕ, ◌+◌, ◌*◌, ◌^◌, ◌<◌, ◌≤◌, ◌-◌, List, arith, ap, sym, ◌∙◌, subst, refl, cond, nat_eq, ◌⊎◌, inl, inr, Option, Some, None, IsSome, length, slice_index_or}
use Rattle.std.specs.Prelude.{ℤ, zero, suc}
use Rattle.std.proofs.lemmas.List.{ext_get_or}
use native.Mathlib.Numerals.{unary_clauses}
use Rattle.um_lp.specs.Boards.{IsBoard}
use Rattle.um_lp.specs.DualSteps.{IsStep, AreSteps, IsDualFeasible, IsDualFeasibleAt}
use Rattle.um_lp.specs.States.{State, Frame, width, at_of, state_ends_of}
use Rattle.um_lp.specs.declared.board.At.{At}
use Rattle.um_lp.specs.declared.board.At.TheVariants.{Lower, Upper, Zero, Basic}
use Rattle.um_lp.proofs.Rows.{by_row, row_with, same_or_not}
use Rattle.um_dual.specs.Laws.{FewStepsLaw}
use Rattle.um_dual.proofs.NoReturn.{no_return}
use Rattle.um_dual.proofs.Traces.{Fine, fine_start, trace, trace_row, trace_column, trace_to, trace_next, trace_pivot, trace_fine}

-- ---- numbers
-- different numbers below n are at most n
pub pigeon : (n m : ℕ) (f : ℕ → ℕ) → ((i : ℕ) → i < m → f i < n) → ((i j : ℕ) → i < m → j < m → f i ≡ f j → i ≡ j) → m ≤ n
pigeon zero zero f b d = omega arith
pigeon zero (suc m) f b d = absurd (let h = b 0 (omega arith) in omega arith)
pigeon (suc n) zero f b d = omega arith
pigeon (suc n) (suc m) f b d = go (λ k g. pigeon n k g) (row_with (suc m) f n)
  where
    go : ((k : ℕ) (g : ℕ → ℕ) → ((i : ℕ) → i < k → g i < n) → ((i j : ℕ) → i < k → j < k → g i ≡ g j → i ≡ j) → k ≤ n) → ((i : ℕ) × (i < suc m) × (f i ≡ n)) ⊎ ((i : ℕ) → i < suc m → f i ≢ n) → suc m ≤ suc n
    go rec (inr none) = let h : suc m ≤ n = rec (suc m) f (λ i l. (let x = b i l in let y = none i l in omega arith)) d in omega arith
    go rec (inl (i, li, is)) =
        let h : ℕ → ℕ = λ k. cond (nat_eq k i) (f m) (f k) in
        let not_n : (k : ℕ) → k < suc m → k ≢ i → f k < n = λ k l ne. (let x = b k l in let y : f k ≢ n = λ e. ne (d k i l li (e ∙ sym is)) in omega arith) in
        let below : (k : ℕ) → k < m → h k < n = λ k l. by_row (λ t. cond t (f m) (f k) < n) k i
        (λ e. not_n m (omega arith) (λ q. (let x = e in let y = q in absurd (omega arith))))
        (λ ne. not_n k (omega arith) ne) in
        let differ : (j k : ℕ) → j < m → k < m → h j ≡ h k → j ≡ k = λ j k lj lk. by_row (λ t. cond t (f m) (f j) ≡ h k → j ≡ k) j i
        (λ ej. by_row (λ t. f m ≡ cond t (f m) (f k) → j ≡ k) k i
        (λ ek q. ej ∙ sym ek)
        (λ nk q. absurd (let x : m ≡ k = d m k (omega arith) (omega arith) q in omega arith)))
        (λ nj. by_row (λ t. f j ≡ cond t (f m) (f k) → j ≡ k) k i
        (λ ek q. absurd (let x : j ≡ m = d j m (omega arith) (omega arith) q in omega arith))
        (λ nk q. d j k (omega arith) (omega arith) q)) in
        let r : m ≤ n = rec m h below differ in omega arith

-- the number with these digits to the base 3
abbrev code : ℕ → (ℕ → ℕ) → ℕ
code zero f = 0
code (suc c) f = 3 * code c f + f c

pub pow_more : (c : ℕ) → 3 ^ suc c ≡ 3 * 3 ^ c
pow_more c = simp unary_clauses (omega arith)

code_below : (c : ℕ) (f : ℕ → ℕ) → ((j : ℕ) → j < c → f j < 3) → code c f < 3 ^ c
code_below zero f h = omega arith
code_below (suc c) f h = let x = code_below c f (λ j l. h j (omega arith)) in let y = h c (omega arith) in let z = pow_more c in omega arith

code_one : (c : ℕ) (f g : ℕ → ℕ) → ((j : ℕ) → j < c → f j < 3) → ((j : ℕ) → j < c → g j < 3) → code c f ≡ code c g → (j : ℕ) → j < c → f j ≡ g j
code_one zero f g hf hg e j l = absurd (omega arith)
code_one (suc c) f g hf hg e j l =
    let x = hf c (omega arith) in
    let y = hg c (omega arith) in
    elim (same_or_not j c) [
      | inl q ↦ subst (λ (k : ℕ). f k ≡ g k) (sym q) (let r : f c ≡ g c = omega arith in r)
      | inr q ↦ code_one c f g (λ i li. hf i (omega arith)) (λ i li. hg i (omega arith)) (omega arith) j (omega arith)
    ]

-- ---- where a column stands
-- Zero and Lower have one digit: which of the two it is depends on the ends
abbrev pub digit : At → ℕ
digit Lower = 0
digit Upper = 1
digit Zero = 0
digit Basic = 2

pub digit_below : (a : At) → digit a < 3
digit_below Lower = omega arith
digit_below Upper = omega arith
digit_below Zero = omega arith
digit_below Basic = omega arith

pub has_low : (ends : Option ℤ × Option ℤ) → IsSome ends.0 → ends ≡ (None, None) → ⊥
has_low ends h e = go ends.0 h (ap (λ (z : Option ℤ × Option ℤ). z.0) e)
  where
    go : (o : Option ℤ) → IsSome o → o ≡ None → ⊥
    go (Some x) h e = cc
    go None h e = cc

pub one_status : (a b : At) (ends : Option ℤ × Option ℤ) → (a ≡ Lower → IsSome ends.0) → (b ≡ Lower → IsSome ends.0) → (a ≡ Zero → ends ≡ (None, None)) → (b ≡ Zero → ends ≡ (None, None)) → digit a ≡ digit b → a ≡ b
one_status Lower Lower ends la lb za zb e = refl
one_status Upper Upper ends la lb za zb e = refl
one_status Zero Zero ends la lb za zb e = refl
one_status Basic Basic ends la lb za zb e = refl
one_status Lower Zero ends la lb za zb e = absurd (has_low ends (la refl) (zb refl))
one_status Zero Lower ends la lb za zb e = absurd (has_low ends (lb refl) (za refl))
one_status Lower Upper ends la lb za zb e = absurd (omega arith)
one_status Lower Basic ends la lb za zb e = absurd (omega arith)
one_status Upper Lower ends la lb za zb e = absurd (omega arith)
one_status Upper Zero ends la lb za zb e = absurd (omega arith)
one_status Upper Basic ends la lb za zb e = absurd (omega arith)
one_status Zero Upper ends la lb za zb e = absurd (omega arith)
one_status Zero Basic ends la lb za zb e = absurd (omega arith)
one_status Basic Lower ends la lb za zb e = absurd (omega arith)
one_status Basic Upper ends la lb za zb e = absurd (omega arith)
one_status Basic Zero ends la lb za zb e = absurd (omega arith)

-- ---- the states of a run
module _ (n : ℕ) (s t : State) (h : AreSteps n s t) (b : IsBoard s) (f : IsDualFeasible s) where
  abbrev st : ℕ → State
  st = trace n s t h

  pub fine : (k : ℕ) → Fine s (st k)
  fine = trace_fine n s t h (fine_start s b f)

  one_step : (k : ℕ) → k < n → IsStep (st (suc k)) (st k)
  one_step k l = record { row = trace_row n s t h k; column = trace_column n s t h k; to = trace_to n s t h k; next = trace_next n s t h k l; pivot = trace_pivot n s t h k l }

  pub between : (m i : ℕ) → i + m ≤ n → AreSteps m (st (i + m)) (st i)
  between zero i l = let e : i ≡ i + 0 = omega arith in ap st e
  between (suc m) i l =
      let e : suc i + m ≡ i + suc m = omega arith in
      (st (suc i), subst (λ (x : ℕ). AreSteps m (st x) (st (suc i))) e (between m (suc i) (omega arith)), one_step i (omega arith))

  abbrev w : ℕ
  w = width s.frame

  abbrev number : ℕ → ℕ
  number k = code w (λ j. digit (at_of (st k) j))

  place : (k j : ℕ) → j < w → IsDualFeasibleAt (st k) j
  place k j l = (fine k).feasible j (subst (λ (x : Frame). j < width x) (sym (fine k).same.frame) l)

  ends_alike : (k j : ℕ) → state_ends_of (st k) j ≡ state_ends_of s j
  ends_alike k j = ap (λ (x : List (Option ℤ × Option ℤ)). slice_index_or x j (None, None)) (fine k).ends

  pub low_at : (k j : ℕ) → j < w → at_of (st k) j ≡ Lower → IsSome (state_ends_of s j).0
  low_at k j l e = subst (λ (x : Option ℤ × Option ℤ). IsSome x.0) (ends_alike k j) ((place k j l).lower e)

  pub zero_at : (k j : ℕ) → j < w → at_of (st k) j ≡ Zero → state_ends_of s j ≡ (None, None)
  zero_at k j l e = sym (ends_alike k j) ∙ (place k j l).free e

  pub long : (k : ℕ) → length (st k).at ≡ w
  long k = (fine k).board.shape.at ∙ ap width (fine k).same.frame

  same_list : (i j : ℕ) → number i ≡ number j → (st i).at ≡ (st j).at
  same_list i j e = ext_get_or Zero (st i).at (st j).at (long i ∙ sym (long j)) (λ c l. (
      let lc : c < w = let q = long i in omega arith in
      one_status (at_of (st i) c) (at_of (st j) c) (state_ends_of s c) (low_at i c lc) (low_at j c lc) (zero_at i c lc) (zero_at j c lc)
      (code_one w (λ k. digit (at_of (st i) k)) (λ k. digit (at_of (st j) k)) (λ k lk. digit_below (at_of (st i) k)) (λ k lk. digit_below (at_of (st j) k)) e c lc)))

  differ_later : (i m : ℕ) → i + suc m ≤ n → number i ≢ number (i + suc m)
  differ_later i m l e = no_return (suc m) (st (i + suc m)) (st i) (omega arith) (between (suc m) i l) (fine (i + suc m)).board (fine (i + suc m)).feasible (same_list i (i + suc m) e)

  differ : (i j : ℕ) → i < j → j ≤ n → number i ≢ number j
  differ i j l lj e =
      let q : (m : ℕ) × (j ≡ i + suc m) = (j - suc i, omega arith) in
      differ_later i q.0 (let x = q.1 in omega arith) (subst (λ (x : ℕ). number i ≡ number x) q.1 e)

  pub few : n < 3 ^ w
  few = let r : suc n ≤ 3 ^ w = pigeon (3 ^ w) (suc n) number (λ k l. code_below w (λ j. digit (at_of (st k) j)) (λ j lj. digit_below (at_of (st k) j))) one in omega arith
    where
      three : (i j : ℕ) → (i ≡ j) ⊎ ((i < j) ⊎ (j < i))
      three i j = grind arith

      one : (i j : ℕ) → i < suc n → j < suc n → number i ≡ number j → i ≡ j
      one i j li lj e =
          elim (three i j) [
            | inl q ↦ q
            | inr q ↦ elim q [ inl x ↦ absurd (differ i j x (omega arith) e) | inr x ↦ absurd (differ j i x (omega arith) (sym e)) ]
          ]

pub few_steps : FewStepsLaw
few_steps n s t h b f = few n s t h b f
