-- A run is shorter than there are ways for the columns in use to stand.
use Rattle.std.proofs.Common.{◌≡◌, ◌≢◌, ℕ, ◌+◌, ◌*◌, ◌^◌, ◌<◌, ◌≤◌, ◌-◌, List, arith, ap, sym, ◌∙◌, subst, refl, cond, nat_lt, ◌⊎◌, inl, inr, length, Bool, true, false, [], ◌∷◌}
use Rattle.std.specs.Prelude.{pos, zero, suc, ◌||◌}
use Rattle.std.proofs.lemmas.List.{ext_get_or}
use Rattle.um_laws.specs.Rational.{whole, mul, neg}
use Rattle.um_laws.proofs.Ring.{var, nought, ◌⊗◌, opp}
use Rattle.um_lp.specs.Boards.{IsBoard}
use Rattle.um_lp.specs.DualSteps.{AreSteps, IsDualFeasible}
use Rattle.um_lp.specs.States.{State, width, slack, data_of, system, coefficient, at_of, state_ends_of, entry_of}
use Rattle.um_lp.specs.declared.board.At.TheVariants.{Zero, Basic}
use Rattle.um_lp.specs.declared.relaxation.Term.{Term}
use Rattle.um_laws.proofs.RationalEquations.{by_ring}
use Rattle.um_lp.proofs.Rows.{by_row, by_below, same_or_not}
use Rattle.um_lp.proofs.Sums.{sum-none}
use Rattle.um_lp.proofs.Unique.{minus_one_not_zero}
use Rattle.um_dual.specs.Laws.{FewUsedStepsLaw}
use Rattle.um_dual.specs.Used.{has_terms, is_used, count_below}
use Rattle.um_dual.proofs.Changes.{kept, entered_at, basic_at}
use Rattle.um_dual.proofs.Counting.{pigeon, pow_more, digit, digit_below, one_status, fine, between, low_at, zero_at, long}
use Rattle.um_dual.proofs.NoReturn.{no_return}
use Rattle.um_dual.proofs.Traces.{norm, Run, run_of, trace}

-- ---- numbers
-- the number with these digits to the base 3, of the places that pass a test
abbrev code : ℕ → (ℕ → Bool) → (ℕ → ℕ) → ℕ
code zero test f = 0
code (suc c) test f = cond (test c) (3 * code c test f + f c) (code c test f)

code_below : (c : ℕ) (test : ℕ → Bool) (f : ℕ → ℕ) → ((j : ℕ) → f j < 3) → code c test f < 3 ^ count_below c test
code_below zero test f h = omega arith
code_below (suc c) test f h = go (code_below c test f h) (test c)
  where
    go : code c test f < 3 ^ count_below c test → (b : Bool) → cond b (3 * code c test f + f c) (code c test f) < 3 ^ cond b (suc (count_below c test)) (count_below c test)
    go x true = let y = h c in let z = pow_more (count_below c test) in omega arith
    go x false = x

code_one : (c : ℕ) (test : ℕ → Bool) (f g : ℕ → ℕ) → ((j : ℕ) → f j < 3) → ((j : ℕ) → g j < 3) → code c test f ≡ code c test g → (j : ℕ) → j < c → test j ≡ true → f j ≡ g j
code_one zero test f g hf hg e j l h = absurd (omega arith)
code_one (suc c) test f g hf hg e j l h = go (test c) refl e (λ q i li hi. code_one c test f g hf hg q i li hi)
  where
    before : (i : ℕ) → i < suc c → i ≢ c → i < c
    before i l d = omega arith

    go : (b : Bool) → test c ≡ b → cond b (3 * code c test f + f c) (code c test f) ≡ cond b (3 * code c test g + g c) (code c test g)
        → (code c test f ≡ code c test g → (i : ℕ) → i < c → test i ≡ true → f i ≡ g i) → f j ≡ g j
    go true t q rec =
        let x = hf c in
        let y = hg c in
        elim (same_or_not j c) [
          | inl p ↦ subst (λ (k : ℕ). f k ≡ g k) (sym p) (let r : f c ≡ g c = omega arith in r)
          | inr p ↦ rec (omega arith) j (before j l p) h
        ]
    go false t q rec =
        elim (same_or_not j c) [
          | inl p ↦ (let r : test c ≡ true = subst (λ (k : ℕ). test k ≡ true) p h in let r' : false ≡ true = sym t ∙ r in cc)
          | inr p ↦ rec q j (before j l p) h
        ]

-- ---- columns without terms
-- a place without terms has nothing in any row
unused_none : (s : State) (j : ℕ) → is_used s j ≡ false → (i : ℕ) → i < s.frame.rows → system s i j ≡ whole (pos 0)
unused_none s j h i l =
    by_row (λ b. cond b (neg (whole (pos 1))) (whole (coefficient (data_of s j).terms i)) ≡ whole (pos 0)) j (slack s.frame i)
    (λ e. absurd (past (slack s.frame s.frame.rows) (has_terms (data_of s j).terms) h (omega arith)))
    (λ d. ap whole (empty (data_of s j).terms (terms_of (nat_lt j (slack s.frame s.frame.rows)) (has_terms (data_of s j).terms) h)))
  where
    past : (c : ℕ) (b : Bool) → (nat_lt j c || b) ≡ false → j < c → ⊥
    past c b = by_below (λ t. (t || b) ≡ false → j < c → ⊥) j c (λ x q y. cc) (λ x q y. omega arith)

    terms_of : (a b : Bool) → (a || b) ≡ false → b ≡ false
    terms_of true b q = cc
    terms_of false b q = q

    empty : (terms : List Term) → has_terms terms ≡ false → coefficient terms i ≡ pos 0
    empty [] q = refl
    empty (x ∷ xs) q = cc

-- so it is never basic
never_basic : (s : State) → IsBoard s → (j : ℕ) → j < width s.frame → is_used s j ≡ false → at_of s j ≢ Basic
never_basic s b j l h e =
    let r = b.basis.found j l e in
    minus_one_not_zero
    (sym (b.tableau.own r.0 r.1) ∙ ap (entry_of s r.0) r.2 ∙ b.tableau.within r.0 j r.1 l
    ∙ ap neg (sum-none s.frame.rows _ (λ i li. ap (mul (entry_of s r.0 (length s.frame.columns + i))) (unused_none s j h i li) ∙ by_ring (entry_of s r.0 (length s.frame.columns + i) ∷ []) (var 0 ⊗ nought) nought refl))
    ∙ by_ring [] (opp nought) nought refl)

-- ---- the states of a run
module _ (n : ℕ) (s t : State) (h : AreSteps n s t) (b : IsBoard s) (f : IsDualFeasible s) where
  abbrev st : ℕ → State
  st = trace n s t h

  abbrev run : Run s n st
  run = run_of n s t h b f

  abbrev w : ℕ
  w = width s.frame

  abbrev number : ℕ → ℕ
  number k = code w (is_used s) (λ j. digit (at_of (st k) j))

  -- a column that is not in use stands where it stood
  unused_stays : (j : ℕ) → j < w → is_used s j ≡ false → (k : ℕ) → k ≤ n → at_of (st 0) j ≡ at_of (st k) j
  unused_stays j l u =
      let never : (k : ℕ) → at_of (st k) j ≢ Basic = λ k. never_basic (norm s (st k)) (run.board k) j l u in
      kept s n st run j (λ i li e. never i (entered_at s n st run i li j e)) (λ i li e. never (suc i) (basic_at s n st run i li j e))

  same_list : (i j : ℕ) → i ≤ n → j ≤ n → number i ≡ number j → (st i).at ≡ (st j).at
  same_list i j li lj e = ext_get_or Zero (st i).at (st j).at (long n s t h b f i ∙ sym (long n s t h b f j)) (λ c l. (
      let lc : c < w = let q = long n s t h b f i in omega arith in
      by_use c lc (is_used s c) refl))
    where
      by_use : (c : ℕ) → c < w → (u : Bool) → is_used s c ≡ u → at_of (st i) c ≡ at_of (st j) c
      by_use c lc true u =
          one_status (at_of (st i) c) (at_of (st j) c) (state_ends_of s c) (low_at n s t h b f i c lc) (low_at n s t h b f j c lc) (zero_at n s t h b f i c lc) (zero_at n s t h b f j c lc)
          (code_one w (is_used s) (λ k. digit (at_of (st i) k)) (λ k. digit (at_of (st j) k)) (λ k. digit_below (at_of (st i) k)) (λ k. digit_below (at_of (st j) k)) e c lc u)
      by_use c lc false u = sym (unused_stays c lc u i li) ∙ unused_stays c lc u j lj

  differ_later : (i m : ℕ) → i + suc m ≤ n → number i ≢ number (i + suc m)
  differ_later i m l e =
      no_return (suc m) (st (i + suc m)) (st i) (omega arith) (between n s t h b f (suc m) i l) (fine n s t h b f (i + suc m)).board (fine n s t h b f (i + suc m)).feasible
      (same_list i (i + suc m) (omega arith) l e)

  differ : (i j : ℕ) → i < j → j ≤ n → number i ≢ number j
  differ i j l lj e =
      let q : (m : ℕ) × (j ≡ i + suc m) = (j - suc i, omega arith) in
      differ_later i q.0 (let x = q.1 in omega arith) (subst (λ (x : ℕ). number i ≡ number x) q.1 e)

  few_used : n < 3 ^ count_below w (is_used s)
  few_used =
      let r : suc n ≤ 3 ^ count_below w (is_used s) = pigeon (3 ^ count_below w (is_used s)) (suc n) number (λ k l. code_below w (is_used s) (λ j. digit (at_of (st k) j)) (λ j. digit_below (at_of (st k) j))) one in
      omega arith
    where
      three : (i j : ℕ) → (i ≡ j) ⊎ ((i < j) ⊎ (j < i))
      three i j = grind arith

      one : (i j : ℕ) → i < suc n → j < suc n → number i ≡ number j → i ≡ j
      one i j li lj e =
          elim (three i j) [
            | inl q ↦ q
            | inr q ↦ elim q [ inl x ↦ absurd (differ i j x (omega arith) e) | inr x ↦ absurd (differ j i x (omega arith) (sym e)) ]
          ]

pub few_used_steps : FewUsedStepsLaw
few_used_steps n s t h b f = few_used n s t h b f

-- ---- how many are in use
pub count_at_most : (w : ℕ) (test : ℕ → Bool) → count_below w test ≤ w
count_at_most zero test = omega arith
count_at_most (suc w) test = go (count_at_most w test) (test w)
  where
    go : count_below w test ≤ w → (b : Bool) → cond b (suc (count_below w test)) (count_below w test) ≤ suc w
    go h true = omega arith
    go h false = omega arith

power_from : (a b : ℕ) → 3 ^ a ≤ 3 ^ (a + b)
power_from a zero = let e : a + 0 ≡ a = omega arith in subst (λ (x : ℕ). 3 ^ a ≤ 3 ^ x) (sym e) (omega arith)
power_from a (suc b) =
    let e : a + suc b ≡ suc (a + b) = omega arith in
    subst (λ (x : ℕ). 3 ^ a ≤ 3 ^ x) (sym e) (let h = power_from a b in let p = pow_more (a + b) in omega arith)

-- a power of 3 rises with its exponent
pub power_at_most : (a c : ℕ) → a ≤ c → 3 ^ a ≤ 3 ^ c
power_at_most a c l = let e : a + (c - a) ≡ c = omega arith in subst (λ (x : ℕ). 3 ^ a ≤ 3 ^ x) e (power_from a (c - a))
