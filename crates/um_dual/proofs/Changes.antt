-- A column that changes in a run that comes back to its statuses enters in it, and leaves to the status from which it enters.
use Rattle.std.proofs.Common.{◌≡◌, ◌≢◌, ℕ, ◌<◌, ◌≤◌, arith, sym, ◌∙◌, subst, refl, ◌⊎◌, inl, inr}
use Rattle.std.specs.Prelude.{zero, suc}
use Rattle.um_lp.specs.States.{State, basic_of, at_of}
use Rattle.um_lp.specs.declared.board.At.TheVariants.{Basic}
use Rattle.um_lp.proofs.Rows.{same_or_not}
use Rattle.um_dual.proofs.Cycle.{step}
use Rattle.um_dual.proofs.Gains.{column_free, leaver_basic, leaver_free, at_column, at_leaver, at_rest}
use Rattle.um_dual.proofs.Traces.{Run}

-- of numbers there is a greatest
pub greatest : (n : ℕ) (f : ℕ → ℕ) → 1 ≤ n → (k : ℕ) × (k < n) × ((i : ℕ) → i < n → f i ≤ f k)
greatest zero f h = absurd (omega arith)
greatest (suc zero) f h = (0, omega arith, λ i l. (let e : i ≡ 0 = omega arith in subst (λ (x : ℕ). f x ≤ f 0) (sym e) (omega arith)))
greatest (suc (suc n)) f h = go (greatest (suc n) f (omega arith))
  where
    last_or : (i m : ℕ) → i < suc m → (i ≡ m) ⊎ (i < m)
    last_or i m h = grind arith

    le_or : (a b : ℕ) → (a ≤ b) ⊎ (b < a)
    le_or a b = grind arith

    go : (k : ℕ) × (k < suc n) × ((i : ℕ) → i < suc n → f i ≤ f k) → (k : ℕ) × (k < suc (suc n)) × ((i : ℕ) → i < suc (suc n) → f i ≤ f k)
    go (k, l, most) =
        elim (le_or (f (suc n)) (f k)) [
          | inl h ↦ (k, omega arith, λ i li. elim (last_or i (suc n) li) [ inl e ↦ subst (λ (x : ℕ). f x ≤ f k) (sym e) h | inr q ↦ most i q ])
          | inr h ↦ (suc n, omega arith, λ i li. elim (last_or i (suc n) li) [ inl e ↦ subst (λ (x : ℕ). f x ≤ f (suc n)) (sym e) (omega arith) | inr q ↦ (let x = most i q in omega arith) ])
        ]

module _ (s : State) (n : ℕ) (st : ℕ → State) (run : Run s n st) where
  -- the column that leaves at a step
  abbrev pub leaving : ℕ → ℕ
  leaving k = basic_of (st (suc k)) (run.row k)

  -- how a step finds a column
  free_at : (k : ℕ) → k < n → (t : ℕ) → run.column k ≡ t → at_of (st (suc k)) t ≢ Basic
  free_at k l t e = subst (λ (x : ℕ). at_of (st (suc k)) x ≢ Basic) e (column_free s (st (suc k)) (st k) (run.board (suc k)) (run.feasible (suc k)) (run.board k) (step s n st run k l))

  pub entered_at : (k : ℕ) → k < n → (t : ℕ) → run.column k ≡ t → at_of (st k) t ≡ Basic
  entered_at k l t e = subst (λ (x : ℕ). at_of (st k) x ≡ Basic) e (at_column s (st (suc k)) (st k) (run.board (suc k)) (run.feasible (suc k)) (run.board k) (step s n st run k l))

  pub basic_at : (k : ℕ) → k < n → (t : ℕ) → leaving k ≡ t → at_of (st (suc k)) t ≡ Basic
  basic_at k l t e = subst (λ (x : ℕ). at_of (st (suc k)) x ≡ Basic) e (leaver_basic s (st (suc k)) (st k) (run.board (suc k)) (run.feasible (suc k)) (run.board k) (step s n st run k l))

  left_at : (k : ℕ) → k < n → (t : ℕ) → leaving k ≡ t → at_of (st k) t ≡ run.to k
  left_at k l t e = subst (λ (x : ℕ). at_of (st k) x ≡ run.to k) e (at_leaver s (st (suc k)) (st k) (run.board (suc k)) (run.feasible (suc k)) (run.board k) (step s n st run k l))

  left_free : (k : ℕ) → k < n → (t : ℕ) → leaving k ≡ t → at_of (st k) t ≢ Basic
  left_free k l t e = subst (λ (x : ℕ). at_of (st k) x ≢ Basic) e (leaver_free s (st (suc k)) (st k) (run.board (suc k)) (run.feasible (suc k)) (run.board k) (step s n st run k l))

  kept_at : (k : ℕ) → k < n → (t : ℕ) → run.column k ≢ t → leaving k ≢ t → at_of (st k) t ≡ at_of (st (suc k)) t
  kept_at k l t d f = at_rest s (st (suc k)) (st k) (run.board (suc k)) (run.feasible (suc k)) (run.board k) (step s n st run k l) t (λ e. d (sym e)) (λ e. f (sym e))

  -- a column that never changes
  pub kept : (t : ℕ) → ((i : ℕ) → i < n → run.column i ≢ t) → ((i : ℕ) → i < n → leaving i ≢ t) → (k : ℕ) → k ≤ n → at_of (st 0) t ≡ at_of (st k) t
  kept t none left zero l = refl
  kept t none left (suc k) l = kept t none left k (omega arith) ∙ kept_at k (omega arith) t (none k (omega arith)) (left k (omega arith))

  -- at step p the column enters, and at step q it leaves to the status from which it enters at p
  pub record Pair (t : ℕ) : Type 0 where
    pub p : ℕ
    pub q : ℕ
    pub lp : p < n
    pub lq : q < n
    pub enters : run.column p ≡ t
    pub leaves : leaving q ≡ t
    pub back : run.to q ≡ at_of (st (suc p)) t

  -- what the last k steps say of a column, read from the last one back
  data Seen (t k : ℕ) : Type 0 where
    Same : ((i : ℕ) → i < k → run.column i ≢ t) → ((i : ℕ) → i < k → leaving i ≢ t) → at_of (st 0) t ≡ at_of (st k) t → Seen t k
    Found : Pair t → Seen t k
    -- it enters at p, has the same status before, and is basic at the end
    Entered : (p : ℕ) → p < n → run.column p ≡ t → at_of (st k) t ≡ at_of (st (suc p)) t → at_of (st 0) t ≡ Basic → Seen t k
    -- it leaves at q, has that status at the end, and is basic before
    Left : (q : ℕ) → q < n → leaving q ≡ t → at_of (st 0) t ≡ run.to q → at_of (st k) t ≡ Basic → Seen t k
    -- it leaves at q, has that status at the end, and before it enters at p
    Both : (q p : ℕ) → q < n → p < n → leaving q ≡ t → at_of (st 0) t ≡ run.to q → run.column p ≡ t → at_of (st k) t ≡ at_of (st (suc p)) t → Seen t k

  more : (P : ℕ → Type 0) (k : ℕ) → ((i : ℕ) → i < k → P i) → P k → (i : ℕ) → i < suc k → P i
  more P k h e i l = elim (last_or i k l) [ inl q ↦ subst P (sym q) e | inr q ↦ h i q ]
    where
      last_or : (i m : ℕ) → i < suc m → (i ≡ m) ⊎ (i < m)
      last_or i m h = grind arith

  -- one more step, in which the column enters
  on_enter : (t k : ℕ) → k < n → run.column k ≡ t → Seen t k → Seen t (suc k)
  on_enter t k l e (Same none left same) = Entered k l e refl (same ∙ entered_at k l t e)
  on_enter t k l e (Found h) = Found h
  on_enter t k l e (Entered p lp ep is basic) = absurd (free_at p lp t ep (sym is ∙ entered_at k l t e))
  on_enter t k l e (Left q lq eq first basic) = Both q k lq l eq first e refl
  on_enter t k l e (Both q p lq lp eq first ep is) = absurd (free_at p lp t ep (sym is ∙ entered_at k l t e))

  -- in which it leaves
  on_leave : (t k : ℕ) → k < n → leaving k ≡ t → Seen t k → Seen t (suc k)
  on_leave t k l e (Same none left same) = Left k l e (same ∙ left_at k l t e) (basic_at k l t e)
  on_leave t k l e (Found h) = Found h
  on_leave t k l e (Entered p lp ep is basic) = Found (record { p = p; q = k; lp = lp; lq = l; enters = ep; leaves = e; back = sym (left_at k l t e) ∙ is })
  on_leave t k l e (Left q lq eq first basic) = absurd (left_free k l t e basic)
  on_leave t k l e (Both q p lq lp eq first ep is) = Found (record { p = p; q = k; lp = lp; lq = l; enters = ep; leaves = e; back = sym (left_at k l t e) ∙ is })

  -- in which it does neither
  on_rest : (t k : ℕ) → k < n → run.column k ≢ t → leaving k ≢ t → Seen t k → Seen t (suc k)
  on_rest t k l d f (Same none left same) = Same (more (λ (i : ℕ). run.column i ≢ t) k none d) (more (λ (i : ℕ). leaving i ≢ t) k left f) (same ∙ kept_at k l t d f)
  on_rest t k l d f (Found h) = Found h
  on_rest t k l d f (Entered p lp ep is basic) = Entered p lp ep (sym (kept_at k l t d f) ∙ is) basic
  on_rest t k l d f (Left q lq eq first basic) = Left q lq eq first (sym (kept_at k l t d f) ∙ basic)
  on_rest t k l d f (Both q p lq lp eq first ep is) = Both q p lq lp eq first ep (sym (kept_at k l t d f) ∙ is)

  seen : (t k : ℕ) → k ≤ n → Seen t k
  seen t zero l = Same (λ i l. absurd (omega arith)) (λ i l. absurd (omega arith)) refl
  seen t (suc k) l =
      elim (same_or_not (run.column k) t) [
        | inl e ↦ on_enter t k (omega arith) e (seen t k (omega arith))
        | inr d ↦
            elim (same_or_not (leaving k) t) [
              | inl e ↦ on_leave t k (omega arith) e (seen t k (omega arith))
              | inr f ↦ on_rest t k (omega arith) d f (seen t k (omega arith))
            ]
      ]

  -- a column that changes has such a pair of steps, or else never changes
  pub paired : ((j : ℕ) → at_of (st 0) j ≡ at_of (st n) j) → (t : ℕ) → Pair t ⊎ (((i : ℕ) → i < n → run.column i ≢ t) × ((i : ℕ) → i < n → leaving i ≢ t))
  paired again t = go (seen t n (omega arith))
    where
      go : Seen t n → Pair t ⊎ (((i : ℕ) → i < n → run.column i ≢ t) × ((i : ℕ) → i < n → leaving i ≢ t))
      go (Same none left same) = inr (none, left)
      go (Found h) = inl h
      go (Entered p lp ep is basic) = absurd (free_at p lp t ep (sym is ∙ sym (again t) ∙ basic))
      go (Left q lq eq first basic) = absurd (left_free q lq t eq (left_at q lq t eq ∙ sym first ∙ again t ∙ basic))
      go (Both q p lq lp eq first ep is) = inl (record { p = p; q = q; lp = lp; lq = lq; enters = ep; leaves = eq; back = sym first ∙ again t ∙ is })
