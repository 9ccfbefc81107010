-- The slack basis.
use Rattle.std.proofs.Common.{◌≡◌, ◌≢◌, ℕ, ◌+◌, ◌-◌, ◌<◌, ◌≤◌, arith, ap, sym, ◌∙◌, subst, refl, cond, length, slice_index_or, [], ◌∷◌, Option, Some, ◌⊎◌, inl, inr}
use Rattle.std.specs.Prelude.{ℤ, pos, nat_lt}
use Rattle.um_laws.proofs.Ring.{var, nought, unit, ◌⊕◌, ◌⊗◌, opp}
use Rattle.um_laws.specs.Rational.{Rational, whole, add, mul, neg}
use Rattle.um_lp.specs.Basis.{sum_below, TableauOf, Solves}
use Rattle.um_lp.specs.Boards.{IsShaped, IsBoard, IsStart, IsReset}
use Rattle.um_lp.specs.States.{State, Frame, ColumnData, no_data, data_of, coefficient, charge, width, slack, system, cost_of, basic_of, at_of, state_ends_of, entry_of, reduced_of, value_of, end_at, number_of_end}
use Rattle.um_lp.specs.declared.board.At.{At}
use Rattle.um_lp.specs.declared.board.At.TheVariants.{Lower, Basic}
use Rattle.um_lp.specs.declared.board.Costs.{Costs}
use Rattle.um_lp.specs.declared.board.Costs.TheVariants.{Given, Nothing}
use Rattle.um_laws.proofs.RationalEquations.{by_ring}
use Rattle.um_lp.proofs.ReducedCosts.{reduced_cost}
use Rattle.um_lp.proofs.Rows.{by_row, by_below, below_or}
use Rattle.um_lp.proofs.Sums.{sum-cong, sum-none, sum-one}

-- row i has -1 at its slack, column n + i, and 0 at the others' slacks
pub record HasSlacks (m n : ℕ) (row : ℕ → ℕ → Rational) : Type 0 where
  pub own : (i : ℕ) → i < m → row i (n + i) ≡ neg (whole (pos 1))
  pub others : (i s : ℕ) → i < m → s < m → i ≢ s → row i (n + s) ≡ whole (pos 0)

-- the system is the tableau of its slacks
pub TableauOf-slacks : (m w n : ℕ) (row : ℕ → ℕ → Rational) (basic : ℕ → ℕ) (e : ℕ → ℕ → Rational) → n + m ≤ w → HasSlacks m n row
    → ((i : ℕ) → i < m → basic i ≡ n + i) → ((i j : ℕ) → i < m → j < w → e i j ≡ row i j) → TableauOf m w n row basic e
TableauOf-slacks m w n row basic e fits slacks hb he = record {
  in_range = λ r l. subst (λ (x : ℕ). x < w) (sym (hb r l)) (let q : n + r < w = omega arith in q);
  own = λ r l. at_slack r r l l ∙ slacks.own r l;
  others = λ r s l p d. at_slack r s l p ∙ slacks.others r s l p d;
  within = λ r j l q. he r j l q ∙ picked r j l
      ∙ ap neg (sum-cong m _ _ (λ i p. ap (λ (x : Rational). mul x (row i j)) (sym (he r (n + i) l (omega arith)))));
  spans = λ i j l q. picked i j l
      ∙ ap neg (sum-cong m _ _ (λ r p. ap (λ (x : ℕ). mul (row i x) (row r j)) (sym (hb r p)) ∙ ap (mul (row i (basic r))) (sym (he r j p q))));
}
  where
    at_slack : (r s : ℕ) → r < m → s < m → e r (basic s) ≡ row r (n + s)
    at_slack r s l p = ap (e r) (hb s p) ∙ he r (n + s) l (omega arith)

    -- minus the sum of the rows, each times what row r has at its slack, is row r
    picked : (r j : ℕ) → r < m → row r j ≡ neg (sum_below m (λ i. mul (row r (n + i)) (row i j)))
    picked r j l =
        sym (ap neg (sum-one m r (λ i. mul (row r (n + i)) (row i j)) l (λ s p d. ap (λ (x : Rational). mul x (row s j)) (slacks.others r s l p (λ q. d (sym q))) ∙ by_ring (row s j ∷ []) (nought ⊗ var 0) nought refl)
        ∙ ap (λ (x : Rational). mul x (row r j)) (slacks.own r l))
        ∙ by_ring (row r j ∷ []) (opp (opp unit ⊗ var 0)) (var 0) refl)

-- where the basic columns cost nothing, the reduced costs are the costs
pub reduced-slacks : (m : ℕ) (c : ℕ → Rational) (basic : ℕ → ℕ) (e : ℕ → ℕ → Rational) (j : ℕ) → ((i : ℕ) → i < m → c (basic i) ≡ whole (pos 0)) → c j ≡ reduced_cost m c basic e j
reduced-slacks m c basic e j free = sym (ap (add (c j)) (sum-none m _ (λ i l. ap (λ (x : Rational). mul x (e i j)) (free i l) ∙ by_ring (e i j ∷ []) (nought ⊗ var 0) nought refl)) ∙ by_ring (c j ∷ []) (var 0 ⊕ nought) (var 0) refl)

-- all values 0 solve the rows
pub Solves-zero : (m w : ℕ) (e : ℕ → ℕ → Rational) (v : ℕ → Rational) → ((j : ℕ) → j < w → v j ≡ whole (pos 0)) → Solves m w e v
Solves-zero m w e v h r l = sum-none w _ (λ j p. ap (mul (e r j)) (h j p) ∙ by_ring (e r j ∷ []) (var 0 ⊗ nought) nought refl)

-- ---- states

-- the slacks are basic, each in its row; all other columns are Lower; all ends and values are 0; the entries are the system, and the reduced costs are the costs
pub record HasSlackBasis (s : State) : Type 0 where
  pub shape : IsShaped s
  pub basic : (row : ℕ) → row < s.frame.rows → basic_of s row ≡ slack s.frame row
  pub slacks : (row : ℕ) → row < s.frame.rows → at_of s (slack s.frame row) ≡ Basic
  pub before : (column : ℕ) → column < length s.frame.columns → at_of s column ≡ Lower
  pub behind : (column : ℕ) → slack s.frame s.frame.rows ≤ column → column < width s.frame → at_of s column ≡ Lower
  pub ends : (column : ℕ) → column < width s.frame → state_ends_of s column ≡ (Some (pos 0), Some (pos 0))
  pub entries : (row column : ℕ) → row < s.frame.rows → column < width s.frame → entry_of s row column ≡ system s row column
  pub reduced : (column : ℕ) → column < width s.frame → reduced_of s column ≡ cost_of s column
  pub values : (column : ℕ) → column < width s.frame → value_of s column ≡ whole (pos 0)

-- a slack costs nothing and has no terms
data-slack : (s : State) (row : ℕ) → row < s.frame.rows → data_of s (slack s.frame row) ≡ no_data
data-slack s row l = by_below (λ b. cond b (slice_index_or s.frame.columns (slack s.frame row) no_data) (cond (nat_lt (slack s.frame row) (slack s.frame s.frame.rows)) no_data (slice_index_or s.placed (slack s.frame row - slack s.frame s.frame.rows) no_data)) ≡ no_data)
    (slack s.frame row) (length s.frame.columns)
    (λ p. absurd (omega arith))
    (λ p. by_below (λ b. cond b no_data (slice_index_or s.placed (slack s.frame row - slack s.frame s.frame.rows) no_data) ≡ no_data) (slack s.frame row) (slack s.frame s.frame.rows) (λ q. refl) (λ q. absurd (omega arith)))

pub system-slacks : (s : State) → HasSlacks s.frame.rows (length s.frame.columns) (system s)
system-slacks s = record {
  own = λ i l. by_row (λ b. cond b (neg (whole (pos 1))) (whole (coefficient (data_of s (slack s.frame i)).terms i)) ≡ neg (whole (pos 1))) (slack s.frame i) (slack s.frame i) (λ q. refl) (λ d. absurd (d refl));
  others = λ i k li lk d. by_row (λ b. cond b (neg (whole (pos 1))) (whole (coefficient (data_of s (slack s.frame k)).terms i)) ≡ whole (pos 0)) (slack s.frame k) (slack s.frame i)
      (λ q. absurd (d (omega arith)))
      (λ q. ap (λ (x : ColumnData). whole (coefficient x.terms i)) (data-slack s k lk));
}

pub cost-slack : (s : State) (row : ℕ) → row < s.frame.rows → cost_of s (slack s.frame row) ≡ whole (pos 0)
cost-slack s row l = ap (λ (x : ColumnData). whole (charge s.costs x.cost)) (data-slack s row l) ∙ ap whole (nothing s.costs)
  where
    nothing : (c : Costs) → charge c (pos 0) ≡ pos 0
    nothing Given = refl
    nothing Nothing = refl

module _ (s : State) (h : HasSlackBasis s) where
  -- a column that is no slack is Lower
  at_start : (column : ℕ) → column < width s.frame → (at_of s column ≡ Lower) ⊎ ((row : ℕ) × (row < s.frame.rows) × (slack s.frame row ≡ column))
  at_start column l = go (below_or column (length s.frame.columns)) (below_or column (slack s.frame s.frame.rows))
    where
      go : (column < length s.frame.columns) ⊎ (length s.frame.columns ≤ column) → (column < slack s.frame s.frame.rows) ⊎ (slack s.frame s.frame.rows ≤ column)
          → (at_of s column ≡ Lower) ⊎ ((row : ℕ) × (row < s.frame.rows) × (slack s.frame row ≡ column))
      go (inl p) q = inl (h.before column p)
      go (inr p) (inl q) = inr (column - length s.frame.columns, omega arith, omega arith)
      go (inr p) (inr q) = inl (h.behind column q l)

  found_start : (column : ℕ) → column < width s.frame → at_of s column ≡ Basic → (row : ℕ) × (row < s.frame.rows) × (basic_of s row ≡ column)
  found_start column l e = go (at_start column l)
    where
      go : (at_of s column ≡ Lower) ⊎ ((row : ℕ) × (row < s.frame.rows) × (slack s.frame row ≡ column)) → (row : ℕ) × (row < s.frame.rows) × (basic_of s row ≡ column)
      go (inl p) = absurd (cc)
      go (inr r) = (r.0, r.1, h.basic r.0 r.1 ∙ r.2)

  lower_start : (column : ℕ) → column < width s.frame → at_of s column ≢ Basic → at_of s column ≡ Lower
  lower_start column l d = go (at_start column l)
    where
      go : (at_of s column ≡ Lower) ⊎ ((row : ℕ) × (row < s.frame.rows) × (slack s.frame row ≡ column)) → at_of s column ≡ Lower
      go (inl p) = p
      go (inr r) = absurd (d (sym (ap (at_of s) r.2) ∙ h.slacks r.0 r.1))

  nonbasic_start : (column : ℕ) → column < width s.frame → at_of s column ≢ Basic → value_of s column ≡ number_of_end (end_at (at_of s column) (state_ends_of s column))
  nonbasic_start column l d =
      h.values column l
      ∙ sym (ap (λ (x : At). number_of_end (end_at x (state_ends_of s column))) (lower_start column l d)
      ∙ ap (λ (x : Option ℤ × Option ℤ). number_of_end (end_at Lower x)) (h.ends column l))

  pub IsBoard-start : IsBoard s
  IsBoard-start = record {
    shape = h.shape;
    basis = record { named = λ row l. ap (at_of s) (h.basic row l) ∙ h.slacks row l; found = found_start };
    tableau = TableauOf-slacks s.frame.rows (width s.frame) (length s.frame.columns) (system s) (basic_of s) (entry_of s) (omega arith) (system-slacks s) h.basic h.entries;
    reduced = λ column l. h.reduced column l ∙ reduced-slacks s.frame.rows (cost_of s) (basic_of s) (entry_of s) column (λ i p. ap (cost_of s) (h.basic i p) ∙ cost-slack s i p);
    values = record { nonbasic = nonbasic_start; basic = Solves-zero s.frame.rows (width s.frame) (entry_of s) (value_of s) h.values };
  }

pub IsStart-start : (f : Frame) (s : State) → s.frame ≡ f → s.placed ≡ [] → s.costs ≡ Given → HasSlackBasis s → IsStart f s
IsStart-start f s hf hp hc h = record {
  frame = hf;
  placed = hp;
  costs = hc;
  basic = λ row l. subst (λ (x : Frame). row < x.rows → basic_of s row ≡ slack x row) hf (h.basic row) l;
  nonbasic = λ column l. lower_start s h column (subst (λ (x : Frame). column < width x) (sym hf) l);
  ends = λ column l. h.ends column (subst (λ (x : Frame). column < width x) (sym hf) l);
}

pub IsReset-start : (taken : Costs) (s t : State) → t.frame ≡ s.frame → t.placed ≡ [] → t.costs ≡ taken → HasSlackBasis t → IsReset taken s t
IsReset-start taken s t hf hp hc h = record {
  frame = hf;
  placed = hp;
  costs = hc;
  basic = subst (λ (f : Frame). (row : ℕ) → row < f.rows → basic_of t row ≡ slack f row) hf h.basic;
  nonbasic = subst (λ (f : Frame). (column : ℕ) → column < width f → at_of t column ≢ Basic → at_of t column ≡ Lower) hf (lower_start t h);
  ends = subst (λ (f : Frame). (column : ℕ) → column < width f → state_ends_of t column ≡ (Some (pos 0), Some (pos 0))) hf h.ends;
  values = subst (λ (f : Frame). (column : ℕ) → column < width f → value_of t column ≡ whole (pos 0)) hf h.values;
  board = IsBoard-start t h;
}
