-- What a reset leaves.
use Rattle.std.proofs.Common.{◌≡◌, ◌≢◌, ℕ, ◌<◌, arith, ap, sym, ◌∙◌, subst, refl, length, None, ◌⊎◌, inl, inr}
use Rattle.std.specs.Prelude.{pos}
use Rattle.std.proofs.lemmas.List.{ext_get_or}
use Rattle.um_laws.specs.Rational.{whole}
use Rattle.um_lp.specs.Basis.{TableauOf}
use Rattle.um_lp.specs.Boards.{IsBoard, IsReset}
use Rattle.um_lp.specs.Laws.{ResetStartLaw, ResetRowsLaw, ResetCostsLaw, NoCostsLaw, OneResetLaw}
use Rattle.um_lp.specs.States.{State, Frame, width, slack, system, charge, data_of, cost_of, basic_of, at_of, entry_of}
use Rattle.um_lp.specs.declared.board.At.TheVariants.{Lower, Zero, Basic}
use Rattle.um_lp.specs.declared.board.Costs.{Costs}
use Rattle.um_lp.proofs.OneState.{with_numbers, same_numbers}
use Rattle.um_lp.proofs.Rows.{row_with}
use Rattle.um_lp.proofs.Starts.{TableauOf-slacks, reduced-slacks, system-slacks, cost-slack}
use Rattle.um_lp.proofs.Unique.{entries_unique}

pub reset_start : ResetStartLaw
reset_start s t r = (record { frame = r.frame; placed = r.placed; costs = r.costs; basic = r.basic; nonbasic = r.nonbasic; ends = r.ends }, r.board)

-- the slacks are basic, by the state's own frame
slacks_basic : (taken : Costs) (s t : State) → IsReset taken s t → (row : ℕ) → row < t.frame.rows → basic_of t row ≡ slack t.frame row
slacks_basic taken s t r = subst (λ (f : Frame). (row : ℕ) → row < f.rows → basic_of t row ≡ slack f row) (sym r.frame) r.basic

-- the system is the tableau of its slacks, and a basis has one table
pub reset_rows : ResetRowsLaw
reset_rows taken s t r row column lr lk =
    let slacks : (i : ℕ) → i < t.frame.rows → basic_of t i ≡ slack t.frame i = slacks_basic taken s t r in
    let own : TableauOf t.frame.rows (width t.frame) (length t.frame.columns) (system t) (basic_of t) (system t) =
    TableauOf-slacks t.frame.rows (width t.frame) (length t.frame.columns) (system t) (basic_of t) (system t) (omega arith) (system-slacks t) slacks (λ i j l m. refl) in
    entries_unique t.frame.rows (width t.frame) (length t.frame.columns) (system t) (basic_of t) (system t) (entry_of t) own r.board.tableau row column
    (subst (λ (f : Frame). row < f.rows) (sym r.frame) lr) (subst (λ (f : Frame). column < width f) (sym r.frame) lk)

pub reset_costs : ResetCostsLaw
reset_costs taken s t r column l =
    let slacks : (i : ℕ) → i < t.frame.rows → basic_of t i ≡ slack t.frame i = slacks_basic taken s t r in
    r.board.reduced column (subst (λ (f : Frame). column < width f) (sym r.frame) l)
    ∙ sym (reduced-slacks t.frame.rows (cost_of t) (basic_of t) (entry_of t) column (λ i p. ap (cost_of t) (slacks i p) ∙ cost-slack t i p))

pub no_costs : NoCostsLaw
no_costs s b e column l =
    let free : (j : ℕ) → cost_of s j ≡ whole (pos 0) = λ j. ap (λ (taken : Costs). whole (charge taken (data_of s j).cost)) e in
    b.reduced column l ∙ sym (reduced-slacks s.frame.rows (cost_of s) (basic_of s) (entry_of s) column (λ i p. free (basic_of s i))) ∙ free column

-- where a column stands follows from the basis
stands_same : (taken : Costs) (s t u : State) → IsReset taken s t → IsReset taken s u → (column : ℕ) → column < width s.frame → at_of t column ≡ at_of u column
stands_same taken s t u p q column l = go (row_with s.frame.rows (slack s.frame) column)
  where
    named : (v : State) → IsReset taken s v → (row : ℕ) → row < s.frame.rows → slack s.frame row ≡ column → at_of v column ≡ Basic
    named v r row lr e = sym (ap (at_of v) (r.basic row lr ∙ e)) ∙ r.board.basis.named row (subst (λ (f : Frame). row < f.rows) (sym r.frame) lr)

    lower : (v : State) → IsReset taken s v → ((row : ℕ) → row < s.frame.rows → slack s.frame row ≢ column) → at_of v column ≡ Lower
    lower v r none = r.nonbasic column l (λ e.
        let row = r.board.basis.found column (subst (λ (f : Frame). column < width f) (sym r.frame) l) e in
        let here : row.0 < s.frame.rows = subst (λ (f : Frame). row.0 < f.rows) r.frame row.1 in
        none row.0 here (sym (r.basic row.0 here) ∙ row.2))

    go : ((row : ℕ) × (row < s.frame.rows) × (slack s.frame row ≡ column)) ⊎ ((row : ℕ) → row < s.frame.rows → slack s.frame row ≢ column) → at_of t column ≡ at_of u column
    go (inl row) = named t p row.0 row.1 row.2 ∙ sym (named u q row.0 row.1 row.2)
    go (inr none) = lower t p none ∙ sym (lower u q none)

pub one_reset : OneResetLaw
one_reset taken s t u p q = path ∙ same_numbers u t.entries t.reduced t.values q.board (subst IsBoard path p.board)
  where
    rows : (v : State) → IsReset taken s v → length v.basic ≡ s.frame.rows
    rows v r = r.board.shape.basic ∙ ap (λ (f : Frame). f.rows) r.frame

    wide : (v : State) → IsReset taken s v → (n : ℕ) → n ≡ width v.frame → n ≡ width s.frame
    wide v r n e = e ∙ ap (λ (f : Frame). width f) r.frame

    basic_same : t.basic ≡ u.basic
    basic_same = ext_get_or 0 t.basic u.basic (rows t p ∙ sym (rows u q)) (λ i l. let m : i < s.frame.rows = (let e = rows t p in omega arith) in p.basic i m ∙ sym (q.basic i m))

    at_same : t.at ≡ u.at
    at_same = ext_get_or Zero t.at u.at (wide t p _ p.board.shape.at ∙ sym (wide u q _ q.board.shape.at)) (λ j l. stands_same taken s t u p q j (let e = wide t p _ p.board.shape.at in omega arith))

    ends_same : t.ends ≡ u.ends
    ends_same = ext_get_or (None, None) t.ends u.ends (wide t p _ p.board.shape.ends ∙ sym (wide u q _ q.board.shape.ends)) (λ j l. let m : j < width s.frame = (let e = wide t p _ p.board.shape.ends in omega arith) in p.ends j m ∙ sym (q.ends j m))

    path : t ≡ with_numbers u t.entries t.reduced t.values
    path = λ i. record {
      frame = (p.frame ∙ sym q.frame) i;
      placed = (p.placed ∙ sym q.placed) i;
      costs = (p.costs ∙ sym q.costs) i;
      basic = basic_same i;
      at = at_same i;
      ends = ends_same i;
      entries = t.entries;
      reduced = t.reduced;
      values = t.values;
    }
