-- What a board that stands for a deck has at the deck's columns and slacks.
use Rattle.std.proofs.Common.{◌≡◌, ◌≢◌, ℕ, ◌+◌, ◌-◌, ◌<◌, arith, ap, sym, ◌∙◌, refl, [], ◌∷◌, length, map, cond, nat_lt, ◌==◌}
use Rattle.std.specs.Prelude.{pos, slice_index_or, if◌then◌else◌}
use Rattle.um_laws.specs.Rational.{Rational, whole, add, mul, neg}
use Rattle.um_laws.proofs.Ring.{var, nought, unit, ◌⊕◌, ◌⊗◌, opp}
use Rattle.um_laws.proofs.SumLaws.{sum_of-map}
use Rattle.um_model.specs.Values.{DeckValue}
use Rattle.um_model.specs.Feasible.{coefficient}
use Rattle.um_laws.proofs.Places.{at_map, length-map}
use Rattle.um_lp.specs.Basis.{sum_below, Solves}
use Rattle.um_lp.specs.States.{State, Frame, ColumnData, no_data, width, slack, data_of, system, charge, cost_of}
use Rattle.um_lp.specs.States as lp
use Rattle.um_lp.specs.declared.board.Costs.{Costs}
use Rattle.um_lp.specs.declared.board.Costs.TheVariants.{Given, Nothing}
use Rattle.um_lp.specs.declared.relaxation.Term.{Term}
use Rattle.um_laws.proofs.RationalEquations.{by_ring}
use Rattle.um_lp.proofs.Rows.{by_row, by_below}
use Rattle.um_lp.proofs.Sums.{sum-cong, sum-one}
use Rattle.um_duality.specs.Relaxed.{StandsFor, column_data, term_of}
use Rattle.um_duality.proofs.LeafBridge.{column_at}
use Rattle.um_duality.proofs.ListSums.{sum-split}

module _ (d : DeckValue) (s : State) (stands : StandsFor d s) where
  abbrev n : ℕ
  n = length d.columns

  pub rows-is : s.frame.rows ≡ length d.rows
  rows-is = ap (λ (f : Frame). f.rows) stands.frame

  pub columns-is : length s.frame.columns ≡ n
  columns-is = ap (λ (f : Frame). length f.columns) stands.frame ∙ length-map column_data d.columns

  pub slack-is : (i : ℕ) → slack s.frame i ≡ n + i
  slack-is i = ap (λ (k : ℕ). k + i) columns-is

  pub width-is : width s.frame ≡ n + length d.rows
  width-is = let e : width s.frame ≡ length (map column_data d.columns) + length d.rows + 0 = ap width stands.frame in omega (arith, length-map column_data d.columns)

  pub data-column : (j : ℕ) → j < n → data_of s j ≡ column_data (column_at d j)
  data-column j l =
      by_below (λ t. cond t (slice_index_or s.frame.columns j no_data) (cond (nat_lt j (slack s.frame s.frame.rows)) no_data (slice_index_or s.placed (j - slack s.frame s.frame.rows) no_data)) ≡ column_data (column_at d j)) j (length s.frame.columns)
      (λ h. ap (λ (f : Frame). slice_index_or f.columns j no_data) stands.frame ∙ at_map column_data d.columns j _ no_data l)
      (λ h. absurd (omega (arith, columns-is)))

  pub data-slack : (i : ℕ) → i < length d.rows → data_of s (slack s.frame i) ≡ no_data
  data-slack i l =
      let j : ℕ = slack s.frame i in
      by_below (λ t. cond t (slice_index_or s.frame.columns j no_data) (cond (nat_lt j (slack s.frame s.frame.rows)) no_data (slice_index_or s.placed (j - slack s.frame s.frame.rows) no_data)) ≡ no_data) j (length s.frame.columns)
      (λ h. absurd (omega arith))
      (λ h. by_below (λ t. cond t no_data (slice_index_or s.placed (j - slack s.frame s.frame.rows) no_data) ≡ no_data) j (slack s.frame s.frame.rows) (λ k. refl) (λ k. absurd (omega (arith, rows-is))))

  -- a board with the given costs has those of the deck
  pub cost-column : s.costs ≡ Given → (j : ℕ) → j < n → cost_of s j ≡ whole (column_at d j).cost
  cost-column given j l = ap (λ (k : Costs). whole (charge k (data_of s j).cost)) given ∙ ap (λ (x : ColumnData). whole x.cost) (data-column j l)

  -- nothing is charged for a slack, whichever costs the board takes
  charge-none : (k : Costs) → charge k (pos 0) ≡ pos 0
  charge-none Given = refl
  charge-none Nothing = refl

  pub cost-slack : (i : ℕ) → i < length d.rows → cost_of s (slack s.frame i) ≡ whole (pos 0)
  cost-slack i l = ap (λ (x : ColumnData). whole (charge s.costs x.cost)) (data-slack i l) ∙ ap whole (charge-none s.costs)

  pub system-column : (i j : ℕ) → j < n → system s i j ≡ whole (coefficient i (column_at d j))
  system-column i j l =
      by_row (λ t. cond t (neg (whole (pos 1))) (whole (lp.coefficient (data_of s j).terms i)) ≡ whole (coefficient i (column_at d j))) j (slack s.frame i)
      (λ h. absurd (omega (arith, columns-is)))
      (λ h. ap (λ (c : ColumnData). whole (lp.coefficient c.terms i)) (data-column j l)
      ∙ ap whole (sum_of-map (λ (t : Term). if t.row == i then t.value else pos 0) term_of (column_at d j).entries))

  pub system-own : (i : ℕ) → system s i (slack s.frame i) ≡ neg (whole (pos 1))
  system-own i =
      by_row (λ t. cond t (neg (whole (pos 1))) (whole (lp.coefficient (data_of s (slack s.frame i)).terms i)) ≡ neg (whole (pos 1))) (slack s.frame i) (slack s.frame i)
      (λ h. refl) (λ h. absurd (h refl))

  pub system-other : (i k : ℕ) → k < length d.rows → k ≢ i → system s i (slack s.frame k) ≡ whole (pos 0)
  system-other i k l ne =
      by_row (λ t. cond t (neg (whole (pos 1))) (whole (lp.coefficient (data_of s (slack s.frame k)).terms i)) ≡ whole (pos 0)) (slack s.frame k) (slack s.frame i)
      (λ h. absurd (ne (omega arith)))
      (λ h. ap (λ (c : ColumnData). whole (lp.coefficient c.terms i)) (data-slack k l))

  -- the value of a slack is the row's sum
  pub slack-value : (v : ℕ → Rational) → Solves s.frame.rows (width s.frame) (system s) v → (i : ℕ) → i < length d.rows → v (n + i) ≡ sum_below n (λ j. mul (whole (coefficient i (column_at d j))) (v j))
  slack-value v h i l =
      let L : Rational = sum_below n (λ j. mul (system s i j) (v j)) in
      let tail : sum_below (length d.rows) (λ k. mul (system s i (n + k)) (v (n + k))) ≡ neg (v (n + i)) =
      sum-one (length d.rows) i (λ k. mul (system s i (n + k)) (v (n + k))) l
      (λ k q ne. ap (λ (x : Rational). mul x (v (n + k))) (ap (system s i) (sym (slack-is k)) ∙ system-other i k q ne) ∙ by_ring (v (n + k) ∷ []) (nought ⊗ var 0) nought refl)
      ∙ ap (λ (x : Rational). mul x (v (n + i))) (ap (system s i) (sym (slack-is i)) ∙ system-own i)
      ∙ by_ring (v (n + i) ∷ []) (opp unit ⊗ var 0) (opp (var 0)) refl in
      let all : add L (neg (v (n + i))) ≡ whole (pos 0) =
      ap (add L) (sym tail) ∙ sym (sum-split n (length d.rows) (λ j. mul (system s i j) (v j)))
      ∙ ap (λ (k : ℕ). sum_below k (λ j. mul (system s i j) (v j))) (sym width-is) ∙ h i (omega (arith, rows-is)) in
      by_ring (v (n + i) ∷ L ∷ []) (var 0) (var 1 ⊕ opp (var 1 ⊕ opp (var 0))) refl
      ∙ ap (λ (x : Rational). add L (neg x)) all
      ∙ by_ring (L ∷ []) (var 0 ⊕ opp nought) (var 0) refl
      ∙ sum-cong n _ _ (λ j q. ap (λ (x : Rational). mul x (v j)) (system-column i j q))
