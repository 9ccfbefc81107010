-- What a board's implementation has to show of an act: the new numbers, pointwise. The rest of what the act leaves follows.
use Rattle.std.proofs.Common.{◌≡◌, ◌≢◌, ℕ, ◌<◌, arith, ap, sym, ◌∙◌, subst, refl, ◌⊎◌, inl, inr, Option, Some, None, List, slice_set, slice_index, slice_index_or, length, [], ◌∷◌}
use Rattle.std.proofs.lemmas.List.{get_or-set_same, get_or-set_other, length-set}
use Rattle.std.specs.Prelude.{zero, suc, ℤ, pos, negsuc}
use Rattle.std.proofs.lemmas.Int.{ints}
use Rattle.um_laws.proofs.Ring.{var, ◌⊕◌, opp}
use Rattle.um_laws.specs.Rational.{Rational, whole, add, mul, neg, inverse}
use Rattle.um_lp.specs.Basis.{TableauOf, Solves, pivot_line, pivot_entry, pivot_basic}
use Rattle.um_lp.specs.Boards.{IsShaped, IsBoard, SameRows, IsFinite, IsPivot, resting_with, stays_or, StandsAt, IsRebox}
use Rattle.um_lp.specs.States.{State, width, system, cost_of, basic_of, at_of, state_ends_of, entry_of, reduced_of, value_of, end_at, number_of_end}
use Rattle.um_lp.specs.declared.board.At.{At}
use Rattle.um_lp.specs.declared.board.At.TheVariants.{Lower, Upper, Zero, Basic}
use Rattle.um_laws.proofs.RationalEquations.{by_ring, over_is}
use Rattle.um_lp.proofs.Pivots.{TableauOf-pivot, TableauOf-same, basic-set}
use Rattle.um_lp.proofs.ReducedCosts.{reduced_cost, reduced-pivot, reduced-same}
use Rattle.um_lp.proofs.Rows.{same_or_not}
use Rattle.um_lp.proofs.Solutions.{Solves-same, Solves-values}
use Rattle.um_lp.proofs.Unique.{entries_unique, same_row}
use Rattle.um_lp.proofs.Values.{IsMoved, values-pivot, values-rebox}

-- ---- pivots

-- the number of the end to which the basic column of a row leaves
abbrev pub leaving_end : State → ℕ → At → Rational
leaving_end s row to = number_of_end (end_at to (state_ends_of s (basic_of s row)))

-- by how much the entering column rises: what the leaving column lacks to its end, over the entry
abbrev pub entering_rise : State → ℕ → ℕ → At → Rational
entering_rise s row column to = mul (add (leaving_end s row to) (neg (value_of s (basic_of s row)))) (inverse (entry_of s row column))

-- the values after a pivot
pub record HasPivotedValues (row column : ℕ) (to : At) (s t : State) : Type 0 where
  pub entering : value_of t column ≡ add (value_of s column) (entering_rise s row column to)
  pub leaving : value_of t (basic_of s row) ≡ leaving_end s row to
  pub rows : (i : ℕ) → i < s.frame.rows → i ≢ row → value_of t (basic_of s i) ≡ add (value_of s (basic_of s i)) (mul (entry_of s i column) (entering_rise s row column to))
  pub rest : (j : ℕ) → j < width s.frame → j ≢ column → ((i : ℕ) → i < s.frame.rows → basic_of s i ≢ j) → value_of t j ≡ value_of s j

-- the parts of a state after a pivot
pub record HasPivotedParts (row column : ℕ) (to : At) (s t : State) : Type 0 where
  pub same : SameRows s t
  pub shape : IsShaped t
  pub basic : t.basic ≡ slice_set s.basic row column
  pub at : t.at ≡ slice_set (slice_set s.at (basic_of s row) to) column Basic
  pub ends : t.ends ≡ s.ends
  pub entries : (i j : ℕ) → i < s.frame.rows → j < width s.frame → entry_of t i j ≡ pivot_entry (entry_of s) row column i j
  pub reduced : (j : ℕ) → j < width s.frame → reduced_of t j ≡ add (reduced_of s j) (mul (reduced_of s column) (pivot_line (entry_of s) row column j))
  pub values : HasPivotedValues row column to s t

-- where the columns stand after a pivot
abbrev pivoted_at : State → ℕ → ℕ → At → List At
pivoted_at s row column to = slice_set (slice_set s.at (basic_of s row) to) column Basic

-- the state after a pivot, but for the numbers
abbrev pivoted : State → ℕ → ℕ → At → State → State
pivoted s row column to t = record {
  frame = s.frame;
  placed = s.placed;
  costs = s.costs;
  basic = slice_set s.basic row column;
  at = pivoted_at s row column to;
  ends = s.ends;
  entries = t.entries;
  reduced = t.reduced;
  values = t.values;
}

module _ (row column : ℕ) (to : At) (s t : State) (b : IsBoard s) (lr : row < s.frame.rows) (lk : column < width s.frame) (free : at_of s column ≢ Basic) where
  -- the entering column is no row's basic one
  no_row : (i : ℕ) → i < s.frame.rows → basic_of s i ≢ column
  no_row i l q = free (sym (ap (at_of s) q) ∙ b.basis.named i l)

  basic_inside : (i : ℕ) → i < s.frame.rows → basic_of s i < width s.frame
  basic_inside i l = b.tableau.in_range i l

  abbrev now_at : ℕ → At
  now_at j = slice_index_or (pivoted_at s row column to) j Zero

  at_column : now_at column ≡ Basic
  at_column = get_or-set_same (slice_set s.at (basic_of s row) to) column Basic Zero (let e = length-set s.at (basic_of s row) to in let f = b.shape.at in omega arith)

  at_left : now_at (basic_of s row) ≡ to
  at_left =
      get_or-set_other (slice_set s.at (basic_of s row) to) column (basic_of s row) Basic Zero (no_row row lr)
      ∙ get_or-set_same s.at (basic_of s row) to Zero (let e = basic_inside row lr in let f = b.shape.at in omega arith)

  at_other : (j : ℕ) → j ≢ column → j ≢ basic_of s row → now_at j ≡ at_of s j
  at_other j p q = get_or-set_other (slice_set s.at (basic_of s row) to) column j Basic Zero p ∙ get_or-set_other s.at (basic_of s row) j to Zero q

  -- the basic columns are those of the pivot
  now_basic : (i : ℕ) → slice_index (slice_set s.basic row column) i ≡ pivot_basic (basic_of s) row column i
  now_basic i = basic-set s.basic row column i (let e = b.shape.basic in omega arith)

  basic_row : slice_index (slice_set s.basic row column) row ≡ column
  basic_row = get_or-set_same s.basic row column 0 (let e = b.shape.basic in omega arith)

  basic_other : (i : ℕ) → i ≢ row → slice_index (slice_set s.basic row column) i ≡ basic_of s i
  basic_other i d = get_or-set_other s.basic row i column 0 d

  named_new : (i : ℕ) → i < s.frame.rows → now_at (slice_index (slice_set s.basic row column) i) ≡ Basic
  named_new i l = go (same_or_not i row)
    where
      go : (i ≡ row) ⊎ (i ≢ row) → now_at (slice_index (slice_set s.basic row column) i) ≡ Basic
      go (inl q) = ap (λ (x : ℕ). now_at (slice_index (slice_set s.basic row column) x)) q ∙ ap now_at basic_row ∙ at_column
      go (inr d) = ap now_at (basic_other i d) ∙ at_other (basic_of s i) (no_row i l) (λ q. d (same_row _ _ _ _ _ _ b.tableau i row l lr q)) ∙ b.basis.named i l

  found_new : to ≢ Basic → (j : ℕ) → j < width s.frame → now_at j ≡ Basic → (i : ℕ) × (i < s.frame.rows) × (slice_index (slice_set s.basic row column) i ≡ j)
  found_new leaves j l e = go (same_or_not j column) (same_or_not j (basic_of s row))
    where
      go : (j ≡ column) ⊎ (j ≢ column) → (j ≡ basic_of s row) ⊎ (j ≢ basic_of s row) → (i : ℕ) × (i < s.frame.rows) × (slice_index (slice_set s.basic row column) i ≡ j)
      go (inl q) h = (row, lr, basic_row ∙ sym q)
      go (inr d) (inl q) = absurd (leaves (sym at_left ∙ sym (ap now_at q) ∙ e))
      go (inr d) (inr f) =
          let r = b.basis.found j l (sym (at_other j d f) ∙ e) in
          (r.0, r.1, basic_other r.0 (λ q. f (sym r.2 ∙ ap (basic_of s) q)) ∙ r.2)

  module _ (ne : entry_of s row column ≢ whole (pos 0)) (finite : IsFinite to (state_ends_of s (basic_of s row))) (h : HasPivotedParts row column to s t) where
    same_state : t ≡ pivoted s row column to t
    same_state = λ i. record {
      frame = h.same.frame i;
      placed = h.same.placed i;
      costs = h.same.costs i;
      basic = h.basic i;
      at = h.at i;
      ends = h.ends i;
      entries = t.entries;
      reduced = t.reduced;
      values = t.values;
    }

    -- the leaving column too rises by its entry times what the entering column rises
    leaving_rise : value_of t (basic_of s row) ≡ add (value_of s (basic_of s row)) (mul (entry_of s row column) (entering_rise s row column to))
    leaving_rise =
        let v : Rational = value_of s (basic_of s row) in
        let end : Rational = leaving_end s row to in
        h.values.leaving
        ∙ by_ring (end ∷ v ∷ []) (var 0) (var 1 ⊕ (var 0 ⊕ opp (var 1))) refl
        ∙ ap (add v) (sym (over_is (entry_of s row column) (add end (neg v)) ne))

    moved : IsMoved s.frame.rows (width s.frame) (basic_of s) (entry_of s) column (entering_rise s row column to) (value_of s) (value_of t)
    moved = record { own = h.values.entering; rows = λ i l. at_row i l (same_or_not i row); rest = h.values.rest }
      where
        at_row : (i : ℕ) → i < s.frame.rows → (i ≡ row) ⊎ (i ≢ row) → value_of t (basic_of s i) ≡ add (value_of s (basic_of s i)) (mul (entry_of s i column) (entering_rise s row column to))
        at_row i l (inl q) = subst (λ (x : ℕ). value_of t (basic_of s x) ≡ add (value_of s (basic_of s x)) (mul (entry_of s x column) (entering_rise s row column to))) (sym q) leaving_rise
        at_row i l (inr d) = h.values.rows i l d

    tableau_new : TableauOf s.frame.rows (width s.frame) (length s.frame.columns) (system s) (slice_index (slice_set s.basic row column)) (entry_of t)
    tableau_new =
        TableauOf-same _ _ _ (system s) (system s) (pivot_basic (basic_of s) row column) _ (pivot_entry (entry_of s) row column) _ (omega arith)
        (λ i j p q. refl) (λ i l. now_basic i) h.entries
        (TableauOf-pivot _ _ _ (system s) (basic_of s) (entry_of s) row column b.tableau lr ne lk)

    reduced_new : (j : ℕ) → j < width s.frame → reduced_of t j ≡ reduced_cost s.frame.rows (cost_of s) (slice_index (slice_set s.basic row column)) (entry_of t) j
    reduced_new j l =
        h.reduced j l
        ∙ ap (λ (x : Rational). add x (mul (reduced_of s column) (pivot_line (entry_of s) row column j))) (b.reduced j l)
        ∙ ap (λ (x : Rational). add (reduced_cost s.frame.rows (cost_of s) (basic_of s) (entry_of s) j) (mul x (pivot_line (entry_of s) row column j))) (b.reduced column lk)
        ∙ sym (reduced-pivot s.frame.rows (cost_of s) (basic_of s) (entry_of s) row column j lr ne)
        ∙ sym (reduced-same s.frame.rows (cost_of s) (pivot_basic (basic_of s) row column) _ (pivot_entry (entry_of s) row column) (entry_of t) j (λ i p. now_basic i) (λ i p. h.entries i j p l))

    nonbasic_new : (j : ℕ) → j < width s.frame → now_at j ≢ Basic → value_of t j ≡ number_of_end (end_at (now_at j) (state_ends_of s j))
    nonbasic_new j l d = go (same_or_not j column) (same_or_not j (basic_of s row))
      where
        go : (j ≡ column) ⊎ (j ≢ column) → (j ≡ basic_of s row) ⊎ (j ≢ basic_of s row) → value_of t j ≡ number_of_end (end_at (now_at j) (state_ends_of s j))
        go (inl q) r = absurd (d (ap now_at q ∙ at_column))
        go (inr p) (inl q) =
            ap (value_of t) q ∙ h.values.leaving
            ∙ ap (λ (x : At). number_of_end (end_at x (state_ends_of s (basic_of s row)))) (sym at_left)
            ∙ ap (λ (x : ℕ). number_of_end (end_at (now_at x) (state_ends_of s x))) (sym q)
        go (inr p) (inr q) =
            let before : at_of s j ≢ Basic = λ e. d (at_other j p q ∙ e) in
            h.values.rest j l p (λ i li e. before (sym (ap (at_of s) e) ∙ b.basis.named i li))
            ∙ b.values.nonbasic j l before
            ∙ ap (λ (x : At). number_of_end (end_at x (state_ends_of s j))) (sym (at_other j p q))

    not_basic : to ≢ Basic
    not_basic e = let f = subst (λ (x : At). IsFinite x (state_ends_of s (basic_of s row))) e finite in absurd (cc)

    board_new : IsBoard (pivoted s row column to t)
    board_new = record {
      shape = subst IsShaped same_state h.shape;
      basis = record { named = named_new; found = found_new not_basic };
      tableau = tableau_new;
      reduced = reduced_new;
      values = record {
        nonbasic = nonbasic_new;
        basic = Solves-same _ _ (pivot_entry (entry_of s) row column) (entry_of t) (value_of t) h.entries
            (values-pivot _ _ _ (system s) (basic_of s) (entry_of s) row column _ (value_of s) (value_of t) b.tableau lr lk ne no_row moved b.values.basic);
      };
    }

    pub IsBoard-pivot : IsPivot row column to s t
    IsBoard-pivot = record { same = h.same; basic = h.basic; at = h.at; ends = h.ends; board = subst IsBoard (sym same_state) board_new }

-- ---- new ends

-- by how much a nonbasic column rises to its new end
abbrev pub rebox_rise : ℕ → Option ℤ × Option ℤ → State → State → Rational
rebox_rise column given s t = add (number_of_end (end_at (at_of t column) given)) (neg (value_of s column))

-- the values after a nonbasic column got new ends
pub record HasReboxedValues (column : ℕ) (given : Option ℤ × Option ℤ) (s t : State) : Type 0 where
  pub own : value_of t column ≡ number_of_end (end_at (at_of t column) given)
  pub rows : (i : ℕ) → i < s.frame.rows → value_of t (basic_of s i) ≡ add (value_of s (basic_of s i)) (mul (entry_of s i column) (rebox_rise column given s t))
  pub rest : (j : ℕ) → j < width s.frame → j ≢ column → ((i : ℕ) → i < s.frame.rows → basic_of s i ≢ j) → value_of t j ≡ value_of s j

-- the parts of a state after a column got new ends
pub record HasReboxedParts (column : ℕ) (given : Option ℤ × Option ℤ) (s t : State) : Type 0 where
  pub same : SameRows s t
  pub long : length t.values ≡ width s.frame
  pub basic : t.basic ≡ s.basic
  pub entries : t.entries ≡ s.entries
  pub reduced : t.reduced ≡ s.reduced
  pub ends : t.ends ≡ slice_set s.ends column given
  pub at : t.at ≡ slice_set s.at column (at_of t column)
  pub stands : StandsAt (at_of s column) (at_of t column) (reduced_of s column) given
  -- a basic column keeps its value, and all others keep theirs
  pub kept : at_of s column ≡ Basic → (j : ℕ) → j < width s.frame → value_of t j ≡ value_of s j
  pub moved : at_of s column ≢ Basic → HasReboxedValues column given s t

-- a column is basic or not
basic_or_not : (a : At) → (a ≡ Basic) ⊎ (a ≢ Basic)
basic_or_not Lower = inr (λ e. cc)
basic_or_not Upper = inr (λ e. cc)
basic_or_not Zero = inr (λ e. cc)
basic_or_not Basic = inl refl

-- a nonbasic column stays nonbasic
stays_nonbasic : (before after : At) (d : Rational) (ends : Option ℤ × Option ℤ) → StandsAt before after d ends → before ≢ Basic → after ≢ Basic
stays_nonbasic before after d ends h free = go d.num refl
  where
    with_ends : (low high : Option ℤ) → resting_with low high ≢ Basic
    with_ends (Some low) high = λ e. cc
    with_ends None (Some high) = λ e. cc
    with_ends None None = λ e. cc

    or_ends : (end : Option ℤ) (other : At) → other ≢ Basic → stays_or before end other ≢ Basic
    or_ends (Some end) other p = free
    or_ends None other p = p

    go : (n : ℤ) → d.num ≡ n → after ≢ Basic
    go (pos zero) e q = or_ends (end_at before ends) _ (with_ends ends.0 ends.1) (sym (h.none free e) ∙ q)
    go (pos (suc n)) e q = let f : after ≡ Lower = h.positive free (omega (arith, ints)) in cc
    go (negsuc n) e q = let f : after ≡ Upper = h.negative free (omega (arith, ints)) in cc

-- the state after a column got new ends, but for the values
abbrev reboxed : State → ℕ → Option ℤ × Option ℤ → State → State
reboxed s column given t = record s { at = slice_set s.at column (at_of t column); ends = slice_set s.ends column given; values = t.values }

module _ (column : ℕ) (given : Option ℤ × Option ℤ) (s t : State) (b : IsBoard s) (lk : column < width s.frame) (h : HasReboxedParts column given s t) where
  same_rebox : t ≡ reboxed s column given t
  same_rebox = λ i. record {
    frame = h.same.frame i;
    placed = h.same.placed i;
    costs = h.same.costs i;
    basic = h.basic i;
    at = h.at i;
    ends = h.ends i;
    entries = h.entries i;
    reduced = h.reduced i;
    values = t.values;
  }

  abbrev at_new : ℕ → At
  at_new j = slice_index_or (slice_set s.at column (at_of t column)) j Zero

  abbrev ends_new : ℕ → Option ℤ × Option ℤ
  ends_new j = slice_index_or (slice_set s.ends column given) j (None, None)

  at_own : at_new column ≡ at_of t column
  at_own = get_or-set_same s.at column (at_of t column) Zero (let f = b.shape.at in omega arith)

  ends_own : ends_new column ≡ given
  ends_own = get_or-set_same s.ends column given (None, None) (let f = b.shape.ends in omega arith)

  at_rest : (j : ℕ) → j ≢ column → at_new j ≡ at_of s j
  at_rest j d = get_or-set_other s.at column j (at_of t column) Zero d

  ends_rest : (j : ℕ) → j ≢ column → ends_new j ≡ state_ends_of s j
  ends_rest j d = get_or-set_other s.ends column j given (None, None) d

  -- the same columns are basic
  basic_after : (j : ℕ) → at_of s j ≡ Basic → at_new j ≡ Basic
  basic_after j e = go (same_or_not j column)
    where
      go : (j ≡ column) ⊎ (j ≢ column) → at_new j ≡ Basic
      go (inl q) = ap at_new q ∙ at_own ∙ h.stands.basic (sym (ap (at_of s) q) ∙ e)
      go (inr d) = at_rest j d ∙ e

  basic_before : (j : ℕ) → at_new j ≡ Basic → at_of s j ≡ Basic
  basic_before j e = go (same_or_not j column) (basic_or_not (at_of s j))
    where
      go : (j ≡ column) ⊎ (j ≢ column) → (at_of s j ≡ Basic) ⊎ (at_of s j ≢ Basic) → at_of s j ≡ Basic
      go p (inl q) = q
      go (inl p) (inr q) = absurd (stays_nonbasic (at_of s column) (at_of t column) (reduced_of s column) given h.stands (λ f. q (ap (at_of s) p ∙ f)) (sym at_own ∙ sym (ap at_new p) ∙ e))
      go (inr d) (inr q) = sym (at_rest j d) ∙ e

  -- a column that is not basic is no row's
  not_named : (j : ℕ) → at_of s j ≢ Basic → (i : ℕ) → i < s.frame.rows → basic_of s i ≢ j
  not_named j d i l q = d (sym (ap (at_of s) q) ∙ b.basis.named i l)

  value_rest : (j : ℕ) → j < width s.frame → j ≢ column → at_of s j ≢ Basic → value_of t j ≡ value_of s j
  value_rest j l d free = go (basic_or_not (at_of s column))
    where
      go : (at_of s column ≡ Basic) ⊎ (at_of s column ≢ Basic) → value_of t j ≡ value_of s j
      go (inl e) = h.kept e j l
      go (inr e) = (h.moved e).rest j l d (not_named j free)

  nonbasic_after : (j : ℕ) → j < width s.frame → at_new j ≢ Basic → value_of t j ≡ number_of_end (end_at (at_new j) (ends_new j))
  nonbasic_after j l d = go (same_or_not j column)
    where
      before : at_of s j ≢ Basic
      before e = d (basic_after j e)

      go : (j ≡ column) ⊎ (j ≢ column) → value_of t j ≡ number_of_end (end_at (at_new j) (ends_new j))
      go (inl q) =
          ap (value_of t) q ∙ (h.moved (λ e. before (ap (at_of s) q ∙ e))).own
          ∙ ap (λ (x : At). number_of_end (end_at x given)) (sym at_own)
          ∙ ap (λ (x : Option ℤ × Option ℤ). number_of_end (end_at (at_new column) x)) (sym ends_own)
          ∙ ap (λ (x : ℕ). number_of_end (end_at (at_new x) (ends_new x))) (sym q)
      go (inr q) =
          value_rest j l q before ∙ b.values.nonbasic j l before
          ∙ ap (λ (x : At). number_of_end (end_at x (state_ends_of s j))) (sym (at_rest j q))
          ∙ ap (λ (x : Option ℤ × Option ℤ). number_of_end (end_at (at_new j) x)) (sym (ends_rest j q))

  solves_rebox : Solves s.frame.rows (width s.frame) (entry_of s) (value_of t)
  solves_rebox = go (basic_or_not (at_of s column))
    where
      go : (at_of s column ≡ Basic) ⊎ (at_of s column ≢ Basic) → Solves s.frame.rows (width s.frame) (entry_of s) (value_of t)
      go (inl e) = Solves-values _ _ (entry_of s) (value_of s) (value_of t) (h.kept e) b.values.basic
      go (inr e) =
          let m = h.moved e in
          values-rebox _ _ _ (system s) (basic_of s) (entry_of s) column (rebox_rise column given s t) (value_of s) (value_of t) b.tableau lk (not_named column e)
          (record {
            own = m.own ∙ by_ring (number_of_end (end_at (at_of t column) given) ∷ value_of s column ∷ []) (var 0) (var 1 ⊕ (var 0 ⊕ opp (var 1))) refl;
            rows = m.rows;
            rest = m.rest;
          })
          b.values.basic

  board_rebox : IsBoard (reboxed s column given t)
  board_rebox = record {
    shape = record {
      basic = b.shape.basic;
      at = length-set s.at column (at_of t column) ∙ b.shape.at;
      ends = length-set s.ends column given ∙ b.shape.ends;
      entries = b.shape.entries;
      long = b.shape.long;
      reduced = b.shape.reduced;
      values = h.long;
    };
    basis = record { named = λ i l. basic_after (basic_of s i) (b.basis.named i l); found = λ j l e. b.basis.found j l (basic_before j e) };
    tableau = b.tableau;
    reduced = b.reduced;
    values = record { nonbasic = nonbasic_after; basic = solves_rebox };
  }

  pub IsBoard-rebox : IsRebox column given s t
  IsBoard-rebox = record {
    same = h.same;
    basic = h.basic;
    entries = h.entries;
    reduced = h.reduced;
    ends = h.ends;
    at = h.at;
    stands = h.stands;
    board = subst IsBoard (sym same_rebox) board_rebox;
  }

-- ---- what a pivot gives

-- the numbers after a pivot, as a basis has one table
pub record HasPivotedNumbers (row column : ℕ) (s t : State) : Type 0 where
  pub entries : (i j : ℕ) → i < s.frame.rows → j < width s.frame → entry_of t i j ≡ pivot_entry (entry_of s) row column i j
  pub reduced : (j : ℕ) → j < width s.frame → reduced_of t j ≡ add (reduced_of s j) (mul (reduced_of s column) (pivot_line (entry_of s) row column j))

pub pivot-gives : (row column : ℕ) (to : At) (s t : State) → IsBoard s → row < s.frame.rows → column < width s.frame → entry_of s row column ≢ whole (pos 0) → IsPivot row column to s t → HasPivotedNumbers row column s t
pivot-gives row column to s t b lr lk ne p = record {
  entries = entries_new;
  reduced = λ j l. after.reduced j l
      ∙ reduced-same _ (cost_of s) (pivot_basic (basic_of s) row column) _ (pivot_entry (entry_of s) row column) (entry_of t) j (λ i q. now i) (λ i q. entries_new i j q l)
      ∙ reduced-pivot _ (cost_of s) (basic_of s) (entry_of s) row column j lr ne
      ∙ ap (λ (x : Rational). add x (mul (reduced_cost s.frame.rows (cost_of s) (basic_of s) (entry_of s) column) (pivot_line (entry_of s) row column j))) (sym (b.reduced j l))
      ∙ ap (λ (x : Rational). add (reduced_of s j) (mul x (pivot_line (entry_of s) row column j))) (sym (b.reduced column lk));
}
  where
    now : (i : ℕ) → slice_index (slice_set s.basic row column) i ≡ pivot_basic (basic_of s) row column i
    now i = basic-set s.basic row column i (let e = b.shape.basic in omega arith)

    after : IsBoard (record t { frame = s.frame; placed = s.placed; costs = s.costs; basic = slice_set s.basic row column })
    after =
        let path : t ≡ record t { frame = s.frame; placed = s.placed; costs = s.costs; basic = slice_set s.basic row column } =
        λ i. record t { frame = p.same.frame i; placed = p.same.placed i; costs = p.same.costs i; basic = p.basic i } in
        subst IsBoard path p.board

    entries_new : (i j : ℕ) → i < s.frame.rows → j < width s.frame → entry_of t i j ≡ pivot_entry (entry_of s) row column i j
    entries_new i j li lj =
        entries_unique _ _ _ (system s) (pivot_basic (basic_of s) row column) (pivot_entry (entry_of s) row column) (entry_of t)
        (TableauOf-pivot _ _ _ (system s) (basic_of s) (entry_of s) row column b.tableau lr ne lk)
        (TableauOf-same _ _ _ (system s) (system s) (slice_index (slice_set s.basic row column)) (pivot_basic (basic_of s) row column) (entry_of t) (entry_of t) (omega arith)
        (λ i j p q. refl) (λ i l. sym (now i)) (λ i j p q. refl) after.tableau)
        i j li lj
