-- An act leads from each board to a state.
use Rattle.std.proofs.Common.{◌≡◌, ◌≢◌, ℕ, zero, suc, ◌<◌, arith, ap, sym, ◌∙◌, subst, refl, ◌⊎◌, inl, inr, Option, List, [], ◌∷◌, slice_set, slice_index_or, length}
use Rattle.std.specs.Prelude.{ℤ, pos, negsuc, ◌*ℤ◌, ◌<ℤ◌}
use Rattle.std.proofs.lemmas.List.{length-set, get_or-set_same}
use Rattle.std.proofs.lemmas.List.Elements.{All-from_get_or}
use Rattle.std.proofs.lemmas.Int.{ints}
use Rattle.um_laws.specs.Rational.{Rational, Is, whole, add, mul, neg}
use Rattle.um_laws.proofs.RationalField.{is_whole}
use Rattle.um_laws.proofs.Ring.{nought, unit, opp}
use Rattle.um_num.proofs.Parts.{zero_parts}
use Rattle.um_laws.proofs.RationalEquations.{by_ring}
use Rattle.um_lp.specs.Basis.{pivot_line, pivot_entry}
use Rattle.um_lp.specs.Boards.{IsBoard, IsFinite, IsPivot, IsRebox, StandsAt, resting}
use Rattle.um_num.specs.NumberLists.{number_at}
use Rattle.um_lp.specs.States.{State, width, basic_of, at_of, state_ends_of, entry_of, reduced_of, value_of, end_at, number_of_end}
use Rattle.um_lp.specs.declared.board.At.{At}
use Rattle.um_lp.specs.declared.board.At.TheVariants.{Lower, Upper, Zero, Basic}
use Rattle.um_lp.proofs.Acts.{leaving_end, entering_rise, HasPivotedParts, IsBoard-pivot, HasReboxedParts, HasReboxedValues, IsBoard-rebox}
use Rattle.um_lp.proofs.Rows.{same_or_not, row_with}

-- ---- lists of the numbers of a function
abbrev pub listed : {A : Type 0} → ℕ → (ℕ → A) → List A
listed zero f = []
listed (suc n) f = f 0 ∷ listed n (λ i. f (suc i))

pub length-listed : {A : Type 0} (n : ℕ) (f : ℕ → A) → length (listed n f) ≡ n
length-listed zero f = refl
length-listed (suc n) f = ap suc (length-listed n (λ i. f (suc i)))

pub listed_at : {A : Type 0} (n : ℕ) (f : ℕ → A) (i : ℕ) (d : A) → i < n → slice_index_or (listed n f) i d ≡ f i
listed_at zero f i d l = absurd (omega arith)
listed_at (suc n) f zero d l = refl
listed_at (suc n) f (suc i) d l = listed_at n (λ i. f (suc i)) i d (omega arith)

-- ---- values after a nonbasic column has moved
-- the value of a column: that of the row whose basic column it is, and else its old one
abbrev moved_by : {P Q : Type 0} → (P → Rational) → Rational → P ⊎ Q → Rational
moved_by risen old (inl p) = risen p
moved_by risen old (inr q) = old

abbrev value_moved : State → ℕ → Rational → ℕ → Rational
value_moved s column rise j = moved_by (λ (r : (i : ℕ) × (i < s.frame.rows) × (basic_of s i ≡ j)). add (value_of s (basic_of s r.0)) (mul (entry_of s r.0 column) rise)) (value_of s j) (row_with s.frame.rows (basic_of s) j)

minus_one : neg (whole (pos 1)) ≢ whole (pos 0)
minus_one e =
    let one : whole (pos 1) ≡ whole (pos 0) = by_ring [] unit (opp (opp unit)) refl ∙ ap neg e ∙ by_ring [] (opp nought) nought refl in
    let num : (whole (pos 1)).num ≡ pos 0 = zero_parts (whole (pos 1)) one in
    let is : Is (whole (pos 1)) (pos 1) 1 = is_whole (pos 1) in
    let up : 0 < (whole (pos 1)).den = (whole (pos 1)).positive in
    let none : pos 0 *ℤ pos 1 ≡ pos 1 *ℤ pos (whole (pos 1)).den = ap (λ (z : ℤ). z *ℤ pos 1) (sym num) ∙ is in
    omega (arith, ints)

-- a basic column is basic in one row
basic_once : (s : State) → IsBoard s → (i k : ℕ) → i < s.frame.rows → k < s.frame.rows → basic_of s i ≡ basic_of s k → i ≡ k
basic_once s b i k li lk e = go (same_or_not i k)
  where
    go : (i ≡ k) ⊎ (i ≢ k) → i ≡ k
    go (inl same) = same
    go (inr other) = absurd (minus_one (sym (b.tableau.own i li) ∙ ap (entry_of s i) e ∙ b.tableau.others i k li lk other))

moved_row : (s : State) (column : ℕ) (rise : Rational) → IsBoard s → (i : ℕ) → i < s.frame.rows → value_moved s column rise (basic_of s i) ≡ add (value_of s (basic_of s i)) (mul (entry_of s i column) rise)
moved_row s column rise b i l = go (row_with s.frame.rows (basic_of s) (basic_of s i))
  where
    go : (r : ((k : ℕ) × (k < s.frame.rows) × (basic_of s k ≡ basic_of s i)) ⊎ ((k : ℕ) → k < s.frame.rows → basic_of s k ≢ basic_of s i))
        → moved_by (λ (r : (k : ℕ) × (k < s.frame.rows) × (basic_of s k ≡ basic_of s i)). add (value_of s (basic_of s r.0)) (mul (entry_of s r.0 column) rise)) (value_of s (basic_of s i)) r ≡ add (value_of s (basic_of s i)) (mul (entry_of s i column) rise)
    go (inl r) = ap (λ (k : ℕ). add (value_of s (basic_of s k)) (mul (entry_of s k column) rise)) (basic_once s b r.0 i r.1 l r.2)
    go (inr none) = absurd (none i l refl)

moved_rest : (s : State) (column : ℕ) (rise : Rational) (j : ℕ) → ((i : ℕ) → i < s.frame.rows → basic_of s i ≢ j) → value_moved s column rise j ≡ value_of s j
moved_rest s column rise j apart = go (row_with s.frame.rows (basic_of s) j)
  where
    go : (r : ((k : ℕ) × (k < s.frame.rows) × (basic_of s k ≡ j)) ⊎ ((k : ℕ) → k < s.frame.rows → basic_of s k ≢ j))
        → moved_by (λ (r : (k : ℕ) × (k < s.frame.rows) × (basic_of s k ≡ j)). add (value_of s (basic_of s r.0)) (mul (entry_of s r.0 column) rise)) (value_of s j) r ≡ value_of s j
    go (inl r) = absurd (apart r.0 r.1 r.2)
    go (inr none) = refl

-- ---- one number in place of another
abbrev put_by : {P Q : Type 0} → Rational → Rational → P ⊎ Q → Rational
put_by new old (inl p) = new
put_by new old (inr q) = old

-- the function with another value at a place
pub put : ℕ → Rational → (ℕ → Rational) → ℕ → Rational
put place new f j = put_by new (f j) (same_or_not j place)

put_same : (place : ℕ) (new : Rational) (f : ℕ → Rational) (j : ℕ) → j ≡ place → put place new f j ≡ new
unfolding put
put_same place new f j e = go (same_or_not j place)
  where
    go : (c : (j ≡ place) ⊎ (j ≢ place)) → put_by new (f j) c ≡ new
    go (inl p) = refl
    go (inr q) = absurd (q e)

put_other : (place : ℕ) (new : Rational) (f : ℕ → Rational) (j : ℕ) → j ≢ place → put place new f j ≡ f j
unfolding put
put_other place new f j d = go (same_or_not j place)
  where
    go : (c : (j ≡ place) ⊎ (j ≢ place)) → put_by new (f j) c ≡ f j
    go (inl p) = absurd (d p)
    go (inr q) = refl

-- ---- pivots
-- the value of a column after a pivot
abbrev value_after : State → ℕ → ℕ → At → ℕ → Rational
value_after s row column to = put column (add (value_of s column) (entering_rise s row column to)) (put (basic_of s row) (leaving_end s row to) (value_moved s column (entering_rise s row column to)))

-- the state after a pivot
abbrev pub after_pivot : State → ℕ → ℕ → At → State
after_pivot s row column to = record {
  frame = s.frame;
  placed = s.placed;
  costs = s.costs;
  basic = slice_set s.basic row column;
  at = slice_set (slice_set s.at (basic_of s row) to) column Basic;
  ends = s.ends;
  entries = listed s.frame.rows (λ i. listed (width s.frame) (pivot_entry (entry_of s) row column i));
  reduced = listed (width s.frame) (λ j. add (reduced_of s j) (mul (reduced_of s column) (pivot_line (entry_of s) row column j)));
  values = listed (width s.frame) (value_after s row column to);
}

module _ (s : State) (row column : ℕ) (to : At) (b : IsBoard s) (lr : row < s.frame.rows) (lk : column < width s.frame) (free : at_of s column ≢ Basic) where
  abbrev t : State
  t = after_pivot s row column to

  row_at_t : (i : ℕ) → i < s.frame.rows → slice_index_or t.entries i [] ≡ listed (width s.frame) (pivot_entry (entry_of s) row column i)
  row_at_t i l = listed_at s.frame.rows (λ i. listed (width s.frame) (pivot_entry (entry_of s) row column i)) i [] l

  not_named : (i : ℕ) → i < s.frame.rows → basic_of s i ≢ column
  not_named i l e = free (sym (ap (at_of s) e) ∙ b.basis.named i l)

  value_t : (j : ℕ) → j < width s.frame → value_of t j ≡ value_after s row column to j
  value_t j l = listed_at (width s.frame) (value_after s row column to) j (whole (pos 0)) l

  pub pivoted_parts : HasPivotedParts row column to s t
  pivoted_parts = record {
    same = record { frame = refl; placed = refl; costs = refl };
    shape = record {
      basic = length-set s.basic row column ∙ b.shape.basic;
      at = length-set (slice_set s.at (basic_of s row) to) column Basic ∙ length-set s.at (basic_of s row) to ∙ b.shape.at;
      ends = b.shape.ends;
      entries = length-listed s.frame.rows _;
      long = All-from_get_or (λ (r : List Rational). length r ≡ width s.frame) t.entries [] (λ i l. let l' : i < s.frame.rows = (let e : length t.entries ≡ s.frame.rows = length-listed s.frame.rows _ in omega arith) in ap length (row_at_t i l') ∙ length-listed (width s.frame) _);
      reduced = length-listed (width s.frame) _;
      values = length-listed (width s.frame) _;
    };
    basic = refl;
    at = refl;
    ends = refl;
    entries = λ i j li lj. ap (λ (r : List Rational). number_at r j) (row_at_t i li) ∙ listed_at (width s.frame) (pivot_entry (entry_of s) row column i) j (whole (pos 0)) lj;
    reduced = λ j l. listed_at (width s.frame) _ j (whole (pos 0)) l;
    values = record {
      entering = value_t column lk ∙ put_same column _ _ column refl;
      leaving = value_t (basic_of s row) (b.tableau.in_range row lr) ∙ put_other column _ _ (basic_of s row) (not_named row lr) ∙ put_same (basic_of s row) _ _ (basic_of s row) refl;
      rows = λ i l d. value_t (basic_of s i) (b.tableau.in_range i l) ∙ put_other column _ _ (basic_of s i) (not_named i l) ∙ put_other (basic_of s row) _ _ (basic_of s i) (λ e. d (basic_once s b i row l lr e)) ∙ moved_row s column (entering_rise s row column to) b i l;
      rest = λ j l d apart. value_t j l ∙ put_other column _ _ j d ∙ put_other (basic_of s row) _ _ j (λ e. apart row lr (sym e)) ∙ moved_rest s column (entering_rise s row column to) j apart;
    };
  }

-- each pivot leads to a state
pub pivot_leads : (s : State) (row column : ℕ) (to : At) → IsBoard s → row < s.frame.rows → column < width s.frame → at_of s column ≢ Basic → entry_of s row column ≢ whole (pos 0) → IsFinite to (state_ends_of s (basic_of s row))
    → IsPivot row column to s (after_pivot s row column to)
pivot_leads s row column to b lr lk free ne finite = IsBoard-pivot row column to s (after_pivot s row column to) b lr lk free ne finite (pivoted_parts s row column to b lr lk free)

-- ---- new ends
-- where a nonbasic column stands with these ends, by the sign of its reduced cost
abbrev standing_with : At → ℤ → Option ℤ × Option ℤ → At
standing_with before (pos zero) ends = resting before ends
standing_with before (pos (suc n)) ends = Lower
standing_with before (negsuc n) ends = Upper

-- where a column stands with these ends
abbrev pub standing : At → ℤ → Option ℤ × Option ℤ → At
standing Basic num ends = Basic
standing Lower num ends = standing_with Lower num ends
standing Upper num ends = standing_with Upper num ends
standing Zero num ends = standing_with Zero num ends

standing_positive : (before : At) (num : ℤ) (ends : Option ℤ × Option ℤ) → pos 0 <ℤ num → standing_with before num ends ≡ Lower
standing_positive before (pos zero) ends h = absurd (omega (arith, ints))
standing_positive before (pos (suc n)) ends h = refl
standing_positive before (negsuc n) ends h = absurd (omega (arith, ints))

standing_negative : (before : At) (num : ℤ) (ends : Option ℤ × Option ℤ) → num <ℤ pos 0 → standing_with before num ends ≡ Upper
standing_negative before (pos n) ends h = absurd (omega (arith, ints))
standing_negative before (negsuc n) ends h = refl

standing_none : (before : At) (num : ℤ) (ends : Option ℤ × Option ℤ) → num ≡ pos 0 → standing_with before num ends ≡ resting before ends
standing_none before num ends h = ap (λ (z : ℤ). standing_with before z ends) h

standing_free : (before : At) (num : ℤ) (ends : Option ℤ × Option ℤ) → before ≢ Basic → standing before num ends ≡ standing_with before num ends
standing_free Basic num ends free = absurd (free refl)
standing_free Lower num ends free = refl
standing_free Upper num ends free = refl
standing_free Zero num ends free = refl

pub stands_there : (before : At) (reduced : Rational) (ends : Option ℤ × Option ℤ) → StandsAt before (standing before reduced.num ends) reduced ends
stands_there before reduced ends = record {
  basic = λ e. ap (λ (a : At). standing a reduced.num ends) e;
  positive = λ free h. standing_free before reduced.num ends free ∙ standing_positive before reduced.num ends h;
  negative = λ free h. standing_free before reduced.num ends free ∙ standing_negative before reduced.num ends h;
  none = λ free h. standing_free before reduced.num ends free ∙ standing_none before reduced.num ends h;
}

-- and nowhere else
pub stands_once : (before a c : At) (reduced : Rational) (ends : Option ℤ × Option ℤ) → before ≢ Basic → StandsAt before a reduced ends → StandsAt before c reduced ends → a ≡ c
stands_once before a c reduced ends free h k = go reduced.num refl
  where
    go : (n : ℤ) → reduced.num ≡ n → a ≡ c
    go (pos zero) e = h.none free e ∙ sym (k.none free e)
    go (pos (suc n)) e = h.positive free (omega (arith, ints)) ∙ sym (k.positive free (omega (arith, ints)))
    go (negsuc n) e = h.negative free (omega (arith, ints)) ∙ sym (k.negative free (omega (arith, ints)))

-- where the column stands after it got these ends
abbrev pub standing_after : State → ℕ → Option ℤ × Option ℤ → At
standing_after s column given = standing (at_of s column) (reduced_of s column).num given

-- the end to which it goes
abbrev pub new_end : State → ℕ → Option ℤ × Option ℤ → Rational
new_end s column given = number_of_end (end_at (standing_after s column given) given)

pub basic_or_not : (a : At) → (a ≡ Basic) ⊎ (a ≢ Basic)
basic_or_not Lower = inr (λ e. cc)
basic_or_not Upper = inr (λ e. cc)
basic_or_not Zero = inr (λ e. cc)
basic_or_not Basic = inl refl

-- the values after it
abbrev values_by : {P Q : Type 0} → List Rational → List Rational → P ⊎ Q → List Rational
values_by old new (inl p) = old
values_by old new (inr q) = new

abbrev values_reboxed : State → ℕ → Option ℤ × Option ℤ → List Rational
values_reboxed s column given = listed (width s.frame) (put column (new_end s column given) (value_moved s column (add (new_end s column given) (neg (value_of s column)))))

-- the state after a column got these ends
abbrev pub after_rebox : State → ℕ → Option ℤ × Option ℤ → State
after_rebox s column given = record s {
  at = slice_set s.at column (standing_after s column given);
  ends = slice_set s.ends column given;
  values = values_by s.values (values_reboxed s column given) (basic_or_not (at_of s column));
}

module _ (s : State) (column : ℕ) (given : Option ℤ × Option ℤ) (b : IsBoard s) (lk : column < width s.frame) where
  abbrev u : State
  u = after_rebox s column given

  at_u : at_of u column ≡ standing_after s column given
  at_u = get_or-set_same s.at column (standing_after s column given) Zero (let e = b.shape.at in omega arith)

  values_long : (c : (at_of s column ≡ Basic) ⊎ (at_of s column ≢ Basic)) → length (values_by s.values (values_reboxed s column given) c) ≡ width s.frame
  values_long (inl e) = b.shape.values
  values_long (inr d) = length-listed (width s.frame) _

  values_kept : at_of s column ≡ Basic → (c : (at_of s column ≡ Basic) ⊎ (at_of s column ≢ Basic)) → values_by s.values (values_reboxed s column given) c ≡ s.values
  values_kept e (inl p) = refl
  values_kept e (inr d) = absurd (d e)

  values_new : at_of s column ≢ Basic → (c : (at_of s column ≡ Basic) ⊎ (at_of s column ≢ Basic)) → values_by s.values (values_reboxed s column given) c ≡ values_reboxed s column given
  values_new d (inl p) = absurd (d p)
  values_new d (inr q) = refl

  reboxed_values : at_of s column ≢ Basic → HasReboxedValues column given s u
  reboxed_values d =
      let same = values_new d (basic_or_not (at_of s column)) in
      let end : number_of_end (end_at (at_of u column) given) ≡ new_end s column given = ap (λ (a : At). number_of_end (end_at a given)) at_u in
      let value : (j : ℕ) → j < width s.frame → value_of u j ≡ put column (new_end s column given) (value_moved s column (add (new_end s column given) (neg (value_of s column)))) j
      = λ j l. ap (λ (xs : List Rational). number_at xs j) same ∙ listed_at (width s.frame) _ j (whole (pos 0)) l in
      let apart : (i : ℕ) → i < s.frame.rows → basic_of s i ≢ column = λ i l e. d (sym (ap (at_of s) e) ∙ b.basis.named i l) in
      record {
        own = value column lk ∙ put_same column _ _ column refl ∙ sym end;
        rows = λ i l. value (basic_of s i) (b.tableau.in_range i l) ∙ put_other column _ _ (basic_of s i) (apart i l) ∙ moved_row s column _ b i l ∙ ap (λ (x : Rational). add (value_of s (basic_of s i)) (mul (entry_of s i column) (add x (neg (value_of s column))))) (sym end);
        rest = λ j l e none. value j l ∙ put_other column _ _ j e ∙ moved_rest s column _ j none;
      }

  pub reboxed_parts : HasReboxedParts column given s u
  reboxed_parts = record {
    same = record { frame = refl; placed = refl; costs = refl };
    long = values_long (basic_or_not (at_of s column));
    basic = refl;
    entries = refl;
    reduced = refl;
    ends = refl;
    at = ap (slice_set s.at column) (sym at_u);
    stands = subst (λ (a : At). StandsAt (at_of s column) a (reduced_of s column) given) (sym at_u) (stands_there (at_of s column) (reduced_of s column) given);
    kept = λ e j l. ap (λ (xs : List Rational). number_at xs j) (values_kept e (basic_or_not (at_of s column)));
    moved = reboxed_values;
  }

-- new ends lead to a state
pub rebox_leads : (s : State) (column : ℕ) (given : Option ℤ × Option ℤ) → IsBoard s → column < width s.frame → IsRebox column given s (after_rebox s column given)
rebox_leads s column given b lk = IsBoard-rebox column given s (after_rebox s column given) b lk (reboxed_parts s column given b lk)
