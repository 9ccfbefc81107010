-- Boards that differ in their numbers alone do not differ.
use Rattle.std.proofs.Common.{◌≡◌, ◌≢◌, ℕ, ◌<◌, arith, sym, ◌∙◌, subst, refl, List, [], length, slice_index_or}
use Rattle.std.specs.Prelude.{pos}
use Rattle.std.proofs.lemmas.List.{ext_get_or}
use Rattle.um_laws.specs.Rational.{Rational, whole}
use Rattle.um_lp.specs.Boards.{IsBoard}
use Rattle.um_lp.specs.Laws.{OnePivotLaw}
use Rattle.um_lp.specs.States.{State, width, system, cost_of, basic_of, at_of, entry_of, value_of}
use Rattle.um_lp.specs.declared.board.At.TheVariants.{Basic}
use Rattle.um_lp.proofs.ReducedCosts.{reduced-same}
use Rattle.um_lp.proofs.Solutions.{Solves-same}
use Rattle.um_lp.proofs.Unique.{entries_unique, values_unique}

-- the state with other numbers
abbrev pub with_numbers : State → List (List Rational) → List Rational → List Rational → State
with_numbers s entries reduced values = record s { entries = entries; reduced = reduced; values = values }

module _ (s : State) (entries : List (List Rational)) (reduced values : List Rational) (b : IsBoard s) (c : IsBoard (with_numbers s entries reduced values)) where
  entry_same : (i j : ℕ) → i < s.frame.rows → j < width s.frame → entry_of (with_numbers s entries reduced values) i j ≡ entry_of s i j
  entry_same i j li lj = entries_unique _ _ _ (system s) (basic_of s) (entry_of s) (entry_of (with_numbers s entries reduced values)) b.tableau c.tableau i j li lj

  row_same : (i : ℕ) → i < s.frame.rows → slice_index_or entries i [] ≡ slice_index_or s.entries i []
  row_same i l =
      let long : length (slice_index_or entries i []) ≡ width s.frame = c.shape.long i [] (let e = c.shape.entries in omega arith) in
      let long' : length (slice_index_or s.entries i []) ≡ width s.frame = b.shape.long i [] (let e = b.shape.entries in omega arith) in
      ext_get_or (whole (pos 0)) (slice_index_or entries i []) (slice_index_or s.entries i []) (long ∙ sym long') (λ j q. entry_same i j l (omega arith))

  entries_same : entries ≡ s.entries
  entries_same = ext_get_or [] entries s.entries (c.shape.entries ∙ sym b.shape.entries) (λ i q. row_same i (let e = c.shape.entries in omega arith))

  reduced_same : reduced ≡ s.reduced
  reduced_same = ext_get_or (whole (pos 0)) reduced s.reduced (c.shape.reduced ∙ sym b.shape.reduced) (λ j q.
      let l : j < width s.frame = let e = c.shape.reduced in omega arith in
      c.reduced j l
      ∙ reduced-same s.frame.rows (cost_of s) (basic_of s) (basic_of s) (entry_of s) (entry_of (with_numbers s entries reduced values)) j (λ i p. refl) (λ i p. entry_same i j p l)
      ∙ sym (b.reduced j l))

  value_same : (j : ℕ) → j < width s.frame → value_of (with_numbers s entries reduced values) j ≡ value_of s j
  value_same =
      values_unique _ _ _ (system s) (basic_of s) (entry_of s) (value_of (with_numbers s entries reduced values)) (value_of s) b.tableau
      (Solves-same _ _ (entry_of (with_numbers s entries reduced values)) (entry_of s) (value_of (with_numbers s entries reduced values)) (λ i j p q. sym (entry_same i j p q)) c.values.basic)
      b.values.basic
      (λ j l none. (let free : at_of s j ≢ Basic = λ e. (let r = b.basis.found j l e in none r.0 r.1 r.2) in c.values.nonbasic j l free ∙ sym (b.values.nonbasic j l free)))

  values_same : values ≡ s.values
  values_same = ext_get_or (whole (pos 0)) values s.values (c.shape.values ∙ sym b.shape.values) (λ j q. value_same j (let e = c.shape.values in omega arith))

  -- the numbers of a board follow from the rest
  pub same_numbers : with_numbers s entries reduced values ≡ s
  same_numbers = λ i. with_numbers s (entries_same i) (reduced_same i) (values_same i)

-- a pivot of a state leads to one state
pub one_pivot : OnePivotLaw
one_pivot s t u row column to p q =
    path ∙ same_numbers u t.entries t.reduced t.values q.board (subst IsBoard path p.board)
  where
    path : t ≡ with_numbers u t.entries t.reduced t.values
    path = λ i. record {
      frame = (p.same.frame ∙ sym q.same.frame) i;
      placed = (p.same.placed ∙ sym q.same.placed) i;
      costs = (p.same.costs ∙ sym q.same.costs) i;
      basic = (p.basic ∙ sym q.basic) i;
      at = (p.at ∙ sym q.at) i;
      ends = (p.ends ∙ sym q.ends) i;
      entries = t.entries;
      reduced = t.reduced;
      values = t.values;
    }
