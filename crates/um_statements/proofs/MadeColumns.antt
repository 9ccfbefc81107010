-- The columns of the deck of what was said, and its objective.
use Rattle.std.proofs.Common.{◌≡◌, ℕ, ◌+◌, ◌≤◌, ◌<◌, ◌^◌, Bool, true, false, not, ◌&&◌, ◌||◌, nat_lt, ℤ, pos, neg_ℤ, map, length, get_or, All, AllPairs, Option, None, Some, is_none, option_and_then, unwrap_or, refl, sym, subst, ◌∙◌, arith, if◌then◌else◌}
use Rattle.std.specs.Option.{ForSome, option_map_or}
use Rattle.std.specs.List.{enumerate_from, list_all}
use Rattle.std.proofs.lemmas.List.{length-map}
use Rattle.std.proofs.lemmas.List.Elements.{All-map}
use Rattle.std.proofs.lemmas.Bool.Decides.{nat_tests}
use Rattle.um_num.specs.declared.decimal.Decimal.{Decimal}
use Rattle.um_model.specs.WellFormed.{IsColumn, IsEntry, IsWithin, KindFits, HasTwoEnds}
use Rattle.um_model.specs.declared.deck.Kind.TheVariants.{Continuous, Integer, Semi}
use Rattle.um_model.specs.declared.deck.Entry.{Entry}
use Rattle.um_statements.specs.declared.parts.End.{End}
use Rattle.um_statements.specs.declared.parts.Ends.{Ends}
use Rattle.um_statements.specs.Said.{Said, RowSaid, ColumnSaid}
use Rattle.um_statements.specs.Scaled.{times_ten, is_within_at}
use Rattle.um_statements.specs.CallRules.{first_fault, is_zero, has_kept_arc}
use Rattle.um_statements.specs.Made.{nothing, coefficients, arcs_in, entry_in, sided_rows, row_scale, row_made, side_at, range_at, low_side, high_side, finite, low_end, high_end, threshold, kind_of, entry_made, column_made, deck_value}
use Rattle.um_statements.specs.DeckRules.{row_rules, column_rules, needs_ends, is_member, is_above, are_crossed, is_below_zero_or_none}
use Rattle.um_statements.specs.WellSaid.{IsSaid, set_end}
use Rattle.um_statements.proofs.CollectedSteps.{none_broken}
use Rattle.um_statements.proofs.ListFacts.{numbered, at_number, numbers_rise, all_given, pairs_given, given_pass}
use Rattle.um_statements.proofs.DeckFine.{IsFine}
use Rattle.um_statements.proofs.Tests.{or_false, and_false, not_true, is_most, within_most, minimised_size, negated_size, scaled_not_zero, scaled_zero, not_crossed, some_of, above_zero}

-- ---- what a row without a fault has

pub record RowFacts (said : Said) (p : ℕ × RowSaid) : Type 0 where
  pub scale : row_scale said p.0 p.1 ≤ 6
  pub costs : list_all (is_within_at (2 ^ 31) (row_scale said p.0 p.1)) (coefficients said p.0) ≡ true
  pub arcs : list_all (is_within_at (2 ^ 24) (row_scale said p.0 p.1)) (arcs_in said p.0) ≡ true
  pub side : IsWithin (2 ^ 53) (side_at p.1 (row_scale said p.0 p.1))

is_low : (a b : ℕ) → nat_lt a b ≡ false → b ≤ a
is_low a b h = grind (arith, nat_tests)

pub row_facts : (said : Said) (p : ℕ × RowSaid) → first_fault (row_rules said p) ≡ None → RowFacts said p
row_facts said p fine =
    let scale : ℕ = row_scale said p.0 p.1 in
    let a : Bool = not (list_all (is_within_at (2 ^ 31) scale) (coefficients said p.0)) in
    let b : Bool = not (list_all (is_within_at (2 ^ 24) scale) (arcs_in said p.0)) in
    let c : Bool = is_above (2 ^ 53) (Some (side_at p.1 scale)) in
    let d : Bool = is_above (2 ^ 53) (low_side p.1.kind (side_at p.1 scale) (range_at p.1 scale)) in
    let e : Bool = is_above (2 ^ 53) (high_side p.1.kind (side_at p.1 scale) (range_at p.1 scale)) in
    let rules = none_broken (row_rules said p) fine in
    let four = or_false (a || b || c || d) e rules.1.0 in
    let three = or_false (a || b || c) d four.0 in
    let two = or_false (a || b) c three.0 in
    let one = or_false a b two.0 in
    record {
      scale = is_low 6 scale rules.0;
      costs = not_true (list_all (is_within_at (2 ^ 31) scale) (coefficients said p.0)) one.0;
      arcs = not_true (list_all (is_within_at (2 ^ 24) scale) (arcs_in said p.0)) one.1;
      side = within_most (2 ^ 53) (side_at p.1 scale) two.1;
    }

-- ---- the objective

pub made_scale : (said : Said) → IsFine said → (deck_value said).scale ≤ 6
unfolding deck_value
made_scale said fine = rw fine.objective_row.1 (row_facts said fine.objective_row.0 fine.objective_row.2).scale

pub made_constant : (said : Said) → IsFine said → IsWithin (2 ^ 53) (deck_value said).constant
unfolding deck_value
made_constant said fine =
    rw fine.objective_row.1
    (let p : ℕ × RowSaid = fine.objective_row.0 in
    let z : ℤ = side_at p.1 (row_scale said p.0 p.1) in
    minimised_size said.maximise (2 ^ 53) (neg_ℤ z) (negated_size (2 ^ 53) z (row_facts said p fine.objective_row.2).side))

-- ---- ends

low_sized : (semi falls : Bool) (o : Option End) → ForSome (set_end o) (IsWithin (10 ^ 10)) → ForSome (if semi then Some (pos 0) else option_map_or finite o (if falls then None else Some (pos 0))) (IsWithin (10 ^ 10))
low_sized true falls o h = λ z e. let same : pos 0 ≡ z = cc in subst (IsWithin (10 ^ 10)) same (omega arith)
low_sized false true None h = λ z e. cc
low_sized false false None h = λ z e. let same : pos 0 ≡ z = cc in subst (IsWithin (10 ^ 10)) same (omega arith)
low_sized false falls (Some end) h = h

-- what a column without a fault has, by its place
pub record ColumnFacts (said : Said) (j : ℕ) (ends : Ends) : Type 0 where
  pub small_ends : (has_kept_arc said j && (is_above 8000000 (low_end ends) || is_above 8000000 (high_end ends))) ≡ false
  pub threshold_above : (ends.semi && is_below_zero_or_none (threshold ends)) ≡ false
  pub uncrossed : are_crossed (low_end ends) (high_end ends) ≡ false
  pub threshold_below : (ends.semi && are_crossed (threshold ends) (high_end ends)) ≡ false
  pub both_ends : (needs_ends said j ends && (is_none (low_end ends) || is_none (high_end ends))) ≡ false
  pub from_zero : (is_member said j && is_above 0 (low_end ends)) ≡ false
  pub arc_alone : (has_kept_arc said j && (is_member said j || ends.semi)) ≡ false

column_facts : (said : Said) (p : ℕ × ColumnSaid) → first_fault (column_rules said p) ≡ None → ColumnFacts said p.0 p.1.ends
column_facts said p fine =
    let rules = none_broken (column_rules said p) fine in
    let crossed = or_false (are_crossed (low_end p.1.ends) (high_end p.1.ends)) (p.1.ends.semi && are_crossed (threshold p.1.ends) (high_end p.1.ends)) rules.1.1.0 in
    record {
      small_ends = rules.0;
      threshold_above = rules.1.0;
      uncrossed = crossed.0;
      threshold_below = crossed.1;
      both_ends = rules.1.1.1.0;
      from_zero = rules.1.1.1.1.0;
      arc_alone = rules.1.1.1.1.1.0;
    }

pub columns_fine : (said : Said) → IsFine said → (k : ℕ) (d : ColumnSaid) → k < length said.columns → ColumnFacts said k (get_or said.columns k d).ends
columns_fine said fine k d within = column_facts said (k, get_or said.columns k d) (at_number (λ (p : ℕ × ColumnSaid). first_fault (column_rules said p) ≡ None) said.columns fine.each_column k d within)

pub two_ends : (said : Said) (j : ℕ) (ends : Ends) → ColumnFacts said j ends → needs_ends said j ends ≡ true → HasTwoEnds (low_end ends) (high_end ends)
two_ends said j ends facts needed =
    let ends_are = or_false (is_none (low_end ends)) (is_none (high_end ends)) (and_false (needs_ends said j ends) (is_none (low_end ends) || is_none (high_end ends)) facts.both_ends needed) in
    record { low = some_of (low_end ends) ends_are.0; high = some_of (high_end ends) ends_are.1 }

kind_fits : (said : Said) (j : ℕ) (ends : Ends) → ColumnFacts said j ends → KindFits (kind_of ends) (low_end ends) (high_end ends)
kind_fits said j ends facts = by ends.semi ends.integer refl refl
  where
    needed_semi : ends.semi ≡ true → needs_ends said j ends ≡ true
    needed_semi is = rw is (first ends.integer)
      where
        first : (b : Bool) → (b || true || is_member said j || has_kept_arc said j) ≡ true
        first true = refl
        first false = refl

    needed_integer : ends.integer ≡ true → needs_ends said j ends ≡ true
    needed_integer is = rw is refl

    by : (semi integer : Bool) → ends.semi ≡ semi → ends.integer ≡ integer → KindFits (if semi then Semi (unwrap_or (threshold ends) (pos 0)) else if integer then Integer else Continuous) (low_end ends) (high_end ends)
    by true integer is is2 =
        let above = above_zero (threshold ends) (and_false ends.semi (is_below_zero_or_none (threshold ends)) facts.threshold_above is) in
        let below = not_crossed (threshold ends) (high_end ends) (and_false ends.semi (are_crossed (threshold ends) (high_end ends)) facts.threshold_below is) in (
          rw is refl,
          (two_ends said j ends facts (needed_semi is)).high,
          rw above.1 above.2,
          λ h e. rw above.1 (below above.0 above.1 h e),
        )
    by false true is is2 = two_ends said j ends facts (needed_integer is2)
    by false false is is2 = tt

-- ---- costs and entries

number_size : (most scale : ℕ) (o : Option Decimal) → ForSome o (λ v. is_within_at most scale v ≡ true) → IsWithin most (times_ten (unwrap_or o nothing) scale)
number_size most scale None h = subst (IsWithin most) (sym (scaled_zero scale)) (omega arith)
number_size most scale (Some v) h = is_most _ most (h v refl)

cost_size : (said : Said) → IsFine said → (k : ℕ) (d : ColumnSaid) → k < length said.columns → IsWithin (2 ^ 31) (column_made said (get_or said.columns k d)).cost
cost_size said fine k d within =
    rw fine.objective_row.1
    (let p : ℕ × RowSaid = fine.objective_row.0 in
    let c : ColumnSaid = get_or said.columns k d in
    let facts = row_facts said p fine.objective_row.2 in
    let fits = given_pass (is_within_at (2 ^ 31) (row_scale said p.0 p.1)) (entry_in p.0) said.columns facts.costs k d within in
    minimised_size said.maximise (2 ^ 31) (times_ten (unwrap_or (entry_in p.0 c) nothing) (row_scale said p.0 p.1)) (number_size (2 ^ 31) (row_scale said p.0 p.1) (entry_in p.0 c) fits))

pub entry_gives : (said : Said) (c : ColumnSaid) (p : ℕ × (ℕ × RowSaid)) (e : Entry) → entry_made said c p ≡ Some e
    → (e.row ≡ p.0) × ((v : Decimal) × (entry_in p.1.0 c ≡ Some v) × (is_zero v ≡ false) × (e.value ≡ times_ten v (row_scale said p.1.0 p.1.1)))
entry_gives said c p e is = by (entry_in p.1.0 c) refl is
  where
    by : (o : Option Decimal) → entry_in p.1.0 c ≡ o → option_and_then (λ v. if is_zero v then None else Some (record { row = p.0; value = times_ten v (row_scale said p.1.0 p.1.1) })) o ≡ Some e
        → (e.row ≡ p.0) × ((v : Decimal) × (entry_in p.1.0 c ≡ Some v) × (is_zero v ≡ false) × (e.value ≡ times_ten v (row_scale said p.1.0 p.1.1)))
    by None at is = cc
    by (Some v) at is = test (is_zero v) refl is
      where
        test : (b : Bool) → is_zero v ≡ b → (if b then None else Some (record { row = p.0; value = times_ten v (row_scale said p.1.0 p.1.1) })) ≡ Some e
            → (e.row ≡ p.0) × ((v : Decimal) × (entry_in p.1.0 c ≡ Some v) × (is_zero v ≡ false) × (e.value ≡ times_ten v (row_scale said p.1.0 p.1.1)))
        test true zero_is is = cc
        test false zero_is is = (cc, (v, at, zero_is, cc))

entry_fits : (said : Said) → IsFine said → (k : ℕ) (d : ColumnSaid) → k < length said.columns → All (IsEntry (length (sided_rows said))) (column_made said (get_or said.columns k d)).entries
entry_fits said fine k d within =
    let c : ColumnSaid = get_or said.columns k d in
    all_given (IsEntry (length (sided_rows said))) (entry_made said c) (enumerate_from 0 (sided_rows said))
    (numbered (λ (q : ℕ × (ℕ × RowSaid)). ForSome (entry_made said c q) (IsEntry (length (sided_rows said)))) 0 (sided_rows said)
    (λ i r inside e is.
    let p : ℕ × RowSaid = get_or (sided_rows said) i r in
    let gives = entry_gives said c (0 + i, p) e is in
    let facts = row_facts said p (fine.each_row i r inside) in
    let fits = given_pass (is_within_at (2 ^ 31) (row_scale said p.0 p.1)) (entry_in p.0) said.columns facts.costs k d within in
    record {
      row = let at = gives.0 in omega (arith, at, inside);
      nonzero = λ zero_is. scaled_not_zero gives.1.0 (row_scale said p.0 p.1) gives.1.2 (sym gives.1.3 ∙ zero_is);
      size = subst (IsWithin (2 ^ 31)) (sym gives.1.3) (is_most _ (2 ^ 31) (fits gives.1.0 gives.1.1));
    }))

entries_rise : (said : Said) (c : ColumnSaid) → AllPairs (λ (a : Entry) (b : Entry). a.row < b.row) (column_made said c).entries
entries_rise said c =
    pairs_given (λ (a : Entry) (b : Entry). a.row < b.row) (entry_made said c) (enumerate_from 0 (sided_rows said))
    (λ i j d lt within a is b is2.
    let low = (entry_gives said c (get_or (enumerate_from 0 (sided_rows said)) i d) a is).0 in
    let high = (entry_gives said c (get_or (enumerate_from 0 (sided_rows said)) j d) b is2).0 in
    let rise = numbers_rise 0 (sided_rows said) i j d lt within in
    omega (arith, low, high, rise))

-- ---- all

made_column : (said : Said) → IsSaid said → IsFine said → (k : ℕ) (d : ColumnSaid) → k < length said.columns → IsColumn (length (sided_rows said)) (column_made said (get_or said.columns k d))
made_column said is fine k d within =
    let c : ColumnSaid = get_or said.columns k d in
    let facts = columns_fine said fine k d within in
    let bounds = (is.column_part.each k d within).bounds in
    record {
      order = not_crossed (low_end c.ends) (high_end c.ends) facts.uncrossed;
      low = low_sized c.ends.semi c.ends.falls c.ends.low bounds.low_size;
      high = bounds.high_size;
      kind = kind_fits said k c.ends facts;
      cost = cost_size said fine k d within;
      rise = entries_rise said c;
      entries = entry_fits said fine k d within;
    }

pub made_columns : (said : Said) → IsSaid said → IsFine said → All (IsColumn (length (deck_value said).rows)) (deck_value said).columns
unfolding deck_value
made_columns said is fine =
    subst (λ n. All (IsColumn n) (map (column_made said) said.columns)) (sym (length-map (sided_rows said) (row_made said)))
    (All-map (IsColumn (length (sided_rows said))) (column_made said) said.columns (made_column said is fine))
