-- The walk over all columns: the two sums that it makes, and the first column without a least value.
use Rattle.std.proofs.Common.{◌≡◌, ◌∙◌, ap, sym, subst, ℕ, ◌+◌, ◌*◌, ◌<◌, ◌≤◌, ℤ, pos, ◌+ℤ◌, List, length, get_or, drop, arith, Bool, true, false, cond, Option, Some, None}
use Rattle.std.specs.Prelude.{find, is_none, unwrap_or, option_map, ◌||◌}
use Rattle.std.specs.List.{enumerate_from}
use Rattle.std.proofs.lemmas.List.{take_all, drop_all}
use Rattle.std.proofs.Math.Nat.{mul-le-mul_right}
use Rattle.um_laws.specs.Sums.{sum_of}
use Rattle.um_model.specs.Values.{DeckValue, ColumnValue}
use Rattle.um_multipliers.specs.PlainMultipliers.{MultipliersValue}
use Rattle.um_model.specs.Boxes.{BoxValue}
use Rattle.um_model.specs.LeafValue.{linear_least, arc_least, is_endless_column}
use Rattle.um_bound.specs.ColumnSums.{most_linear, most_curved, Adds, AreColumnSums}
use Rattle.um_bound.specs.declared.columns.ColumnSums.{ColumnSums}
use Rattle.um_bound.proofs.MachineSteps.{held, held_is}
use Rattle.um_bound.proofs.BoundedSums.{Total, total_step, total_same, find_on}

module _ (d : DeckValue) (b : BoxValue) (y : MultipliersValue) where
  abbrev columns : List (ℕ × ColumnValue)
  columns = enumerate_from 0 d.columns

  abbrev linear_of : ℕ × ColumnValue → ℤ
  linear_of c = unwrap_or (linear_least d b y c) (pos 0)

  abbrev curved_of : ℕ × ColumnValue → ℤ
  curved_of c = unwrap_or (arc_least d b y c) (pos 0)

  -- the sums over the first n columns, none of which is endless
  pub record Walked (n : ℕ) (sums : ColumnSums) : Type 0 where
    pub linear : Total most_linear linear_of columns n sums.linear
    pub curved : Total most_curved curved_of columns n sums.curved
    pub found : find (is_endless_column d b y) columns ≡ find (is_endless_column d b y) (drop n columns)

  module _ (i : ℕ) (c : ℕ × ColumnValue) (sums : ColumnSums) (few : length columns ≤ 4096) (l : i < length columns) (place : get_or columns i c ≡ c) (t : Walked i sums) where
    past : is_endless_column d b y c ≡ false → find (is_endless_column d b y) columns ≡ find (is_endless_column d b y) (drop (i + 1) columns)
    past e =
        t.found ∙ find_on (is_endless_column d b y) columns i c l
        ∙ ap (λ (u : Bool). cond u (Some (get_or columns i c)) (find (is_endless_column d b y) (drop (i + 1) columns))) (ap (is_endless_column d b y) place ∙ e)

    module _ (linear curved : ℤ) (adds : Adds d b y c linear curved) where
      not_endless : is_endless_column d b y c ≡ false
      not_endless = λ j. is_none (adds.linear_is j) || is_none (adds.curved_is j)

      linear_here : linear ≡ linear_of (get_or columns i c)
      linear_here = sym (ap linear_of place ∙ ap (λ (o : Option ℤ). unwrap_or o (pos 0)) adds.linear_is)

      curved_here : curved ≡ curved_of (get_or columns i c)
      curved_here = sym (ap curved_of place ∙ ap (λ (o : Option ℤ). unwrap_or o (pos 0)) adds.curved_is)

    many : length columns * most_linear ≤ 4096 * most_linear
    many = mul-le-mul_right most_linear few

    many_curved : length columns * most_curved ≤ 4096 * most_curved
    many_curved = mul-le-mul_right most_curved few

    linear_held : held sums.linear ≡ sums.linear
    linear_held = let far : i * most_linear ≤ 4096 * most_linear = mul-le-mul_right {n = 4096} most_linear (omega (arith, l, few)) in held_is sums.linear (omega (arith, t.linear.size, far))

    curved_held : held sums.curved ≡ sums.curved
    curved_held = let far : i * most_curved ≤ 4096 * most_curved = mul-le-mul_right {n = 4096} most_curved (omega (arith, l, few)) in held_is sums.curved (omega (arith, t.curved.size, far))

    -- past a column without an arc
    pub walked_linear : (value : ℤ) → Adds d b y c value (pos 0) → Walked (i + 1) (record { linear = held (held sums.linear +ℤ held value); curved = sums.curved })
    walked_linear value adds = record {
      linear = subst (λ (z : ℤ). Total most_linear linear_of columns (i + 1) (held (z +ℤ held value))) (sym linear_held) (total_step most_linear linear_of columns i c sums.linear value (omega (arith, many)) (omega arith) l t.linear (linear_here value (pos 0) adds) adds.linear_size);
      curved = total_same most_curved curved_of columns i c sums.curved l (sym (curved_here value (pos 0) adds)) t.curved;
      found = past (not_endless value (pos 0) adds);
    }

    -- past a column with an arc
    pub walked_curved : (value : ℤ) → Adds d b y c (pos 0) value → Walked (i + 1) (record { linear = sums.linear; curved = held (held sums.curved +ℤ held value) })
    walked_curved value adds = record {
      linear = total_same most_linear linear_of columns i c sums.linear l (sym (linear_here (pos 0) value adds)) t.linear;
      curved = subst (λ (z : ℤ). Total most_curved curved_of columns (i + 1) (held (z +ℤ held value))) (sym curved_held) (total_step most_curved curved_of columns i c sums.curved value (omega (arith, many_curved)) (omega arith) l t.curved (curved_here (pos 0) value adds) adds.curved_size);
      found = past (not_endless (pos 0) value adds);
    }

    -- an endless column is the first
    pub walked_to_endless : is_endless_column d b y c ≡ true → option_map (λ (x : ℕ × ColumnValue). x.0) (find (is_endless_column d b y) columns) ≡ Some c.0
    walked_to_endless e =
        ap (option_map (λ (x : ℕ × ColumnValue). x.0))
        (t.found ∙ find_on (is_endless_column d b y) columns i c l
        ∙ ap (λ (u : Bool). cond u (Some (get_or columns i c)) (find (is_endless_column d b y) (drop (i + 1) columns))) (ap (is_endless_column d b y) place ∙ e)
        ∙ ap Some place)

  -- past the last column
  pub walked_all : (n : ℕ) (sums : ColumnSums) → n ≡ length columns → length columns ≤ 4096 → Walked n sums → (find (is_endless_column d b y) columns ≡ None) × AreColumnSums d b y sums
  walked_all n sums e few t =
      let most_of : (most : ℕ) → n * most ≤ 4096 * most = λ most. mul-le-mul_right most (omega (arith, e, few)) in (
        t.found ∙ ap (find (is_endless_column d b y)) (drop_all n columns (omega (arith, e))),
        record {
          linear = t.linear.sum ∙ ap (sum_of linear_of) (take_all n columns (omega (arith, e)));
          linear_size = omega (arith, t.linear.size, most_of most_linear);
          curved = t.curved.sum ∙ ap (sum_of curved_of) (take_all n columns (omega (arith, e)));
          curved_size = omega (arith, t.curved.size, most_of most_curved);
        },
      )
