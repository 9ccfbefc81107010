-- The rules of one row, and its scale.
use Rattle.std.proofs.Common.{◌≡◌, ℕ, ◌≤◌, ◌<◌, ◌^◌, max, Bool, true, false, not, ◌||◌, nat_lt, List, [], ◌∷◌, ◌++◌, Option, None, Some, All, refl, sym, ap, ◌∙◌, subst, true≢false, arith, ℤ, pos, negsuc, neg_ℤ, ◌+ℤ◌, ◌≤ℤ◌}
use Rattle.std.specs.List.{list_all}
use Rattle.std.proofs.lemmas.Int.{ints}
use Rattle.std.proofs.lemmas.Bool.Decides.{nat_tests}
use Rattle.std.proofs.lemmas.List.Elements.{All-nil, All-cons}
use Rattle.um_num.specs.declared.decimal.Decimal.{Decimal}
use Rattle.um_statements.specs.declared.fault.Fault.{Fault}
use Rattle.um_statements.specs.declared.fault.Fault.TheVariants.{TooFine, TooLarge}
use Rattle.um_statements.specs.Said.{Said, RowSaid}
use Rattle.um_statements.specs.Scaled.{least_scale, decimals, at_least_zero, is_within_at}
use Rattle.um_statements.specs.CallRules.{first_fault}
use Rattle.um_statements.specs.Made.{numbers_beside, coefficients, arcs_in, row_scale, objective, side_at, range_at, low_side, high_side, objective_scale}
use Rattle.um_statements.specs.DeckRules.{row_rules, objective_rules, is_above}
use Rattle.um_made.specs.declared.rows.Scaled.{Scaled}
use Rattle.um_made.specs.declared.rows.Objective.{Objective}
use Rattle.um_made.specs.RowWords.{scale_of, rules_of_row, has_large_side, IsScaled, IsObjective, sided_row}

-- ---- scales

pub scale_append : (xs ys : List Decimal) → least_scale (xs ++ ys) ≡ max (least_scale xs) (least_scale ys)
scale_append [] ys = omega arith
scale_append (x ∷ xs) ys = rw (scale_append xs ys) (omega arith)

pub scale_parts : (xs ys : List Decimal) (r : RowSaid) → scale_of xs ys r ≡ max (max (least_scale xs) (least_scale ys)) (least_scale (numbers_beside r))
scale_parts xs ys r = rw (scale_append xs (ys ++ numbers_beside r), scale_append ys (numbers_beside r)) (omega arith)

whole_by : (power : ℤ) (scale : ℕ) → at_least_zero (neg_ℤ power) ≤ scale → pos 0 ≤ℤ (power +ℤ pos scale)
whole_by (pos n) scale low = omega (arith, ints)
whole_by (negsuc n) scale low = omega (arith, ints, low)

-- a number is whole at a scale of as many decimals
pub is_whole : (v : Decimal) (scale : ℕ) → decimals v ≤ scale → pos 0 ≤ℤ (v.power +ℤ pos scale)
is_whole v scale low = whole_by v.power scale low

-- a number of a list is whole at a scale that is that of the list or more
pub all_whole : (scale : ℕ) (vs : List Decimal) → least_scale vs ≤ scale → All (λ (v : Decimal). pos 0 ≤ℤ (v.power +ℤ pos scale)) vs
all_whole scale [] low = All-nil (λ (v : Decimal). pos 0 ≤ℤ (v.power +ℤ pos scale))
all_whole scale (v ∷ vs) low = All-cons (λ (w : Decimal). pos 0 ≤ℤ (w.power +ℤ pos scale)) v vs (is_whole v scale (omega (arith, low))) (all_whole scale vs (omega (arith, low)))

-- ---- rules

pub first_rule : (a b : Bool) (x y : Fault) → a ≡ true → first_fault ((a, x) ∷ (b, y) ∷ []) ≡ Some x
first_rule a b x y h = rw h refl

pub second_rule : (a b : Bool) (x y : Fault) → a ≡ false → b ≡ true → first_fault ((a, x) ∷ (b, y) ∷ []) ≡ Some y
second_rule a b x y h k = rw (h, k) refl

pub no_rule : (a b : Bool) (x y : Fault) → a ≡ false → b ≡ false → first_fault ((a, x) ∷ (b, y) ∷ []) ≡ None
no_rule a b x y h k = rw (h, k) refl

pub or_sides : (a b c d e : Bool) → (c || (d || e)) ≡ true → (a || b || c || d || e) ≡ true
or_sides true b c d e h = refl
or_sides false true c d e h = refl
or_sides false false true d e h = refl
or_sides false false false true e h = refl
or_sides false false false false e h = h

pub or_numbers : (a b c d e : Bool) → (a || b) ≡ true → (a || b || c || d || e) ≡ true
or_numbers true b c d e h = refl
or_numbers false true c d e h = refl
or_numbers false false c d e h = absurd (true≢false (sym h))

pub or_none : (a b c d e : Bool) → (a || b) ≡ false → (c || (d || e)) ≡ false → (a || b || c || d || e) ≡ false
or_none true b c d e h k = absurd (true≢false h)
or_none false true c d e h k = absurd (true≢false h)
or_none false false true d e h k = absurd (true≢false k)
or_none false false false true e h k = absurd (true≢false k)
or_none false false false false e h k = k

above_six : (n : ℕ) → 6 < n → nat_lt 6 n ≡ true
above_six n h = grind (arith, nat_tests)

not_above_six : (n : ℕ) → n ≤ 6 → nat_lt 6 n ≡ false
not_above_six n h = grind (arith, nat_tests)

module _ (xs ys : List Decimal) (r : RowSaid) where
  abbrev fine : Bool
  fine = nat_lt 6 (scale_of xs ys r)

  abbrev large_coefficient : ℕ → Bool
  large_coefficient n = not (list_all (is_within_at (2 ^ 31) n) xs)

  abbrev large_arc : ℕ → Bool
  large_arc n = not (list_all (is_within_at (2 ^ 24) n) ys)

  abbrev large_side : ℕ → Bool
  large_side n = is_above (2 ^ 53) (Some (side_at r n))

  abbrev large_low : ℕ → Bool
  large_low n = is_above (2 ^ 53) (low_side r.kind (side_at r n) (range_at r n))

  abbrev large_high : ℕ → Bool
  large_high n = is_above (2 ^ 53) (high_side r.kind (side_at r n) (range_at r n))

  abbrev large : ℕ → Bool
  large n = large_coefficient n || large_arc n || large_side n || large_low n || large_high n

  pub row_too_fine : (n : ℕ) → n ≡ scale_of xs ys r → 6 < n → first_fault (rules_of_row xs ys r) ≡ Some TooFine
  row_too_fine n is h = first_rule fine (large (scale_of xs ys r)) TooFine TooLarge (above_six (scale_of xs ys r) (omega (arith, is, h)))

  pub row_numbers_large : (n : ℕ) → n ≡ scale_of xs ys r → n ≤ 6 → (not (list_all (is_within_at (2 ^ 31) n) xs) || not (list_all (is_within_at (2 ^ 24) n) ys)) ≡ true → first_fault (rules_of_row xs ys r) ≡ Some TooLarge
  row_numbers_large n is low h =
      second_rule fine (large (scale_of xs ys r)) TooFine TooLarge (not_above_six (scale_of xs ys r) (omega (arith, is, low)))
      (subst (λ m. large m ≡ true) is (or_numbers (large_coefficient n) (large_arc n) (large_side n) (large_low n) (large_high n) h))

  pub row_sides_large : (n : ℕ) → n ≡ scale_of xs ys r → n ≤ 6 → has_large_side r n ≡ true → first_fault (rules_of_row xs ys r) ≡ Some TooLarge
  row_sides_large n is low h =
      second_rule fine (large (scale_of xs ys r)) TooFine TooLarge (not_above_six (scale_of xs ys r) (omega (arith, is, low)))
      (subst (λ m. large m ≡ true) is (or_sides (large_coefficient n) (large_arc n) (large_side n) (large_low n) (large_high n) h))

  pub row_fine : (n : ℕ) → n ≡ scale_of xs ys r → n ≤ 6 → (not (list_all (is_within_at (2 ^ 31) n) xs) || not (list_all (is_within_at (2 ^ 24) n) ys)) ≡ false → has_large_side r n ≡ false → first_fault (rules_of_row xs ys r) ≡ None
  row_fine n is low h k =
      no_rule fine (large (scale_of xs ys r)) TooFine TooLarge (not_above_six (scale_of xs ys r) (omega (arith, is, low)))
      (subst (λ m. large m ≡ false) is (or_none (large_coefficient n) (large_arc n) (large_side n) (large_low n) (large_high n) h k))

-- ---- a row of a deck, by what stands in it

module _ (said : Said) (i : ℕ) (r : RowSaid) (xs ys : List Decimal) (first : xs ≡ coefficients said i) (second : ys ≡ arcs_in said i) where
  pub rules_there : (o : Option Fault) → first_fault (rules_of_row xs ys r) ≡ o → first_fault (row_rules said (i, r)) ≡ o
  rules_there o h = subst (λ (zs : List Decimal). first_fault (rules_of_row (coefficients said i) zs r) ≡ o) second (subst (λ (zs : List Decimal). first_fault (rules_of_row zs ys r) ≡ o) first h)

  pub scale_there : scale_of xs ys r ≡ row_scale said i r
  scale_there = ap (λ (zs : List Decimal). scale_of zs ys r) first ∙ ap (λ (zs : List Decimal). scale_of (coefficients said i) zs r) second

  pub objective_made : (z : Scaled) (side : ℤ) → objective said ≡ Some (i, r) → IsScaled xs ys r z → side ≡ z.sides.side → IsObjective said (record { place = i; scale = z.scale; side = side })
  objective_made z side is scaled same = record {
    row = r;
    is = is;
    scale_is = scaled.scale_is ∙ scale_there;
    side_is = same ∙ (scaled.sides_are.side ∙ ap (side_at r) (sym scaled.scale_is));
  }

pub objective_rules_none : (said : Said) (p : ℕ × RowSaid) → objective said ≡ Some p → first_fault (row_rules said p) ≡ None → first_fault (objective_rules said (objective said)) ≡ None
objective_rules_none said p is fine = rw is fine

pub objective_rules_some : (said : Said) (p : ℕ × RowSaid) (f : Fault) → objective said ≡ Some p → first_fault (row_rules said p) ≡ Some f → first_fault (objective_rules said (objective said)) ≡ Some f
objective_rules_some said p f is broken = rw is broken

pub sided_made : (said : Said) (i : ℕ) (r : RowSaid) (xs ys : List Decimal) → xs ≡ coefficients said i → ys ≡ arcs_in said i → (z : Scaled) → IsScaled xs ys r z → record { place = i; scale = z.scale; low = z.sides.low; high = z.sides.high } ≡ sided_row said (i, r)
sided_made said i r xs ys first second z scaled =
    let there : scale_of xs ys r ≡ row_scale said i r = scale_there said i r xs ys first second in
    λ j. record {
      place = i;
      scale = (scaled.scale_is ∙ there) j;
      low = (scaled.sides_are.low ∙ ap (λ n. low_side r.kind (side_at r n) (range_at r n)) there) j;
      high = (scaled.sides_are.high ∙ ap (λ n. high_side r.kind (side_at r n) (range_at r n)) there) j;
    }

pub objective_scale_is : (said : Said) (o : Objective) → IsObjective said o → objective_scale said ≡ o.scale
objective_scale_is said o h = rw h.is (sym h.scale_is)
