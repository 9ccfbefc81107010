-- Which of what was said is a deck: the rules that are looked at when all is said, in their order.
use Rattle.std.specs.Prelude.{◌≡◌, ◌⊎◌, ℕ, ℤ, pos, unsigned_abs, int_le, int_lt, Bool, true, false, ◌&&◌, ◌||◌, not, nat_eq, nat_le, nat_lt, is_none, List, [], ◌∷◌, ◌++◌, map, flat_map, length, Option, Some, None, Result, MatchResult}
use Rattle.std.specs.List.{list_any, list_all, enumerate_from}
use Rattle.std.specs.Option.{option_map_or}
use Rattle.um_model.specs.Values.{DeckValue}
use Rattle.um_model.specs.declared.limits.TheConstants.{MOST_SCALE, MOST_SIDE, MOST_COEFFICIENT, MOST_ARC, MOST_ARC_END, MOST_WEIGHT}
use Rattle.um_statements.specs.declared.fault.Fault.{Fault}
use Rattle.um_statements.specs.declared.fault.Fault.TheVariants.{NoObjective, TooFine, TooLarge, SemiLower, CrossedBounds, NotFinite, LowerNotZero, ArcInSet, EmptySet, TwiceWeight, Memory}
use Rattle.um_statements.specs.declared.parts.Ends.{Ends}
use Rattle.um_statements.specs.declared.parts.MemberPart.{MemberPart}
use Rattle.um_statements.specs.Said.{Said, RowSaid, ColumnSaid, SetSaid}
use Rattle.um_statements.specs.Scaled.{is_within_at, least_scale}
use Rattle.um_statements.specs.CallRules.{Rule, first_fault, has_kept_arc}
use Rattle.um_statements.specs.Made.{coefficients, arcs_in, row_scale, low_side, high_side, side_at, range_at, sided_rows, objective, low_end, high_end, threshold, weight_of, deck_value}

-- ---- words

abbrev pub is_above : ℕ → Option ℤ → Bool
is_above most None = false
is_above most (Some z) = not (nat_le (unsigned_abs z) most)

-- both are there, and the first is greater
abbrev pub are_crossed : Option ℤ → Option ℤ → Bool
are_crossed (Some low) (Some high) = int_lt high low
are_crossed low high = false

abbrev pub is_below_zero_or_none : Option ℤ → Bool
is_below_zero_or_none None = true
is_below_zero_or_none (Some z) = int_lt z (pos 0)

abbrev pub is_member : Said → ℕ → Bool
is_member said column = list_any (λ (s : SetSaid). list_any (λ (m : MemberPart). nat_eq m.column column) s.members) said.sets

-- ---- rows

-- a coefficient above 2^31 in size, an arc above 2^24, or a side above 2^53, scaled
abbrev pub has_large_number : Said → ℕ → RowSaid → ℕ → Bool
has_large_number said place r scale =
    not (list_all (is_within_at MOST_COEFFICIENT scale) (coefficients said place))
    || not (list_all (is_within_at MOST_ARC scale) (arcs_in said place))
    || is_above MOST_SIDE (Some (side_at r scale))
    || is_above MOST_SIDE (low_side r.kind (side_at r scale) (range_at r scale))
    || is_above MOST_SIDE (high_side r.kind (side_at r scale) (range_at r scale))

abbrev pub row_rules : Said → ℕ × RowSaid → List Rule
row_rules said p =
    (nat_lt MOST_SCALE (row_scale said p.0 p.1), TooFine)
    ∷ (has_large_number said p.0 p.1 (row_scale said p.0 p.1), TooLarge) ∷ []

abbrev pub objective_rules : Said → Option (ℕ × RowSaid) → List Rule
objective_rules said None = (true, NoObjective) ∷ []
objective_rules said (Some p) = row_rules said p

-- ---- columns

abbrev pub needs_ends : Said → ℕ → Ends → Bool
needs_ends said j ends = ends.integer || ends.semi || is_member said j || has_kept_arc said j

abbrev pub column_rules : Said → ℕ × ColumnSaid → List Rule
column_rules said p =
    let ends = p.1.ends in
    (has_kept_arc said p.0 && (is_above MOST_ARC_END (low_end ends) || is_above MOST_ARC_END (high_end ends)), TooLarge)
    ∷ (ends.semi && is_below_zero_or_none (threshold ends), SemiLower)
    ∷ (are_crossed (low_end ends) (high_end ends) || (ends.semi && are_crossed (threshold ends) (high_end ends)), CrossedBounds)
    ∷ (needs_ends said p.0 ends && (is_none (low_end ends) || is_none (high_end ends)), NotFinite)
    ∷ (is_member said p.0 && is_above 0 (low_end ends), LowerNotZero)
    ∷ (has_kept_arc said p.0 && (is_member said p.0 || ends.semi), ArcInSet) ∷ []

-- ---- sets

abbrev pub has_twice : List ℤ → Bool
has_twice [] = false
has_twice (z ∷ zs) = list_any (λ y. int_le y z && int_le z y) zs || has_twice zs

abbrev pub set_rules : Said → SetSaid → List Rule
set_rules said s =
    let weights = map (weight_of said s) s.members in
    (option_map_or (λ place. nat_lt MOST_SCALE (least_scale (coefficients said place))) s.reference false, TooFine)
    ∷ (list_any (λ w. is_above MOST_WEIGHT (Some w)) weights, TooLarge)
    ∷ (nat_eq (length s.members) 0, EmptySet)
    ∷ (has_twice weights, TwiceWeight) ∷ []

-- ---- all

-- first the objective, then rows, columns and sets by index
unfoldable pub deck_rules : Said → List Rule
deck_rules said =
    objective_rules said (objective said)
    ++ (flat_map (row_rules said) (sided_rows said)
    ++ (flat_map (column_rules said) (enumerate_from 0 said.columns)
    ++ flat_map (set_rules said) said.sets))

abbrev pub deck_fault : Said → Option Fault
deck_fault said = first_fault (deck_rules said)

-- what was said is a deck: at Ok no rule is broken and it is that deck; a fault is that of the first broken rule, or want of memory
abbrev pub Finishes : Said → Result DeckValue Fault → Type 0
Finishes said result = MatchResult result
    (λ d. (deck_fault said ≡ None) × (d ≡ deck_value said))
    (λ fault. (fault ≡ Memory) ⊎ (deck_fault said ≡ Some fault))
