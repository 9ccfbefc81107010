-- Members of sets with their weights.
use Rattle.std.specs.Prelude.{◌≡◌, ◌⊎◌, ℕ, ◌≤◌, ℤ, int_le, Bool, true, false, ◌&&◌, ◌||◌, List, [], ◌∷◌, map, slice_get, Option, Some, None, Result, MatchResult}
use Rattle.std.specs.List.{list_any}
use Rattle.std.specs.Option.{ForSome, option_map_or}
use Rattle.um_num.specs.declared.decimal.Decimal.{Decimal}
use Rattle.um_num.specs.Listed.{Listed}
use Rattle.um_model.specs.declared.deck.Member.{Member}
use Rattle.um_model.specs.declared.limits.TheConstants.{MOST_SCALE, MOST_WEIGHT}
use Rattle.um_statements.specs.declared.fault.Fault.{Fault}
use Rattle.um_statements.specs.declared.fault.Fault.TheVariants.{Memory, TooLarge}
use Rattle.um_statements.specs.Said.{Said, SetSaid}
use Rattle.um_statements.specs.Scaled.{least_scale}
use Rattle.um_statements.specs.Made.{coefficients, weight_of, members_of, by_weight}
use Rattle.um_statements.specs.DeckRules.{is_above}
use Rattle.um_made.specs.declared.numbers.RowNumbers.{RowNumbers}

-- the coefficients of the row at this place
abbrev pub numbers_at : List RowNumbers → ℕ → List Decimal
numbers_at rows place = option_map_or (λ (r : RowNumbers). r.coefficients.items) (slice_get rows place) []

-- there was a last weight, and it is this
abbrev pub is_weight : Option ℤ → ℤ → Bool
is_weight None w = false
is_weight (Some last) w = int_le last w && int_le w last

-- behind a last weight, two members that stand side by side have one weight
abbrev pub has_twice_behind : Option ℤ → List Member → Bool
has_twice_behind last [] = false
has_twice_behind last (m ∷ ms) = is_weight last m.weight || has_twice_behind (Some m.weight) ms

-- the reference row of a set, where it has one, has no coefficient that is too fine
abbrev pub HasFineReference : Said → SetSaid → Type 0
HasFineReference said s = ForSome s.reference (λ place. least_scale (coefficients said place) ≤ MOST_SCALE)

-- a weight is too large
abbrev pub has_large_weight : Said → SetSaid → Bool
has_large_weight said s = list_any (λ w. is_above MOST_WEIGHT (Some w)) (map (weight_of said s) s.members)

-- the members as they were told, with their weights; or one is too large, or memory is wanting
abbrev pub HasWeights : {A : Type 0} → (A → List Member) → Said → SetSaid → Result A Fault → Type 0
HasWeights items said s result = MatchResult result
    (λ made. (has_large_weight said s ≡ false) × (items made ≡ members_of said s))
    (λ fault. (fault ≡ Memory) ⊎ ((fault ≡ TooLarge) × (has_large_weight said s ≡ true)))

-- the members of each set, by rising weight
abbrev pub AreMembersOf : Said → List SetSaid → List (Listed Member) → Type 0
AreMembersOf said sets left = map (λ (l : Listed Member). l.items) left ≡ map (λ (s : SetSaid). by_weight (members_of said s)) sets
