-- Right-hand sides and ranges that are told to a maker.
use Rattle.std.proofs.Common.{◌≡◌, ℕ, Bool, true, false, List, map, slice_get, Option, None, Some, refl, sym, ap, ◌∙◌, true≢false, is_some, option_map}
use Rattle.std.specs.List.{IsDistinct}
use Rattle.std.specs.Option.{option_or, option_map_or}
use Rattle.std.specs.Str.{bytes_eq}
use Rattle.um_num.specs.declared.decimal.Decimal.{Decimal}
use Rattle.um_statements.specs.declared.fault.Fault.TheVariants.{UnknownRow, TwiceEntry}
use Rattle.um_statements.specs.Statements.{Name, Side, Range}
use Rattle.um_statements.specs.Said.{Said, RowSaid, row_place}
use Rattle.um_statements.specs.CallRules.{fault_of, rules_of, with_statement}
use Rattle.um_made.specs.declared.parts.RowPart.{RowPart}
use Rattle.um_maker.specs.NamedLists.{place_of, with_item}
use Rattle.um_made.specs.Views.{row_said}
use Rattle.um_maker.proofs.RowSteps.{place_of_row}
use Rattle.um_maker.proofs.SeenItems.{seen_at}
use Rattle.um_maker.proofs.ChangedNames.{change_one}

-- ---- rules

pub unknown_row : (said : Said) (row : Name) (value : Decimal) → row_place said.rows row ≡ None → fault_of said (Side row value) ≡ Some UnknownRow
unfolding rules_of
unknown_row said row value none = rw none

pub unknown_range_row : (said : Said) (row : Name) (value : Decimal) → row_place said.rows row ≡ None → fault_of said (Range row value) ≡ Some UnknownRow
unfolding rules_of
unknown_range_row said row value none = rw none

has_or : (test : RowSaid → Bool) (o : Option RowSaid) (b : Bool) → Some b ≡ option_map test o → option_map_or test o false ≡ b
has_or test None b e = cc
has_or test (Some r) b e = cc

pub twice_side : (said : Said) (row : Name) (value : Decimal) (place : ℕ) → row_place said.rows row ≡ Some place → Some true ≡ option_map (λ (r : RowSaid). is_some r.side) (slice_get said.rows place)
    → fault_of said (Side row value) ≡ Some TwiceEntry
unfolding rules_of
twice_side said row value place at twice = rw (at, has_or (λ r. is_some r.side) (slice_get said.rows place) true twice) refl

pub twice_range : (said : Said) (row : Name) (value : Decimal) (place : ℕ) → row_place said.rows row ≡ Some place → Some true ≡ option_map (λ (r : RowSaid). is_some r.range) (slice_get said.rows place)
    → fault_of said (Range row value) ≡ Some TwiceEntry
unfolding rules_of
twice_range said row value place at twice = rw (at, has_or (λ r. is_some r.range) (slice_get said.rows place) true twice) refl

pub side_allowed : (said : Said) (row : Name) (value : Decimal) (place : ℕ) → row_place said.rows row ≡ Some place → Some false ≡ option_map (λ (r : RowSaid). is_some r.side) (slice_get said.rows place)
    → fault_of said (Side row value) ≡ None
unfolding rules_of
side_allowed said row value place at new = rw (at, has_or (λ r. is_some r.side) (slice_get said.rows place) false new) refl

pub range_allowed : (said : Said) (row : Name) (value : Decimal) (place : ℕ) → row_place said.rows row ≡ Some place → Some false ≡ option_map (λ (r : RowSaid). is_some r.range) (slice_get said.rows place)
    → fault_of said (Range row value) ≡ None
unfolding rules_of
range_allowed said row value place at new = rw (at, has_or (λ r. is_some r.range) (slice_get said.rows place) false new) refl

-- ---- the item of the row

pub is_none_of : {A : Type 0} (o : Option A) → is_some o ≡ false → o ≡ None
is_none_of None e = refl
is_none_of (Some x) e = absurd (true≢false e)

-- what a row lacks, its item lacks
still_none : (told : RowSaid → Option Decimal) (items : List (Name × RowPart)) (i : ℕ) (part : RowPart) (own : Option Decimal) → slice_get (map (λ (e : Name × RowPart). e.1) items) i ≡ Some part
    → ((n : Name) → told (row_said (n, part)) ≡ own) → option_map (λ (r : RowSaid). is_some (told r)) (slice_get (map row_said items) i) ≡ Some false → own ≡ None
still_none told items i part own at is new =
    let same : Some (is_some own) ≡ Some false = sym (seen_at row_said (λ r. is_some (told r)) (is_some own) items i part at (λ n. ap is_some (is n))) ∙ new in
    let none : is_some own ≡ false = cc in is_none_of own none

place_here : (said : Said) (row : Name) (items : List (Name × RowPart)) (place : ℕ) → said.rows ≡ map row_said items → row_place said.rows row ≡ Some place → place_of items row ≡ Some place
place_here said row items place same at = sym (place_of_row items row) ∙ ap (λ rows. row_place rows row) (sym same) ∙ at

pub side_put : (said : Said) (row : Name) (value : Decimal) (items : List (Name × RowPart)) (place : ℕ) (part : RowPart) → said.rows ≡ map row_said items
    → row_place said.rows row ≡ Some place → slice_get (map (λ (e : Name × RowPart). e.1) items) place ≡ Some part → IsDistinct bytes_eq (map (λ (e : Name × RowPart). e.0) items)
    → option_map (λ (r : RowSaid). is_some r.side) (slice_get said.rows place) ≡ Some false
    → record said { rows = map row_said (with_item items place (record part { side = Some value })) } ≡ with_statement (Side row value) said
unfolding with_statement
side_put said row value items place part same at value_at distinct new =
    let none = still_none (λ r. r.side) items place part part.side value_at (λ n. refl) (ap (λ rows. option_map (λ (r : RowSaid). is_some r.side) (slice_get rows place)) (sym same) ∙ new) in
    let one = change_one row_said (λ r. r.name) (λ e. refl) row items place part (record part { side = Some value }) (λ (r : RowSaid). record r { side = option_or r.side (Some value) }) (place_here said row items place same at) value_at distinct
    (λ n. rw none refl) in
    rw same (ap (λ (rows : List RowSaid). record said { rows = rows }) one)

pub range_put : (said : Said) (row : Name) (value : Decimal) (items : List (Name × RowPart)) (place : ℕ) (part : RowPart) → said.rows ≡ map row_said items
    → row_place said.rows row ≡ Some place → slice_get (map (λ (e : Name × RowPart). e.1) items) place ≡ Some part → IsDistinct bytes_eq (map (λ (e : Name × RowPart). e.0) items)
    → option_map (λ (r : RowSaid). is_some r.range) (slice_get said.rows place) ≡ Some false
    → record said { rows = map row_said (with_item items place (record part { range = Some value })) } ≡ with_statement (Range row value) said
unfolding with_statement
range_put said row value items place part same at value_at distinct new =
    let none = still_none (λ r. r.range) items place part part.range value_at (λ n. refl) (ap (λ rows. option_map (λ (r : RowSaid). is_some r.range) (slice_get rows place)) (sym same) ∙ new) in
    let one = change_one row_said (λ r. r.name) (λ e. refl) row items place part (record part { range = Some value }) (λ (r : RowSaid). record r { range = option_or r.range (Some value) }) (place_here said row items place same at) value_at distinct
    (λ n. rw none refl) in
    rw same (ap (λ (rows : List RowSaid). record said { rows = rows }) one)
