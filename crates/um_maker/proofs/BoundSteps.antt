-- Bounds that are told to a maker.
use Rattle.std.proofs.Common.{◌≡◌, ℕ, Bool, true, false, List, [], ◌∷◌, ◌++◌, map, slice_get, Option, None, Some, option_map, refl, sym, ap, ◌∙◌, if◌then◌else◌}
use Rattle.std.specs.List.{IsDistinct}
use Rattle.std.specs.Option.{option_or, option_map_or}
use Rattle.std.specs.Str.{bytes_eq}
use Rattle.um_num.specs.declared.decimal.Decimal.{Decimal}
use Rattle.um_statements.specs.declared.fault.Fault.{Fault}
use Rattle.um_statements.specs.declared.fault.Fault.TheVariants.{UnknownColumn, SemiInteger}
use Rattle.um_statements.specs.declared.parts.BoundKind.{BoundKind}
use Rattle.um_statements.specs.declared.parts.Ends.{Ends}
use Rattle.um_statements.specs.Statements.{Name, Bound}
use Rattle.um_statements.specs.Said.{Said, ColumnSaid, column_place}
use Rattle.um_statements.specs.CallRules.{Rule, first_fault, fault_of, rules_of, mixes, with_bound, with_statement}
use Rattle.um_made.specs.declared.parts.ColumnPart.{ColumnPart}
use Rattle.um_maker.specs.NamedLists.{place_of, with_item}
use Rattle.um_made.specs.Views.{column_said}
use Rattle.um_maker.specs.Makers.{value_rules}
use Rattle.um_maker.proofs.ColumnSteps.{place_of_column}
use Rattle.um_maker.proofs.ChangedNames.{change_one}

-- ---- rules

-- the first fault of two lists of rules
pub first_apart : (xs ys : List Rule) → first_fault (xs ++ ys) ≡ option_or (first_fault xs) (first_fault ys)
first_apart [] ys = refl
first_apart (r ∷ xs) ys = by r.0 (first_apart xs ys)
  where
    by : (b : Bool) → first_fault (xs ++ ys) ≡ option_or (first_fault xs) (first_fault ys) → (if b then Some r.1 else first_fault (xs ++ ys)) ≡ option_or (if b then Some r.1 else first_fault xs) (first_fault ys)
    by true more = refl
    by false more = more

pub bound_unknown : (said : Said) (kind : BoundKind) (column : Name) (value : Option Decimal) → column_place said.columns column ≡ None → fault_of said (Bound kind column value) ≡ Some UnknownColumn
unfolding rules_of
bound_unknown said kind column value none = rw none

-- the rules of a known column: those on the value, and then that on the mix
known_rules : (said : Said) (kind : BoundKind) (column : Name) (value : Option Decimal) (place : ℕ) → column_place said.columns column ≡ Some place
    → fault_of said (Bound kind column value) ≡ option_or (first_fault (value_rules kind value)) (if option_map_or (mixes kind) (slice_get said.columns place) false then Some SemiInteger else None)
unfolding rules_of
known_rules said kind column value place at = rw at (first_apart (value_rules kind value) ((option_map_or (mixes kind) (slice_get said.columns place) false, SemiInteger) ∷ []))

pub bound_broken : (said : Said) (kind : BoundKind) (column : Name) (value : Option Decimal) (place : ℕ) (fault : Fault) → column_place said.columns column ≡ Some place
    → first_fault (value_rules kind value) ≡ Some fault → fault_of said (Bound kind column value) ≡ Some fault
bound_broken said kind column value place fault at broken = known_rules said kind column value place at ∙ rw broken refl

has_mix : (kind : BoundKind) (o : Option ColumnSaid) (b : Bool) → Some b ≡ option_map (mixes kind) o → option_map_or (mixes kind) o false ≡ b
has_mix kind None b e = cc
has_mix kind (Some c) b e = cc

pub bound_mixed : (said : Said) (kind : BoundKind) (column : Name) (value : Option Decimal) (place : ℕ) → column_place said.columns column ≡ Some place
    → first_fault (value_rules kind value) ≡ None → Some true ≡ option_map (mixes kind) (slice_get said.columns place) → fault_of said (Bound kind column value) ≡ Some SemiInteger
bound_mixed said kind column value place at fits mix = known_rules said kind column value place at ∙ rw (fits, has_mix kind (slice_get said.columns place) true mix) refl

pub bound_allowed : (said : Said) (kind : BoundKind) (column : Name) (value : Option Decimal) (place : ℕ) → column_place said.columns column ≡ Some place
    → first_fault (value_rules kind value) ≡ None → Some false ≡ option_map (mixes kind) (slice_get said.columns place) → fault_of said (Bound kind column value) ≡ None
bound_allowed said kind column value place at fits mix = known_rules said kind column value place at ∙ rw (fits, has_mix kind (slice_get said.columns place) false mix) refl

-- ---- the item of the column

pub bound_put : (said : Said) (kind : BoundKind) (column : Name) (value : Option Decimal) (items : List (Name × ColumnPart)) (place : ℕ) (part : ColumnPart) (ends : Ends) → said.columns ≡ map column_said items
    → column_place said.columns column ≡ Some place → slice_get (map (λ (e : Name × ColumnPart). e.1) items) place ≡ Some part → IsDistinct bytes_eq (map (λ (e : Name × ColumnPart). e.0) items)
    → ends ≡ with_bound kind value part.ends
    → record said { columns = map column_said (with_item items place (record part { ends = ends })) } ≡ with_statement (Bound kind column value) said
unfolding with_statement
bound_put said kind column value items place part ends same at value_at distinct bounded =
    let here : place_of items column ≡ Some place = sym (place_of_column items column) ∙ ap (λ columns. column_place columns column) (sym same) ∙ at in
    let one = change_one column_said (λ c. c.name) (λ e. refl) column items place part (record part { ends = ends }) (λ (c : ColumnSaid). record c { ends = with_bound kind value c.ends }) here value_at distinct (λ n. rw bounded refl) in
    rw same (ap (λ (columns : List ColumnSaid). record said { columns = columns }) one)
