-- Sets and members that are told to a maker.
use Rattle.std.proofs.Common.{◌≡◌, ℕ, suc, ◌-◌, ◌||◌, ◌<◌, not, nat_eq, nat_le, Bool, true, false, List, [], ◌∷◌, ◌++◌, map, length, slice_get, Option, None, Some, is_some, is_none, option_map, refl, sym, ap, ◌∙◌, true≢false, arith, if◌then◌else◌}
use Rattle.std.specs.List.{list_any, last_or}
use Rattle.std.specs.Option.{option_map_or, option_and_then}
use Rattle.std.specs.Str.{bytes_eq}
use Rattle.std.proofs.lemmas.List.{map_push}
use Rattle.um_num.specs.declared.decimal.Decimal.{Decimal}
use Rattle.um_model.specs.declared.deck.SetKind.{SetKind}
use Rattle.um_statements.specs.declared.fault.Fault.TheVariants.{UnknownRow, UnknownColumn, TwiceSet, TwiceMember, TooMany}
use Rattle.um_statements.specs.declared.parts.MemberPart.{MemberPart}
use Rattle.um_statements.specs.Statements.{Name, Set, MemberTold}
use Rattle.um_statements.specs.Said.{Said, SetSaid, row_place, column_place}
use Rattle.um_statements.specs.Scaled.{times_ten}
use Rattle.um_statements.specs.CallRules.{first_fault, fault_of, rules_of, has_row, has_set, last_has, with_statement}
use Rattle.um_statements.specs.Tells.{wants_weight}
use Rattle.um_made.specs.declared.parts.SetPart.{SetPart}
use Rattle.um_maker.specs.NamedLists.{place_of, with_item}
use Rattle.um_made.specs.Views.{set_said}
use Rattle.um_maker.specs.Makers.{weight_rules}
use Rattle.um_maker.proofs.SeenItems.{behind, last_changed, last_same}
use Rattle.um_maker.proofs.SideSteps.{is_none_of}
use Rattle.um_maker.proofs.ObjectivePlaces.{position_step}

-- ---- a set

abbrev is_unknown : Said → Option Name → Bool
is_unknown said reference = option_map_or (λ row. not (has_row said row)) reference false

pub unknown_reference : (said : Said) (kind : SetKind) (name : Name) (reference : Option Name) → is_unknown said reference ≡ true → fault_of said (Set kind name reference) ≡ Some UnknownRow
unfolding rules_of
unknown_reference said kind name reference unknown = rw unknown

pub twice_set : (said : Said) (kind : SetKind) (name : Name) (reference : Option Name) → is_unknown said reference ≡ false → has_set said name ≡ true → fault_of said (Set kind name reference) ≡ Some TwiceSet
unfolding rules_of
twice_set said kind name reference known twice = rw (known, twice)

pub many_sets : (said : Said) (kind : SetKind) (name : Name) (reference : Option Name) → is_unknown said reference ≡ false → has_set said name ≡ false → nat_le 256 (length said.sets) ≡ true
    → fault_of said (Set kind name reference) ≡ Some TooMany
unfolding rules_of
many_sets said kind name reference known new full = rw (known, new, full)

pub set_allowed : (said : Said) (kind : SetKind) (name : Name) (reference : Option Name) → is_unknown said reference ≡ false → has_set said name ≡ false → nat_le 256 (length said.sets) ≡ false
    → fault_of said (Set kind name reference) ≡ None
unfolding rules_of
set_allowed said kind name reference known new room = rw (known, new, room)

-- the name is that of an item
pub named_set : (items : List (Name × SetPart)) (name : Name) → list_any (λ (s : SetSaid). bytes_eq name s.name) (map set_said items) ≡ is_some (place_of items name)
named_set [] name = refl
named_set (e ∷ items) name = by (bytes_eq name e.0) (named_set items name) ∙ ap is_some (sym (position_step (bytes_eq name) e.0 (map (λ (p : Name × SetPart). p.0) items)))
  where
    some_next : (o : Option ℕ) → is_some (option_map suc o) ≡ is_some o
    some_next None = refl
    some_next (Some i) = refl

    by : (b : Bool) → list_any (λ (s : SetSaid). bytes_eq name s.name) (map set_said items) ≡ is_some (place_of items name)
        → (b || list_any (λ (s : SetSaid). bytes_eq name s.name) (map set_said items)) ≡ is_some (if b then Some 0 else option_map suc (place_of items name))
    by true more = refl
    by false more = more ∙ sym (some_next (place_of items name))

pub new_place : (items : List (Name × SetPart)) (name : Name) (said : Said) → said.sets ≡ map set_said items → has_set said name ≡ false → place_of items name ≡ None
new_place items name said same new = is_none_of (place_of items name) (sym (named_set items name) ∙ (ap (λ (sets : List SetSaid). list_any (λ (s : SetSaid). bytes_eq name s.name) sets) (sym same) ∙ new))

pub set_pushed : (said : Said) (kind : SetKind) (name : Name) (reference : Option Name) (items pushed : List (Name × SetPart)) (part : SetPart) → said.sets ≡ map set_said items
    → set_said (name, part) ≡ record { name = name; kind = kind; reference = option_and_then (row_place said.rows) reference; members = [] }
    → pushed ≡ items ++ (name, part) ∷ [] → record said { sets = map set_said pushed } ≡ with_statement (Set kind name reference) said
unfolding with_statement
set_pushed said kind name reference items pushed part same bare new = rw (new, map_push, same, bare) refl

-- ---- a member

pub unknown_column : (said : Said) (column : Name) (weight : Option Decimal) → column_place said.columns column ≡ None → fault_of said (MemberTold column weight) ≡ Some UnknownColumn
unfolding rules_of
unknown_column said column weight none = rw none

abbrev has_at : ℕ → List SetSaid → Bool
has_at place sets = last_has (λ (s : SetSaid). list_any (λ (m : MemberPart). nat_eq place m.column) s.members) sets

pub twice_member : (said : Said) (column : Name) (weight : Option Decimal) (place : ℕ) → column_place said.columns column ≡ Some place → has_at place said.sets ≡ true
    → fault_of said (MemberTold column weight) ≡ Some TwiceMember
unfolding rules_of
twice_member said column weight place at twice = rw (at, twice)

-- the rules of a new member of a known column are those on its weight
pub new_member : (said : Said) (column : Name) (weight : Option Decimal) (place : ℕ) → column_place said.columns column ≡ Some place → has_at place said.sets ≡ false
    → fault_of said (MemberTold column weight) ≡ first_fault (weight_rules weight)
unfolding rules_of
new_member said column weight place at new = rw (at, new) refl

member_pushed : (said : Said) (column : Name) (weight : Option Decimal) (place : ℕ) (items : List (Name × SetPart)) (part changed : SetPart) → said.sets ≡ map set_said items
    → column_place said.columns column ≡ Some place
    → slice_get (map (λ (e : Name × SetPart). e.1) items) (length items - 1) ≡ Some part
    → changed.kind ≡ part.kind → changed.reference ≡ part.reference → changed.members.items ≡ part.members.items ++ record { column = place; weight = option_map (λ v. times_ten v 6) weight } ∷ []
    → record said { sets = map set_said (with_item items (length items - 1) changed) } ≡ with_statement (MemberTold column weight) said
unfolding with_statement
member_pushed said column weight place items part changed same at last kind reference members =
    rw (at, same) (ap (λ sets. record said { sets = sets }) (last_changed set_said _ items part changed last (λ name. rw (kind, reference, members) refl)))

-- the same, as a maker's call leaves it
pub member_told : (said : Said) (column : Name) (weight : Option Decimal) (place : ℕ) (items : List (Name × SetPart)) (k : ℕ) (part changed : SetPart) → said.sets ≡ map set_said items
    → column_place said.columns column ≡ Some place → k ≡ length items
    → slice_get (map (λ (e : Name × SetPart). e.1) items) (k - 1) ≡ Some part
    → changed.kind ≡ part.kind → changed.reference ≡ part.reference → changed.members.items ≡ part.members.items ++ record { column = place; weight = option_map (λ v. times_ten v 6) weight } ∷ []
    → record said { sets = map set_said (with_item items (k - 1) changed) } ≡ with_statement (MemberTold column weight) said
member_told said column weight place items k part changed same at long last kind reference members =
    rw long (member_pushed said column weight place items part changed same at (rw (← long) last) kind reference members)

pub member_refused : (items : List (Name × SetPart)) (k : ℕ) (part changed : SetPart) → k ≡ length items
    → slice_get (map (λ (e : Name × SetPart). e.1) items) (k - 1) ≡ Some part → changed ≡ part → map set_said (with_item items (k - 1) changed) ≡ map set_said items
member_refused items k part changed long last same = rw (long, same) (ap (map set_said) (last_same items part (rw (← long) last)))

-- whether weights are wanted hangs on the last set
pub wants_last : (items : List (Name × SetPart)) (part : SetPart) → Some part ≡ option_map (λ (e : Name × SetPart). e.1) (slice_get items (length items - 1))
    → Some (is_none part.reference) ≡ option_map (λ (s : SetSaid). is_none s.reference) (last_or None (map set_said items))
wants_last [] part last = cc
wants_last (e ∷ []) part last = let same : part ≡ e.1 = cc in ap (λ (p : SetPart). Some (is_none p.reference)) same
wants_last (e ∷ (f ∷ items)) part last = wants_last (f ∷ items) part (last ∙ ap (λ k. option_map (λ (p : Name × SetPart). p.1) (slice_get (e ∷ (f ∷ items)) k)) (behind e f items))

pub wants_none : (items : List (Name × SetPart)) → None ≡ option_map (λ (e : Name × SetPart). e.1) (slice_get items (length items - 1))
    → None ≡ option_map (λ (s : SetSaid). is_none s.reference) (last_or None (map set_said items))
wants_none [] none = refl
wants_none (e ∷ []) none = cc
wants_none (e ∷ (f ∷ items)) none = wants_none (f ∷ items) (none ∙ ap (λ k. option_map (λ (p : Name × SetPart). p.1) (slice_get (e ∷ (f ∷ items)) k)) (behind e f items))

pub none_is : (o : Option ℕ) (b : Bool) → is_some o ≡ not b → b ≡ is_none o
none_is None true is = refl
none_is None false is = absurd (true≢false (sym is))
none_is (Some i) true is = absurd (true≢false is)
none_is (Some i) false is = refl

-- where a weight is wanted or not, a set was made
pub some_set : (said : Said) (b : Bool) → wants_weight said ≡ Some b → 0 < length said.sets
some_set said b wants = by said.sets wants
  where
    by : (sets : List SetSaid) → wants_weight (record said { sets = sets }) ≡ Some b → 0 < length sets
    by [] wants = cc
    by (s ∷ sets) wants = omega arith
