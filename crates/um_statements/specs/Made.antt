-- The deck of what was said.
use Rattle.std.specs.Prelude.{ℕ, ℤ, pos, ◌+ℤ◌, ◌-ℤ◌, neg_ℤ, unsigned_abs, int_lt, Bool, not, nat_eq, if◌then◌else◌, List, [], ◌∷◌, ◌++◌, map, Option, Some, None, option_map, unwrap_or, slice_get}
use Rattle.std.specs.List.{filter_map, filter, find, enumerate_from}
use Rattle.std.specs.Option.{option_and_then, option_map_or}
use Rattle.um_num.specs.declared.decimal.Decimal.{Decimal}
use Rattle.um_model.specs.Values.{DeckValue, ColumnValue, SetValue}
use Rattle.um_model.specs.declared.deck.Row.{Row}
use Rattle.um_model.specs.declared.deck.Entry.{Entry}
use Rattle.um_model.specs.declared.deck.Kind.{Kind}
use Rattle.um_model.specs.declared.deck.Kind.TheVariants.{Continuous, Integer, Semi}
use Rattle.um_model.specs.declared.deck.Member.{Member}
use Rattle.um_model.specs.declared.deck.Arc.{Arc}
use Rattle.um_statements.specs.declared.parts.RowKind.{RowKind}
use Rattle.um_statements.specs.declared.parts.RowKind.TheVariants.{N, L, G, E}
use Rattle.um_statements.specs.declared.parts.End.{End}
use Rattle.um_statements.specs.declared.parts.End.TheVariants.{Infinite, Finite}
use Rattle.um_statements.specs.declared.parts.Ends.{Ends}
use Rattle.um_statements.specs.declared.parts.EntryPart.{EntryPart}
use Rattle.um_statements.specs.declared.parts.MemberPart.{MemberPart}
use Rattle.um_statements.specs.declared.parts.ArcPart.{ArcPart}
use Rattle.um_statements.specs.Said.{Said, RowSaid, ColumnSaid, SetSaid}
use Rattle.um_statements.specs.Scaled.{times_ten, least_scale}
use Rattle.um_statements.specs.CallRules.{is_n, is_zero}

-- ---- numbers

abbrev pub nothing : Decimal
nothing = record { digits = pos 0; power = pos 0 }

-- costs and what goes with them are kept as for minimising
abbrev pub for_minimising : Bool → ℤ → ℤ
for_minimising maximise z = if maximise then neg_ℤ z else z

abbrev pub size : ℤ → ℤ
size z = pos (unsigned_abs z)

-- ---- rows

-- what a column has in the row at this place, if it has something there
abbrev pub entry_in : ℕ → ColumnSaid → Option Decimal
entry_in row c = option_map (λ (e : EntryPart). e.value) (find (λ (e : EntryPart). nat_eq e.row row) c.entries)

abbrev pub coefficients : Said → ℕ → List Decimal
coefficients said row = filter_map (entry_in row) said.columns

abbrev pub arcs_in : Said → ℕ → List Decimal
arcs_in said row = filter_map (λ (a : ArcPart). if nat_eq a.row row then Some a.value else None) said.arcs

-- the right-hand side and the range; the range of an N row takes no part
abbrev pub numbers_beside : RowSaid → List Decimal
numbers_beside r = unwrap_or r.side nothing ∷ (if is_n r.kind then [] else unwrap_or r.range nothing ∷ [])

-- The least scale that makes every number of the row whole. A side is its right-hand side, or differs from it by the range.
abbrev pub row_scale : Said → ℕ → RowSaid → ℕ
row_scale said row r = least_scale (coefficients said row ++ (arcs_in said row ++ numbers_beside r))

-- the low side and the high side of a right-hand side and a range, both scaled
abbrev pub low_side : RowKind → ℤ → Option ℤ → Option ℤ
low_side N b range = None
low_side L b range = option_map (λ r. b -ℤ size r) range
low_side G b range = Some b
low_side E b range = Some (option_map_or (λ r. if int_lt r (pos 0) then b +ℤ r else b) range b)

abbrev pub high_side : RowKind → ℤ → Option ℤ → Option ℤ
high_side N b range = None
high_side L b range = Some b
high_side G b range = option_map (λ r. b +ℤ size r) range
high_side E b range = Some (option_map_or (λ r. if int_lt r (pos 0) then b else b +ℤ r) range b)

abbrev pub side_at : RowSaid → ℕ → ℤ
side_at r scale = times_ten (unwrap_or r.side nothing) scale

abbrev pub range_at : RowSaid → ℕ → Option ℤ
range_at r scale = option_map (λ v. times_ten v scale) r.range

abbrev pub row_made : Said → ℕ × RowSaid → Row
row_made said p =
    let scale = row_scale said p.0 p.1 in
    record {
      name = p.1.name;
      scale = scale;
      low = low_side p.1.kind (side_at p.1 scale) (range_at p.1 scale);
      high = high_side p.1.kind (side_at p.1 scale) (range_at p.1 scale);
    }

-- the sided rows: those that are not N, with two sides at most, each with its place among all rows
abbrev pub sided_rows : Said → List (ℕ × RowSaid)
sided_rows said = filter (λ (p : ℕ × RowSaid). not (is_n p.1.kind)) (enumerate_from 0 said.rows)

-- ---- the objective

-- the first N row
abbrev pub objective : Said → Option (ℕ × RowSaid)
objective said = find (λ (p : ℕ × RowSaid). is_n p.1.kind) (enumerate_from 0 said.rows)

-- a number of the objective; 0 where there is no objective
abbrev pub of_objective : {A : Type 0} → Said → (ℕ → RowSaid → A) → A → A
of_objective said f other = option_map_or (λ (p : ℕ × RowSaid). f p.0 p.1) (objective said) other

abbrev pub objective_scale : Said → ℕ
objective_scale said = of_objective said (row_scale said) 0

-- ---- columns

abbrev pub finite : End → Option ℤ
finite Infinite = None
finite (Finite z) = Some z

-- the low end: 0 where no bound set it, but infinite where a high end was put below 0
abbrev pub low_end : Ends → Option ℤ
low_end ends =
    if ends.semi then Some (pos 0)
    else option_map_or finite ends.low (if ends.falls then None else Some (pos 0))

abbrev pub high_end : Ends → Option ℤ
high_end ends = option_map_or finite ends.high None

-- the threshold of a semicontinuous column; none where it is minus infinity
abbrev pub threshold : Ends → Option ℤ
threshold ends = option_map_or finite ends.threshold (Some (pos 0))

abbrev pub kind_of : Ends → Kind
kind_of ends = if ends.semi then Semi (unwrap_or (threshold ends) (pos 0)) else if ends.integer then Integer else Continuous

-- what the column has in the k-th row of the deck, scaled; 0 is not kept
abbrev pub entry_made : Said → ColumnSaid → ℕ × (ℕ × RowSaid) → Option Entry
entry_made said c p = option_and_then (λ v. if is_zero v then None else Some (record { row = p.0; value = times_ten v (row_scale said p.1.0 p.1.1) })) (entry_in p.1.0 c)

abbrev pub column_made : Said → ColumnSaid → ColumnValue
column_made said c = record {
  name = c.name;
  kind = kind_of c.ends;
  low = low_end c.ends;
  high = high_end c.ends;
  cost = for_minimising said.maximise (of_objective said (λ place r. times_ten (unwrap_or (entry_in place c) nothing) (objective_scale said)) (pos 0));
  entries = filter_map (entry_made said c) (enumerate_from 0 (sided_rows said));
}

-- ---- sets

-- the weight of a member in millionths: its own, or what its column has in the set's reference row
abbrev pub weight_of : Said → SetSaid → MemberPart → ℤ
weight_of said s m = option_map_or (λ place. times_ten (unwrap_or (option_and_then (entry_in place) (slice_get said.columns m.column)) nothing) 6) s.reference (unwrap_or m.weight (pos 0))

-- a member before the first of a greater weight
abbrev pub put_by_weight : Member → List Member → List Member
put_by_weight m [] = m ∷ []
put_by_weight m (x ∷ xs) = if int_lt m.weight x.weight then m ∷ x ∷ xs else x ∷ put_by_weight m xs

abbrev pub by_weight : List Member → List Member
by_weight [] = []
by_weight (m ∷ ms) = put_by_weight m (by_weight ms)

abbrev pub members_of : Said → SetSaid → List Member
members_of said s = map (λ (m : MemberPart). record { column = m.column; weight = weight_of said s m }) s.members

abbrev pub set_made : Said → SetSaid → SetValue
set_made said s = record { name = s.name; kind = s.kind; members = by_weight (members_of said s) }

-- ---- arcs

-- an arc of the objective; a zero arc is not kept
abbrev pub arc_made : Said → ArcPart → Option Arc
arc_made said a = if is_zero a.value then None else Some (record { row = None; column = a.column; value = for_minimising said.maximise (times_ten a.value (objective_scale said)) })

-- ---- all

unfoldable pub deck_value : Said → DeckValue
deck_value said = record {
  name = said.name;
  objective_name = of_objective said (λ place r. r.name) [];
  maximise = said.maximise;
  scale = objective_scale said;
  constant = for_minimising said.maximise (neg_ℤ (of_objective said (λ place r. side_at r (objective_scale said)) (pos 0)));
  rows = map (row_made said) (sided_rows said);
  columns = map (column_made said) said.columns;
  sets = map (set_made said) said.sets;
  arcs = filter_map (arc_made said) said.arcs;
}
