-- Which rows and columns the entries, members and arcs of a deck name.
use Rattle.std.proofs.Common.{◌≡◌, ℕ, ◌<◌, List, [], length, map, get_or, subst, sym, ap, ◌∙◌, arith}
use Rattle.std.specs.Prelude.{All}
use Rattle.std.proofs.lemmas.List.{get_or-map, length-map}
use Rattle.um_model.specs.Values.{DeckValue, ColumnValue, plain_column, plain_set}
use Rattle.um_model.specs.WellFormed.{IsDeck, IsColumn, IsSet}
use Rattle.um_model.specs.declared.deck.Column.{Column}
use Rattle.um_model.specs.declared.deck.OrderedSet.{OrderedSet}
use Rattle.um_deck.proofs.ListParts.{All-of_map}
use Rattle.um_make.specs.NormalLines.{column_name}
use Rattle.um_make.specs.Places.{NameColumns, NameRows}

pub entries_known : (d : DeckValue) (cs : List Column) → IsDeck d → map plain_column cs ≡ d.columns → All (λ (c : Column). NameRows (length d.rows) c.entries.items) cs
entries_known d cs h is =
    let columns = All-of_map (IsColumn (length d.rows)) plain_column cs (subst (All (IsColumn (length d.rows))) (sym is) h.columns) in
    λ k c inside. λ i e within. ((columns k c inside).entries i e within).row

pub members_known : (d : DeckValue) (cs : List Column) (ss : List OrderedSet) → IsDeck d → map plain_column cs ≡ d.columns → map plain_set ss ≡ d.sets → All (λ (s : OrderedSet). NameColumns (length cs) s.members.items) ss
members_known d cs ss h columns_are sets_are =
    let sets = All-of_map (IsSet d) plain_set ss (subst (All (IsSet d)) (sym sets_are) h.sets) in
    let long : length d.columns ≡ length cs = ap length (sym columns_are) ∙ length-map cs plain_column in
    λ k s inside. λ i m within. omega (arith, long, ((sets k s inside).members i m within).column)

-- the name of the column at a place
pub name_at : (cs : List Column) (j : ℕ) (c : Column) → j < length cs → (get_or cs j c).name ≡ column_name (map plain_column cs) j
name_at cs j c h =
    let within : j < length (map plain_column cs) = omega (arith, h, length-map cs plain_column) in
    ap (λ (x : ColumnValue). x.name) (sym (get_or-map plain_column cs j c (plain_column c) h))
    ∙ sym (get_or-map (λ (x : ColumnValue). x.name) (map plain_column cs) j (plain_column c) [] within)
