-- Parts of a deck that take their names are the parts of the deck that was said.
use Rattle.std.proofs.Common.{◌≡◌, ℕ, ◌+◌, Bool, true, false, not, cond, ◌<◌, List, [], ◌∷◌, ◌++◌, map, length, get_or, drop, refl, sym, ap, ◌∙◌}
use Rattle.um_num.specs.Listed.{Listed}
use Rattle.um_model.specs.Values.{ColumnValue, SetValue}
use Rattle.um_model.specs.declared.deck.Row.{Row}
use Rattle.um_model.specs.declared.deck.Member.{Member}
use Rattle.um_statements.specs.Statements.{Name}
use Rattle.um_statements.specs.Said.{Said, ColumnSaid, SetSaid}
use Rattle.um_statements.specs.CallRules.{is_n}
use Rattle.um_statements.specs.Made.{row_made, column_made, set_made, by_weight, members_of}
use Rattle.um_made.specs.declared.parts.RowPart.{RowPart}
use Rattle.um_made.specs.declared.parts.ColumnPart.{ColumnPart}
use Rattle.um_made.specs.declared.parts.SetPart.{SetPart}
use Rattle.um_made.specs.declared.rows.SidedRow.{SidedRow}
use Rattle.um_made.specs.declared.columns.ColumnLeft.{ColumnLeft}
use Rattle.um_made.specs.Views.{row_said, column_said, set_said}
use Rattle.um_made.specs.RowWords.{sided_row}
use Rattle.um_made.specs.ColumnWords.{IsColumnLeft, AreColumnsLeft, named_column}
use Rattle.um_made.specs.SetWords.{AreMembersOf}
use Rattle.um_made.specs.NamedWords.{named_row, named_rows, named_columns, named_sets}
use Rattle.um_made.proofs.RowSteps.{sided_from}
use Rattle.um_made.proofs.Walks.{rest_more, made_one}

-- ---- rows

pub no_rows_left : (rows : List (Name × RowPart)) → named_rows rows [] ≡ []
no_rows_left [] = refl
no_rows_left (e ∷ rows) = refl

pub skip_row : (e : Name × RowPart) (rows : List (Name × RowPart)) (left : List SidedRow) → is_n e.1.kind ≡ true → named_rows (e ∷ rows) left ≡ named_rows rows left
skip_row e rows [] is = sym (no_rows_left rows)
skip_row e rows (r ∷ left) is = rw is refl

pub take_row : (e : Name × RowPart) (rows : List (Name × RowPart)) (r : SidedRow) (left : List SidedRow) → is_n e.1.kind ≡ false → named_rows (e ∷ rows) (r ∷ left) ≡ named_row e.0 r ∷ named_rows rows left
take_row e rows r left is = rw is refl

pub rows_named : (said : Said) (n : ℕ) (rows : List (Name × RowPart)) → named_rows rows (map (sided_row said) (sided_from n (map row_said rows))) ≡ map (row_made said) (sided_from n (map row_said rows))
rows_named said n [] = refl
rows_named said n (e ∷ rows) = by (is_n e.1.kind) refl (rows_named said (n + 1) rows)
  where
    by : (b : Bool) → is_n e.1.kind ≡ b → named_rows rows (map (sided_row said) (sided_from (n + 1) (map row_said rows))) ≡ map (row_made said) (sided_from (n + 1) (map row_said rows))
        → named_rows (e ∷ rows) (map (sided_row said) (cond (not b) ((n, row_said e) ∷ sided_from (n + 1) (map row_said rows)) (sided_from (n + 1) (map row_said rows))))
        ≡ map (row_made said) (cond (not b) ((n, row_said e) ∷ sided_from (n + 1) (map row_said rows)) (sided_from (n + 1) (map row_said rows)))
    by true is more = skip_row e rows (map (sided_row said) (sided_from (n + 1) (map row_said rows))) is ∙ more
    by false is more = take_row e rows (sided_row said (n, row_said e)) (map (sided_row said) (sided_from (n + 1) (map row_said rows))) is ∙ ap (λ (rs : List Row). row_made said (n, row_said e) ∷ rs) more

-- ---- columns

column_named : (said : Said) (e : Name × ColumnPart) (x : ColumnLeft) → IsColumnLeft said (column_said e) x → named_column e.0 x ≡ column_made said (column_said e)
column_named said e x h = λ i. record { name = e.0; kind = h.kind_is i; low = h.low_is i; high = h.high_is i; cost = h.cost_is i; entries = h.entries_are i }

pub columns_named : (said : Said) (columns : List (Name × ColumnPart)) (left : List ColumnLeft) → AreColumnsLeft said (map column_said columns) left → named_columns columns left ≡ map (column_made said) (map column_said columns)
columns_named said [] [] h = refl
columns_named said [] (x ∷ left) h = absurd h
columns_named said (e ∷ columns) [] h = absurd h
columns_named said (e ∷ columns) (x ∷ left) h =
    ap (λ (v : ColumnValue). v ∷ named_columns columns left) (column_named said e x h.0) ∙ ap (λ (vs : List ColumnValue). column_made said (column_said e) ∷ vs) (columns_named said columns left h.1)

-- one column more
pub left_push : (said : Said) (cs : List ColumnSaid) (left : List ColumnLeft) (c : ColumnSaid) (x : ColumnLeft) → AreColumnsLeft said cs left → IsColumnLeft said c x → AreColumnsLeft said (cs ++ c ∷ []) (left ++ x ∷ [])
left_push said [] [] c x h one = (one, tt)
left_push said [] (y ∷ left) c x h one = absurd h
left_push said (b ∷ cs) [] c x h one = absurd h
left_push said (b ∷ cs) (y ∷ left) c x h one = (h.0, left_push said cs left c x h.1 one)

-- ---- sets

pub sets_named : (said : Said) (sets : List (Name × SetPart)) (left : List (Listed Member)) → AreMembersOf said (map set_said sets) left → named_sets sets left ≡ map (set_made said) (map set_said sets)
sets_named said [] [] h = refl
sets_named said [] (m ∷ left) h = cc
sets_named said (e ∷ sets) [] h = cc
sets_named said (e ∷ sets) (m ∷ left) h =
    let first : m.items ≡ by_weight (members_of said (set_said e)) = cc in
    let rest : map (λ (l : Listed Member). l.items) left ≡ map (λ (s : SetSaid). by_weight (members_of said s)) (map set_said sets) = cc in
    ap (λ (ms : List Member). record { name = e.0; kind = e.1.kind; members = ms } ∷ named_sets sets left) first ∙ ap (λ (vs : List SetValue). set_made said (set_said e) ∷ vs) (sets_named said sets left rest)

-- ---- walks over the names

abbrev named_set : Name × SetPart → Listed Member → SetValue
named_set e x = record { name = e.0; kind = e.1.kind; members = x.items }

module _ (made all : List Row) (old : List (Name × RowPart)) (e : Name × RowPart) (rest : List (Name × RowPart)) (is : old ≡ e ∷ rest) where
  pub rows_skip : (left : List SidedRow) → is_n e.1.kind ≡ true → made ++ named_rows old left ≡ all → made ++ named_rows rest left ≡ all
  rows_skip left other h = sym (ap (λ (zs : List Row). made ++ zs) (ap (λ (es : List (Name × RowPart)). named_rows es left) is ∙ skip_row e rest left other)) ∙ h

  pub rows_past : (left : List SidedRow) → left ≡ [] → made ++ named_rows old left ≡ all → made ++ named_rows rest left ≡ all
  rows_past left none h =
      ap (λ (zs : List Row). made ++ zs) (ap (named_rows rest) none ∙ (no_rows_left rest ∙ sym (ap (named_rows old) none ∙ no_rows_left old))) ∙ h

  pub rows_take : (left : List SidedRow) (i : ℕ) (d : SidedRow) → i < length left → is_n e.1.kind ≡ false → (y : Row) → y ≡ named_row e.0 (get_or left i d)
      → made ++ named_rows old (drop i left) ≡ all → (made ++ y ∷ []) ++ named_rows rest (drop (i + 1) left) ≡ all
  rows_take left i d within sided y same h =
      made_one made y (named_row e.0 (get_or left i d)) (named_rows rest (drop (i + 1) left)) all same
      (sym (ap (λ (zs : List Row). made ++ zs)
      (ap (λ (es : List (Name × RowPart)). named_rows es (drop i left)) is ∙ (ap (named_rows (e ∷ rest)) (rest_more left i d within) ∙ take_row e rest (get_or left i d) (drop (i + 1) left) sided))) ∙ h)

no_columns_left : (columns : List (Name × ColumnPart)) → named_columns columns [] ≡ []
no_columns_left [] = refl
no_columns_left (e ∷ columns) = refl

no_sets_left : (sets : List (Name × SetPart)) → named_sets sets [] ≡ []
no_sets_left [] = refl
no_sets_left (e ∷ sets) = refl

module _ (made all : List ColumnValue) (old : List (Name × ColumnPart)) (e : Name × ColumnPart) (rest : List (Name × ColumnPart)) (is : old ≡ e ∷ rest) where
  pub columns_past : (before after : List ColumnLeft) → before ≡ [] → after ≡ [] → made ++ named_columns old before ≡ all → made ++ named_columns rest after ≡ all
  columns_past before after none still h =
      ap (λ (zs : List ColumnValue). made ++ zs) (ap (named_columns rest) still ∙ (no_columns_left rest ∙ sym (ap (named_columns old) none ∙ no_columns_left old))) ∙ h

  pub columns_take : (before : List ColumnLeft) (x : ColumnLeft) (after : List ColumnLeft) → before ≡ x ∷ after → (y : ColumnValue) → y ≡ named_column e.0 x
      → made ++ named_columns old before ≡ all → (made ++ y ∷ []) ++ named_columns rest after ≡ all
  columns_take before x after there y same h =
      made_one made y (named_column e.0 x) (named_columns rest after) all same
      (sym (ap (λ (zs : List ColumnValue). made ++ zs) (ap (λ (es : List (Name × ColumnPart)). named_columns es before) is ∙ ap (named_columns (e ∷ rest)) there)) ∙ h)

module _ (made all : List SetValue) (old : List (Name × SetPart)) (e : Name × SetPart) (rest : List (Name × SetPart)) (is : old ≡ e ∷ rest) where
  pub sets_past : (before after : List (Listed Member)) → before ≡ [] → after ≡ [] → made ++ named_sets old before ≡ all → made ++ named_sets rest after ≡ all
  sets_past before after none still h =
      ap (λ (zs : List SetValue). made ++ zs) (ap (named_sets rest) still ∙ (no_sets_left rest ∙ sym (ap (named_sets old) none ∙ no_sets_left old))) ∙ h

  pub sets_take : (before : List (Listed Member)) (x : Listed Member) (after : List (Listed Member)) → before ≡ x ∷ after → made ++ named_sets old before ≡ all
      → (made ++ record { name = e.0; kind = e.1.kind; members = x.items } ∷ []) ++ named_sets rest after ≡ all
  sets_take before x after there h =
      made_one made (named_set e x) (named_set e x) (named_sets rest after) all refl
      (sym (ap (λ (zs : List SetValue). made ++ zs) (ap (λ (es : List (Name × SetPart)). named_sets es before) is ∙ ap (named_sets (e ∷ rest)) there)) ∙ h)
