-- Walks over the rows and the columns.
use Rattle.std.proofs.Common.{◌≡◌, ℕ, ◌+◌, ◌<◌, Bool, true, false, not, cond, List, [], ◌∷◌, ◌++◌, map, flat_map, length, get_or, drop, Option, None, Some, find, filter, refl, sym, ap, ◌∙◌}
use Rattle.std.specs.List.{enumerate_from}
use Rattle.um_statements.specs.declared.fault.Fault.{Fault}
use Rattle.um_statements.specs.Statements.{Name}
use Rattle.um_statements.specs.Said.{Said, RowSaid}
use Rattle.um_statements.specs.CallRules.{is_n, first_fault, has_kept_arc}
use Rattle.um_statements.specs.DeckRules.{row_rules, column_rules, is_member}
use Rattle.um_made.specs.declared.parts.RowPart.{RowPart}
use Rattle.um_made.specs.declared.parts.ColumnPart.{ColumnPart}
use Rattle.um_made.specs.Views.{row_said, column_said}
use Rattle.um_made.specs.declared.rows.SidedRow.{SidedRow}
use Rattle.um_made.specs.RowWords.{sided_row}
use Rattle.um_made.specs.ColumnWords.{rules_of_column}
use Rattle.um_made.proofs.Walks.{mapped_rest, first_of_both, first_of_first, made_one}

-- the first N row of these, counted from a place
abbrev pub objective_from : ℕ → List RowSaid → Option (ℕ × RowSaid)
objective_from n rows = find (λ (p : ℕ × RowSaid). is_n p.1.kind) (enumerate_from n rows)

-- the rows of these that are not N, counted from a place
abbrev pub sided_from : ℕ → List RowSaid → List (ℕ × RowSaid)
sided_from n rows = filter (λ (p : ℕ × RowSaid). not (is_n p.1.kind)) (enumerate_from n rows)

module _ (rows : List (Name × RowPart)) (i : ℕ) (x : Name × RowPart) (within : i < length rows) (is : x ≡ get_or rows i x) where
  row_left : map row_said (drop i rows) ≡ row_said x ∷ map row_said (drop (i + 1) rows)
  row_left = mapped_rest row_said rows i x within ∙ ap (λ (y : Name × RowPart). row_said y ∷ map row_said (drop (i + 1) rows)) (sym is)

  pub objective_here : is_n x.1.kind ≡ true → objective_from i (map row_said (drop i rows)) ≡ Some (i, row_said x)
  objective_here h = ap (objective_from i) row_left ∙ ap (λ b. cond b (Some (i, row_said x)) (objective_from (i + 1) (map row_said (drop (i + 1) rows)))) h

  pub objective_later : is_n x.1.kind ≡ false → objective_from i (map row_said (drop i rows)) ≡ objective_from (i + 1) (map row_said (drop (i + 1) rows))
  objective_later h = ap (objective_from i) row_left ∙ ap (λ b. cond b (Some (i, row_said x)) (objective_from (i + 1) (map row_said (drop (i + 1) rows)))) h

  pub sided_here : is_n x.1.kind ≡ false → sided_from i (map row_said (drop i rows)) ≡ (i, row_said x) ∷ sided_from (i + 1) (map row_said (drop (i + 1) rows))
  sided_here h =
      ap (sided_from i) row_left
      ∙ ap (λ b. cond (not b) ((i, row_said x) ∷ sided_from (i + 1) (map row_said (drop (i + 1) rows))) (sided_from (i + 1) (map row_said (drop (i + 1) rows)))) h

  pub sided_later : is_n x.1.kind ≡ true → sided_from i (map row_said (drop i rows)) ≡ sided_from (i + 1) (map row_said (drop (i + 1) rows))
  sided_later h =
      ap (sided_from i) row_left
      ∙ ap (λ b. cond (not b) ((i, row_said x) ∷ sided_from (i + 1) (map row_said (drop (i + 1) rows))) (sided_from (i + 1) (map row_said (drop (i + 1) rows)))) h

-- ---- columns

module _ (said : Said) (columns : List (Name × ColumnPart)) (j : ℕ) (x : Name × ColumnPart) (within : j < length columns) (is : x ≡ get_or columns j x) where
  column_left : enumerate_from j (map column_said (drop j columns)) ≡ (j, column_said x) ∷ enumerate_from (j + 1) (map column_said (drop (j + 1) columns))
  column_left =
      ap (enumerate_from j) (mapped_rest column_said columns j x within)
      ∙ ap (λ (y : Name × ColumnPart). (j, column_said y) ∷ enumerate_from (j + 1) (map column_said (drop (j + 1) columns))) (sym is)

  pub column_later : first_fault (column_rules said (j, column_said x)) ≡ None
      → first_fault (flat_map (column_rules said) (enumerate_from j (map column_said (drop j columns)))) ≡ first_fault (flat_map (column_rules said) (enumerate_from (j + 1) (map column_said (drop (j + 1) columns))))
  column_later fine =
      ap (λ ps. first_fault (flat_map (column_rules said) ps)) column_left
      ∙ first_of_both (column_rules said (j, column_said x)) (flat_map (column_rules said) (enumerate_from (j + 1) (map column_said (drop (j + 1) columns)))) fine

  pub column_here : (f : Fault) → first_fault (column_rules said (j, column_said x)) ≡ Some f → first_fault (flat_map (column_rules said) (enumerate_from j (map column_said (drop j columns)))) ≡ Some f
  column_here f broken =
      ap (λ ps. first_fault (flat_map (column_rules said) ps)) column_left
      ∙ first_of_first (column_rules said (j, column_said x)) (flat_map (column_rules said) (enumerate_from (j + 1) (map column_said (drop (j + 1) columns)))) f broken

-- the rules of a column with its marks are those of the deck
pub same_rules : (said : Said) (j : ℕ) (x : Name × ColumnPart) (member arc : Bool) → member ≡ is_member said j → arc ≡ has_kept_arc said j → first_fault (rules_of_column member arc x.1.ends) ≡ first_fault (column_rules said (j, column_said x))
same_rules said j x member arc m a = rw (m, a) refl

-- ---- rows that are not N

module _ (said : Said) (rows : List (Name × RowPart)) (i : ℕ) (x : Name × RowPart) (within : i < length rows) (is : x ≡ get_or rows i x) (sided : is_n x.1.kind ≡ false) where
  pub row_broken_here : (f : Fault) → first_fault (row_rules said (i, row_said x)) ≡ Some f → first_fault (flat_map (row_rules said) (sided_from i (map row_said (drop i rows)))) ≡ Some f
  row_broken_here f broken =
      ap (λ ps. first_fault (flat_map (row_rules said) ps)) (sided_here rows i x within is sided)
      ∙ first_of_first (row_rules said (i, row_said x)) (flat_map (row_rules said) (sided_from (i + 1) (map row_said (drop (i + 1) rows)))) f broken

  pub row_fine_here : first_fault (row_rules said (i, row_said x)) ≡ None
      → first_fault (flat_map (row_rules said) (sided_from i (map row_said (drop i rows)))) ≡ first_fault (flat_map (row_rules said) (sided_from (i + 1) (map row_said (drop (i + 1) rows))))
  row_fine_here fine =
      ap (λ ps. first_fault (flat_map (row_rules said) ps)) (sided_here rows i x within is sided)
      ∙ first_of_both (row_rules said (i, row_said x)) (flat_map (row_rules said) (sided_from (i + 1) (map row_said (drop (i + 1) rows)))) fine

  pub row_made_here : (made all : List SidedRow) (y : SidedRow) → y ≡ sided_row said (i, row_said x) → made ++ map (sided_row said) (sided_from i (map row_said (drop i rows))) ≡ all
      → (made ++ y ∷ []) ++ map (sided_row said) (sided_from (i + 1) (map row_said (drop (i + 1) rows))) ≡ all
  row_made_here made all y same h =
      made_one made y (sided_row said (i, row_said x)) (map (sided_row said) (sided_from (i + 1) (map row_said (drop (i + 1) rows)))) all same
      (sym (ap (λ ps. made ++ map (sided_row said) ps) (sided_here rows i x within is sided)) ∙ h)
