-- What was said keeps its form.
use Rattle.std.proofs.Common.{◌≡◌, ℕ, ◌<◌, ◌≤◌, List, [], ◌∷◌, ◌++◌, length, All, Option, None, Some, option_and_then, refl, sym, subst, arith}
use Rattle.std.specs.Option.{option_or}
use Rattle.std.proofs.lemmas.List.{length_push}
use Rattle.std.proofs.lemmas.List.Elements.{All-nil, All-head, All-tail}
use Rattle.um_statements.specs.declared.parts.ArcPart.{ArcPart}
use Rattle.um_statements.specs.Statements.{Name, Statement, Title, Sense, RowTold, Column, EntryTold, Side, Range, Bound, Set, MemberTold, ArcTold}
use Rattle.um_statements.specs.Said.{Said, RowSaid, ColumnSaid, nothing_said, collected, row_place, column_place}
use Rattle.um_statements.specs.CallRules.{fault_of, faults_in, rules_of, with_statement, with_all, objective_place, change_rows, change_columns, change_last, with_bound}
use Rattle.um_statements.specs.WellSaid.{HasNumbers, IsRowSaid, IsColumnSaid, IsSetSaid, IsArcSaid, AreColumns, AreSets, AreArcs, IsSaid}
use Rattle.um_statements.specs.Laws.{SaidLaw}
use Rattle.um_statements.proofs.CollectedSteps.{none_broken, two_fine, collected-law}
use Rattle.um_statements.proofs.ListFacts.{pairs_none}
use Rattle.um_statements.proofs.PushedLists.{length_last}
use Rattle.um_statements.proofs.KeptRows.{more_rows_columns, more_sets, more_arc_rows, rows_kept, changed_rows, changed_count, changed_objective, side_fine, range_fine}
use Rattle.um_statements.proofs.KeptColumns.{place_within, columns_kept, more_arc_columns, with_entry, entries_kept, bounded_count, bounds_kept}
use Rattle.um_statements.proofs.KeptSets.{sets_kept, members_kept, arcs_kept}

nothing_is : IsSaid nothing_said
nothing_is = record {
  row_part = record { names = pairs_none (λ (a : Name) (b : Name). a ≡ b → ⊥); count = omega arith; sided = omega arith; each = All-nil IsRowSaid };
  column_part = record { names = pairs_none (λ (a : Name) (b : Name). a ≡ b → ⊥); count = omega arith; each = All-nil (IsColumnSaid 0) };
  set_part = record { names = pairs_none (λ (a : Name) (b : Name). a ≡ b → ⊥); count = omega arith; each = All-nil (IsSetSaid 0 0) };
  arc_part = record { each = All-nil (IsArcSaid None 0); distinct = pairs_none (λ (a : ArcPart) (b : ArcPart). a.row ≡ b.row → a.column ≡ b.column → ⊥); count = omega arith };
}

-- the rows are others, of the same number and with the same objective
with_rows : (said : Said) (rows : List RowSaid) → length rows ≡ length said.rows → objective_place rows ≡ objective_place said.rows → IsSaid said
    → AreColumns (length rows) said.columns × AreSets (length rows) (length said.columns) said.sets × AreArcs (objective_place rows) (length said.columns) said.arcs
with_rows said rows long same is = (
  subst (λ n. AreColumns n said.columns) (sym long) is.column_part,
  subst (λ n. AreSets n (length said.columns) said.sets) (sym long) is.set_part,
  subst (λ (o : Option ℕ). AreArcs o (length said.columns) said.arcs) (sym same) is.arc_part,
)

-- the columns are others, of the same number
with_columns : (said : Said) (columns : List ColumnSaid) → length columns ≡ length said.columns → IsSaid said → AreSets (length said.rows) (length columns) said.sets × AreArcs (objective_place said.rows) (length columns) said.arcs
with_columns said columns long is = (
  subst (λ n. AreSets (length said.rows) n said.sets) (sym long) is.set_part,
  subst (λ n. AreArcs (objective_place said.rows) n said.arcs) (sym long) is.arc_part,
)

longer : {X : Type 0} (xs : List X) (x : X) → length xs ≤ length (xs ++ x ∷ [])
longer xs x = let push = length_push xs x in omega (arith, push)

reference_within : (rows : List RowSaid) (reference : Option Name) (row : ℕ) → option_and_then (row_place rows) reference ≡ Some row → row < length rows
reference_within rows None row at = cc
reference_within rows (Some name) row at = place_within (λ (r : RowSaid). r.name) rows name row at

pub said_next : (said : Said) (s : Statement) → HasNumbers s → fault_of said s ≡ None → IsSaid said → IsSaid (with_statement s said)
unfolding with_statement rules_of
said_next said (Title name) numbers fine is = record { row_part = is.row_part; column_part = is.column_part; set_part = is.set_part; arc_part = is.arc_part }
said_next said (Sense maximise) numbers fine is = record { row_part = is.row_part; column_part = is.column_part; set_part = is.set_part; arc_part = is.arc_part }
said_next said (RowTold kind name) numbers fine is =
    let rules = none_broken (rules_of said (RowTold kind name)) fine in
    let row : RowSaid = record { name = name; kind = kind; side = None; range = None } in
    record {
      row_part = rows_kept said.rows kind name rules.0 rules.1.0 is.row_part;
      column_part = more_rows_columns (length said.rows) (length (said.rows ++ row ∷ [])) said.columns (longer said.rows row) is.column_part;
      set_part = more_sets (length said.rows) (length (said.rows ++ row ∷ [])) (length said.columns) (length said.columns) said.sets (longer said.rows row) (omega arith) is.set_part;
      arc_part = more_arc_rows said.rows row (length said.columns) said.arcs is.arc_part;
    }
said_next said (Column name in_block) numbers fine is =
    let rules = none_broken (rules_of said (Column name in_block)) fine in
    let columns : List ColumnSaid = (with_statement (Column name in_block) said).columns in
    record {
      row_part = is.row_part;
      column_part = columns_kept (length said.rows) said.columns name in_block rules.0 rules.1.0 is.column_part;
      set_part = more_sets (length said.rows) (length said.rows) (length said.columns) (length columns) said.sets (omega arith) (longer said.columns _) is.set_part;
      arc_part = more_arc_columns (objective_place said.rows) said.columns _ said.arcs is.arc_part;
    }
said_next said (EntryTold row value) numbers fine is =
    let rules = none_broken (rules_of said (EntryTold row value)) fine in
    let change : ColumnSaid → ColumnSaid = with_entry (row_place said.rows row) value in
    let others = with_columns said (change_last change said.columns) (length_last change said.columns) is in
    record {
      row_part = is.row_part;
      column_part = entries_kept (length said.rows) said.columns (row_place said.rows row) value numbers rules.0 (λ i at. place_within (λ (r : RowSaid). r.name) said.rows row i at) rules.1.0 is.column_part;
      set_part = others.0;
      arc_part = others.1;
    }
said_next said (Side row value) numbers fine is =
    let change : RowSaid → RowSaid = λ r. record r { side = option_or r.side (Some value) } in
    let others = with_rows said (change_rows row change said.rows) (changed_count row change (λ r. refl) (λ r. refl) (side_fine value numbers) said.rows) (changed_objective row change (λ r. refl) (λ r. refl) (side_fine value numbers) said.rows) is in
    record { row_part = changed_rows row change (λ r. refl) (λ r. refl) (side_fine value numbers) said.rows is.row_part; column_part = others.0; set_part = others.1; arc_part = others.2 }
said_next said (Range row value) numbers fine is =
    let change : RowSaid → RowSaid = λ r. record r { range = option_or r.range (Some value) } in
    let others = with_rows said (change_rows row change said.rows) (changed_count row change (λ r. refl) (λ r. refl) (range_fine value numbers) said.rows) (changed_objective row change (λ r. refl) (λ r. refl) (range_fine value numbers) said.rows) is in
    record { row_part = changed_rows row change (λ r. refl) (λ r. refl) (range_fine value numbers) said.rows is.row_part; column_part = others.0; set_part = others.1; arc_part = others.2 }
said_next said (Bound kind column value) numbers fine is =
    let rules = none_broken (rules_of said (Bound kind column value)) fine in
    let others = with_columns said (change_columns column (λ c. record c { ends = with_bound kind value c.ends }) said.columns) (bounded_count kind column value said.columns) is in
    record {
      row_part = is.row_part;
      column_part = bounds_kept kind column value (length said.rows) said.columns rules.1.1.0 rules.1.1.1.0 is.column_part;
      set_part = others.0;
      arc_part = others.1;
    }
said_next said (Set kind name reference) numbers fine is =
    let rules = none_broken (rules_of said (Set kind name reference)) fine in
    record {
      row_part = is.row_part;
      column_part = is.column_part;
      set_part = sets_kept (length said.rows) (length said.columns) said.sets kind name (option_and_then (row_place said.rows) reference) (reference_within said.rows reference) rules.1.0 rules.1.1.0 is.set_part;
      arc_part = is.arc_part;
    }
said_next said (MemberTold column weight) numbers fine is =
    let rules = none_broken (rules_of said (MemberTold column weight)) fine in
    record {
      row_part = is.row_part;
      column_part = is.column_part;
      set_part = members_kept (length said.rows) (length said.columns) said.sets (column_place said.columns column) weight rules.0 (λ j at. place_within (λ (c : ColumnSaid). c.name) said.columns column j at) rules.1.0 rules.1.1.1.0 is.set_part;
      arc_part = is.arc_part;
    }
said_next said (ArcTold row column value) numbers fine is =
    let rules = none_broken (rules_of said (ArcTold row column value)) fine in
    record {
      row_part = is.row_part;
      column_part = is.column_part;
      set_part = is.set_part;
      arc_part = arcs_kept (objective_place said.rows) (row_place said.rows row) (column_place said.columns column) (length said.columns) said.arcs value numbers rules.0 rules.1.0
          (λ j at. place_within (λ (c : ColumnSaid). c.name) said.columns column j at) rules.1.1.0 rules.1.1.1.0 rules.1.1.1.1.0 is.arc_part;
    }

pub said-law : SaidLaw
said-law = record { first = nothing_is; next = said_next }

-- ---- all that is told

all_next : (said : Said) (told : List Statement) → All HasNumbers told → faults_in said told ≡ None → IsSaid said → IsSaid (with_all told said)
all_next said [] numbers fine is = is
all_next said (s ∷ told) numbers fine is =
    let both = two_fine (fault_of said s) (faults_in (with_statement s said) told) fine in
    all_next (with_statement s said) told (All-tail HasNumbers s told numbers) both.1 (said_next said s (All-head HasNumbers s told numbers) both.0 is)

pub said-all-law : (told : List Statement) → All HasNumbers told → faults_in nothing_said told ≡ None → IsSaid (collected told)
said-all-law told numbers fine = subst IsSaid (sym (collected-law told fine)) (all_next nothing_said told numbers fine nothing_is)
