-- A maker keeps what holds of all that was said, and its two counts.
use Rattle.std.proofs.Common.{◌≡◌, ℕ, ◌+◌, ◌<◌, ◌≤◌, Bool, not, cond, ◌&&◌, List, ◌++◌, map, length, count_by, Option, None, Some, option_map, option_and_then, Result, Ok, Err, OnOk, OnErr, true, false, is_some, refl, sym, ap, subst, ◌∙◌, true≢false, arith, if◌then◌else◌}
use Rattle.std.specs.List.{range_with_len}
use Rattle.std.specs.Option.{option_or, option_map_or}
use Rattle.std.proofs.lemmas.List.{length-map}
use Rattle.um_num.specs.declared.decimal.Decimal.{Decimal}
use Rattle.um_statements.specs.declared.parts.RowKind.{RowKind}
use Rattle.um_statements.specs.declared.parts.ArcPart.{ArcPart}
use Rattle.um_statements.specs.Statements.{Statement, Title, Sense, RowTold, Column, EntryTold, Side, Range, Bound, Set, MemberTold, ArcTold}
use Rattle.um_statements.specs.Said.{Said, RowSaid, ColumnSaid, row_place, column_place}
use Rattle.um_statements.specs.CallRules.{is_n, is_zero, has_kept_arc, fault_of, rules_of, with_statement, with_bound, change_columns, change_last, option_list, objective_place, said_arc_columns}
use Rattle.um_statements.specs.WellSaid.{HasNumbers, IsSaid, keeps_arc}
use Rattle.um_statements.proofs.CollectedSteps.{none_broken}
use Rattle.um_statements.proofs.PushedLists.{count_push, count_kept, length_last}
use Rattle.um_statements.proofs.KeptRows.{kind_kept, changed_objective, side_fine, range_fine}
use Rattle.um_statements.proofs.KeptColumns.{place_within, same_arc_columns, with_entry, bounded_count}
use Rattle.um_statements.proofs.KeptSets.{arcs_counted}
use Rattle.um_statements.proofs.SaidKept.{said_next}
use Rattle.um_maker.specs.Makers.{IsMaker}
use Rattle.um_maker.proofs.ObjectivePlaces.{position_push}

-- ---- the counts

-- how many rows that are not N a statement adds
abbrev pub sided_more : Statement → ℕ
sided_more (RowTold kind name) = cond (not (is_n kind)) 1 0
sided_more other = 0

abbrev is_sided : RowSaid → Bool
is_sided r = not (is_n r.kind)

pub nothing_more : (n : ℕ) → n ≡ n + 0
nothing_more n = omega arith

sided_next : (said : Said) (s : Statement) → HasNumbers s → count_by is_sided (with_statement s said).rows ≡ count_by is_sided said.rows + sided_more s
unfolding with_statement
sided_next said (RowTold kind name) numbers = count_push is_sided said.rows _
sided_next said (Side row value) numbers =
    let change : RowSaid → RowSaid = λ r. record r { side = option_or r.side (Some value) } in
    count_kept is_sided _ (λ r. ap (λ (k : RowKind). not (is_n k)) (kind_kept row change (λ r. refl) (λ r. refl) (side_fine value numbers) r)) said.rows ∙ nothing_more _
sided_next said (Range row value) numbers =
    let change : RowSaid → RowSaid = λ r. record r { range = option_or r.range (Some value) } in
    count_kept is_sided _ (λ r. ap (λ (k : RowKind). not (is_n k)) (kind_kept row change (λ r. refl) (λ r. refl) (range_fine value numbers) r)) said.rows ∙ nothing_more _
sided_next said (Title name) numbers = nothing_more _
sided_next said (Sense maximise) numbers = nothing_more _
sided_next said (Column name in_block) numbers = nothing_more _
sided_next said (EntryTold row value) numbers = nothing_more _
sided_next said (Bound kind column value) numbers = nothing_more _
sided_next said (Set kind name reference) numbers = nothing_more _
sided_next said (MemberTold column weight) numbers = nothing_more _
sided_next said (ArcTold row column value) numbers = nothing_more _

-- how many columns have an arc that had none before
abbrev pub arcs_more : Said → Statement → ℕ
arcs_more said (ArcTold row column value) = option_map_or (λ j. cond (not (is_zero value) && not (has_kept_arc said j)) 1 0) (column_place said.columns column) 0
arcs_more said other = 0

-- as many columns, with the same arcs
same_length : (said : Said) (n : ℕ) → n ≡ length said.columns → count_by (keeps_arc said.arcs) (range_with_len 0 n) ≡ said_arc_columns said + 0
same_length said n same = ap (λ m. count_by (keeps_arc said.arcs) (range_with_len 0 m)) same ∙ nothing_more _

arc_next : (arcs : List ArcPart) (row column : Option ℕ) (columns : ℕ) (value : Decimal) → not (is_some row) ≡ false → not (is_some column) ≡ false → ((j : ℕ) → column ≡ Some j → j < columns)
    → count_by (keeps_arc (arcs ++ option_list (option_and_then (λ i. option_map (λ j. record { row = i; column = j; value = value }) column) row))) (range_with_len 0 columns)
    ≡ count_by (keeps_arc arcs) (range_with_len 0 columns) + option_map_or (λ j. cond (not (is_zero value) && not (keeps_arc arcs j)) 1 0) column 0
arc_next arcs None column columns value known known2 within = absurd (true≢false known)
arc_next arcs (Some i) None columns value known known2 within = absurd (true≢false known2)
arc_next arcs (Some i) (Some j) columns value known known2 within = arcs_counted arcs (record { row = i; column = j; value = value }) columns (within j refl)

arcs_next : (said : Said) (s : Statement) → IsSaid said → fault_of said s ≡ None → said_arc_columns (with_statement s said) ≡ said_arc_columns said + arcs_more said s
unfolding with_statement rules_of
arcs_next said (ArcTold row column value) is fine =
    let rules = none_broken (rules_of said (ArcTold row column value)) fine in
    arc_next said.arcs (row_place said.rows row) (column_place said.columns column) (length said.columns) value rules.0 rules.1.0 (λ j at. place_within (λ (c : ColumnSaid). c.name) said.columns column j at)
arcs_next said (Column name in_block) is fine = same_arc_columns (objective_place said.rows) said.columns _ said.arcs is.arc_part.each ∙ nothing_more _
arcs_next said (EntryTold row value) is fine =
    let change : ColumnSaid → ColumnSaid = with_entry (row_place said.rows row) value in
    same_length said (length (change_last change said.columns)) (length_last change said.columns)
arcs_next said (Bound kind column value) is fine =
    same_length said (length (change_columns column (λ c. record c { ends = with_bound kind value c.ends }) said.columns)) (bounded_count kind column value said.columns)
arcs_next said (Title name) is fine = nothing_more _
arcs_next said (Sense maximise) is fine = nothing_more _
arcs_next said (RowTold kind name) is fine = nothing_more _
arcs_next said (Side row value) is fine = nothing_more _
arcs_next said (Range row value) is fine = nothing_more _
arcs_next said (Set kind name reference) is fine = nothing_more _
arcs_next said (MemberTold column weight) is fine = nothing_more _

pub one_more : (n : ℕ) (b : Bool) → b ≡ true → n + 1 ≡ n + cond b 1 0
one_more n b is = rw is refl

pub no_more : (n : ℕ) (b : Bool) → b ≡ false → n ≡ n + cond b 1 0
no_more n b is = rw is (nothing_more n)

-- the place of the first N row, where a statement gives it
abbrev pub first_more : Said → Statement → Option ℕ
first_more said (RowTold kind name) = if is_n kind then Some (length said.rows) else None
first_more said other = None

pub same_place : (o : Option ℕ) → o ≡ option_or o None
same_place None = refl
same_place (Some i) = refl

first_next : (said : Said) (s : Statement) → HasNumbers s → objective_place (with_statement s said).rows ≡ option_or (objective_place said.rows) (first_more said s)
unfolding with_statement
first_next said (RowTold kind name) numbers = position_push (λ (r : RowSaid). is_n r.kind) said.rows (record { name = name; kind = kind; side = None; range = None })
first_next said (Side row value) numbers =
    let change : RowSaid → RowSaid = λ r. record r { side = option_or r.side (Some value) } in
    changed_objective row change (λ r. refl) (λ r. refl) (side_fine value numbers) said.rows ∙ same_place _
first_next said (Range row value) numbers =
    let change : RowSaid → RowSaid = λ r. record r { range = option_or r.range (Some value) } in
    changed_objective row change (λ r. refl) (λ r. refl) (range_fine value numbers) said.rows ∙ same_place _
first_next said (Title name) numbers = same_place _
first_next said (Sense maximise) numbers = same_place _
first_next said (Column name in_block) numbers = same_place _
first_next said (EntryTold row value) numbers = same_place _
first_next said (Bound kind column value) numbers = same_place _
first_next said (Set kind name reference) numbers = same_place _
first_next said (MemberTold column weight) numbers = same_place _
first_next said (ArcTold row column value) numbers = same_place _

pub no_first : (o : Option ℕ) (n : ℕ) (b : Bool) → not b ≡ true → o ≡ option_or o (if b then Some n else None)
no_first o n true sided = absurd (true≢false (sym sided))
no_first o n false sided = same_place o

pub one_first : (o : Option ℕ) (n : ℕ) (b : Bool) → not b ≡ false → option_or o (Some n) ≡ option_or o (if b then Some n else None)
one_first o n true other = refl
one_first o n false other = absurd (true≢false other)

-- ---- what is seen behind a call that was not refused

-- the counts of a maker behind one statement more
pub record AreCounts (old : Said) (s : Statement) (first : Option ℕ) (sided curved : ℕ) (first_now : Option ℕ) (sided_now curved_now : ℕ) : Type 0 where
  pub first_is : first_now ≡ option_or first (first_more old s)
  pub sided_is : sided_now ≡ sided + sided_more s
  pub curved_is : curved_now ≡ curved + arcs_more old s

pub kept_by : (old new : Said) (s : Statement) (first : Option ℕ) (sided curved : ℕ) (first_now : Option ℕ) (sided_now curved_now : ℕ) → IsMaker old first sided curved → HasNumbers s → fault_of old s ≡ None → new ≡ with_statement s old
    → AreCounts old s first sided curved first_now sided_now curved_now → IsMaker new first_now sided_now curved_now
kept_by old new s first sided curved first_now sided_now curved_now is numbers fine same counts =
    subst (λ (said : Said). IsMaker said first_now sided_now curved_now) (sym same) (record {
      well = said_next old s numbers fine is.well;
      first_n = counts.first_is ∙ (ap (λ (o : Option ℕ). option_or o (first_more old s)) is.first_n ∙ sym (first_next old s numbers));
      sided = counts.sided_is ∙ (ap (λ n. n + sided_more s) is.sided ∙ sym (sided_next old s numbers));
      curved = counts.curved_is ∙ (ap (λ n. n + arcs_more old s) is.curved ∙ sym (arcs_next old s is.well fine));
    })

-- the same, of a statement that leaves the counts
pub kept_as : (old new : Said) (s : Statement) (first : Option ℕ) (sided curved : ℕ) → IsMaker old first sided curved → HasNumbers s → fault_of old s ≡ None → new ≡ with_statement s old
    → first_more old s ≡ None → sided_more s ≡ 0 → arcs_more old s ≡ 0 → IsMaker new first sided curved
kept_as old new s first sided curved is numbers fine same no_first no_row no_arc =
    kept_by old new s first sided curved first sided curved is numbers fine same (record {
      first_is = same_place first ∙ ap (option_or first) (sym no_first);
      sided_is = nothing_more sided ∙ ap (λ n. sided + n) (sym no_row);
      curved_is = nothing_more curved ∙ ap (λ n. curved + n) (sym no_arc);
    })

pub rows_within : {X : Type 0} (f : X → RowSaid) (xs : List X) (said : Said) → said.rows ≡ map f xs → IsSaid said → length xs ≤ 1024
rows_within f xs said same is = subst (λ n. n ≤ 1024) (length-map xs f) (subst (λ (rows : List RowSaid). length rows ≤ 1024) same is.row_part.count)

pub on_both : {A B P : Type 0} (r : Result A B) → OnOk r P → OnErr r P → P
on_both (Ok x) ok err = ok
on_both (Err e) ok err = err
