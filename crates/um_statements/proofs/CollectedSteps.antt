-- What is collected is what is told one by one.
use Rattle.std.proofs.Common.{◌≡◌, Bool, true, false, not, List, [], ◌∷◌, ◌++◌, map, Option, None, Some, is_some, option_and_then, refl, sym, ap, subst, ◌∙◌, true≢false, append-nil, append_assoc, if◌then◌else◌}
use Rattle.std.specs.List.{filter_map, list_all}
use Rattle.std.specs.Option.{option_or, option_map_or}
use Rattle.um_statements.specs.declared.fault.Fault.{Fault}
use Rattle.um_statements.specs.Statements.{Name, Statement, Title, Sense, RowTold, Column, EntryTold, Side, Range, Bound, Set, MemberTold, ArcTold}
use Rattle.um_statements.specs.Said.{Said, RowSaid, ColumnSaid, row_of, place_in, title_of, sense_of, named_row, named_column, rows_told, columns_told, columns_of, sets_of, arc_of, collected, nothing_said}
use Rattle.um_statements.specs.CallRules.{Rule, first_fault, fault_of, rules_of, faults_in, with_statement, with_all, option_list}
use Rattle.um_statements.specs.Laws.{TakesMore}
use Rattle.um_statements.proofs.LastBounds.{last_of_push}
use Rattle.um_statements.proofs.Grouped.{quiet, loud}
use Rattle.um_statements.proofs.KnownNames.{is_known, has_name, known_push}
use Rattle.um_statements.proofs.CollectedParts.{names_of_rows, names_of_columns, rows_quiet, rows_push, rows_side, rows_range, columns_quiet, columns_row, columns_push, columns_entry, columns_bound, sets_quiet, sets_row, sets_column, sets_push, sets_member, arcs_row, arcs_column}

-- ---- rules that aren't broken

abbrev pub NoneBroken : List Rule → Type 0
NoneBroken [] = Unit {0}
NoneBroken (r ∷ rules) = (r.0 ≡ false) × NoneBroken rules

pub none_broken : (rules : List Rule) → first_fault rules ≡ None → NoneBroken rules
none_broken [] fine = tt
none_broken (r ∷ rules) fine = by r.0 refl fine (none_broken rules)
  where
    by : (b : Bool) → r.0 ≡ b → (if b then Some r.1 else first_fault rules) ≡ None → (first_fault rules ≡ None → NoneBroken rules) → (r.0 ≡ false) × NoneBroken rules
    by true is fine more = cc
    by false is fine more = (is, more fine)

not_false : (b : Bool) → not b ≡ false → b ≡ true
not_false true h = refl
not_false false h = absurd (true≢false h)

-- what is told speaks of known names alone
abbrev pub AllKnown : List Statement → Type 0
AllKnown told = list_all (is_known (rows_told told) (columns_told told)) told ≡ true

row_known : (told : List Statement) (name : Name) (b : Bool) → is_some (place_in (map (λ (r : RowSaid). r.name) (filter_map (row_of told) told)) name) ≡ b → has_name (rows_told told) name ≡ b
row_known told name b h = ap (λ ns. is_some (place_in ns name)) (sym (names_of_rows told told)) ∙ h

column_known : (told : List Statement) (name : Name) (b : Bool) → is_some (place_in (map (λ (c : ColumnSaid). c.name) (columns_of (rows_told told) told)) name) ≡ b → has_name (columns_told told) name ≡ b
column_known told name b h = ap (λ ns. is_some (place_in ns name)) (sym (names_of_columns (rows_told told) told told)) ∙ h

-- ---- one statement more, part by part

same_said : (a b : Said) → a.name ≡ b.name → a.maximise ≡ b.maximise → a.rows ≡ b.rows → a.columns ≡ b.columns → a.sets ≡ b.sets → a.arcs ≡ b.arcs → a ≡ b
same_said a b name maximise rows columns sets arcs = λ i. record { name = name i; maximise = maximise i; rows = rows i; columns = columns i; sets = sets i; arcs = arcs i }

name_step : (told : List Statement) (s : Statement) → (collected (told ++ s ∷ [])).name ≡ (with_statement s (collected told)).name
unfolding collected with_statement
name_step told (Title name) = rw (last_of_push title_of told (Title name)) refl
name_step told other = rw (quiet title_of told other refl) refl

sense_step : (told : List Statement) (s : Statement) → (collected (told ++ s ∷ [])).maximise ≡ (with_statement s (collected told)).maximise
unfolding collected with_statement
sense_step told (Sense maximise) = rw (last_of_push sense_of told (Sense maximise)) refl
sense_step told other = rw (quiet sense_of told other refl) refl

rows_step : (told : List Statement) (s : Statement) → AllKnown told → fault_of (collected told) s ≡ None → (collected (told ++ s ∷ [])).rows ≡ (with_statement s (collected told)).rows
unfolding collected with_statement rules_of
rows_step told (RowTold kind name) known fine =
    rows_push (rows_told told) (columns_told told) told kind name (row_known told name false (none_broken (rules_of (collected told) (RowTold kind name)) fine).0) known
rows_step told (Side row value) known fine = rows_side told row value
rows_step told (Range row value) known fine = rows_range told row value
rows_step told other known fine = rows_quiet told other (λ n. refl) (λ n. refl) refl

columns_step : (told : List Statement) (s : Statement) → AllKnown told → fault_of (collected told) s ≡ None → (collected (told ++ s ∷ [])).columns ≡ (with_statement s (collected told)).columns
unfolding collected with_statement rules_of
columns_step told (RowTold kind name) known fine =
    rw (loud named_row told (RowTold kind name)) (columns_row (rows_told told) (columns_told told) (name ∷ []) told kind name known)
columns_step told (Column name in_block) known fine =
    rw (quiet named_row told (Column name in_block) refl)
    (columns_push (rows_told told) (columns_told told) told name in_block (column_known told name false (none_broken (rules_of (collected told) (Column name in_block)) fine).0) known)
columns_step told (EntryTold row value) known fine =
    rw (quiet named_row told (EntryTold row value) refl, names_of_rows told told) (columns_entry (rows_told told) told row value)
columns_step told (Bound kind column value) known fine =
    rw (quiet named_row told (Bound kind column value) refl) (columns_bound (rows_told told) told kind column value)
columns_step told other known fine =
    rw (quiet named_row told other refl) (columns_quiet (rows_told told) told other refl refl (λ n. refl))

sets_step : (told : List Statement) (s : Statement) → AllKnown told → (collected (told ++ s ∷ [])).sets ≡ (with_statement s (collected told)).sets
unfolding collected with_statement
sets_step told (RowTold kind name) known =
    rw (loud named_row told (RowTold kind name), quiet named_column told (RowTold kind name) refl)
    (sets_quiet (rows_told told ++ name ∷ []) (columns_told told) told (RowTold kind name) refl refl ∙ sets_row (rows_told told) (columns_told told) (name ∷ []) told known)
sets_step told (Column name in_block) known =
    rw (quiet named_row told (Column name in_block) refl, loud named_column told (Column name in_block))
    (sets_quiet (rows_told told) (columns_told told ++ name ∷ []) told (Column name in_block) refl refl ∙ sets_column (rows_told told) (columns_told told) (name ∷ []) told known)
sets_step told (Set kind name reference) known =
    rw (quiet named_row told (Set kind name reference) refl, quiet named_column told (Set kind name reference) refl)
    (sets_push (rows_told told) (columns_told told) told kind name reference
    ∙ ap (λ (ns : List Name). sets_of (rows_told told) (columns_told told) told ++ record { name = name; kind = kind; reference = option_and_then (place_in ns) reference; members = [] } ∷ []) (sym (names_of_rows told told)))
sets_step told (MemberTold column weight) known =
    rw (quiet named_row told (MemberTold column weight) refl, quiet named_column told (MemberTold column weight) refl, names_of_columns (rows_told told) told told) (sets_member (rows_told told) (columns_told told) told column weight)
sets_step told other known =
    rw (quiet named_row told other refl, quiet named_column told other refl) (sets_quiet (rows_told told) (columns_told told) told other refl refl)

arcs_step : (told : List Statement) (s : Statement) → AllKnown told → (collected (told ++ s ∷ [])).arcs ≡ (with_statement s (collected told)).arcs
unfolding collected with_statement
arcs_step told (RowTold kind name) known =
    rw (loud named_row told (RowTold kind name), quiet named_column told (RowTold kind name) refl)
    (quiet (arc_of (rows_told told ++ name ∷ []) (columns_told told)) told (RowTold kind name) refl ∙ arcs_row (rows_told told) (columns_told told) (name ∷ []) told known)
arcs_step told (Column name in_block) known =
    rw (quiet named_row told (Column name in_block) refl, loud named_column told (Column name in_block))
    (quiet (arc_of (rows_told told) (columns_told told ++ name ∷ [])) told (Column name in_block) refl ∙ arcs_column (rows_told told) (columns_told told) (name ∷ []) told known)
arcs_step told (ArcTold row column value) known =
    rw (quiet named_row told (ArcTold row column value) refl, quiet named_column told (ArcTold row column value) refl, names_of_rows told told, names_of_columns (rows_told told) told told)
    (loud (arc_of (rows_told told) (columns_told told)) told (ArcTold row column value))
arcs_step told other known =
    rw (quiet named_row told other refl, quiet named_column told other refl) (quiet (arc_of (rows_told told) (columns_told told)) told other refl)

-- ---- one statement more

pub one-more : (told : List Statement) (s : Statement) → AllKnown told → fault_of (collected told) s ≡ None → collected (told ++ s ∷ []) ≡ with_statement s (collected told)
one-more told s known fine =
    same_said _ _ (name_step told s) (sense_step told s) (rows_step told s known fine) (columns_step told s known fine) (sets_step told s known) (arcs_step told s known)

reference_known : (told : List Statement) (reference : Option Name) → option_map_or (λ row. not (is_some (place_in (map (λ (r : RowSaid). r.name) (filter_map (row_of told) told)) row))) reference false ≡ false
    → option_map_or (has_name (rows_told told)) reference true ≡ true
reference_known told None h = refl
reference_known told (Some row) h = row_known told row true (not_false _ h)

-- a statement that breaks no rule speaks of known names
speaks_of_known : (told : List Statement) (s : Statement) → fault_of (collected told) s ≡ None → is_known (rows_told told) (columns_told told) s ≡ true
unfolding collected rules_of
speaks_of_known told (EntryTold row value) fine = row_known told row true (not_false _ (none_broken (rules_of (collected told) (EntryTold row value)) fine).0)
speaks_of_known told (Side row value) fine = row_known told row true (not_false _ (none_broken (rules_of (collected told) (Side row value)) fine).0)
speaks_of_known told (Range row value) fine = row_known told row true (not_false _ (none_broken (rules_of (collected told) (Range row value)) fine).0)
speaks_of_known told (Bound kind column value) fine = column_known told column true (not_false _ (none_broken (rules_of (collected told) (Bound kind column value)) fine).0)
speaks_of_known told (Set kind name reference) fine = reference_known told reference (none_broken (rules_of (collected told) (Set kind name reference)) fine).0
speaks_of_known told (MemberTold column weight) fine = column_known told column true (not_false _ (none_broken (rules_of (collected told) (MemberTold column weight)) fine).0)
speaks_of_known told (ArcTold row column value) fine =
    let rules = none_broken (rules_of (collected told) (ArcTold row column value)) fine in
    rw (row_known told row true (not_false _ rules.0), column_known told column true (not_false _ rules.1.0)) refl
speaks_of_known told other fine = refl

pub known-more : (told : List Statement) (s : Statement) → AllKnown told → fault_of (collected told) s ≡ None → AllKnown (told ++ s ∷ [])
known-more told s known fine =
    rw (loud named_row told s, loud named_column told s)
    (known_push (rows_told told) (columns_told told) (option_list (named_row s)) (option_list (named_column s)) told s known
    (more_names told s (speaks_of_known told s fine)))
  where
    more_names : (told : List Statement) (s : Statement) → is_known (rows_told told) (columns_told told) s ≡ true → is_known (rows_told told ++ option_list (named_row s)) (columns_told told ++ option_list (named_column s)) s ≡ true
    more_names told (RowTold kind name) h = refl
    more_names told (Column name in_block) h = refl
    more_names told other h = (λ i. is_known (append-nil (rows_told told) i) (append-nil (columns_told told) i) other) ∙ h

-- ---- all

pub two_fine : (a b : Option Fault) → option_or a b ≡ None → (a ≡ None) × (b ≡ None)
two_fine None b fine = (refl, fine)
two_fine (Some f) b fine = cc

onward : (before told : List Statement) → AllKnown before → faults_in (collected before) told ≡ None → collected (before ++ told) ≡ with_all told (collected before)
onward before [] known fine = ap collected (append-nil before)
onward before (s ∷ told) known fine =
    let both = two_fine (fault_of (collected before) s) (faults_in (with_statement s (collected before)) told) fine in
    let more = one-more before s known both.0 in
    ap collected (sym (append_assoc before (s ∷ []) told))
    ∙ onward (before ++ s ∷ []) told (known-more before s known both.0) (subst (λ (said : Said). faults_in said told ≡ None) (sym more) both.1)
    ∙ ap (with_all told) more

nothing_collected : collected [] ≡ nothing_said
unfolding collected
nothing_collected = refl

pub collected-law : (told : List Statement) → faults_in nothing_said told ≡ None → collected told ≡ with_all told nothing_said
collected-law told fine =
    onward [] told refl (subst (λ (said : Said). faults_in said told ≡ None) (sym nothing_collected) fine) ∙ ap (with_all told) nothing_collected

-- ---- more statements

pub faults_append : (said : Said) (xs ys : List Statement) → faults_in said (xs ++ ys) ≡ option_or (faults_in said xs) (faults_in (with_all xs said) ys)
faults_append said [] ys = refl
faults_append said (s ∷ xs) ys = by (fault_of said s) (faults_append (with_statement s said) xs ys)
  where
    by : (o : Option Fault) → faults_in (with_statement s said) (xs ++ ys) ≡ option_or (faults_in (with_statement s said) xs) (faults_in (with_all xs (with_statement s said)) ys)
        → option_or o (faults_in (with_statement s said) (xs ++ ys)) ≡ option_or (option_or o (faults_in (with_statement s said) xs)) (faults_in (with_all xs (with_statement s said)) ys)
    by None more = more
    by (Some f) more = refl

pub all_append : (said : Said) (xs ys : List Statement) → with_all (xs ++ ys) said ≡ with_all ys (with_all xs said)
all_append said [] ys = refl
all_append said (s ∷ xs) ys = all_append (with_statement s said) xs ys

pub more-law : (before more : List Statement) → faults_in nothing_said before ≡ None → faults_in (collected before) more ≡ None → TakesMore before more
more-law before more fine fine2 =
    let first = collected-law before fine in
    let all : faults_in nothing_said (before ++ more) ≡ None
    = faults_append nothing_said before more ∙ (ap (λ (o : Option Fault). option_or o (faults_in (with_all before nothing_said) more)) fine ∙ (ap (λ (said : Said). faults_in said more) (sym first) ∙ fine2)) in
    record {
      same = collected-law (before ++ more) all ∙ (all_append nothing_said before more ∙ ap (with_all more) (sym first));
      unbroken = all;
    }
