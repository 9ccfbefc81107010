-- A maker that began a column has one, and keeps it while entries are told.
use Rattle.std.proofs.Common.{◌<◌, [], ◌∷◌, length, List, Result, Ok, Err, OnOk, sym, subst, arith}
use Rattle.std.proofs.lemmas.List.{length_push}
use Rattle.std.specs.Prelude.{Bool}
use Rattle.um_num.specs.declared.decimal.Decimal.{Decimal}
use Rattle.um_statements.specs.declared.fault.Fault.{Fault}
use Rattle.um_statements.specs.Statements.{Name, Column, EntryTold}
use Rattle.um_statements.specs.Said.{Said}
use Rattle.um_statements.specs.CallRules.{with_statement, bare_ends, change_last}
use Rattle.um_statements.specs.Tells.{Tells}

some_changed : {A : Type 0} (change : A → A) (xs : List A) → 0 < length xs → 0 < length (change_last change xs)
some_changed change [] some = some
some_changed change (x ∷ []) some = omega arith
some_changed change (x ∷ (y ∷ ys)) some = omega arith

pub column_begun : (name : Name) (integer : Bool) (old new : Said) (result : Result Unit Fault) → Tells (Column name integer) old result new → OnOk result (0 < length new.columns)
unfolding with_statement
column_begun name integer old new (Ok x) told =
    let more = length_push old.columns (record { name = name; ends = bare_ends integer; entries = [] }) in subst (λ (said : Said). 0 < length said.columns) (sym told.1) (omega (arith, more))
column_begun name integer old new (Err fault) told = tt

pub column_kept : (row : Name) (value : Decimal) (old new : Said) (result : Result Unit Fault) → Tells (EntryTold row value) old result new → 0 < length old.columns → 0 < length new.columns
unfolding with_statement
column_kept row value old new (Ok x) told some = subst (λ (said : Said). 0 < length said.columns) (sym told.1) (some_changed _ old.columns some)
column_kept row value old new (Err fault) told some = subst (λ (said : Said). 0 < length said.columns) (sym told.0) some
