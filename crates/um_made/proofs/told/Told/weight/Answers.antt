use Rattle.std.proofs.Common.{◌≡◌, FitsSigned, w64, rules, None, Some, ℤ, slice_get, sym, ap, ◌∙◌, arith}
use Rattle.std.specs.List.{Contains}
use Rattle.std.proofs.lemmas.Int.{to_z-of_z}
use Rattle.um_statements.specs.Statements.{Name}
use Rattle.um_statements.specs.Said.{Said}
use Rattle.um_statements.specs.Made.{entry_in}
use Rattle.um_made.specs.declared.parts.ColumnPart.{ColumnPart}
use Rattle.um_made.specs.Views.{column_said, set_said}
use Rattle.um_made.specs.Parts.{said}
use Rattle.um_made.specs.ColumnWords.{entry_at}
use Rattle.um_made.proofs.NumbersFit.{coefficient_small, coefficient_whole}
use Rattle.um_made.proofs.ToldFacts.{has_column}
use Rattle.um_made.proofs.SetSteps.{weight_within, slice_at, own_weight, zero_weight, found_weight}
use Rattle.um_made.proofs.told.Told.weight.Goals as goal

pub returns-in_default : goal.returns-in_default
returns-in_default c =
    let fits : FitsSigned w64 c.unwrap_or.result = search rules in
    simp to_z-of_z (ap (λ (z : ℤ). Some z) c.unwrap_or.ensures ∙ own_weight (said c.args.self.now) (set_said c.args.set.now) c.args.member.now c.in_default.is c.requires.member.size)

pub returns-in-None : goal.returns-in-None
returns-in-None c =
    let s : Said = said c.args.self.now in
    let y : Name × ColumnPart = c.index.result.now in
    let there : slice_get s.columns c.args.member.now.column ≡ Some (column_said y) = slice_at column_said c.args.self.now.columns.items c.args.member.now.column y c.requires.member.place ∙ ap (λ (x : Name × ColumnPart). Some (column_said x)) (sym c.index.ensures) in
    let none : entry_in c.in-Some.place (column_said y) ≡ None = ap (entry_at c.in-Some.place) (sym c.as_slice.ensures) ∙ sym c.entry_in.ensures ∙ c.in-None.is in
    zero_weight s (set_said c.args.set.now) c.args.member.now c.in-Some.place (column_said y) c.in-Some.is there none

pub returns-in-Some-entry_in : goal.returns-in-Some-entry_in
returns-in-Some-entry_in c =
    let s : Said = said c.args.self.now in
    let y : Name × ColumnPart = c.index.result.now in
    let there : slice_get s.columns c.args.member.now.column ≡ Some (column_said y) = slice_at column_said c.args.self.now.columns.items c.args.member.now.column y c.requires.member.place ∙ ap (λ (x : Name × ColumnPart). Some (column_said x)) (sym c.index.ensures) in
    let some : entry_in c.in-Some.place (column_said y) ≡ Some c.in-Some-entry_in.value = ap (entry_at c.in-Some.place) (sym c.as_slice.ensures) ∙ sym c.entry_in.ensures ∙ c.in-Some-entry_in.is in
    c.scaled_within.ensures ∙ sym (ap weight_within (found_weight s (set_said c.args.set.now) c.args.member.now c.in-Some.place (column_said y) c.in-Some-entry_in.value c.in-Some.is there some))

pub scaled_within-requires : goal.scaled_within-requires
scaled_within-requires c =
    let s : Said = said c.args.self.now in
    let y : Name × ColumnPart = c.index.result.now in
    let inside : Contains s.columns (column_said y) = has_column c.args.self.now c.args.member.now.column y c.requires.member.place c.index.ensures in
    let some : entry_in c.in-Some.place (column_said y) ≡ Some c.in-Some-entry_in.value = ap (entry_at c.in-Some.place) (sym c.as_slice.ensures) ∙ sym c.entry_in.ensures ∙ c.in-Some-entry_in.is in
    record {
      small = coefficient_small s c.requires.well c.in-Some.place (column_said y) inside c.in-Some-entry_in.value some;
      low = omega arith;
      whole = coefficient_whole s c.in-Some.place 6 (column_said y) (c.requires.fine c.in-Some.place c.in-Some.is) inside c.in-Some-entry_in.value some;
      most = omega arith;
    }
