-- By how much the entering column rises, as the code finds it.
use Rattle.std.proofs.Common.{◌≡◌, ℕ, ◌<◌, List, length, arith, sym, ◌∙◌, ap, slice_index_or}
use Rattle.std.proofs.lemmas.List.{get_or_default}
use Rattle.um_laws.specs.Rational.{Rational, add, mul, neg, inverse}
use Rattle.um_num.specs.NumberLists.{number_at}
use Rattle.um_tableau.specs.Sheets.{IsSheet, basic_at, rise_of}
use Rattle.um_tableau.specs.declared.sheet.Sheet.{Sheet}
use Rattle.um_tableau.proofs.RowSteps.{row_read}
use Rattle.um_tableau.proofs.ValueSteps.{number_read}

pub rise_read : (s : Sheet) (row column leaving : ℕ) (end lack value entry : Rational) (line : List Rational) → IsSheet s → row < length s.entries.items → leaving ≡ slice_index_or s.basic.items row leaving → value ≡ slice_index_or s.values.items leaving value
    → line ≡ slice_index_or s.entries.items row line → lack ≡ add end (neg value) → entry ≡ number_at line column → mul lack (inverse entry) ≡ rise_of s row column end
rise_read s row column leaving end lack value entry line sheet lr il iv ir hl he =
    let lb : row < length s.basic.items = omega (arith, sheet.basic) in
    let place : leaving ≡ basic_at s row = il ∙ sym (get_or_default s.basic.items row 0 leaving lb) in
    let below = sheet.basic_in row lb in
    let fits : leaving < length s.values.items = omega (arith, sheet.values, place, below) in
    let v = number_read s.values.items leaving value fits iv ∙ ap (number_at s.values.items) place in
    let e = he ∙ ap (λ (r : List Rational). number_at r column) (row_read s.entries.items row line lr ir) in
    ap (λ (x : Rational). mul x (inverse entry)) (hl ∙ ap (λ (x : Rational). add end (neg x)) v)
    ∙ ap (λ (x : Rational). mul (add end (neg (number_at s.values.items (basic_at s row)))) (inverse x)) e
