-- The ends of columns.
use Rattle.std.proofs.Common.{◌≡◌, ◌<◌, ℕ, ℤ, List, length, slice_index_or, Option, None, ap, ◌∙◌, arith}
use Rattle.std.specs.Prelude.{slice_index}
use Rattle.std.proofs.lemmas.List.{get_or_default}
use Rattle.std.specs.Option.{ForSome}
use Rattle.um_num.specs.Numbers.{IsInRange}
use Rattle.um_lp.specs.States.{end_at}
use Rattle.um_lp.specs.declared.board.At.{At}
use Rattle.um_tableau.specs.Sheets.{IsSheet, basic_at, ends_at}
use Rattle.um_tableau.specs.declared.sheet.Sheet.{Sheet}
use Rattle.um_lp.specs.declared.board.At.TheVariants.{Lower, Upper, Zero, Basic}

-- the end at which a column stands is in range where its ends are
pub end_in_range : (at : At) (ends : Option ℤ × Option ℤ) → ForSome ends.0 IsInRange × ForSome ends.1 IsInRange → ForSome (end_at at ends) IsInRange
end_in_range Lower ends h = h.0
end_in_range Upper ends h = h.1
end_in_range Zero ends h = λ x e. cc
end_in_range Basic ends h = λ x e. cc

-- the ends of the basic column of a row, as they are read
pub ends_read : (basic : List ℕ) (ends : List (Option ℤ × Option ℤ)) (row place : ℕ) (pair : Option ℤ × Option ℤ) → row < length basic → place < length ends → place ≡ slice_index_or basic row place → pair ≡ slice_index_or ends place pair
    → pair ≡ slice_index_or ends (slice_index basic row) (None, None)
ends_read basic ends row place pair lr lp e f =
    f ∙ get_or_default ends place pair (None, None) lp
    ∙ ap (λ (j : ℕ). slice_index_or ends j (None, None)) (e ∙ get_or_default basic row place 0 lr)

-- the same in a sheet
pub sheet_ends : (s : Sheet) (row place : ℕ) (pair : Option ℤ × Option ℤ) → IsSheet s → row < length s.entries.items → place ≡ slice_index_or s.basic.items row place → pair ≡ slice_index_or s.ends.items place pair
    → pair ≡ ends_at s (basic_at s row)
sheet_ends s row place pair sheet l e f =
    let row_in : row < length s.basic.items = omega (arith, sheet.basic) in
    let same : place ≡ basic_at s row = e ∙ get_or_default s.basic.items row place 0 row_in in
    let below = sheet.basic_in row row_in in
    ends_read s.basic.items s.ends.items row place pair row_in (omega (arith, sheet.ends)) e f

-- the end of the basic column of a row is in range
pub sheet_end_in : (s : Sheet) (row : ℕ) (to : At) → IsSheet s → row < length s.entries.items → ForSome (end_at to (ends_at s (basic_at s row))) IsInRange
sheet_end_in s row to sheet l =
    let below = sheet.basic_in row (omega (arith, sheet.basic)) in
    end_in_range to (ends_at s (basic_at s row)) (sheet.ends_in (basic_at s row) (omega (arith, sheet.ends)))
