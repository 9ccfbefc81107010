-- What the entries of a deck give to the sums of its rows along a ray.
use Rattle.std.proofs.Common.{◌≡◌, ℕ, ◌+◌, ◌^◌, ◌<◌, ◌≤◌, ℤ, pos, ◌+ℤ◌, ◌*ℤ◌, List, length, map, get_or, take, sym, ap, subst, ◌∙◌, arith, unsigned_abs}
use Rattle.std.specs.Prelude.{All, Bool, IsTrue, ◌↔◌}
use Rattle.um_laws.specs.Sums.{dot}
use Rattle.um_model.specs.Values.{DeckValue, ColumnValue, plain_column}
use Rattle.um_model.specs.Feasible.{coefficient, part, linear_sum}
use Rattle.um_model.specs.Rays.{IsFree}
use Rattle.um_model.specs.declared.deck.Column.{Column}
use Rattle.um_model.specs.declared.deck.Row.{Row}
use Rattle.um_deck.proofs.BoundedSums.{dot_more}
use Rattle.um_deck.proofs.ListParts.{All-of_map}
use Rattle.um_point.specs.Places.{HoldsAt}
use Rattle.um_point.specs.RowSums.{AreSums}
use Rattle.um_point.specs.SmallPoints.{IsSmallColumn}
use Rattle.um_point.proofs.EntrySums.{coefficient_size}
use Rattle.um_point.proofs.RowSteps.{dot_size}
use Rattle.um_check.specs.RayParts.{IsRayPart, RowIsFree}

-- what the first columns give to a row
abbrev pub columns_give : List Column → List ℤ → ℕ → ℕ → ℤ
columns_give columns ray n row = dot (λ (c : Column). coefficient row (plain_column c)) (take n columns) ray

pub columns_size : (columns : List Column) (ray : List ℤ) (n row : ℕ) → n ≤ length columns → length columns ≤ 4096 → All IsSmallColumn (map plain_column columns) → All IsRayPart ray
    → unsigned_abs (columns_give columns ray n row) ≤ 2 ^ 124
columns_size columns ray n row l few small parts =
    let each = All-of_map IsSmallColumn plain_column columns small in
    let sum =
    dot_size (λ (c : Column). coefficient row (plain_column c)) columns ray n (2 ^ 40) (2 ^ 62) l (λ k d within. coefficient_size row (plain_column (get_or columns k d)) (each k d within))
    (λ k d within. let below : IsRayPart (get_or ray k d) = parts k d within in omega arith) in
    omega (arith, sum, l, few)

-- a column more gives its coefficient times its part
pub column_more : (columns : List Column) (ray : List ℤ) (n row : ℕ) (x : Column) → n < length columns → n < length ray → x ≡ get_or columns n x
    → columns_give columns ray (n + 1) row ≡ columns_give columns ray n row +ℤ coefficient row (plain_column x) *ℤ part ray n
column_more columns ray n row x l k is =
    let here : coefficient row (plain_column (get_or columns n x)) ≡ coefficient row (plain_column x) = ap (λ (c : Column). coefficient row (plain_column c)) (sym is) in
    dot_more (λ (c : Column). coefficient row (plain_column c)) columns ray n x (pos 0) l k ∙ ap (λ (z : ℤ). columns_give columns ray n row +ℤ z *ℤ part ray n) here

-- a test of a row's sides against its sum among these is one against its linear sum
pub row_test : (d : DeckValue) (ray : List ℤ) (columns : List Column) (sums : List ℤ) (row : ℕ) (b : Bool) → map plain_column columns ≡ d.columns → row < 512
    → AreSums (λ r. dot (coefficient r) (map plain_column columns) ray) sums → (IsTrue b ↔ HoldsAt (λ place (r : Row). IsFree r.low r.high (part sums row)) d.rows row)
    → IsTrue b ↔ HoldsAt (RowIsFree d ray) d.rows row
row_test d ray columns sums row b same inside are test =
    let is : part sums row ≡ linear_sum d row ray = are.each row inside ∙ ap (λ (cs : List ColumnValue). dot (coefficient row) cs ray) same in
    subst (λ (z : ℤ). IsTrue b ↔ HoldsAt (λ place (r : Row). IsFree r.low r.high z) d.rows row) is test
