-- The rows that are known behind a deck's normal text are those of the deck.
use Rattle.std.proofs.Common.{◌≡◌, ◌≢◌, ℕ, suc, ◌+◌, Bool, true, false, not, List, [], ◌∷◌, map, filter, Option, Some, None, option_map, ℤ, pos, ◌+ℤ◌, ◌-ℤ◌, ◌≤ℤ◌, IsSome, refl, ap, ◌∙◌, subst, arith, if◌then◌else◌}
use Rattle.std.specs.List.{enumerate_from}
use Rattle.std.proofs.lemmas.Int.{ints}
use Rattle.std.proofs.lemmas.Bool.{false≢true}
use Rattle.std.proofs.lemmas.Bool.Decides.{nat_tests}
use Rattle.um_model.specs.Values.{DeckValue}
use Rattle.um_model.specs.WellFormed.{IsDeck, IsRow, AtPlace}
use Rattle.um_model.specs.declared.deck.Row.{Row}
use Rattle.um_statements.specs.Said.{RowSaid}
use Rattle.um_statements.specs.CallRules.{is_n}
use Rattle.um_statements.specs.Scaled.{times_ten}
use Rattle.um_statements.specs.Made.{low_side, high_side, side_at, range_at, row_made, sided_rows, size}
use Rattle.um_make.specs.NormalLines.{is_zero_number, is_same, sides_kind, first_side, width}
use Rattle.um_round.specs.Numerals.{written}
use Rattle.um_round.proofs.EachItem.{Each-from, each_at_place}
use Rattle.um_round.proofs.NormalSaid.{normal_said, told_number, row_known, HasObjectiveArcs}
use Rattle.um_round.proofs.Numerals.{scaled_back}
use Rattle.um_round.proofs.KnownNumbers.{zero_is}
use Rattle.um_round.proofs.KnownScales.{number_is, never_n, row_scale_is}

-- ---- places

none_left_out : (n : ℕ) (rows : List Row) → filter (λ (p : ℕ × RowSaid). not (is_n p.1.kind)) (enumerate_from n (map row_known rows)) ≡ enumerate_from n (map row_known rows)
none_left_out n [] = refl
none_left_out n (r ∷ rows) = rw (never_n r.low r.high) (ap (λ (ps : List (ℕ × RowSaid)). (n, row_known r) ∷ ps) (none_left_out (n + 1) rows))

-- all rows but the first, which is the objective
pub rows_but_first : (d : DeckValue) → sided_rows (normal_said d) ≡ enumerate_from 1 (map row_known d.rows)
rows_but_first d = none_left_out 1 d.rows

-- ---- sides

abbrev some_width : ℤ → Option ℤ
some_width w = if is_zero_number w then None else Some w

range_is : (k : ℕ) (w : ℤ) → option_map (λ v. times_ten v k) (told_number k w) ≡ some_width w
range_is k w = by (is_zero_number w)
  where
    by : (b : Bool) → option_map (λ v. times_ten v k) (if b then None else Some (written k w)) ≡ (if b then None else Some w)
    by true = refl
    by false = ap (λ z. Some z) (scaled_back k w)

same_both : (a b : ℤ) → is_same a b ≡ true → a ≡ b
same_both a b t = grind (arith, ints, nat_tests)

other_both : (a b : ℤ) → is_same a b ≡ false → a ≢ b
other_both a b t e = grind (arith, ints, nat_tests)

no_width : (a b : ℤ) → a ≡ b → some_width (b -ℤ a) ≡ None
no_width a b e = let none : b -ℤ a ≡ pos 0 = omega (arith, ints, e) in rw none refl

has_width : (a b : ℤ) → a ≢ b → some_width (b -ℤ a) ≡ Some (b -ℤ a)
has_width a b other = by (is_zero_number (b -ℤ a)) refl
  where
    by : (t : Bool) → is_zero_number (b -ℤ a) ≡ t → (if t then None else Some (b -ℤ a)) ≡ Some (b -ℤ a)
    by true e = let none = zero_is (b -ℤ a) e in absurd (other (omega (arith, ints, none)))
    by false e = refl

far_side : (a b : ℤ) → a ≤ℤ b → a +ℤ size (b -ℤ a) ≡ b
far_side a b h = omega (arith, ints, h)

low_back : (low high : Option ℤ) → low_side (sides_kind low high) (first_side low high) (some_width (width low high)) ≡ low
low_back None None = refl
low_back None (Some high) = refl
low_back (Some low) None = refl
low_back (Some low) (Some high) = by (is_same low high) refl
  where
    by : (t : Bool) → is_same low high ≡ t → low_side (sides_kind (Some low) (Some high)) low (some_width (high -ℤ low)) ≡ Some low
    by true e = rw (e, no_width low high (same_both low high e)) refl
    by false e = rw e refl

high_back : (low high : Option ℤ) → (low ≡ None → IsSome high) → ((a b : ℤ) → low ≡ Some a → high ≡ Some b → a ≤ℤ b) → high_side (sides_kind low high) (first_side low high) (some_width (width low high)) ≡ high
high_back None None some order = absurd (false≢true (some refl))
high_back None (Some high) some order = refl
high_back (Some low) None some order = refl
high_back (Some low) (Some high) some order = by (is_same low high) refl
  where
    by : (t : Bool) → is_same low high ≡ t → high_side (sides_kind (Some low) (Some high)) low (some_width (high -ℤ low)) ≡ Some high
    by true e = let same = same_both low high e in rw (e, no_width low high same) (ap (λ z. Some z) same)
    by false e = let other = other_both low high e in rw (e, has_width low high other) (ap (λ z. Some z) (far_side low high (order low high refl refl)))

-- ---- a row

abbrev row_scaled : Row → ℕ → Row
row_scaled r k = record {
  name = r.name;
  scale = k;
  low = low_side (sides_kind r.low r.high) (side_at (row_known r) k) (range_at (row_known r) k);
  high = high_side (sides_kind r.low r.high) (side_at (row_known r) k) (range_at (row_known r) k);
}

pub side_is : (r : Row) → side_at (row_known r) r.scale ≡ first_side r.low r.high
side_is r = ap (λ v. times_ten v r.scale) (number_is r.scale (first_side r.low r.high)) ∙ scaled_back r.scale (first_side r.low r.high)

pub low_is : (r : Row) → low_side (sides_kind r.low r.high) (side_at (row_known r) r.scale) (range_at (row_known r) r.scale) ≡ r.low
low_is r = rw (side_is r, range_is r.scale (width r.low r.high)) (low_back r.low r.high)

pub high_is : (r : Row) → IsRow r → high_side (sides_kind r.low r.high) (side_at (row_known r) r.scale) (range_at (row_known r) r.scale) ≡ r.high
high_is r is = rw (side_is r, range_is r.scale (width r.low r.high)) (high_back r.low r.high is.side (λ a b e f. is.order a e b f))

row_back : (r : Row) → IsRow r → row_scaled r r.scale ≡ r
row_back r is =
    let lows = low_is r in
    let highs = high_is r is in
    λ i. record { name = r.name; scale = r.scale; low = lows i; high = highs i }

module _ (d : DeckValue) (deck : IsDeck d) (in_objective : HasObjectiveArcs d) where
  made_row : (i : ℕ) (r : Row) → AtPlace d.rows i r → row_made (normal_said d) (suc i, row_known r) ≡ r
  made_row i r at = ap (row_scaled r) (row_scale_is d deck in_objective i r at) ∙ row_back r (each_at_place IsRow d.rows i r (Each-from IsRow d.rows deck.rows) at)

  made_from : (n : ℕ) (rows : List Row) → ((i : ℕ) (r : Row) → AtPlace rows i r → (m : ℕ) → m ≡ n + i → row_made (normal_said d) (m, row_known r) ≡ r) → map (row_made (normal_said d)) (enumerate_from n (map row_known rows)) ≡ rows
  made_from n [] h = refl
  made_from n (r ∷ rows) h =
      ap (λ (x : Row). x ∷ map (row_made (normal_said d)) (enumerate_from (n + 1) (map row_known rows))) (h 0 r refl n (omega arith))
      ∙ ap (λ (xs : List Row). r ∷ xs) (made_from (n + 1) rows (λ i x at m e. h (suc i) x at m (omega (arith, e))))

  pub rows_back : map (row_made (normal_said d)) (sided_rows (normal_said d)) ≡ d.rows
  rows_back = ap (map (row_made (normal_said d))) (rows_but_first d)
      ∙ made_from 1 d.rows (λ i r at m e. let up : suc i ≡ m = omega (arith, e) in subst (λ k. row_made (normal_said d) (k, row_known r) ≡ r) up (made_row i r at))
