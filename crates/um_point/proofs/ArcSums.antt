-- What the arcs of a deck give to the sums of its rows, and how many arcs there are.
use Rattle.std.proofs.Common.{[], ◌∷◌, ◌≡◌, ◌≢◌, ℕ, ◌+◌, ◌*◌, ◌^◌, ◌<◌, ◌≤◌, ℤ, pos, ◌+ℤ◌, ◌*ℤ◌, List, length, map, get_or, take, refl, sym, ap, ◌∙◌, arith, unsigned_abs, eqb, ◌⊎◌, inl, inr}
use Rattle.std.specs.Prelude.{All, Bool, true, false, ◌||◌, Option, Some, None}
use Rattle.std.specs.Option.{ForSome}
use Rattle.std.specs.List.{IsDistinct, list_any}
use Rattle.std.proofs.lemmas.Bool.{eq-eqb, eqb-true, ne_eqb, false≢true}
use Rattle.std.proofs.lemmas.Int.{ints}
use Rattle.std.proofs.lemmas.List.{get_or-map, length-map}
use Rattle.std.proofs.lemmas.List.Elements.{All-head, All-map, All-tail}
use Rattle.std.proofs.lemmas.Map.Keys.{IsDistinct-from_apart}
use Rattle.std.proofs.lemmas.Map.Steps.{length-le_from_distinct_below}
use Rattle.um_laws.specs.Sums.{sum_of}
use Rattle.um_laws.proofs.SumLaws.{sum_of_more}
use Rattle.um_model.specs.Values.{DeckValue}
use Rattle.um_model.specs.WellFormed.{IsDeck, IsWithin}
use Rattle.um_model.specs.Feasible.{part, is_arc_of}
use Rattle.um_model.specs.declared.deck.Arc.{Arc}
use Rattle.um_deck.proofs.BoundedSums.{abs_product}
use Rattle.um_point.specs.RowSums.{HaveGrown, arc_term}
use Rattle.um_point.specs.SmallPoints.{FitsIn36Bits}
use Rattle.um_point.proofs.ObjectiveParts.{square_size}
use Rattle.um_point.proofs.RowSteps.{sum_size, chosen_size, grown_size}

-- ---- one arc

abbrev pub square_of : List ℤ → Arc → ℤ
square_of parts a = a.value *ℤ (part parts a.column *ℤ part parts a.column)

-- an arc gives its term to its own row alone
arc_same : (row : ℕ) (parts : List ℤ) (a : Arc) → a.row ≡ Some row → arc_term (Some row) parts a ≡ square_of parts a
arc_same row parts a e = rw (e, eq-eqb row row refl) refl

arc_other : (place row : ℕ) (parts : List ℤ) (a : Arc) → a.row ≡ Some place → row ≢ place → arc_term (Some row) parts a ≡ pos 0
arc_other place row parts a e h = rw (e, ne_eqb place row (λ s. h (sym s))) refl

arc_none : (row : ℕ) (parts : List ℤ) (a : Arc) → a.row ≡ None → arc_term (Some row) parts a ≡ pos 0
arc_none row parts a e = rw e refl

-- ---- one arc more

module _ (arcs : List Arc) (parts : List ℤ) (i : ℕ) (d : Arc) (inside : i < length arcs) where
  pub arc_here : (row : ℕ) → (get_or arcs i d).row ≡ Some row → sum_of (arc_term (Some row) parts) (take (i + 1) arcs) ≡ sum_of (arc_term (Some row) parts) (take i arcs) +ℤ square_of parts (get_or arcs i d)
  arc_here row e = omega (arith, ints, sum_of_more (arc_term (Some row) parts) arcs i d inside, arc_same row parts (get_or arcs i d) e)

  pub arc_there : (place row : ℕ) → (get_or arcs i d).row ≡ Some place → row ≢ place → sum_of (arc_term (Some row) parts) (take (i + 1) arcs) ≡ sum_of (arc_term (Some row) parts) (take i arcs)
  arc_there place row e h = omega (arith, ints, sum_of_more (arc_term (Some row) parts) arcs i d inside, arc_other place row parts (get_or arcs i d) e h)

  pub arc_nowhere : (row : ℕ) → (get_or arcs i d).row ≡ None → sum_of (arc_term (Some row) parts) (take (i + 1) arcs) ≡ sum_of (arc_term (Some row) parts) (take i arcs)
  arc_nowhere row e = omega (arith, ints, sum_of_more (arc_term (Some row) parts) arcs i d inside, arc_none row parts (get_or arcs i d) e)

-- ---- sizes

term_size : (row : ℕ) (parts : List ℤ) (a : Arc) → All FitsIn36Bits parts → a.column < length parts → IsWithin (2 ^ 24) a.value → unsigned_abs (arc_term (Some row) parts a) ≤ 2 ^ 96
term_size row parts a small inside value =
    let square = square_size (part parts a.column) (small a.column (pos 0) inside) in
    chosen_size (is_arc_of (Some row) a) (square_of parts a) (2 ^ 96) (abs_product a.value (part parts a.column *ℤ part parts a.column) (2 ^ 24) (2 ^ 72) value square)

-- a row's sum among the first arcs is well inside the range
pub arc_room : (arcs : List Arc) (parts : List ℤ) (n row : ℕ) (before now : List ℤ) → n ≤ length arcs → length arcs ≤ 2 ^ 22 → All (λ (a : Arc). IsWithin (2 ^ 24) a.value) arcs → All (λ (a : Arc). a.column < length parts) arcs → All FitsIn36Bits parts
    → row < length before → All (IsWithin (2 ^ 124)) before → HaveGrown (λ r. sum_of (arc_term (Some r) parts) (take n arcs)) before now → unsigned_abs (part now row) < 2 ^ 126
arc_room arcs parts n row before now l few values columns small inside sizes grown =
    let sum = sum_size (arc_term (Some row) parts) arcs n (2 ^ 96) l (λ k d within. term_size row parts (get_or arcs k d) small (columns k d within) (values k d within)) in
    grown_size (λ r. sum_of (arc_term (Some r) parts) (take n arcs)) before now row inside grown sizes (omega (arith, sum, l, few))

-- ---- how many arcs

-- rows by number, and the objective before them
abbrev pub row_number : Option ℕ → ℕ
row_number None = 0
row_number (Some row) = row + 1

same_row : (r s : Option ℕ) → row_number r ≡ row_number s → r ≡ s
same_row None None e = refl
same_row None (Some s) e = absurd (omega arith)
same_row (Some r) None e = absurd (omega arith)
same_row (Some r) (Some s) e = ap Some (omega arith)

row_below : (r : Option ℕ) (rows : ℕ) → ForSome r (λ row. row < rows) → row_number r ≤ rows
row_below None rows h = omega arith
row_below (Some r) rows h = let l : r < rows = h r refl in omega arith

-- a row and a column in one number
abbrev arc_key : Arc → ℕ
arc_key a = row_number a.row * 4096 + a.column

split_key : (r s c d : ℕ) → c < 4096 → d < 4096 → r * 4096 + c ≡ s * 4096 + d → (r ≡ s) × (c ≡ d)
split_key r s c d h k e = (omega arith, omega arith)

one_of : (b c : Bool) → (b || c) ≡ true → (b ≡ true) ⊎ (c ≡ true)
one_of true c h = inl refl
one_of false c h = inr h

below_each : (most : ℕ) (keys : List ℕ) → All (λ k. k < most) keys → (q : ℕ) → list_any (eqb q) keys ≡ true → q < most
below_each most [] all q h = absurd (false≢true h)
below_each most (k ∷ keys) all q h =
    elim (one_of (eqb q k) (list_any (eqb q) keys) h) [
      | inl here ↦ let is : q ≡ k = eqb-true q k here in omega (arith, is, All-head (λ n. n < most) k keys all)
      | inr there ↦ below_each most keys (All-tail (λ n. n < most) k keys all) q there
    ]

-- no two arcs have the same row and the same column
pub few_arcs : (d : DeckValue) → IsDeck d → length d.arcs ≤ 2 ^ 22
few_arcs d h =
    let keys : List ℕ = map arc_key d.arcs in
    let none : Arc = record { row = None; column = 0; value = pos 0 } in
    let long : length keys ≡ length d.arcs = length-map d.arcs arc_key in
    let column_below : All (λ (a : Arc). a.column < 4096) d.arcs = λ k x within. omega (arith, (h.arcs k x within).column, h.column_count) in
    let apart : IsDistinct eqb keys =
    IsDistinct-from_apart eqb keys (λ i j n below within.
    let second : j < length d.arcs = omega (arith, within, long) in
    let first : i < length d.arcs = omega (arith, below, second) in
    let at_first : get_or keys i n ≡ arc_key (get_or d.arcs i none) = get_or-map arc_key d.arcs i none n first in
    let at_second : get_or keys j n ≡ arc_key (get_or d.arcs j none) = get_or-map arc_key d.arcs j none n second in
    ne_eqb (get_or keys i n) (get_or keys j n) (λ e.
    let parts = split_key (row_number (get_or d.arcs i none).row) (row_number (get_or d.arcs j none).row) (get_or d.arcs i none).column (get_or d.arcs j none).column (column_below i none first) (column_below j none second) (sym at_first ∙ e ∙ at_second) in
    h.distinct_arcs i j none below second (same_row (get_or d.arcs i none).row (get_or d.arcs j none).row parts.0) parts.1)) in
    omega (
      arith,
      long,
      length-le_from_distinct_below keys (2 ^ 22) apart (below_each (2 ^ 22) keys (All-map (λ k. k < 2 ^ 22) arc_key d.arcs (λ k x within.
          omega (arith, row_below (get_or d.arcs k x).row (length d.rows) (h.arcs k x within).row, h.row_count, column_below k x within)))),
    )
