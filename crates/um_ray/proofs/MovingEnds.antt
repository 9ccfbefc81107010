-- The ends of the start problem, beside those of the deck.
use Rattle.std.proofs.Common.{◌≡◌, ℕ, ◌+◌, ◌-◌, ◌<◌, ◌≤◌, arith, ap, sym, subst, ◌∙◌, refl, List, [], ◌∷◌, length, map, Bool, false, inl, inr, ◌⊎◌, Option, Some, None}
use Rattle.std.specs.Prelude.{ℤ, pos, negsuc, ◌≤ℤ◌, IsSome, if◌then◌else◌, slice_index_or}
use Rattle.std.proofs.lemmas.Int.{ints}
use Rattle.um_laws.proofs.Places.{at_map, length-map, get_of, below_or}
use Rattle.um_model.specs.Values.{DeckValue, ColumnValue}
use Rattle.um_model.specs.Boxes.{Ends, root, ends_at}
use Rattle.um_model.specs.declared.deck.Row.{Row}
use Rattle.um_lp.specs.States.{State, Frame, ColumnData, slack, at_of, reduced_of}
use Rattle.um_lp.specs.Boards.{IsStart, IsBoard, IsWantedEndFinite}
use Rattle.um_lp.specs.declared.board.At.TheVariants.{Basic}
use Rattle.um_duality.proofs.DeckBoards.{width-is}
use Rattle.um_duality.specs.Boxed.{row_ends, ends_on}
use Rattle.um_duality.specs.Relaxed.{StandsFor, side_end, column_data, deck_frame}
use Rattle.um_duality.proofs.LeafBridge.{column_at, no_column, ends-column, ends-slack}
use Rattle.um_soundness.proofs.Loops.{root_ends}
use Rattle.um_soundness.proofs.HeldColumns.{none_shut_out}
use Rattle.um_relax.proofs.Runs.{on_box}
use Rattle.um_ray.specs.Directions.{fall, rise, still, moving_column, moving_row, directions}
use Rattle.um_ray.specs.Laws.{MayStartLaw, OnDirectionsLaw}

-- ---- the same board

same_data : (cs : List ColumnValue) → map column_data (map moving_column cs) ≡ map column_data cs
same_data [] = refl
same_data (c ∷ cs) = ap (λ (xs : List ColumnData). column_data c ∷ xs) (same_data cs)

abbrev framed : (rows : ℕ) (columns : List ColumnData) → Frame
framed rows columns = record { rows = rows; columns = columns; places = 0 }

-- the rows and costs are those of the deck
pub same_frame : (d : DeckValue) → deck_frame (directions d) ≡ deck_frame d
same_frame d =
    ap (λ (n : ℕ). framed n (map column_data (map moving_column d.columns))) (length-map moving_row d.rows)
    ∙ ap (framed (length d.rows)) (same_data d.columns)

pub stands_moving : (d : DeckValue) (s : State) → StandsFor d s → StandsFor (directions d) s
stands_moving d s h = record { frame = h.frame ∙ sym (same_frame d); placed = h.placed }

pub stands_on_deck : (d : DeckValue) (s : State) → StandsFor (directions d) s → StandsFor d s
stands_on_deck d s h = record { frame = h.frame ∙ same_frame d; placed = h.placed }

-- ---- what the ends of the start problem are beside the deck's own

-- an end of the start problem lets 0 be, and is 0 exactly where the deck has an end
pub record AreMoving (own start : Option ℤ × Option ℤ) : Type 0 where
  pub low : (l : ℤ) → start.0 ≡ Some l → l ≤ℤ pos 0
  pub high : (h : ℤ) → start.1 ≡ Some h → pos 0 ≤ℤ h
  pub held_low : start.0 ≡ Some (pos 0) → IsSome own.0
  pub held_high : start.1 ≡ Some (pos 0) → IsSome own.1
  pub own_low : IsSome own.0 → start.0 ≡ Some (pos 0)
  pub own_high : IsSome own.1 → start.1 ≡ Some (pos 0)
  pub one_low : (l : ℤ) → start.0 ≡ Some l → (l ≡ pos 0) ⊎ (l ≡ negsuc 0)
  pub one_high : (h : ℤ) → start.1 ≡ Some h → (h ≡ pos 0) ⊎ (h ≡ pos 1)

some_is : (x y : ℤ) → Some x ≡ Some y → y ≡ x
some_is x y e = cc

falls : (low : Option ℤ) (l : ℤ) → fall low ≡ Some l → l ≤ℤ pos 0
falls None l e = let f = some_is (negsuc 0) l e in omega (arith, ints)
falls (Some low) l e = let f = some_is (pos 0) l e in omega (arith, ints)

one_fall : (low : Option ℤ) (l : ℤ) → fall low ≡ Some l → (l ≡ pos 0) ⊎ (l ≡ negsuc 0)
one_fall None l e = inr (some_is (negsuc 0) l e)
one_fall (Some low) l e = inl (some_is (pos 0) l e)

one_rise : (high : Option ℤ) (h : ℤ) → rise high ≡ Some h → (h ≡ pos 0) ⊎ (h ≡ pos 1)
one_rise None h e = inr (some_is (pos 1) h e)
one_rise (Some high) h e = inl (some_is (pos 0) h e)

rises : (high : Option ℤ) (h : ℤ) → rise high ≡ Some h → pos 0 ≤ℤ h
rises None h e = let f = some_is (pos 1) h e in omega (arith, ints)
rises (Some high) h e = let f = some_is (pos 0) h e in omega (arith, ints)

fall_held : (low : Option ℤ) → fall low ≡ Some (pos 0) → IsSome low
fall_held None e = cc
fall_held (Some low) e = refl

rise_held : (high : Option ℤ) → rise high ≡ Some (pos 0) → IsSome high
rise_held None e = cc
rise_held (Some high) e = refl

fall_own : (low : Option ℤ) → IsSome low → fall low ≡ Some (pos 0)
fall_own None h = cc
fall_own (Some low) h = refl

rise_own : (high : Option ℤ) → IsSome high → rise high ≡ Some (pos 0)
rise_own None h = cc
rise_own (Some high) h = refl

pub still_is : (side : Option ℤ) (l : ℤ) → side_end (still side) ≡ Some l → l ≡ pos 0
still_is None l e = cc
still_is (Some side) l e = some_is (pos 0) l e

still_held : (side : Option ℤ) → side_end (still side) ≡ Some (pos 0) → IsSome (side_end side)
still_held None e = cc
still_held (Some side) e = refl

still_own : (side : Option ℤ) → IsSome (side_end side) → side_end (still side) ≡ Some (pos 0)
still_own None h = cc
still_own (Some side) h = refl

pub column_moves : (low high : Option ℤ) → AreMoving (low, high) (fall low, rise high)
column_moves low high = record { low = falls low; high = rises high; held_low = fall_held low; held_high = rise_held high; own_low = fall_own low; own_high = rise_own high; one_low = one_fall low; one_high = one_rise high }

pub row_moves : (low high : Option ℤ) → AreMoving (side_end low, side_end high) (side_end (still low), side_end (still high))
row_moves low high = record {
  low = λ l e. (let f = still_is low l e in omega (arith, ints));
  high = λ h e. (let f = still_is high h e in omega (arith, ints));
  held_low = still_held low;
  held_high = still_held high;
  own_low = still_own low;
  own_high = still_own high;
  one_low = λ l e. inl (still_is low l e);
  one_high = λ h e. inl (still_is high h e);
}

-- ---- the ends of columns and slacks

abbrev given : Bool → Ends → Option ℤ × Option ℤ
given out e = let f : Ends = if out then record { low = e.low; high = Some (pos 0) } else e in (f.low, f.high)

-- the root box gives a column its own ends
pub own_column : (d : DeckValue) (j : ℕ) → j < length d.columns → ends_on d (root d) j ≡ ((column_at d j).low, (column_at d j).high)
own_column d j l =
    ends-column d (root d) j l
    ∙ ap (λ (out : Bool). given out (ends_at (root d) j)) (none_shut_out d j)
    ∙ ap (λ (e : Ends). given false e) (root_ends d j no_column l)

pub start_column : (d : DeckValue) (j : ℕ) → j < length d.columns → ends_on (directions d) (root (directions d)) j ≡ (fall (column_at d j).low, rise (column_at d j).high)
start_column d j l =
    let e : length (directions d).columns ≡ length d.columns = length-map moving_column d.columns in
    own_column (directions d) j (omega arith)
    ∙ ap (λ (c : ColumnValue). (c.low, c.high)) (at_map moving_column d.columns j no_column no_column l)

pub own_slack : (d : DeckValue) (i : ℕ) (default : Row) → i < length d.rows → ends_on d (root d) (length d.columns + i) ≡ (side_end (slice_index_or d.rows i default).low, side_end (slice_index_or d.rows i default).high)
own_slack d i default l = ends-slack d (root d) i ∙ ap row_ends (get_of d.rows i default l)

pub start_slack : (d : DeckValue) (i : ℕ) (default : Row) → i < length d.rows
    → ends_on (directions d) (root (directions d)) (length d.columns + i) ≡ (side_end (still (slice_index_or d.rows i default).low), side_end (still (slice_index_or d.rows i default).high))
start_slack d i default l =
    let e : length (directions d).rows ≡ length d.rows = length-map moving_row d.rows in
    ap (λ (n : ℕ). ends_on (directions d) (root (directions d)) (n + i)) (sym (length-map moving_column d.columns))
    ∙ own_slack (directions d) i default (omega arith)
    ∙ ap (λ (r : Row). (side_end r.low, side_end r.high)) (at_map moving_row d.rows i default default l)

-- each column of the start problem
pub moving : (d : DeckValue) (j : ℕ) → j < length d.columns + length d.rows → AreMoving (ends_on d (root d) j) (ends_on (directions d) (root (directions d)) j)
moving d j l = elim (below_or j (length d.columns)) [ inl c ↦ of_column c | inr r ↦ of_slack r ]
  where
    of_column : j < length d.columns → AreMoving (ends_on d (root d) j) (ends_on (directions d) (root (directions d)) j)
    of_column c =
        let x = column_at d j in
        subst (λ (e : Option ℤ × Option ℤ). AreMoving (ends_on d (root d) j) e) (sym (start_column d j c))
        (subst (λ (e : Option ℤ × Option ℤ). AreMoving e (fall x.low, rise x.high)) (sym (own_column d j c)) (column_moves x.low x.high))

    at_row : (i : ℕ) (r : Row) → i < length d.rows → AreMoving (ends_on d (root d) (length d.columns + i)) (ends_on (directions d) (root (directions d)) (length d.columns + i))
    at_row i r k =
        let x = slice_index_or d.rows i r in
        subst (λ (e : Option ℤ × Option ℤ). AreMoving (ends_on d (root d) (length d.columns + i)) e) (sym (start_slack d i r k))
        (subst (λ (e : Option ℤ × Option ℤ). AreMoving e (side_end (still x.low), side_end (still x.high))) (sym (own_slack d i r k)) (row_moves x.low x.high))

    of_slack : length d.columns ≤ j → AreMoving (ends_on d (root d) j) (ends_on (directions d) (root (directions d)) j)
    of_slack r =
        let i : ℕ = j - length d.columns in
        let e : length d.columns + i ≡ j = omega arith in
        let k : i < length d.rows = omega arith in
        subst (λ (n : ℕ). AreMoving (ends_on d (root d) n) (ends_on (directions d) (root (directions d)) n)) e (at_row i (first_row d.rows k) k)
      where
        first_row : {n : ℕ} (rows : List Row) → n < length rows → Row
        first_row [] h = absurd (omega arith)
        first_row (x ∷ xs) h = x

-- ---- the laws of its beginning

some_fall : (low : Option ℤ) → IsSome (fall low)
some_fall None = refl
some_fall (Some l) = refl

some_rise : (high : Option ℤ) → IsSome (rise high)
some_rise None = refl
some_rise (Some h) = refl

-- on a board that starts each slack is basic
slack_basic : (d : DeckValue) (s : State) → IsStart (deck_frame d) s → IsBoard s → (j : ℕ) → length d.columns ≤ j → j < length d.columns + length d.rows → at_of s j ≡ Basic
slack_basic d s start board j ge inside =
    let same : length (map column_data d.columns) ≡ length d.columns = length-map column_data d.columns in
    let row : ℕ = j - length d.columns in
    let below : row < length d.rows = omega arith in
    let here : row < s.frame.rows = subst (λ (f : Frame). row < f.rows) (sym start.frame) below in
    let is : slack (deck_frame d) row ≡ j = omega arith in
    subst (λ (k : ℕ). at_of s k ≡ Basic) (start.basic row below ∙ is) (board.basis.named row here)

pub may-start-law : MayStartLaw
may-start-law d s start board j inside = elim (below_or j (length d.columns)) [ inl l ↦ of_column l | inr r ↦ of_slack r ]
  where
    stands : StandsFor d s
    stands = record { frame = start.frame; placed = start.placed }

    of_column : j < length d.columns → IsWantedEndFinite (at_of s j) (reduced_of s j) (ends_on (directions d) (root (directions d)) j)
    of_column l =
        subst (λ (e : Option ℤ × Option ℤ). IsWantedEndFinite (at_of s j) (reduced_of s j) e) (sym (start_column d j l))
        (record { low = λ _ _. some_fall (column_at d j).low; high = λ _ _. some_rise (column_at d j).high })

    of_slack : length d.columns ≤ j → IsWantedEndFinite (at_of s j) (reduced_of s j) (ends_on (directions d) (root (directions d)) j)
    of_slack r =
        let basic = slack_basic d s start board j r (omega (arith, width-is d s stands)) in
        record { low = λ other. absurd (other basic); high = λ other. absurd (other basic) }

pub on-directions-law : OnDirectionsLaw
on-directions-law d s pivots t arcs stands run = on_box (directions d) (root (directions d)) s pivots t arcs (stands_moving d s stands) run
