-- The ends of columns and slacks: in order, in range, and where they stand in the relaxation's lists.
use Rattle.std.proofs.Common.{◌≡◌, ℕ, zero, suc, ◌-◌, ◌<◌, ◌≤◌, ◌^◌, List, [], ◌∷◌, ◌++◌, length, map, get_or, arith, sym, ap, ◌∙◌, subst, refl, Option, None, Some, ◌⊎◌, inl, inr}
use Rattle.std.specs.Prelude.{ℤ, pos, ◌*ℤ◌, ◌<ℤ◌, ◌≤ℤ◌, unsigned_abs, slice_get, IsSomeAnd, nat_lt}
use Rattle.std.specs.Option.{ForSome}
use Rattle.std.proofs.lemmas.Int.{ints}
use Rattle.std.proofs.lemmas.Bool.{cond-false, cond-true, lt-ltb, le-ltb}
use Rattle.std.proofs.lemmas.List.{get_or-append_right, length-map}
use Rattle.um_num.specs.Numbers.{IsInRange}
use Rattle.um_model.specs.Values.{DeckValue, ColumnValue}
use Rattle.um_model.specs.WellFormed.{IsDeck, IsRow}
use Rattle.um_model.specs.Boxes.{BoxValue, IsVoid, ends_of}
use Rattle.um_model.specs.declared.deck.Row.{Row}
use Rattle.um_deck.proofs.ListParts.{all_at}
use Rattle.um_lp.specs.Boards.{AreOrdered}
use Rattle.um_deck.specs.Decks.{IsDeckNow}
use Rattle.um_lp.specs.declared.relaxation.Relaxation.{Relaxation}
use Rattle.um_duality.specs.Relaxed.{side_end}
use Rattle.um_relax.specs.Relaxations.{IsRelaxationOf}
use Rattle.um_duality.specs.Boxed.{row_ends, ends_on}

-- ---- columns
at_most_or : (a b : ℤ) → (a ≤ℤ b) ⊎ (b <ℤ a)
at_most_or a b = grind (arith, ints)

-- a number that is not above the other is at most the other
at_most : (a b : ℤ) → ¬ b <ℤ a → a ≤ℤ b
at_most a b n = elim (at_most_or a b) [ inl h ↦ h | inr h ↦ absurd (n h) ]

-- ends that are not crossed are in order
ordered_of : (low high : Option ℤ) → ¬ IsSomeAnd low (λ l. IsSomeAnd high (λ h. h <ℤ l)) → (l : ℤ) → low ≡ Some l → (h : ℤ) → high ≡ Some h → l ≤ℤ h
ordered_of None high n l e h f = cc
ordered_of (Some a) None n l e h f = cc
ordered_of (Some a) (Some b) n l e h f =
    let x : a ≡ l = cc in
    let y : b ≡ h = cc in
    subst (λ (z : ℤ). z ≤ℤ h) x (subst (λ (z : ℤ). a ≤ℤ z) y (at_most a b n))

-- the ends of a column of a box that is not void
column_ordered : (d : DeckValue) (b : BoxValue) (column : ℕ) → ¬ IsVoid d b → column < length d.columns → AreOrdered ((ends_of d b column).low, (ends_of d b column).high)
column_ordered d b column full l = ordered_of (ends_of d b column).low (ends_of d b column).high (λ c. full (column, l, c))

-- ---- slacks
slack_low : (rows : List Row) (k : ℕ) → get_or (map (λ (r : Row). side_end r.low) rows) k None ≡ (row_ends (slice_get rows k)).0
slack_low [] zero = refl
slack_low [] (suc k) = refl
slack_low (r ∷ rows) zero = refl
slack_low (r ∷ rows) (suc k) = slack_low rows k

-- the high end of a slack, likewise
slack_high : (rows : List Row) (k : ℕ) → get_or (map (λ (r : Row). side_end r.high) rows) k None ≡ (row_ends (slice_get rows k)).1
slack_high [] zero = refl
slack_high [] (suc k) = refl
slack_high (r ∷ rows) zero = refl
slack_high (r ∷ rows) (suc k) = slack_high rows k

-- what stands behind the columns
behind : (xs ys : List (Option ℤ)) (n column : ℕ) → length xs ≡ n → n ≤ column → get_or (xs ++ ys) column None ≡ get_or ys (column - n) None
behind xs ys n column e l = get_or-append_right xs ys n column None e l

-- the ends of the box at a slack are those of its row
ends_on_slack : (d : DeckValue) (b : BoxValue) (column : ℕ) → length d.columns ≤ column → ends_on d b column ≡ row_ends (slice_get d.rows (column - length d.columns))
ends_on_slack d b column l = cond-false (nat_lt column (length d.columns)) ((ends_of d b column).low, (ends_of d b column).high) (row_ends (slice_get d.rows (column - length d.columns))) (le-ltb column (length d.columns) l)

-- the ends of the box at a column
ends_on_column : (d : DeckValue) (b : BoxValue) (column : ℕ) → column < length d.columns → ends_on d b column ≡ ((ends_of d b column).low, (ends_of d b column).high)
ends_on_column d b column l = cond-true (nat_lt column (length d.columns)) ((ends_of d b column).low, (ends_of d b column).high) (row_ends (slice_get d.rows (column - length d.columns))) (lt-ltb column (length d.columns) l)

-- what the list of low ends has at a slack
low_at : (d : DeckValue) (lows : List (Option ℤ)) (column : ℕ) → lows ≡ map (λ (c : ColumnValue). c.low) d.columns ++ map (λ (r : Row). side_end r.low) d.rows → length d.columns ≤ column
    → get_or lows column None ≡ (row_ends (slice_get d.rows (column - length d.columns))).0
low_at d lows column e l =
    ap (λ (xs : List (Option ℤ)). get_or xs column None) e
    ∙ behind (map (λ (c : ColumnValue). c.low) d.columns) (map (λ (r : Row). side_end r.low) d.rows) (length d.columns) column (length-map d.columns (λ (c : ColumnValue). c.low)) l
    ∙ slack_low d.rows (column - length d.columns)

-- what the list of high ends has at a slack
high_at : (d : DeckValue) (highs : List (Option ℤ)) (column : ℕ) → highs ≡ map (λ (c : ColumnValue). c.high) d.columns ++ map (λ (r : Row). side_end r.high) d.rows → length d.columns ≤ column
    → get_or highs column None ≡ (row_ends (slice_get d.rows (column - length d.columns))).1
high_at d highs column e l =
    ap (λ (xs : List (Option ℤ)). get_or xs column None) e
    ∙ behind (map (λ (c : ColumnValue). c.high) d.columns) (map (λ (r : Row). side_end r.high) d.rows) (length d.columns) column (length-map d.columns (λ (c : ColumnValue). c.high)) l
    ∙ slack_high d.rows (column - length d.columns)

-- what a slack's ends keep
pub record AreSlackEnds (ends : Option ℤ × Option ℤ) : Type 0 where
  pub low : ForSome ends.0 IsInRange
  pub high : ForSome ends.1 IsInRange
  pub ordered : AreOrdered ends

-- a side in thousandths is in range
side_in : (side : Option ℤ) → ForSome side (λ v. unsigned_abs v ≤ 2 ^ 53) → ForSome (side_end side) IsInRange
side_in None h z e = cc
side_in (Some v) h z e = let x : pos 1000 *ℤ v ≡ z = cc in let q = h v refl in omega (arith, ints)

-- sides in order stay so in thousandths
sides_ordered : (low high : Option ℤ) → ForSome low (λ l. ForSome high (λ h. l ≤ℤ h)) → AreOrdered (side_end low, side_end high)
sides_ordered None high n l e h f = cc
sides_ordered (Some a) None n l e h f = cc
sides_ordered (Some a) (Some b) n l e h f =
    let x : pos 1000 *ℤ a ≡ l = cc in
    let y : pos 1000 *ℤ b ≡ h = cc in
    let q = n a refl b refl in
    omega (arith, ints)

-- the ends of a row keep this, and so do those past the last row
row_ends_keep : (o : Option Row) → ((r : Row) → o ≡ Some r → IsRow r) → AreSlackEnds (row_ends o)
row_ends_keep None h = record { low = λ z e. cc; high = λ z e. cc; ordered = λ z e. cc }
row_ends_keep (Some r) h = let row = h r refl in record { low = side_in r.low row.low; high = side_in r.high row.high; ordered = sides_ordered r.low r.high row.order }

-- the ends of each row of a well-formed deck keep this
slack_ends_keep : (d : DeckValue) (k : ℕ) → IsDeck d → AreSlackEnds (row_ends (slice_get d.rows k))
slack_ends_keep d k h = row_ends_keep (slice_get d.rows k) (λ r e. all_at IsRow d.rows k r h.rows e)

-- ---- what is read
pub read_ordered : (d : DeckValue) (b : BoxValue) (column : ℕ) (ends : Option ℤ × Option ℤ) (low high : Option ℤ) → ¬ IsVoid d b → column < length d.columns → ends ≡ ((ends_of d b column).low, (ends_of d b column).high) → low ≡ ends.0 → high ≡ ends.1
    → AreOrdered (low, high)
read_ordered d b column ends low high full l e f h =
    subst AreOrdered (let p : ((ends_of d b column).low, (ends_of d b column).high) ≡ (low, high) = sym (rw (f, h) e) in p) (column_ordered d b column full l)

-- the pair at a slack
pub slack_pair : (d : DeckValue) (b : BoxValue) (r : Relaxation) (column : ℕ) (lows highs : List (Option ℤ)) → IsRelaxationOf d r → r.columns ≤ column → lows ≡ r.lows.items → highs ≡ r.highs.items
    → (get_or lows column None, get_or highs column None) ≡ ends_on d b column
slack_pair d b r column lows highs h l e f =
    let inside : length d.columns ≤ column = let q = h.columns in omega arith in
    let p = low_at d lows column (e ∙ h.lows) inside in
    let q = high_at d highs column (f ∙ h.highs) inside in
    rw (p, q) (sym (ends_on_slack d b column inside))

-- what the pair at a slack keeps
pub slack_keeps : (d g : DeckValue) (b : BoxValue) (r : Relaxation) (column : ℕ) (lows highs : List (Option ℤ)) → IsDeckNow g → g ≡ d → IsRelaxationOf d r → r.columns ≤ column → lows ≡ r.lows.items → highs ≡ r.highs.items
    → AreSlackEnds (get_or lows column None, get_or highs column None)
slack_keeps d g b r column lows highs k same h l e f =
    let inside : length d.columns ≤ column = let q = h.columns in omega arith in
    subst AreSlackEnds (sym (slack_pair d b r column lows highs h l e f ∙ ends_on_slack d b column inside)) (slack_ends_keep d (column - length d.columns) (subst IsDeckNow same k).formed)
