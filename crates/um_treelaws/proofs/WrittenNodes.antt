-- The line of a node says what was written.
use Rattle.std.proofs.Common.{◌≡◌, ◌≢◌, ℕ, suc, ◌+◌, ◌<◌, ◌≤◌, ◌^◌, true, false, nat_eq, List, [], ◌∷◌, ◌++◌, map, length, length-append, ℤ, pos, unsigned_abs, Option, Some, None, IfSome, Ok, codes, refl, ◌∙◌, arith}
use Rattle.std.specs.Prelude.{All, AllPairs}
use Rattle.std.specs.Fmt.{decimal, signed_decimal}
use Rattle.std.specs.List.{list_all, list_any}
use Rattle.std.proofs.lemmas.Bool.{ne_eqb, le-ltb, lt-ltb, lt-leb, and_from, or_right}
use Rattle.std.proofs.lemmas.Int.{ints}
use Rattle.std.proofs.lemmas.List.Elements.{All-head, All-tail}
use Rattle.std.proofs.lemmas.List.Folds.{list_all-append, list_any-append}
use Rattle.um_num.specs.Numbers.{IsInRange}
use Rattle.um_multipliers.specs.PlainMultipliers.{MultipliersValue}
use Rattle.um_multipliers.specs.declared.multipliers.Price.{Price}
use Rattle.um_model.specs.Values.{DeckValue}
use Rattle.um_model.specs.AnswerValues.{NodeValue, WhatValue, Split, Bounded, Empty, Void, OpenLeaf}
use Rattle.um_model.specs.declared.branch.Branch.{Branch}
use Rattle.um_model.specs.declared.branch.Branch.TheVariants as branch
use Rattle.um_model.specs.declared.tree.Solved.{Solved}
use Rattle.um_treetext.specs.TreeText.{price_word, multiplier_words, solved_words, what_words, node_words}
use Rattle.um_treetext.specs.Words.{Words, Says, taking, is_next, next_word, from_zero_word, short_word}
use Rattle.um_treetext.specs.FrontLines.{is_name_byte}
use Rattle.um_treetext.specs.NodeLines.{is_colon, has_one_colon, price_parts_said, price_of, price_said, prices_said, multipliers_said, zero_word, column_said, cut_said, set_said, semi_said, void_said, shown_said, became_said, work_said, solved_said, node_line}
use Rattle.um_treetext.specs.Writable.{IsWritablePrice, IsWritableList, IsCutAt, IsWritableWhat, IsWritableSolved, IsWritableNode}
use Rattle.um_treelaws.proofs.WrittenLines.{IsPiece, IsLineOf, taking_piece, fixed_same}
use Rattle.um_treelaws.proofs.WrittenNumbers.{cut_at, plain_decimal, plain_signed, other_word, numeral_back, count_back, natural_back, short_range, short_back, from_zero_back, zero_back}
use Rattle.um_treelaws.proofs.WrittenFront.{are_pieces, piece_below, taking_below}

-- ---- prices

one_colon : (p : Price) → IsWritablePrice p → has_one_colon (price_word p) ≡ true
one_colon p h =
    let row = plain_decimal p.row (let r = h.row in omega (arith, r)) in
    let cut = cut_at is_colon (decimal p.row) 58 (signed_decimal p.value) row.colon refl in
    let some : list_any is_colon (price_word p) ≡ true = list_any-append is_colon (decimal p.row) (58 ∷ signed_decimal p.value) ∙ or_right _ _ refl in
    rw (some, cut.back_is, (plain_signed p.value h.value).colon) refl

price_parts_back : (p : Price) → IsWritablePrice p → price_parts_said (pos p.row) p.value ≡ Ok (p.row, p.value)
unfolding price_parts_said
price_parts_back p h = rw (lt-ltb p.row (2 ^ 32) h.row, lt-ltb (unsigned_abs p.value) (2 ^ 127) h.value) refl

not_zero : (z : ℤ) → z ≢ pos 0 → nat_eq (unsigned_abs z) 0 ≡ false
not_zero z more = ne_eqb (unsigned_abs z) 0 (λ e. more (omega (arith, ints, e)))

price_of_back : (rows next : ℕ) (p : Price) → p.row < rows → next ≤ p.row → p.value ≢ pos 0 → price_of rows next (p.row, p.value) ≡ Ok p
price_of_back rows next p within up more = rw (le-ltb p.row next up, not_zero p.value more, lt-leb rows p.row within) refl

price_back : (rows next : ℕ) (p : Price) → IsWritablePrice p → p.row < rows → next ≤ p.row → p.value ≢ pos 0 → price_said rows next (price_word p) ≡ Ok p
unfolding price_said
price_back rows next p h within up more =
    let low : p.row < 2 ^ 127 = let r = h.row in omega (arith, r) in
    let cut = cut_at is_colon (decimal p.row) 58 (signed_decimal p.value) (plain_decimal p.row low).colon refl in
    rw (one_colon p h, cut.front_is, cut.back_is, count_back p.row low, numeral_back p.value h.value, price_parts_back p h) (price_of_back rows next p within up more)

piece_price : (p : Price) → IsWritablePrice p → IsPiece (price_word p)
piece_price p h =
    let row = (plain_decimal p.row (let r = h.row in omega (arith, r))).piece in
    let value = (plain_signed p.value h.value).piece in
    record {
      bytes = list_all-append is_name_byte (decimal p.row) (58 ∷ signed_decimal p.value) ∙ and_from _ _ row.bytes (and_from _ _ refl value.bytes);
      some = omega (arith, length-append (decimal p.row) (58 ∷ signed_decimal p.value));
    }

-- what prices of a list of a deck of so many rows are, from the next row on
record ArePrices (rows next : ℕ) (ps : List Price) : Type 0 where
  written : All IsWritablePrice ps
  within : All (λ (p : Price). p.row < rows) ps
  rise : AllPairs (λ (a : Price) (b : Price). a.row < b.row) ps
  nonzero : All (λ (p : Price). p.value ≢ pos 0) ps
  from : All (λ (p : Price). next ≤ p.row) ps

prices_behind : (rows next : ℕ) (p : Price) (ps : List Price) → ArePrices rows next (p ∷ ps) → ArePrices rows (p.row + 1) ps
prices_behind rows next p ps h = record {
  written = All-tail IsWritablePrice p ps h.written;
  within = All-tail (λ (q : Price). q.row < rows) p ps h.within;
  rise = λ i j d lt within. h.rise (suc i) (suc j) d (omega (arith, lt)) (omega (arith, within));
  nonzero = All-tail (λ (q : Price). q.value ≢ pos 0) p ps h.nonzero;
  from = λ k d within. let above = h.rise 0 (suc k) d (omega arith) (omega (arith, within)) in omega (arith, above);
}

prices_back : (rows next : ℕ) (ps : List Price) → ArePrices rows next ps → prices_said rows next (map price_word ps) ≡ Ok ps
unfolding prices_said
prices_back rows next [] h = refl
prices_back rows next (p ∷ ps) h =
    let here = All-head IsWritablePrice p ps h.written in
    let price = price_back rows next p here (All-head (λ (q : Price). q.row < rows) p ps h.within) (All-head (λ (q : Price). next ≤ q.row) p ps h.from) (All-head (λ (q : Price). q.value ≢ pos 0) p ps h.nonzero) in
    rw (
      taking_piece (price_said rows next) (price_word p) (map price_word ps) p (piece_price p here).some price,
      prices_back rows (p.row + 1) ps (prices_behind rows next p ps h),
    ) refl

prices_pieces : (ps : List Price) → All IsWritablePrice ps → are_pieces (map price_word ps) ≡ true
prices_pieces [] h = refl
prices_pieces (p ∷ ps) h = and_from _ _ (piece_price p (All-head IsWritablePrice p ps h)).bytes (prices_pieces ps (All-tail IsWritablePrice p ps h))

-- ---- multipliers

list_prices : (d : DeckValue) (y : MultipliersValue) → IsWritableList d y → ArePrices (length d.rows) 0 y.rows
list_prices d y h = record { written = h.prices; within = h.rows.within; rise = h.rows.rise; nonzero = h.normal.nonzero; from = λ k d within. omega arith }

multipliers_back : (first : List ℕ → Says ℤ) (d : DeckValue) (y : MultipliersValue) → IsWritableList d y → first (signed_decimal y.y0) ≡ Ok y.y0 → multipliers_said first (length d.rows) (multiplier_words y) ≡ Ok (record { value = y; left = [] })
unfolding multipliers_said
multipliers_back first d y h e =
    rw (
      taking_piece first (signed_decimal y.y0) (map price_word y.rows) y.y0 (plain_signed y.y0 h.range).piece.some e,
      prices_back (length d.rows) 0 y.rows (list_prices d y h),
    ) refl

shown_back : (made : MultipliersValue → WhatValue) (first : List ℕ → Says ℤ) (d : DeckValue) (y : MultipliersValue) → IsWritableList d y → first (signed_decimal y.y0) ≡ Ok y.y0 → shown_said made first (length d.rows) (multiplier_words y) ≡ Ok (record { value = made y; left = [] })
unfolding shown_said
shown_back made first d y h e = rw (multipliers_back first d y h e) refl

multiplier_pieces : (d : DeckValue) (y : MultipliersValue) → IsWritableList d y → are_pieces (multiplier_words y) ≡ true
multiplier_pieces d y h = and_from _ _ (plain_signed y.y0 h.range).piece.bytes (prices_pieces y.rows h.prices)

-- ---- branches

cut_back : (made : ℕ → ℤ → Branch) (column : ℕ) (at : ℤ) → IsCutAt column at → cut_said made (decimal column ∷ signed_decimal at ∷ []) ≡ Ok (record { value = made column at; left = [] })
unfolding cut_said
cut_back made column at h =
    rw (
      taking_below (2 ^ 32) column (signed_decimal at ∷ []) (omega arith) h.index,
      taking_piece short_word (signed_decimal at) [] at (plain_signed at (short_range at h.at)).piece.some (short_back at h.at),
    ) refl

set_back : (made : ℕ → ℕ → Branch) (set at : ℕ) → set < 2 ^ 32 → at < 2 ^ 32 → set_said made (decimal set ∷ decimal at ∷ []) ≡ Ok (record { value = made set at; left = [] })
unfolding set_said
set_back made set at h k = rw (taking_below (2 ^ 32) set (decimal at ∷ []) (omega arith) h, taking_below (2 ^ 32) at [] (omega arith) k) refl

semi_back : (column : ℕ) → column < 2 ^ 32 → semi_said (decimal column ∷ []) ≡ Ok (record { value = branch.Semi column; left = [] })
unfolding semi_said
semi_back column h = rw (taking_below (2 ^ 32) column [] (omega arith) h) refl

cut_pieces : (column : ℕ) (at : ℤ) → IsCutAt column at → are_pieces (decimal column ∷ signed_decimal at ∷ []) ≡ true
cut_pieces column at h = and_from _ _ (piece_below (2 ^ 32) column (omega arith) h.index).bytes (and_from _ _ (plain_signed at (short_range at h.at)).piece.bytes refl)

set_pieces : (set at : ℕ) → set < 2 ^ 32 → at < 2 ^ 32 → are_pieces (decimal set ∷ decimal at ∷ []) ≡ true
set_pieces set at h k = and_from _ _ (piece_below (2 ^ 32) set (omega arith) h).bytes (and_from _ _ (piece_below (2 ^ 32) at (omega arith) k).bytes refl)

column_pieces : (column : ℕ) → column < 2 ^ 32 → are_pieces (decimal column ∷ []) ≡ true
column_pieces column h = and_from _ _ (piece_below (2 ^ 32) column (omega arith) h).bytes refl

-- ---- what became of a node

column_back : (columns column : ℕ) → column < 2 ^ 32 → column < columns → column_said columns (decimal column) ≡ Ok column
unfolding column_said
column_back columns column h k = rw (natural_back (2 ^ 32) column (omega arith) h, lt-leb columns column k) refl

void_back : (columns column : ℕ) → column < 2 ^ 32 → column < columns → void_said columns (decimal column ∷ []) ≡ Ok (record { value = Void column; left = [] })
unfolding void_said
void_back columns column h k =
    rw (taking_piece (column_said columns) (decimal column) [] column (piece_below (2 ^ 32) column (omega arith) h).some (column_back columns column h k)) refl

became_back : (d : DeckValue) (w : WhatValue) → IsWritableWhat d w → became_said d (what_words w) ≡ Ok (record { value = w; left = [] })
unfolding became_said taking next_word
became_back d (Split (branch.Int column below)) h = rw (cut_back branch.Int column below h) refl
became_back d (Split (branch.Cut column at)) h = rw (cut_back branch.Cut column at h) refl
became_back d (Split (branch.Semi column)) h = rw (semi_back column h) refl
became_back d (Split (branch.One set at)) h = rw (set_back branch.One set at h.0 h.1) refl
became_back d (Split (branch.Two set at)) h = rw (set_back branch.Two set at h.0 h.1) refl
became_back d (Bounded y) h = shown_back Bounded from_zero_word d y h (from_zero_back y.y0 h.first h.range)
became_back d (Empty y) h = shown_back Empty zero_word d y h.multipliers (zero_back y.y0 h.zero)
became_back d (Void column) h = void_back (length d.columns) column h.0 h.1
became_back d (OpenLeaf y) h = shown_back OpenLeaf from_zero_word d y h (from_zero_back y.y0 h.first h.range)

what_pieces : (d : DeckValue) (w : WhatValue) → IsWritableWhat d w → are_pieces (what_words w) ≡ true
what_pieces d (Split (branch.Int column below)) h = and_from _ _ refl (cut_pieces column below h)
what_pieces d (Split (branch.Cut column at)) h = and_from _ _ refl (cut_pieces column at h)
what_pieces d (Split (branch.Semi column)) h = and_from _ _ refl (column_pieces column h)
what_pieces d (Split (branch.One set at)) h = and_from _ _ refl (set_pieces set at h.0 h.1)
what_pieces d (Split (branch.Two set at)) h = and_from _ _ refl (set_pieces set at h.0 h.1)
what_pieces d (Bounded y) h = and_from _ _ refl (multiplier_pieces d y h)
what_pieces d (Empty y) h = and_from _ _ refl (multiplier_pieces d y h.multipliers)
what_pieces d (Void column) h = and_from _ _ refl (column_pieces column h.0)
what_pieces d (OpenLeaf y) h = and_from _ _ refl (multiplier_pieces d y h)

-- ---- the line

work_back : (s : Solved) (ws : Words) → IsWritableSolved s → work_said (decimal s.number ∷ decimal s.pivots ∷ ws) ≡ Ok (record { value = Some s; left = ws })
unfolding work_said
work_back s ws h = rw (taking_below (2 ^ 32) s.number (decimal s.pivots ∷ ws) (omega arith) h.number, taking_below (2 ^ 64) s.pivots ws (omega arith) h.pivots) refl

solved_back : (o : Option Solved) (ws : Words) → IfSome o IsWritableSolved → solved_said (solved_words o ++ ws) ≡ Ok (record { value = o; left = ws })
unfolding solved_said is_next
solved_back None ws h = rw (fixed_same (codes "-") ws (omega arith)) refl
solved_back (Some s) ws h =
    let low : IsInRange (pos s.number) = let n = h.number in omega (arith, n) in
    rw (other_word (pos s.number) (codes "END") low refl, other_word (pos s.number) (codes "-") low refl) (work_back s ws h)

solved_pieces : (o : Option Solved) → IfSome o IsWritableSolved → are_pieces (solved_words o) ≡ true
solved_pieces None h = refl
solved_pieces (Some s) h = and_from _ _ (piece_below (2 ^ 32) s.number (omega arith) h.number).bytes (and_from _ _ (piece_below (2 ^ 64) s.pivots (omega arith) h.pivots).bytes refl)

solved_some : (o : Option Solved) (ws : Words) → 0 < length (solved_words o ++ ws)
solved_some None ws = omega arith
solved_some (Some s) ws = omega arith

node_back : (d : DeckValue) (n : NodeValue) → IsWritableNode d n → node_line d (node_words n) ≡ Ok n
unfolding node_line
node_back d n h = rw (solved_back n.solved (what_words n.what) h.solved, became_back d n.what h.what) refl

pub node_written : (d : DeckValue) (n : NodeValue) → IsWritableNode d n → IsLineOf (node_line d) (node_words n) n
node_written d n h = record {
  some = solved_some n.solved (what_words n.what);
  bytes = list_all-append (list_all is_name_byte) (solved_words n.solved) (what_words n.what) ∙ and_from _ _ (solved_pieces n.solved h.solved) (what_pieces d n.what h.what);
  said = node_back d n h;
}
