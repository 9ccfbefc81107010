-- Multipliers: the words that were read are those that are written of them.
use Rattle.std.proofs.Common.{◌≡◌, ◌≢◌, ℕ, ◌+◌, ◌<◌, ◌≤◌, ◌^◌, true, false, ◌&&◌, ◌||◌, not, nat_eq, nat_lt, nat_le, List, [], ◌∷◌, map, length, All, AllPairs, ℤ, pos, unsigned_abs, Ok, Err, refl, sym, ap, ◌∙◌, subst, arith, inl, inr}
use Rattle.std.specs.Fmt.{decimal, signed_decimal}
use Rattle.std.specs.List.{list_any, before_first, after_first}
use Rattle.std.proofs.lemmas.Bool.{cases_Bool, and_parts, or_parts, ltb-true, ltb-false, leb-false, eqb-true, eqb-false, not-false}
use Rattle.std.proofs.lemmas.Int.{ints}
use Rattle.std.proofs.lemmas.List.Elements.{All-nil, All-cons}
use Rattle.std.proofs.lemmas.List.Kept.{AllPairs-cons}
use Rattle.um_num.specs.Numbers.{in_range, IsInRange, then_step}
use Rattle.um_text.specs.Words.{has_bytes}
use Rattle.um_multipliers.specs.PlainMultipliers.{MultipliersValue}
use Rattle.um_multipliers.specs.declared.multipliers.Price.{Price}
use Rattle.um_model.specs.Values.{DeckValue}
use Rattle.um_treetext.specs.declared.fault.TreeWord.TheVariants.{BadWord, TooWide, BadNode}
use Rattle.um_treetext.specs.Words.{Words, Says, Taken, told, kept, taking, numeral, from_zero, from_zero_word}
use Rattle.um_treetext.specs.NodeLines.{is_colon, has_one_colon, price_parts_said, price_of, price_said, prices_said, multipliers_said, zero_word}
use Rattle.um_treetext.specs.TreeText.{price_word, multiplier_words}
use Rattle.um_treetext.specs.Writable.{IsWritablePrice, IsWritableList}
use Rattle.um_treelaws.proofs.ReadSteps.{steps, same_ok, keeps_last, AreWords, are_more, are_none, SaysAs, took_as, told_as}
use Rattle.um_treelaws.proofs.ReadNumbers.{from_zero_rewritten, IsFromZero, from_zero_word_rewritten}
use Rattle.um_treelaws.proofs.ReadDigits.{numeral_rewritten}
use Rattle.um_treelaws.proofs.ReadFractions.{sides_written}

-- ---- the multiplier of a row

-- a row from the next one on, and its multiplier
record IsPrice (rows next : ℕ) (p : Price) : Type 0 where
  least : next ≤ p.row
  within : p.row < rows
  other : p.value ≢ pos 0
  writable : IsWritablePrice p

not_zero : (z : ℤ) → nat_eq (unsigned_abs z) 0 ≡ false → z ≢ pos 0
not_zero z t e = eqb-false (unsigned_abs z) 0 t (ap unsigned_abs e)

price_of_rewritten : (rows next : ℕ) (q : ℕ × ℤ) (p : Price) → q.0 < 2 ^ 32 → IsInRange q.1 → price_of rows next q ≡ Ok p → IsPrice rows next p × (p.row ≡ q.0) × (p.value ≡ q.1)
price_of_rewritten rows next q p small range e =
    let low = nat_lt q.0 next in
    let none = nat_eq (unsigned_abs q.1) 0 in
    let high = nat_le rows q.0 in
    let made : Price = record { row = q.0; value = q.1 } in
    let k = keeps_last (low || none || high) BadNode made p e in
    let last = or_parts (low || none) high k.0 in
    let first = or_parts low none last.0 in
    let good : IsPrice rows next made = record { least = ltb-false q.0 next first.0; within = leb-false rows q.0 last.1; other = not_zero q.1 first.1; writable = record { row = small; value = range } } in
    (subst (IsPrice rows next) k.1 good, ap (λ (x : Price). x.row) (sym k.1), ap (λ (x : Price). x.value) (sym k.1))

-- the two parts of a word
record ArePriceParts (row value : ℤ) (q : ℕ × ℤ) : Type 0 where
  row_same : row ≡ pos q.0
  value_same : value ≡ q.1
  small : q.0 < 2 ^ 32
  range : IsInRange q.1

parts_rewritten : (row value : ℤ) (q : ℕ × ℤ) → price_parts_said row value ≡ Ok q → ArePriceParts row value q
unfolding price_parts_said
parts_rewritten row value q e =
    let s = steps (from_zero row) (λ n. kept ((not (nat_lt n (2 ^ 32) && in_range value), TooWide) ∷ []) (n, value)) q e in
    let n = s.value in
    let k = keeps_last (not (nat_lt n (2 ^ 32) && in_range value)) TooWide (n, value) q s.two in
    let both = and_parts (nat_lt n (2 ^ 32)) (in_range value) (not-false (nat_lt n (2 ^ 32) && in_range value) k.0) in
    subst (ArePriceParts row value) k.1 (record { row_same = from_zero_rewritten row n s.one; value_same = refl; small = ltb-true n (2 ^ 32) both.0; range = ltb-true (unsigned_abs value) (2 ^ 127) both.1 })

row_word : (word : List ℕ) (z : ℤ) (n m : ℕ) → numeral word ≡ Ok z → z ≡ pos n → n < 2 ^ 32 → m ≡ n → word ≡ decimal m
row_word word z n m e is small same = numeral_rewritten word (pos n) (e ∙ ap (λ (x : ℤ). Ok x) is) (omega (arith, small)) ∙ ap decimal (sym same)

value_word : (word : List ℕ) (z q v : ℤ) → numeral word ≡ Ok z → z ≡ q → IsInRange q → v ≡ q → word ≡ signed_decimal v
value_word word z q v e is range same = numeral_rewritten word q (e ∙ ap (λ (x : ℤ). Ok x) is) range ∙ ap signed_decimal (sym same)

price_rewritten : (rows next : ℕ) → SaysAs (price_said rows next) price_word (IsPrice rows next)
unfolding price_said
price_rewritten rows next word p e =
    elim (cases_Bool (has_one_colon word)) [
      | inr f ↦ absurd (let bad : Err BadWord ≡ Ok p = rw f at e in cc)
      | inl t ↦
          let front = before_first is_colon word in
          let back = after_first is_colon word in
          let colon = and_parts (list_any is_colon word) (not (list_any is_colon back)) t in
          let f : then_step (numeral front) (λ row. then_step (numeral back) (λ value. then_step (price_parts_said row value) (price_of rows next))) ≡ Ok p = rw t at e in
          let row = steps (numeral front) (λ row. then_step (numeral back) (λ value. then_step (price_parts_said row value) (price_of rows next))) p f in
          let value = steps (numeral back) (λ value. then_step (price_parts_said row.value value) (price_of rows next)) p row.two in
          let parts = steps (price_parts_said row.value value.value) (price_of rows next) p value.two in
          let q = parts_rewritten row.value value.value parts.value parts.one in
          let k = price_of_rewritten rows next parts.value p q.small q.range parts.two in
          let front_is : front ≡ decimal p.row = row_word front row.value parts.value.0 p.row row.one q.row_same q.small k.1 in
          let back_is : back ≡ signed_decimal p.value = value_word back value.value parts.value.1 p.value value.one q.value_same q.range k.2 in
          (sides_written 58 word (decimal p.row) (signed_decimal p.value) colon.0 front_is back_is, k.0)
    ]

-- ---- multipliers

-- the multipliers of rows from the next one on
record ArePrices (rows next : ℕ) (ws : Words) (ps : List Price) : Type 0 where
  words : AreWords ws (map price_word ps)
  least : All (λ (p : Price). next ≤ p.row) ps
  within : All (λ (p : Price). p.row < rows) ps
  rise : AllPairs (λ (a : Price) (b : Price). a.row < b.row) ps
  other : All (λ (p : Price). p.value ≢ pos 0) ps
  writable : All IsWritablePrice ps

none_prices : (rows next : ℕ) → ArePrices rows next [] []
none_prices rows next = record {
  words = are_none [] refl;
  least = All-nil (λ (p : Price). next ≤ p.row);
  within = All-nil (λ (p : Price). p.row < rows);
  rise = λ i j d less within. absurd (omega (arith, within));
  other = All-nil (λ (p : Price). p.value ≢ pos 0);
  writable = All-nil IsWritablePrice;
}

more_prices : (rows next : ℕ) (ws left : Words) (p : Price) (ps : List Price) → ws ≡ price_word p ∷ left → has_bytes (price_word p) ≡ true → IsPrice rows next p → ArePrices rows (p.row + 1) left ps → ArePrices rows next ws (p ∷ ps)
more_prices rows next ws left p ps parts some one more = record {
  words = are_more ws left (map price_word ps) (price_word p) parts some more.words;
  least = All-cons (λ (q : Price). next ≤ q.row) p ps one.least (λ k d below. let h = more.least k d below in let l = one.least in omega (arith, h, l));
  within = All-cons (λ (q : Price). q.row < rows) p ps one.within more.within;
  rise = AllPairs-cons (λ (a : Price) (b : Price). a.row < b.row) p ps (λ k d below. let h = more.least k d below in omega (arith, h)) more.rise;
  other = All-cons (λ (q : Price). q.value ≢ pos 0) p ps one.other more.other;
  writable = All-cons IsWritablePrice p ps one.writable more.writable;
}

same_left : (w : List ℕ) (ws left : Words) (word : List ℕ) → w ∷ ws ≡ word ∷ left → ws ≡ left
same_left w ws left word e = cc

prices_rewritten : (rows next : ℕ) (ws : Words) (ps : List Price) → prices_said rows next ws ≡ Ok ps → ArePrices rows next ws ps
unfolding prices_said
prices_rewritten rows next [] ps e = let same : [] ≡ ps = same_ok (Ok []) [] ps refl e in subst (ArePrices rows next []) same (none_prices rows next)
prices_rewritten rows next (w ∷ ws) ps e =
    let s = steps (taking (price_said rows next) (w ∷ ws)) (λ t. then_step (prices_said rows (t.value.row + 1) ws) (λ more. Ok (t.value ∷ more))) ps e in
    let p = s.value.value in
    let m = steps (prices_said rows (p.row + 1) ws) (λ more. Ok (p ∷ more)) ps s.two in
    let one = took_as (price_said rows next) price_word (IsPrice rows next) (w ∷ ws) s.value (price_rewritten rows next) s.one in
    let left = same_left w ws s.value.left (price_word p) one.parts in
    let more = prices_rewritten rows (p.row + 1) ws m.value m.one in
    let same : p ∷ m.value ≡ ps = same_ok (Ok (p ∷ m.value)) (p ∷ m.value) ps refl m.two in
    subst (ArePrices rows next (w ∷ ws)) same (more_prices rows next (w ∷ ws) ws p m.value (one.parts ∙ ap (λ (l : Words). price_word p ∷ l) (sym left)) one.some one.good more)

-- multipliers up to the end of a line
pub record AreMultipliers (d : DeckValue) (Good : ℤ → Type 0) (ws : Words) (y : MultipliersValue) (left : Words) : Type 0 where
  pub words : AreWords ws (multiplier_words y)
  pub list : IsWritableList d y
  pub first : Good y.y0
  pub end : left ≡ []

pub multipliers_rewritten : (d : DeckValue) (says : List ℕ → Says ℤ) (Good : ℤ → Type 0) (ws : Words) (t : Taken MultipliersValue) → SaysAs says signed_decimal Good → ((z : ℤ) → Good z → IsFromZero z) → multipliers_said says (length d.rows) ws ≡ Ok t → AreMultipliers d Good ws t.value t.left
unfolding multipliers_said
multipliers_rewritten d says Good ws t back from e =
    let rows = length d.rows in
    let s = steps (taking says ws) (λ y0. then_step (prices_said rows 0 y0.left) (λ prices. told (record { y0 = y0.value; rows = prices }) [])) t e in
    let z = s.value.value in
    let m = steps (prices_said rows 0 s.value.left) (λ prices. told (record { y0 = z; rows = prices }) []) t s.two in
    let one = took_as says signed_decimal Good ws s.value back s.one in
    let more = prices_rewritten rows 0 s.value.left m.value m.one in
    let y : MultipliersValue = record { y0 = z; rows = m.value } in
    let up = from z one.good in
    told_as (AreMultipliers d Good ws) y [] t m.two (record {
      words = are_more ws s.value.left (map price_word m.value) (signed_decimal z) one.parts one.some more.words;
      list = record { first = up.up; range = up.range; rows = record { within = more.within; rise = more.rise }; normal = record { rise = more.rise; nonzero = more.other }; prices = more.writable };
      first = one.good;
      end = refl;
    })

pub record IsZero (z : ℤ) : Type 0 where
  pub from : IsFromZero z
  pub zero : z ≡ pos 0

zero_size : (z : ℤ) → unsigned_abs z ≡ 0 → z ≡ pos 0
zero_size z e = omega (arith, ints, e)

pub zero_rewritten : SaysAs zero_word signed_decimal IsZero
unfolding zero_word
zero_rewritten word z e =
    let s = steps (from_zero_word word) (λ z. kept ((not (nat_eq (unsigned_abs z) 0), BadNode) ∷ []) z) z e in
    let k = keeps_last (not (nat_eq (unsigned_abs s.value) 0)) BadNode s.value z s.two in
    let w = from_zero_word_rewritten word s.value s.one in
    let none = eqb-true (unsigned_abs s.value) 0 (not-false (nat_eq (unsigned_abs s.value) 0) k.0) in
    subst (λ (x : ℤ). (word ≡ signed_decimal x) × IsZero x) k.1 (w.0, record { from = w.1; zero = zero_size s.value none })
