-- Which multipliers of rows words say.
use Rattle.std.proofs.Common.{◌≡◌, ℕ, ◌+◌, ◌<◌, ◌≤◌, ◌^◌, ℤ, pos, negsuc, List, [], ◌∷◌, ◌++◌, length, true, false, Ok, Err, refl, sym, ap, ◌∙◌, arith, inl, inr, nat_lt, nat_eq, not, unsigned_abs, ◌≤ℤ◌, append_assoc}
use Rattle.std.specs.List.{before_first, after_first}
use Rattle.std.proofs.lemmas.Bool.{cases_Bool, cases_lt, cond-true, cond-false, eqb-true, lt-ltb, le-ltb, and_left, and_right}
use Rattle.std.proofs.lemmas.Int.{ints}
use Rattle.std.proofs.lemmas.List.{append-nil}
use Rattle.um_num.specs.Numbers.{in_range, then_step}
use Rattle.um_multipliers.specs.declared.multipliers.Price.{Price}
use Rattle.um_multipliers.specs.PlainMultipliers.{MultipliersValue}
use Rattle.um_model.specs.AnswerValues.{WhatValue}
use Rattle.um_treetext.specs.declared.fault.TreeWord.{TreeWord}
use Rattle.um_treetext.specs.declared.fault.TreeWord.TheVariants.{BadNode, BadNumber, BadWord, TooWide}
use Rattle.um_treetext.specs.Words.{Words, Says, Taken, from_zero_word, kept, next_word, numeral, taking, told}
use Rattle.um_treetext.specs.Calls.{IsLarge}
use Rattle.um_treetext.specs.NodeLines.{has_one_colon, is_colon, multipliers_said, price_of, price_parts_said, price_said, prices_said, row_said, shown_said, zero_word}
use Rattle.um_treetext.proofs.WantOfMemory.{Faults, first_faults}

-- ---- rows

pub row_ok : (z : ℤ) (n : ℕ) → z ≡ pos n → n < 2 ^ 32 → Ok n ≡ row_said z
unfolding row_said
row_ok z n e h = rw (e, lt-ltb n (2 ^ 32) h) refl

pub row_low : (z : ℤ) → (pos 0 ≤ℤ z → ⊥) → Err BadNumber ≡ row_said z
unfolding row_said
row_low (pos n) never = absurd (never (omega (arith, ints)))
row_low (negsuc n) never = refl

pub row_wide : (z : ℤ) → pos 0 ≤ℤ z → (unsigned_abs z < 2 ^ 32 → ⊥) → Err TooWide ≡ row_said z
unfolding row_said
row_wide (pos n) up never = rw (le-ltb n (2 ^ 32) (elim (cases_lt n (2 ^ 32)) [ inl below ↦ absurd (never below) | inr above ↦ above ])) refl
row_wide (negsuc n) up never = absurd (omega (arith, ints, up))

pub row_negative : (z : ℤ) → IsLarge true z → Err BadNumber ≡ row_said z
row_negative z h = row_low z (λ up. let l = h.large in let is = h.is in omega (arith, ints, up, l, is))

pub row_large : (z : ℤ) → IsLarge false z → Err TooWide ≡ row_said z
unfolding row_said
row_large z h = let l = h.large in rw (h.is, le-ltb h.size (2 ^ 32) (omega (arith, l))) refl

-- ---- a row and a multiplier

pub parts_ok : (r v : ℤ) (n : ℕ) → Ok n ≡ row_said r → unsigned_abs v < 2 ^ 127 → price_parts_said r v ≡ Ok (n, v)
unfolding row_said price_parts_said
parts_ok (pos m) v n e h =
    elim (cases_Bool (nat_lt m (2 ^ 32))) [
      | inl t ↦ let same : Ok n ≡ Ok m = rw t at e in let is : n ≡ m = cc in rw (t, lt-ltb (unsigned_abs v) (2 ^ 127) h, is) refl
      | inr f ↦ absurd (let bad = rw f at e in cc)
    ]
parts_ok (negsuc m) v n e h = absurd (let bad = e in cc)

pub parts_wide : (r v : ℤ) (n : ℕ) → Ok n ≡ row_said r → 2 ^ 127 ≤ unsigned_abs v → price_parts_said r v ≡ Err TooWide
unfolding row_said price_parts_said
parts_wide (pos m) v n e h = rw (and_right (nat_lt m (2 ^ 32)) (in_range v) (le-ltb (unsigned_abs v) (2 ^ 127) h)) refl
parts_wide (negsuc m) v n e h = absurd (let bad = e in cc)

pub parts_err : (r v : ℤ) (fault : TreeWord) → Err fault ≡ row_said r → price_parts_said r v ≡ Err fault
unfolding row_said price_parts_said
parts_err (pos m) v fault e =
    elim (cases_Bool (nat_lt m (2 ^ 32))) [
      | inl t ↦ absurd (let bad = rw t at e in cc)
      | inr f ↦ let same = rw f at e in let is : fault ≡ TooWide = cc in rw (and_left (nat_lt m (2 ^ 32)) (in_range v) f, is) refl
    ]
parts_err (negsuc m) v fault e = let is : fault ≡ BadNumber = cc in rw is refl

-- ---- words with a colon

pub price_plain : (rows next : ℕ) (word : List ℕ) → has_one_colon word ≡ false → price_said rows next word ≡ Err BadWord
unfolding price_said
price_plain rows next word e = cond-false _ _ _ e

pub price_by_sides : (rows next : ℕ) (word row value : List ℕ) → has_one_colon word ≡ true → row ≡ before_first is_colon word → value ≡ after_first is_colon word
    → price_said rows next word ≡ then_step (numeral row) (λ r. then_step (numeral value) (λ v. then_step (price_parts_said r v) (price_of rows next)))
unfolding price_said
price_by_sides rows next word row value e front back = rw (front, back) (cond-true _ _ _ e)

-- ---- words of a line

-- these multipliers, and then what is said behind them
abbrev pub behind : List Price → Says (List Price) → Says (List Price)
behind front said = then_step said (λ more. Ok (front ++ more))

pub behind_none : (said : Says (List Price)) → said ≡ behind [] said
behind_none (Ok more) = refl
behind_none (Err fault) = refl

pub behind_all : (whole : Says (List Price)) (front : List Price) (rows next : ℕ) (ws : Words) → whole ≡ behind front (prices_said rows next ws) → ws ≡ [] → whole ≡ Ok front
unfolding prices_said
behind_all whole front rows next ws e over = e ∙ rw over (ap Ok (append-nil front))

pub behind_err : (whole said : Says (List Price)) (front : List Price) (fault : TreeWord) → whole ≡ behind front said → said ≡ Err fault → whole ≡ Err fault
behind_err whole said front fault e is = e ∙ rw is refl

behind_more : (front : List Price) (price : Price) (said : Says (List Price)) → behind front (then_step said (λ more. Ok (price ∷ more))) ≡ behind (front ++ price ∷ []) said
behind_more front price (Ok more) = ap Ok (sym (append_assoc front (price ∷ []) more))
behind_more front price (Err fault) = refl

abbrev taken : List ℕ → Words → Taken (List ℕ)
taken word left = record { value = word; left = left }

next_left : (w : List ℕ) (ws : Words) (word : List ℕ) (left : Words) → next_word (w ∷ ws) ≡ Ok (record { value = word; left = left }) → ws ≡ left
unfolding next_word
next_left [] ws word left e = absurd (let bad = e in cc)
next_left (b ∷ bs) ws word left e = let is : taken (b ∷ bs) ws ≡ taken word left = cc in ap (λ (t : Taken (List ℕ)). t.left) is

no_word : (word : List ℕ) (left : Words) → next_word [] ≡ Ok (record { value = word; left = left }) → ⊥
unfolding next_word
no_word word left e = absurd (let bad = e in cc)

-- a word is read
pub word_fails : (rows next : ℕ) (ws : Words) (fault : TreeWord) → (ws ≡ [] → ⊥) → next_word ws ≡ Err fault → prices_said rows next ws ≡ Err fault
unfolding prices_said taking
word_fails rows next [] fault some e = absurd (some refl)
word_fails rows next (w ∷ ws) fault some e = rw e refl

pub price_fails : (rows next : ℕ) (ws : Words) (word : List ℕ) (left : Words) (fault : TreeWord) → next_word ws ≡ Ok (record { value = word; left = left }) → Err fault ≡ price_said rows next word → prices_said rows next ws ≡ Err fault
unfolding prices_said taking
price_fails rows next [] word left fault e is = absurd (no_word word left e)
price_fails rows next (w ∷ ws) word left fault e is = rw (e, ← is) refl

price_read : (rows next : ℕ) (ws : Words) (word : List ℕ) (left : Words) (price : Price) → next_word ws ≡ Ok (record { value = word; left = left }) → Ok price ≡ price_said rows next word
    → prices_said rows next ws ≡ then_step (prices_said rows (price.row + 1) left) (λ more. Ok (price ∷ more))
unfolding prices_said taking
price_read rows next [] word left price e is = absurd (no_word word left e)
price_read rows next (w ∷ ws) word left price e is = rw (e, ← is, next_left w ws word left e) refl

-- one multiplier more
pub behind_next : (whole : Says (List Price)) (front : List Price) (rows next : ℕ) (ws : Words) (word : List ℕ) (left : Words) (price : Price) → whole ≡ behind front (prices_said rows next ws) → next_word ws ≡ Ok (record { value = word; left = left }) → Ok price ≡ price_said rows next word
    → whole ≡ behind (front ++ price ∷ []) (prices_said rows (price.row + 1) left)
behind_next whole front rows next ws word left price e taken is =
    e ∙ ap (behind front) (price_read rows next ws word left price taken is) ∙ behind_more front price (prices_said rows (price.row + 1) left)

-- a word is taken from a line, which gets shorter
pub shorter : (ws : Words) (word : List ℕ) (left : Words) → next_word ws ≡ Ok (record { value = word; left = left }) → length left < length ws
shorter [] word left e = absurd (no_word word left e)
shorter (w ∷ ws) word left e = rw (← next_left w ws word left e) (omega arith)

-- ---- the objective's multiplier

zero_of : (s : Says ℤ) (z : ℤ) → Ok z ≡ then_step s (λ y. kept ((not (nat_eq (unsigned_abs y) 0), BadNode) ∷ []) y) → unsigned_abs z < 2 ^ 127
zero_of (Err f) z e = absurd (let bad = e in cc)
zero_of (Ok y) z e =
    elim (cases_Bool (nat_eq (unsigned_abs y) 0)) [
      | inl t ↦ let same : Ok z ≡ Ok y = rw t at e in let is : z ≡ y = cc in let none = eqb-true (unsigned_abs y) 0 t in rw (is, none) (omega arith)
      | inr f ↦ absurd (let bad = rw f at e in cc)
    ]

-- where it is to be 0, it is in range
pub zero_in_range : (word : List ℕ) (z : ℤ) → Ok z ≡ zero_word word → unsigned_abs z < 2 ^ 127
unfolding zero_word
zero_in_range word z e = zero_of (from_zero_word word) z e

-- ---- multipliers, and what they show

pub shown_faults : (made : MultipliersValue → WhatValue) (first : List ℕ → Says ℤ) (rows : ℕ) (ws : Words) (fault : TreeWord) → Faults (multipliers_said first rows ws) fault → Faults (shown_said made first rows ws) fault
unfolding shown_said
shown_faults made first rows ws fault h = first_faults (multipliers_said first rows ws) (λ y. told (made y.value) y.left) fault h

pub shown_ok : (made : MultipliersValue → WhatValue) (first : List ℕ → Says ℤ) (rows : ℕ) (ws left : Words) (y : MultipliersValue) → multipliers_said first rows ws ≡ Ok (record { value = y; left = left }) → shown_said made first rows ws ≡ Ok (record { value = made y; left = left })
unfolding shown_said
shown_ok made first rows ws left y e = rw e refl
