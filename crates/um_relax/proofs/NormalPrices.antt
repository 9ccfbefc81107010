-- Whole multiples, one after the other, and multipliers in normal form.
use Rattle.std.proofs.Common.{◌≡◌, ◌≢◌, ℕ, zero, suc, ◌+◌, ◌<◌, List, [], ◌∷◌, ◌++◌, length, take, map, get_or, arith, sym, ap, ◌∙◌, subst, refl, append-nil, Bool, true, false, to_z, of_z, ◌^◌}
use Rattle.std.specs.Prelude.{ℤ, pos, unsigned_abs, ◌≤ℤ◌, if◌then◌else◌, nat_eq, All}
use Rattle.std.proofs.lemmas.List.{take_more, map-append, get_or-map, length-map, length-take-le}
use Rattle.std.proofs.lemmas.Int.{ints}
use Rattle.std.proofs.lemmas.Bool.{cond-false, ne_eqb}
use Rattle.um_relax.specs.Parts.{IsPrice, IsLeastDenominator, IsTimes, IsWholeOf}
use Rattle.um_relax.specs.declared.whole.Whole.{Whole}
use Rattle.um_multipliers.specs.Sizes.{AreBelow}
use Rattle.std.specs.Int.{w128}
use Rattle.std.proofs.lemmas.List.Elements.{All-append}
use Rattle.um_num.proofs.Parts.{from_bits}
use Rattle.um_lp.proofs.Denominators.{denominator_positive}
use Rattle.um_laws.specs.Rational.{Rational}
use Rattle.um_multipliers.specs.declared.multipliers.Price.{Price}
use Rattle.um_lp.specs.WideStates.{common_denominator}
use Rattle.um_duality.specs.WholeMultiples.{times, whole_multiples, prices_from}
use Rattle.um_relax.specs.Limits.{AreSmall}

-- ---- normal form
if_append : (b : Bool) (qs ts : List Price) (p : Price) → (if b then qs ++ ts else p ∷ (qs ++ ts)) ≡ (if b then qs else p ∷ qs) ++ ts
if_append true qs ts p = refl
if_append false qs ts p = refl

-- one number more
prices_more : (row : ℕ) (zs : List ℤ) (z : ℤ) → prices_from row (zs ++ z ∷ []) ≡ prices_from row zs ++ prices_from (row + length zs) (z ∷ [])
prices_more row [] z = ap (λ (n : ℕ). prices_from n (z ∷ [])) (omega arith)
prices_more row (y ∷ ys) z =
    ap (λ (rest : List Price). if nat_eq (unsigned_abs y) 0 then rest else record { row = row; value = y } ∷ rest)
    (prices_more (row + 1) ys z ∙ ap (λ (n : ℕ). prices_from (row + 1) ys ++ prices_from n (z ∷ [])) (omega arith))
    ∙ if_append (nat_eq (unsigned_abs y) 0) (prices_from (row + 1) ys) (prices_from (row + length (y ∷ ys)) (z ∷ [])) (record { row = row; value = y })

-- one number more of a list
next_prices : (zs : List ℤ) (i : ℕ) → i < length zs → prices_from 0 (take (i + 1) zs) ≡ prices_from 0 (take i zs) ++ prices_from i (get_or zs i (pos 0) ∷ [])
next_prices zs i l =
    ap (prices_from 0) (take_more zs i (pos 0) l) ∙ prices_more 0 (take i zs) (get_or zs i (pos 0))
    ∙ ap (λ (n : ℕ). prices_from 0 (take i zs) ++ prices_from n (get_or zs i (pos 0) ∷ [])) (let e = length-take-le i zs (omega arith) in let f : 0 + length (take i zs) ≡ i = omega arith in f)

-- a number that is not 0 has one multiplier
one_price : (i : ℕ) (z : ℤ) → z ≢ pos 0 → prices_from i (z ∷ []) ≡ record { row = i; value = z } ∷ []
one_price i z ne = cond-false (nat_eq (unsigned_abs z) 0) [] (record { row = i; value = z } ∷ []) (ne_eqb (unsigned_abs z) 0 (λ e. ne (omega (arith, ints))))

-- 0 has none
no_price : (i : ℕ) (z : ℤ) → z ≡ pos 0 → prices_from i (z ∷ []) ≡ []
no_price i z e = ap (λ (y : ℤ). prices_from i (y ∷ [])) e

-- the next number, where it is not 0
price_added : (zs : List ℤ) (i : ℕ) (rows : List Price) → i < length zs → get_or zs i (pos 0) ≢ pos 0 → rows ≡ prices_from 0 (take i zs) → rows ++ record { row = i; value = get_or zs i (pos 0) } ∷ [] ≡ prices_from 0 (take (i + 1) zs)
price_added zs i rows l ne e =
    ap (λ (ps : List Price). ps ++ record { row = i; value = get_or zs i (pos 0) } ∷ []) e
    ∙ ap (λ (ps : List Price). prices_from 0 (take i zs) ++ ps) (sym (one_price i (get_or zs i (pos 0)) ne)) ∙ sym (next_prices zs i l)

-- the multiplier that comes of the number
pub price_pushed : (zs : List ℤ) (i : ℕ) (rows : List Price) (p : Price) → i < length zs → IsPrice i (get_or zs i (pos 0)) p → rows ≡ prices_from 0 (take i zs) → rows ++ p ∷ [] ≡ prices_from 0 (take (i + 1) zs)
price_pushed zs i rows p l h e = ap (λ (q : Price). rows ++ q ∷ []) h.is ∙ price_added zs i rows l h.nonzero e

-- the next number, where it is 0
pub price_left_out : (zs : List ℤ) (i : ℕ) (rows : List Price) → i < length zs → get_or zs i (pos 0) ≡ pos 0 → rows ≡ prices_from 0 (take i zs) → rows ≡ prices_from 0 (take (i + 1) zs)
price_left_out zs i rows l z e =
    e ∙ sym (append-nil (prices_from 0 (take i zs))) ∙ ap (λ (ps : List Price). prices_from 0 (take i zs) ++ ps) (sym (no_price i (get_or zs i (pos 0)) z)) ∙ sym (next_prices zs i l)

-- ---- whole multiples
-- a denominator that is below a limit of 64 bits, read from its bits
pub read_den : (xs : List Rational) (limit : ℕ) (den : ℤ) → IsLeastDenominator xs limit den → limit < 2 ^ 64 → to_z w128 (of_z w128 den) ≡ pos (common_denominator xs)
read_den xs limit den h l = from_bits den (let e = ap unsigned_abs h.is in let q = h.below in omega (arith, ints)) ∙ h.is

-- it is at least 1
pub read_den_positive : (xs : List Rational) (limit : ℕ) (den : ℤ) → IsLeastDenominator xs limit den → limit < 2 ^ 64 → pos 1 ≤ℤ to_z w128 (of_z w128 den)
read_den_positive xs limit den h l = rw (read_den xs limit den h l) (let p = denominator_positive xs in omega (arith, ints))

-- its size
pub read_den_size : (xs : List Rational) (limit : ℕ) (den : ℤ) → IsLeastDenominator xs limit den → limit < 2 ^ 64 → unsigned_abs (to_z w128 (of_z w128 den)) ≡ common_denominator xs
read_den_size xs limit den h l = ap unsigned_abs (read_den xs limit den h l)

-- a multiple that is too large
multiple_too_large : (xs : List Rational) (i limit : ℕ) (x : Rational) → i < length xs → x ≡ get_or xs i x → ¬ unsigned_abs (times (common_denominator xs) x) < limit → ¬ AreSmall limit xs
multiple_too_large xs i limit x l e h s =
    h (subst (λ (z : ℤ). unsigned_abs z < limit) (get_or-map (times (common_denominator xs)) xs i x (pos 0) l ∙ ap (times (common_denominator xs)) (sym e)) (s.multiples i (pos 0) (rw length-map l)))

-- the same, where the denominator is read from its bits
pub none_small : (xs : List Rational) (i limit : ℕ) (x : Rational) (den : ℤ) → IsLeastDenominator xs limit den → limit < 2 ^ 64 → i < length xs → x ≡ get_or xs i x
    → ¬ unsigned_abs (times (unsigned_abs (to_z w128 (of_z w128 den))) x) < limit → ¬ AreSmall limit xs
none_small xs i limit x den h l li e out = multiple_too_large xs i limit x li e (subst (λ (n : ℕ). ¬ unsigned_abs (times n x) < limit) (read_den_size xs limit den h l) out)

-- one multiple more
multiples_next : (k : ℕ) (xs : List Rational) (i : ℕ) (x : Rational) (parts : List ℤ) (p : ℤ) → i < length xs → x ≡ get_or xs i x → p ≡ times k x → parts ≡ map (times k) (take i xs) → parts ++ p ∷ [] ≡ map (times k) (take (i + 1) xs)
multiples_next k xs i x parts p l e is are =
    ap (λ (q : List ℤ). q ++ p ∷ []) are ∙ ap (λ (z : ℤ). map (times k) (take i xs) ++ z ∷ []) (is ∙ ap (times k) e)
    ∙ sym (map-append (times k) (take i xs) (get_or xs i x ∷ [])) ∙ ap (map (times k)) (sym (take_more xs i x l))

-- a list of one small number
one_small : (limit : ℕ) (p : ℤ) → unsigned_abs p < limit → All (λ (z : ℤ). unsigned_abs z < limit) (p ∷ [])
one_small limit p h zero d l = h
one_small limit p h (suc k) d l = absurd (omega arith)

-- the same, where the denominator is read from its bits
pub part_pushed : (xs : List Rational) (i limit : ℕ) (x : Rational) (den p : ℤ) (parts : List ℤ) → IsLeastDenominator xs limit den → limit < 2 ^ 64 → i < length xs → x ≡ get_or xs i x → IsTimes (unsigned_abs (to_z w128 (of_z w128 den))) x limit p
    → parts ≡ map (times (common_denominator xs)) (take i xs) → parts ++ p ∷ [] ≡ map (times (common_denominator xs)) (take (i + 1) xs)
part_pushed xs i limit x den p parts h l li e t are = multiples_next (common_denominator xs) xs i x parts p li e (t.is ∙ ap (λ (n : ℕ). times n x) (read_den_size xs limit den h l)) are

-- one small number more
pub small_pushed : (limit : ℕ) (parts : List ℤ) (p : ℤ) → All (λ (z : ℤ). unsigned_abs z < limit) parts → unsigned_abs p < limit → All (λ (z : ℤ). unsigned_abs z < limit) (parts ++ p ∷ [])
small_pushed limit parts p h l = All-append (λ (z : ℤ). unsigned_abs z < limit) parts (p ∷ []) h (one_small limit p l)

-- a part below a limit of 64 bits, read from its bits
pub read_part : (k limit : ℕ) (x : Rational) (p : ℤ) → IsTimes k x limit p → limit < 2 ^ 64 → to_z w128 (of_z w128 p) ≡ p
read_part k limit x p h l = from_bits p (let q = h.below in omega arith)

-- ---- sizes

-- a list of one small multiplier
price_below : (row limit : ℕ) (z : ℤ) → unsigned_abs z < limit → All (λ (p : Price). unsigned_abs p.value < limit) (record { row = row; value = z } ∷ [])
price_below row limit z h zero d l = h
price_below row limit z h (suc k) d l = absurd (omega arith)

-- whether a small multiplier is added or not
below_either : (b : Bool) (limit : ℕ) (p : Price) (ps : List Price) → unsigned_abs p.value < limit → All (λ (q : Price). unsigned_abs q.value < limit) ps → All (λ (q : Price). unsigned_abs q.value < limit) (if b then ps else p ∷ ps)
below_either true limit p ps h k = k
below_either false limit p ps h k = All-append (λ (q : Price). unsigned_abs q.value < limit) (p ∷ []) ps (price_below p.row limit p.value h) k

-- multipliers of small numbers are small
pub prices_below : (row limit : ℕ) (zs : List ℤ) → All (λ (z : ℤ). unsigned_abs z < limit) zs → All (λ (p : Price). unsigned_abs p.value < limit) (prices_from row zs)
prices_below row limit [] h = λ k d l. absurd (omega arith)
prices_below row limit (z ∷ zs) h =
    below_either (nat_eq (unsigned_abs z) 0) limit (record { row = row; value = z }) (prices_from (row + 1) zs) (h 0 (pos 0) (omega arith))
    (prices_below (row + 1) limit zs (λ k d l. h (suc k) d (omega arith)))

-- the size of the list of whole numbers
pub parts_long : (limit : ℕ) (xs : List Rational) (w : Whole) → IsWholeOf limit xs w → length w.parts.items ≡ length xs
parts_long limit xs w h = ap length h.parts ∙ length-map xs (times (common_denominator xs))

-- the multipliers read from whole numbers are below a limit of 64 bits; the denominator is read from its bits
pub multipliers_below : (limit : ℕ) (xs : List Rational) (w : Whole) (rows : List Price) → limit < 2 ^ 64 → IsWholeOf limit xs w → rows ≡ prices_from 0 w.parts.items → AreBelow limit (record { y0 = to_z w128 (of_z w128 w.den); rows = rows })
multipliers_below limit xs w rows l h e = record {
  y0 = rw (read_den xs limit w.den (record { is = h.den; below = h.small.denominator }) l) h.small.denominator;
  rows = rw (e, h.parts) (prices_below 0 limit (whole_multiples xs) h.small.multiples);
}
