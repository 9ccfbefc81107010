-- The entries of a row at the slacks, as whole numbers without a common divisor.
use Rattle.std.proofs.Common.{◌≡◌, ◌≢◌, ℕ, zero, suc, ◌+◌, ◌*◌, ◌/◌, ◌<◌, List, [], ◌∷◌, length, map, get_or, arith, sym, ap, ◌∙◌, subst, refl, inl, inr, ◌⊎◌}
use Rattle.std.specs.Prelude.{ℤ, pos, negsuc, ◌<ℤ◌, ◌*ℤ◌, unsigned_abs, All}
use Rattle.std.specs.Int.{◌∣◌}
use Rattle.std.proofs.lemmas.Int.{ints, unsigned_abs-mul}
use Rattle.std.proofs.lemmas.List.{get_or-map, length-map}
use Rattle.std.proofs.Math.Nat.{div-mul_cancel}
use native.Mathlib.Nat.{dvd_refl}
use lib.IntN.{neg_ℤ, pos-*ℤ-pos}
use Rattle.um_laws.proofs.WholeRing.{whole_ring, env}
use Rattle.um_laws.specs.Rational.{Rational, Is, reduce, whole, add, mul, neg, inverse, inverse_of}
use Rattle.um_laws.proofs.Ring.{ring, Expr, norm, eval, var, nought, unit, ◌⊕◌, ◌⊗◌, opp}
use Rattle.um_laws.proofs.RationalField.{mul_inverse, num_of_zero, is_whole, is_mul, is_neg}
use Rattle.um_laws.proofs.RationalOrder.{IsPositive, positive_from, positive-mul, positive-add}
use Rattle.um_laws.proofs.RationalParts.{is_reduce, same_value}
use Rattle.um_num.proofs.Parts.{zero_parts}
use Rattle.um_lp.specs.Basis.{sum_below}
use Rattle.um_lp.specs.Boards.{IsBoard}
use Rattle.um_lp.specs.DualSteps.{Harms, Leaves}
use Rattle.um_num.specs.NumberLists.{number_at}
use Rattle.um_lp.specs.States.{State, slack, basic_of, entry_of, system}
use Rattle.um_lp.specs.WideStates.{common_denominator}
use Rattle.um_lp.specs.declared.board.At.{At}
use Rattle.um_lp.specs.declared.board.At.TheVariants.{Lower, Upper, Zero, Basic}
use Rattle.um_laws.proofs.RationalEquations.{by_ring}
use Rattle.um_lp.proofs.Sums.{sum-none}
use Rattle.um_relax.specs.Parts.{IsSide, AreSlackEntries, IsSigned, IsDivisor, IsWholeOf}
use Rattle.um_relax.specs.declared.whole.Whole.{Whole}
use Rattle.um_multipliers.specs.declared.multipliers.Price.{Price}
use Rattle.um_relax.proofs.NormalPrices.{prices_below}
use Rattle.um_duality.specs.Readings.{turned, AreFarkasNumbers, AreFarkas}
use Rattle.um_relax.specs.Limits.{HasLargeFarkas}
use Rattle.um_multipliers.specs.Sizes.{AreBelow}
use Rattle.um_duality.specs.WholeMultiples.{times, whole_multiples, prices_from}
use Rattle.um_relax.specs.Limits.{AreSmall}
use Rattle.um_lp.proofs.Denominators.{den_divides, denominator_positive}
use Rattle.um_relax.proofs.CommonDivisors.{multiples_coprime}

-- ---- signs
neg_positive : (x : Rational) → x.num <ℤ pos 0 → IsPositive (neg x)
neg_positive x h = positive_from (neg x) (neg_ℤ x.num) x.den x.positive (is_neg x) (omega (arith, ints))

-- the negative of a number above 0 is below 0
negative_of_neg : (x : Rational) → pos 0 <ℤ x.num → (neg x).num <ℤ pos 0
negative_of_neg x h = by (neg x).num refl
  where
    zero_sum : add (neg x) x ≡ whole (pos 0)
    zero_sum = by_ring (x ∷ []) (opp (var 0) ⊕ var 0) nought refl

    by : (n : ℤ) → (neg x).num ≡ n → (neg x).num <ℤ pos 0
    by (pos a) e = absurd (let q : IsPositive (add (neg x) x) = positive-add (neg x) x (omega (arith, ints)) h in let z = zero_parts (add (neg x) x) zero_sum in omega (arith, ints))
    by (negsuc a) e = omega (arith, ints)

-- a number without the sign for an end has it when it is turned
pub neg_harms : (to : At) (x : Rational) → IsSide to → x ≢ whole (pos 0) → ¬ Harms to x → Harms to (neg x)
neg_harms Lower x side ne h = by x.num refl
  where
    by : (n : ℤ) → x.num ≡ n → (neg x).num <ℤ pos 0
    by (pos zero) e = absurd (ne (num_of_zero x e))
    by (pos (suc n)) e = negative_of_neg x (omega (arith, ints))
    by (negsuc n) e = absurd (h (omega (arith, ints)))
neg_harms Upper x side ne h = by x.num refl
  where
    by : (n : ℤ) → x.num ≡ n → IsPositive (neg x)
    by (pos zero) e = absurd (ne (num_of_zero x e))
    by (pos (suc n)) e = absurd (h (omega (arith, ints)))
    by (negsuc n) e = neg_positive x (omega (arith, ints))
neg_harms Zero x side ne h = absurd side
neg_harms Basic x side ne h = absurd side

-- a number with the sign for an end is not 0
pub harms_not_zero : (to : At) (x : Rational) → Harms to x → x ≢ whole (pos 0)
harms_not_zero Lower x h e = let p = zero_parts x e in omega (arith, ints)
harms_not_zero Upper x h e = let p = zero_parts x e in omega (arith, ints)
harms_not_zero Zero x h e = h
harms_not_zero Basic x h e = h

-- one over a positive number is positive
inverse_positive : (x : Rational) → IsPositive x → IsPositive (inverse x)
unfolding inverse
inverse_positive x h = by x.num refl
  where
    by : (n : ℤ) → x.num ≡ n → IsPositive (inverse_of n x.den)
    by (pos zero) e = absurd (omega (arith, ints))
    by (pos (suc n)) e = positive_from (reduce (pos x.den) (suc n)) (pos x.den) (suc n) (omega arith) (is_reduce (pos x.den) (suc n) (omega arith)) (let p = x.positive in omega (arith, ints))
    by (negsuc n) e = absurd (omega (arith, ints))

-- one over the negative is the negative of one over the number
inverse_of_neg : (x : Rational) → x ≢ whole (pos 0) → (neg x) ≢ whole (pos 0) → inverse (neg x) ≡ neg (inverse x)
inverse_of_neg x ne nn =
    by_ring (inverse (neg x) ∷ []) (var 0) (var 0 ⊗ unit) refl ∙ ap (mul (inverse (neg x))) (sym (mul_inverse x (λ e. ne (num_of_zero x e))))
    ∙ by_ring (inverse (neg x) ∷ x ∷ inverse x ∷ []) (var 0 ⊗ (var 1 ⊗ var 2)) ((opp (var 1) ⊗ var 0) ⊗ opp (var 2)) refl
    ∙ ap (λ (z : Rational). mul z (neg (inverse x))) (mul_inverse (neg x) (λ e. nn (num_of_zero (neg x) e))) ∙ by_ring (inverse x ∷ []) (unit ⊗ opp (var 0)) (opp (var 0)) refl

-- one over a number with the sign for an end is positive when it is turned
turned_positive : (to : At) (x : Rational) → Harms to x → IsPositive (turned to (inverse x))
turned_positive Lower x h =
    let p : IsPositive (neg x) = neg_positive x h in
    subst (λ (z : Rational). IsPositive z) (inverse_of_neg x (harms_not_zero Lower x h) (harms_not_zero Upper (neg x) p)) (inverse_positive (neg x) p)
turned_positive Upper x h = inverse_positive x h
turned_positive Zero x h = absurd h
turned_positive Basic x h = absurd h

-- ---- a row that is 0 at all slacks is no row of a tableau
neg_zero : neg (whole (pos 0)) ≡ whole (pos 0)
neg_zero = by_ring [] (opp nought) nought refl

-- -1 is not 0
one_is_not_zero : ¬ (neg (whole (pos 1)) ≡ whole (pos 0))
one_is_not_zero e =
    let f : whole (pos 1) ≡ whole (pos 0) = by_ring [] unit (opp (opp unit)) refl ∙ ap neg e ∙ neg_zero in
    let p = zero_parts (whole (pos 1)) f in
    let h : Is (whole (pos 1)) (pos 1) 1 = is_whole (pos 1) in
    let q = (whole (pos 1)).positive in
    omega (arith, ints)

-- as the row has -1 at its own basic column, one of its entries at the slacks is not 0
pub no_zero_row : (s : State) (row : ℕ) → IsBoard s → row < s.frame.rows → ¬ ((i : ℕ) → i < s.frame.rows → entry_of s row (slack s.frame i) ≡ whole (pos 0))
no_zero_row s row b l h =
    let column : ℕ = basic_of s row in
    let f : ℕ → Rational = λ i. mul (entry_of s row (length s.frame.columns + i)) (system s i column) in
    let none : sum_below s.frame.rows f ≡ whole (pos 0) =
    sum-none s.frame.rows f (λ i li. ap (λ (z : Rational). mul z (system s i column)) (h i li) ∙ by_ring (system s i column ∷ []) (nought ⊗ var 0) nought refl) in
    one_is_not_zero (sym (b.tableau.own row l) ∙ b.tableau.within row column l (b.tableau.in_range row l) ∙ ap neg none ∙ neg_zero)

-- ---- whole multiples
whole_ring_is : (xs : List ℤ) (e f : Expr) → norm e ≡ norm f → eval whole_ring (env xs) e ≡ eval whole_ring (env xs) f
whole_ring_is xs e f h = ring whole_ring (env xs) e f h

-- numerator and denominator times one number
Is_scaled : (x : Rational) (n : ℤ) (d k : ℕ) → Is x n d → Is x (n *ℤ pos k) (d * k)
Is_scaled x n d k h =
    ap (λ (z : ℤ). x.num *ℤ z) (sym (pos-*ℤ-pos d k)) ∙ whole_ring_is (x.num ∷ pos d ∷ pos k ∷ []) (var 0 ⊗ (var 1 ⊗ var 2)) ((var 0 ⊗ var 1) ⊗ var 2) refl ∙ ap (λ (z : ℤ). z *ℤ pos k) h
    ∙ whole_ring_is (n ∷ pos x.den ∷ pos k ∷ []) ((var 0 ⊗ var 1) ⊗ var 2) ((var 0 ⊗ var 2) ⊗ var 1) refl

-- the whole multiple is the number times the multiple
whole_times : (L : ℕ) (x : Rational) → 0 < L → x.den ∣ L → whole (times L x) ≡ mul (whole (pos L)) x
whole_times L x p d =
    let q : ℕ = L / x.den in
    let e : q * x.den ≡ L = div-mul_cancel x.den d in
    let n : times L x *ℤ pos x.den ≡ pos L *ℤ x.num =
    whole_ring_is (x.num ∷ pos q ∷ pos x.den ∷ []) ((var 0 ⊗ var 1) ⊗ var 2) ((var 1 ⊗ var 2) ⊗ var 0) refl ∙ ap (λ (z : ℤ). z *ℤ x.num) (pos-*ℤ-pos q x.den ∙ ap pos e) in
    same_value (whole (times L x)) (mul (whole (pos L)) x) (pos L *ℤ x.num) (1 * x.den) (let u = x.positive in omega arith)
    (subst (λ (z : ℤ). Is (whole (times L x)) z (1 * x.den)) n (Is_scaled (whole (times L x)) (times L x) 1 x.den (is_whole (times L x))))
    (is_mul (whole (pos L)) x (pos L) x.num 1 x.den (is_whole (pos L)) refl)

-- ---- one ratio is 1 or -1
one_size : (L : ℕ) (x : Rational) → unsigned_abs x.num ≡ x.den → unsigned_abs (times L x) ≡ L
one_size L x e =
    let one : x.den ≡ 1 = x.reduced x.den (subst (λ (n : ℕ). x.den ∣ n) (sym e) (dvd_refl x.den)) (dvd_refl x.den) in
    unsigned_abs-mul x.num (pos (L / x.den)) ∙ ap (λ (n : ℕ). n * (L / x.den)) (e ∙ one) ∙ ap (λ (n : ℕ). 1 * (L / n)) one ∙ omega arith

-- the parts of 1 are equal
whole_one : (whole (pos 1)).num ≡ pos (whole (pos 1)).den
whole_one = let h : Is (whole (pos 1)) (pos 1) 1 = is_whole (pos 1) in omega (arith, ints)

-- and those of -1 in size
neg_one : unsigned_abs (neg (whole (pos 1))).num ≡ (neg (whole (pos 1))).den
neg_one =
    let w : Rational = whole (pos 1) in
    let one : w.den ≡ 1 = w.reduced w.den (subst (λ (n : ℕ). w.den ∣ n) (sym (ap unsigned_abs whole_one)) (dvd_refl w.den)) (dvd_refl w.den) in
    let n : w.num ≡ pos 1 = whole_one ∙ ap pos one in
    let h : (neg w).num *ℤ pos w.den ≡ neg_ℤ w.num *ℤ pos (neg w).den = is_neg w in
    let k : (neg w).num *ℤ pos 1 ≡ neg_ℤ (pos 1) *ℤ pos (neg w).den = ap (λ (m : ℕ). (neg w).num *ℤ pos m) (sym one) ∙ h ∙ ap (λ (z : ℤ). neg_ℤ z *ℤ pos (neg w).den) n in
    omega (arith, ints)

-- the multiple of 1 or -1 has the size of the factor
unit_size : (L : ℕ) (x : Rational) → (x ≡ whole (pos 1)) ⊎ (x ≡ neg (whole (pos 1))) → unsigned_abs (times L x) ≡ L
unit_size L x (inl e) = one_size L x (subst (λ (y : Rational). unsigned_abs y.num ≡ y.den) (sym e) (ap unsigned_abs whole_one))
unit_size L x (inr e) = one_size L x (subst (λ (y : Rational). unsigned_abs y.num ≡ y.den) (sym e) neg_one)

-- an entry over itself or its negative
divisor_ratio : (to : At) (entry d : Rational) → IsSigned to entry d → (mul entry (inverse d) ≡ whole (pos 1)) ⊎ (mul entry (inverse d) ≡ neg (whole (pos 1)))
divisor_ratio to entry d h =
    let ne : d ≢ whole (pos 0) = harms_not_zero to d h.sign in
    let one : mul d (inverse d) ≡ whole (pos 1) = mul_inverse d (λ e. ne (num_of_zero d e)) in
    elim h.same [
      | inl e ↦ inl (ap (λ (z : Rational). mul z (inverse d)) (sym e) ∙ one)
      | inr e ↦
          let back : entry ≡ neg d = by_ring (entry ∷ []) (var 0) (opp (opp (var 0))) refl ∙ ap neg (sym e) in
          inr (ap (λ (z : Rational). mul z (inverse d)) back ∙ by_ring (d ∷ inverse d ∷ []) (opp (var 0) ⊗ var 1) (opp (var 0 ⊗ var 1)) refl ∙ ap neg one)
    ]

-- ---- the numbers
ratio_at : (entries ratios : List Rational) (d : Rational) (i : ℕ) → ratios ≡ map (λ (x : Rational). mul x (inverse d)) entries → i < length entries → get_or ratios i (whole (pos 0)) ≡ mul (number_at entries i) (inverse d)
ratio_at entries ratios d i e l = ap (λ (xs : List Rational). get_or xs i (whole (pos 0))) e ∙ get_or-map (λ (x : Rational). mul x (inverse d)) entries i (whole (pos 0)) (whole (pos 0)) l

-- there are as many ratios as entries
pub ratios_long : (entries ratios : List Rational) (d : Rational) → ratios ≡ map (λ (x : Rational). mul x (inverse d)) entries → length ratios ≡ length entries
ratios_long entries ratios d e = ap length e ∙ length-map entries (λ (x : Rational). mul x (inverse d))

-- the whole multiple at a place
number_at_place : (ratios : List Rational) (i : ℕ) → i < length ratios → get_or (whole_multiples ratios) i (pos 0) ≡ times (common_denominator ratios) (get_or ratios i (whole (pos 0)))
number_at_place ratios i l = get_or-map (times (common_denominator ratios)) ratios i (whole (pos 0)) (pos 0) l

-- at the divisor's place stands the common denominator in size
place_size : (to : At) (entries ratios : List Rational) (d : Rational) (h : IsDivisor to entries d) → ratios ≡ map (λ (x : Rational). mul x (inverse d)) entries
    → unsigned_abs (get_or (whole_multiples ratios) h.place (pos 0)) ≡ common_denominator ratios
place_size to entries ratios d h e =
    let l : h.place < length ratios = let q = ratios_long entries ratios d e in let r = h.within in omega arith in
    ap unsigned_abs (number_at_place ratios h.place l ∙ ap (times (common_denominator ratios)) (ratio_at entries ratios d h.place e h.within))
    ∙ unit_size (common_denominator ratios) (mul (number_at entries h.place) (inverse d)) (divisor_ratio to (number_at entries h.place) d h.signed)

-- both factors may be turned
turned_product : (to : At) (l i e : Rational) → mul l (mul e i) ≡ mul (mul l (turned to i)) (turned to e)
turned_product Lower l i e = by_ring (l ∷ i ∷ e ∷ []) (var 0 ⊗ (var 2 ⊗ var 1)) ((var 0 ⊗ opp (var 1)) ⊗ opp (var 2)) refl
turned_product Upper l i e = by_ring (l ∷ i ∷ e ∷ []) (var 0 ⊗ (var 2 ⊗ var 1)) ((var 0 ⊗ var 1) ⊗ var 2) refl
turned_product Zero l i e = by_ring (l ∷ i ∷ e ∷ []) (var 0 ⊗ (var 2 ⊗ var 1)) ((var 0 ⊗ var 1) ⊗ var 2) refl
turned_product Basic l i e = by_ring (l ∷ i ∷ e ∷ []) (var 0 ⊗ (var 2 ⊗ var 1)) ((var 0 ⊗ var 1) ⊗ var 2) refl

-- a positive whole number is positive as a fraction
whole_positive : (n : ℕ) → 0 < n → IsPositive (whole (pos n))
whole_positive n h = positive_from (whole (pos n)) (pos n) 1 (omega arith) (is_whole (pos n)) (omega (arith, ints))

-- the whole multiples of the ratios are the numbers of Farkas
farkas_numbers : (s : State) (row : ℕ) (to : At) (entries ratios : List Rational) (d : Rational) → AreSlackEntries s row s.frame.rows entries → IsDivisor to entries d → ratios ≡ map (λ (x : Rational). mul x (inverse d)) entries
    → AreFarkasNumbers s row to (whole_multiples ratios)
farkas_numbers s row to entries ratios d a h e =
    let L : ℕ = common_denominator ratios in
    let long : length ratios ≡ s.frame.rows = ratios_long entries ratios d e ∙ a.long in
    record {
      count = length-map ratios (times L) ∙ long;
      factor = mul (whole (pos L)) (turned to (inverse d));
      positive = positive-mul (whole (pos L)) (turned to (inverse d)) (whole_positive L (denominator_positive ratios)) (turned_positive to d h.signed.sign);
      multiples = λ i l.
          let lr : i < length ratios = omega arith in
          let le : i < length entries = let q = a.long in omega arith in
          let r : Rational = get_or ratios i (whole (pos 0)) in
          ap whole (number_at_place ratios i lr) ∙ whole_times L r (denominator_positive ratios) (den_divides ratios i (whole (pos 0)) lr) ∙ ap (mul (whole (pos L))) (ratio_at entries ratios d i e le ∙ ap (λ (z : Rational). mul z (inverse d)) (a.are i l))
          ∙ turned_product to (whole (pos L)) (inverse d) (entry_of s row (slack s.frame i));
      least = multiples_coprime ratios h.place (let q = ratios_long entries ratios d e in let r = h.within in omega arith) (place_size to entries ratios d h e);
    }

-- where they are not small, one of the numbers is large
pub farkas_large : (s : State) (row limit : ℕ) (to : At) (entries ratios : List Rational) (d : Rational) → Leaves s row to → AreSlackEntries s row s.frame.rows entries → IsDivisor to entries d → ratios ≡ map (λ (x : Rational). mul x (inverse d)) entries
    → ¬ AreSmall limit ratios → HasLargeFarkas limit s row
farkas_large s row limit to entries ratios d leaves a h e big = record {
  to = to;
  leaves = leaves;
  numbers = whole_multiples ratios;
  are = farkas_numbers s row to entries ratios d a h e;
  large = λ small.
      let l : h.place < length (whole_multiples ratios) = let q = ratios_long entries ratios d e in let r = h.within in let t = length-map ratios (times (common_denominator ratios)) in omega arith in
      big (record { denominator = subst (λ (n : ℕ). n < limit) (place_size to entries ratios d h e) (small h.place (pos 0) l); multiples = small });
}

-- not all entries at the slacks are 0
pub some_entry : (s : State) (row : ℕ) (entries : List Rational) → IsBoard s → row < s.frame.rows → AreSlackEntries s row s.frame.rows entries → ¬ All (λ (x : Rational). x ≡ whole (pos 0)) entries
some_entry s row entries b l a none = no_zero_row s row b l (λ i li. sym (a.are i li) ∙ none i (whole (pos 0)) (let q = a.long in omega arith))

-- the multipliers of these numbers
pub farkas_are : (s : State) (row limit : ℕ) (to : At) (entries ratios : List Rational) (d : Rational) (w : Whole) (rows : List Price) → Leaves s row to → AreSlackEntries s row s.frame.rows entries → IsDivisor to entries d
    → ratios ≡ map (λ (x : Rational). mul x (inverse d)) entries → IsWholeOf limit ratios w → rows ≡ prices_from 0 w.parts.items → AreFarkas s row (record { y0 = pos 0; rows = rows })
farkas_are s row limit to entries ratios d w rows leaves a h e k r = record {
  to = to;
  leaves = leaves;
  y0 = refl;
  numbers = whole_multiples ratios;
  are = farkas_numbers s row to entries ratios d a h e;
  rows = r ∙ ap (prices_from 0) k.parts;
}

-- they are below the limit
pub farkas_below : (limit : ℕ) (ratios : List Rational) (w : Whole) (rows : List Price) → 0 < limit → IsWholeOf limit ratios w → rows ≡ prices_from 0 w.parts.items → AreBelow limit (record { y0 = pos 0; rows = rows })
farkas_below limit ratios w rows l k r = record { y0 = l; rows = rw (r, k.parts) (prices_below 0 limit (whole_multiples ratios) k.small.multiples) }
