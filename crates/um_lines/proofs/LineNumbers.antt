-- Numbers over a denominator, as rational numbers.
use Rattle.std.proofs.Common.{◌≡◌, ◌≢◌, ℕ, zero, suc, ◌<◌, ◌*◌, ℤ, pos, negsuc, ◌+ℤ◌, ◌*ℤ◌, ◌≤ℤ◌, ◌<ℤ◌, List, [], ◌∷◌, length, arith, sym, ◌∙◌, ap, refl}
use Rattle.std.proofs.lemmas.Int.{ints}
use Rattle.std.proofs.lemmas.List.{get_or-map}
use lib.IntN.{neg_ℤ, pos-*ℤ-pos}
use Rattle.um_laws.proofs.Ring.{ring, var, nought, unit, ◌⊕◌, ◌⊗◌, opp}
use Rattle.um_laws.proofs.WholeRing.{whole_ring, env, cancel_pos}
use Rattle.um_laws.proofs.WholeLaws.{times_pos, *ℤ-mono, *ℤ_comm}
use Rattle.um_laws.specs.Rational.{Rational, Is, reduce, add, mul, neg, inverse, whole}
use Rattle.um_laws.proofs.RationalParts.{is_reduce, same_value}
use Rattle.um_laws.proofs.RationalField.{is_add, is_mul, is_neg, mul_inverse, num_of_zero, zero_value}
use Rattle.um_num.specs.Views.{rational}
use Rattle.um_num.proofs.Parts.{zero_parts}
use Rattle.um_num.specs.NumberLists.{number_at}
use Rattle.um_laws.proofs.RationalEquations.{by_ring}
use Rattle.um_lines.specs.Lines.{whole_at, numbers_of}

-- the number at a place of a line
pub number_at-numbers_of : (den : ℤ) (nums : List ℤ) (j : ℕ) → j < length nums → number_at (numbers_of den nums) j ≡ rational (whole_at nums j) den
number_at-numbers_of den nums j l = get_or-map (λ (num : ℤ). rational num den) nums j (pos 0) (whole (pos 0)) l

-- a positive number is that of a count
pub count_of : (d : ℤ) → pos 1 ≤ℤ d → (n : ℕ) × (d ≡ pos n) × (0 < n)
count_of (pos n) h = (n, refl, omega (arith, ints))
count_of (negsuc n) h = absurd (omega (arith, ints))

-- a number by another fraction, equal crosswise
is_cross : (x : Rational) (n m : ℤ) (d e : ℕ) → 0 < d → Is x n d → n *ℤ pos e ≡ m *ℤ pos d → Is x m e
is_cross x n m d e up h cross =
    cancel_pos (x.num *ℤ pos e) (m *ℤ pos x.den) d up
    (ring whole_ring (env (x.num ∷ pos e ∷ pos d ∷ [])) ((var 0 ⊗ var 1) ⊗ var 2) ((var 0 ⊗ var 2) ⊗ var 1) refl
    ∙ ap (λ (z : ℤ). z *ℤ pos e) h
    ∙ ring whole_ring (env (n ∷ pos x.den ∷ pos e ∷ [])) ((var 0 ⊗ var 1) ⊗ var 2) ((var 0 ⊗ var 2) ⊗ var 1) refl
    ∙ ap (λ (z : ℤ). z *ℤ pos x.den) cross
    ∙ ring whole_ring (env (m ∷ pos d ∷ pos x.den ∷ [])) ((var 0 ⊗ var 1) ⊗ var 2) ((var 0 ⊗ var 2) ⊗ var 1) refl)

reduce_cross : (x : Rational) (n m : ℤ) (d e : ℕ) → 0 < d → 0 < e → Is x n d → n *ℤ pos e ≡ m *ℤ pos d → reduce m e ≡ x
reduce_cross x n m d e up ue h cross = same_value (reduce m e) x m e ue (is_reduce m e ue) (is_cross x n m d e up h cross)

-- ---- zero
pub zero_is : (d : ℤ) → pos 1 ≤ℤ d → rational (pos 0) d ≡ whole (pos 0)
zero_is (pos d) up = let u : 0 < d = omega (arith, ints) in zero_value (reduce (pos 0) d) (pos 0) d u (is_reduce (pos 0) d u) refl
zero_is (negsuc d) up = absurd (omega (arith, ints))

-- a number that is 0 has 0 above
pub zero_above : (a d : ℤ) → pos 1 ≤ℤ d → rational a d ≡ whole (pos 0) → a ≡ pos 0
zero_above a (pos d) up e =
    let u : 0 < d = omega (arith, ints) in
    let x : Rational = reduce a d in
    cancel_pos a (pos 0) x.den x.positive
    (sym (is_reduce a d u) ∙ ap (λ (z : ℤ). z *ℤ pos d) (zero_parts x e) ∙ ring whole_ring (env (pos d ∷ pos x.den ∷ [])) (nought ⊗ var 0) (nought ⊗ var 1) refl)
zero_above a (negsuc d) up e = absurd (omega (arith, ints))

-- ---- numbers over a common factor
divided_counts : (n q : ℤ) (d e s : ℕ) → 0 < d → 0 < e → q *ℤ pos s ≡ n → e * s ≡ d → reduce q e ≡ reduce n d
divided_counts n q d e s ud ue hn hd =
    reduce_cross (reduce n d) n q d e ud ue (is_reduce n d ud)
    (ap (λ (z : ℤ). z *ℤ pos e) (sym hn)
    ∙ ring whole_ring (env (q ∷ pos s ∷ pos e ∷ [])) ((var 0 ⊗ var 1) ⊗ var 2) (var 0 ⊗ (var 2 ⊗ var 1)) refl
    ∙ ap (λ (z : ℤ). q *ℤ z) (pos-*ℤ-pos e s ∙ ap pos hd))

pub divided_is : (n d q e s : ℤ) → pos 1 ≤ℤ d → pos 1 ≤ℤ e → pos 1 ≤ℤ s → q *ℤ s ≡ n → e *ℤ s ≡ d → rational q e ≡ rational n d
divided_is n (pos d) q (pos e) (pos s) ud ue us hn hd = divided_counts n q d e s (omega (arith, ints)) (omega (arith, ints)) hn (omega (arith, ints, sym (pos-*ℤ-pos e s) ∙ hd))
divided_is n (negsuc d) q e s ud ue us hn hd = absurd (omega (arith, ints))
divided_is n (pos d) q (negsuc e) s ud ue us hn hd = absurd (omega (arith, ints))
divided_is n (pos d) q (pos e) (negsuc s) ud ue us hn hd = absurd (omega (arith, ints))

-- ---- a number and a multiple of another
sum_counts : (n a l f m : ℤ) (d e k : ℕ) → 0 < d → 0 < e → 0 < k → f ≡ pos k → m *ℤ pos e ≡ a *ℤ f
    → reduce (n *ℤ f +ℤ l *ℤ m) (d * k) ≡ add (reduce n d) (mul (reduce a d) (reduce l e))
sum_counts n a l f m d e k ud ue uk hf cross =
    let x : Rational = add (reduce n d) (mul (reduce a d) (reduce l e)) in
    let is : Is x (n *ℤ pos (d * e) +ℤ (a *ℤ l) *ℤ pos d) (d * (d * e)) = is_add _ _ n (a *ℤ l) d (d * e) (is_reduce n d ud) (is_mul _ _ a l d e (is_reduce a d ud) (is_reduce l e ue)) in
    reduce_cross x _ (n *ℤ f +ℤ l *ℤ m) (d * (d * e)) (d * k) (times_pos d (d * e) ud (times_pos d e ud ue)) (times_pos d k ud uk) is
    (ap (λ (z : ℤ). (n *ℤ z +ℤ (a *ℤ l) *ℤ pos d) *ℤ pos (d * k)) (sym (pos-*ℤ-pos d e))
    ∙ ap (λ (z : ℤ). (n *ℤ (pos d *ℤ pos e) +ℤ (a *ℤ l) *ℤ pos d) *ℤ z) (sym (pos-*ℤ-pos d k) ∙ ap (λ (z : ℤ). pos d *ℤ z) (sym hf))
    ∙ ring whole_ring (env (n ∷ a ∷ l ∷ f ∷ pos d ∷ pos e ∷ [])) ((var 0 ⊗ (var 4 ⊗ var 5) ⊕ (var 1 ⊗ var 2) ⊗ var 4) ⊗ (var 4 ⊗ var 3)) ((var 0 ⊗ var 3) ⊗ (var 4 ⊗ (var 4 ⊗ var 5)) ⊕ (var 2 ⊗ (var 4 ⊗ var 4)) ⊗ (var 1 ⊗ var 3)) refl
    ∙ ap (λ (z : ℤ). (n *ℤ f) *ℤ (pos d *ℤ (pos d *ℤ pos e)) +ℤ (l *ℤ (pos d *ℤ pos d)) *ℤ z) (sym cross)
    ∙ ring whole_ring (env (n ∷ m ∷ l ∷ f ∷ pos d ∷ pos e ∷ [])) ((var 0 ⊗ var 3) ⊗ (var 4 ⊗ (var 4 ⊗ var 5)) ⊕ (var 2 ⊗ (var 4 ⊗ var 4)) ⊗ (var 1 ⊗ var 5)) ((var 0 ⊗ var 3 ⊕ var 2 ⊗ var 1) ⊗ (var 4 ⊗ (var 4 ⊗ var 5))) refl
    ∙ ap (λ (z : ℤ). (n *ℤ f +ℤ l *ℤ m) *ℤ (pos d *ℤ z)) (pos-*ℤ-pos d e)
    ∙ ap (λ (z : ℤ). (n *ℤ f +ℤ l *ℤ m) *ℤ z) (pos-*ℤ-pos d (d * e)))

pub sum_is : (n a l f m d e den : ℤ) → pos 1 ≤ℤ d → pos 1 ≤ℤ e → pos 1 ≤ℤ f → m *ℤ e ≡ a *ℤ f → den ≡ d *ℤ f
    → rational (n *ℤ f +ℤ l *ℤ m) den ≡ add (rational n d) (mul (rational a d) (rational l e))
sum_is n a l (pos f) m (pos d) (pos e) den ud ue uf cross hden =
    ap (λ (z : ℤ). rational (n *ℤ pos f +ℤ l *ℤ m) z) (hden ∙ pos-*ℤ-pos d f)
    ∙ sum_counts n a l (pos f) m d e f (omega (arith, ints)) (omega (arith, ints)) (omega (arith, ints)) refl cross
sum_is n a l f m (negsuc d) e den ud ue uf cross hden = absurd (omega (arith, ints))
sum_is n a l f m (pos d) (negsuc e) den ud ue uf cross hden = absurd (omega (arith, ints))
sum_is n a l (negsuc f) m (pos d) (pos e) den ud ue uf cross hden = absurd (omega (arith, ints))

-- ---- a number over minus another
-- the quotient is fixed by its product
quotient_is : (x y z : Rational) → x ≢ whole (pos 0) → mul x y ≡ neg z → y ≡ mul (neg (inverse x)) z
quotient_is x y z ne h =
    by_ring (y ∷ []) (var 0) (unit ⊗ var 0) refl
    ∙ ap (λ (u : Rational). mul u y) (sym (mul_inverse x (λ e. ne (num_of_zero x e))))
    ∙ by_ring (x ∷ inverse x ∷ y ∷ []) ((var 0 ⊗ var 1) ⊗ var 2) (var 1 ⊗ (var 0 ⊗ var 2)) refl
    ∙ ap (mul (inverse x)) h
    ∙ by_ring (inverse x ∷ z ∷ []) (var 0 ⊗ opp (var 1)) (opp (var 0) ⊗ var 1) refl

turned_counts : (n a q : ℤ) (d k : ℕ) → 0 < d → 0 < k → reduce a d ≢ whole (pos 0) → a *ℤ q ≡ neg_ℤ n *ℤ pos k → reduce q k ≡ mul (neg (inverse (reduce a d))) (reduce n d)
turned_counts n a q d k ud uk ne cross =
    quotient_is (reduce a d) (reduce q k) (reduce n d) ne
    (same_value _ _ (a *ℤ q) (d * k) (times_pos d k ud uk) (is_mul _ _ a q d k (is_reduce a d ud) (is_reduce q k uk))
    (is_cross (neg (reduce n d)) (neg_ℤ n) (a *ℤ q) d (d * k) ud (is_neg_reduce n d ud)
    (ap (λ (z : ℤ). neg_ℤ n *ℤ z) (sym (pos-*ℤ-pos d k))
    ∙ ring whole_ring (env (n ∷ pos d ∷ pos k ∷ [])) (opp (var 0) ⊗ (var 1 ⊗ var 2)) ((opp (var 0) ⊗ var 2) ⊗ var 1) refl
    ∙ ap (λ (z : ℤ). z *ℤ pos d) (sym cross))))
  where
    is_neg_reduce : (n : ℤ) (d : ℕ) → 0 < d → Is (neg (reduce n d)) (neg_ℤ n) d
    is_neg_reduce n d up =
        let x : Rational = reduce n d in
        let h : Is x n d = is_reduce n d up in
        is_cross (neg x) (neg_ℤ x.num) (neg_ℤ n) x.den d x.positive (is_neg x)
        (ring whole_ring (env (x.num ∷ pos d ∷ [])) (opp (var 0) ⊗ var 1) (opp (var 0 ⊗ var 1)) refl ∙ ap neg_ℤ h ∙ ring whole_ring (env (n ∷ pos x.den ∷ [])) (opp (var 0 ⊗ var 1)) (opp (var 0) ⊗ var 1) refl)

-- over a positive number the others are turned
pub turned_above : (n a d : ℤ) → pos 1 ≤ℤ d → pos 0 <ℤ a → rational a d ≢ whole (pos 0) → rational (neg_ℤ n) a ≡ mul (neg (inverse (rational a d))) (rational n d)
turned_above n (pos a) (pos d) ud ua ne = turned_counts n (pos a) (neg_ℤ n) d a (omega (arith, ints)) (omega (arith, ints)) ne (ring whole_ring (env (n ∷ pos a ∷ [])) (var 1 ⊗ opp (var 0)) (opp (var 0) ⊗ var 1) refl)
turned_above n (negsuc a) d ud ua ne = absurd (omega (arith, ints))
turned_above n (pos a) (negsuc d) ud ua ne = absurd (omega (arith, ints))

-- over a negative number they stay, and it is turned
pub turned_below : (n a d : ℤ) → pos 1 ≤ℤ d → a <ℤ pos 0 → rational a d ≢ whole (pos 0) → rational n (neg_ℤ a) ≡ mul (neg (inverse (rational a d))) (rational n d)
turned_below n (negsuc a) (pos d) ud ua ne = turned_counts n (negsuc a) n d (suc a) (omega (arith, ints)) (omega arith) ne (ring whole_ring (env (n ∷ pos (suc a) ∷ [])) (opp (var 1) ⊗ var 0) (opp (var 0) ⊗ var 1) refl)
turned_below n (pos a) d ud ua ne = absurd (omega (arith, ints))
turned_below n (negsuc a) (negsuc d) ud ua ne = absurd (omega (arith, ints))

-- ---- what is multiplied crosswise
pub cross_parts : (p q s den entry : ℤ) → p *ℤ s ≡ den → q *ℤ s ≡ entry → q *ℤ den ≡ entry *ℤ p
cross_parts p q s den entry hp hq =
    ap (λ (z : ℤ). q *ℤ z) (sym hp)
    ∙ ring whole_ring (env (p ∷ q ∷ s ∷ [])) (var 1 ⊗ (var 0 ⊗ var 2)) ((var 1 ⊗ var 2) ⊗ var 0) refl
    ∙ ap (λ (z : ℤ). z *ℤ p) hq

-- ---- signs
pub not_zero : (a d : ℤ) → pos 1 ≤ℤ d → a ≢ pos 0 → rational a d ≢ whole (pos 0)
not_zero a d up ne e = ne (zero_above a d up e)

pub below_zero : (a : ℤ) → a ≢ pos 0 → a ≤ℤ pos 0 → a <ℤ pos 0
below_zero (pos zero) ne low = absurd (ne refl)
below_zero (pos (suc n)) ne low = absurd (omega (arith, ints))
below_zero (negsuc n) ne low = omega (arith, ints)

pub product_up : (a b c : ℤ) → pos 1 ≤ℤ a → pos 1 ≤ℤ b → c ≡ a *ℤ b → pos 1 ≤ℤ c
product_up (pos a) (pos b) c ua ub e = let p : 0 < a * b = times_pos a b (omega (arith, ints)) (omega (arith, ints)) in rw (e ∙ pos-*ℤ-pos a b) (omega (arith, ints))
product_up (negsuc a) b c ua ub e = absurd (omega (arith, ints))
product_up (pos a) (negsuc b) c ua ub e = absurd (omega (arith, ints))

-- a quotient of positive numbers
pub quotient_up : (a s q : ℤ) → pos 1 ≤ℤ s → q *ℤ s ≡ a → pos 1 ≤ℤ a → pos 1 ≤ℤ q
quotient_up a (pos s) (pos zero) us e ua = absurd (omega (arith, ints))
quotient_up a (pos s) (pos (suc q)) us e ua = omega (arith, ints)
quotient_up a (pos s) (negsuc q) us e ua = let low : (pos s *ℤ negsuc q) ≤ℤ (pos s *ℤ pos 0) = *ℤ-mono (pos s) (negsuc q) (pos 0) (omega (arith, ints)) (omega (arith, ints)) in absurd (omega (arith, ints, *ℤ_comm (pos s) (negsuc q), e))
quotient_up a (negsuc s) q us e ua = absurd (omega (arith, ints))
