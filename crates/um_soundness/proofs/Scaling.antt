-- What is said of a point does not depend on a common factor of its numbers.
use Rattle.std.proofs.Common.{◌≡◌, ℕ, ◌*◌, ◌<◌, ◌^◌, zero, suc, ℤ, pos, negsuc, ◌+ℤ◌, ◌-ℤ◌, ◌*ℤ◌, ◌≤ℤ◌, ◌<ℤ◌, unsigned_abs, Bool, true, false, ◌⊎◌, inl, inr, ◌↔◌, List, [], ◌∷◌, map, slice_index_or, Option, Some, None, refl, sym, ◌∙◌, ap, subst, arith, if◌then◌else◌}
use Rattle.std.proofs.lemmas.Int.{ints, by_lt_z, unsigned_abs-mul}
use lib.IntN.{pos-*ℤ-pos}
use Rattle.um_laws.specs.Rational.{Rational, Is, reduce}
use Rattle.um_laws.proofs.RationalParts.{is_reduce, same_value}
use Rattle.um_laws.proofs.WholeLaws.{*ℤ-mono, times_pos}
use Rattle.um_laws.specs.Sums.{dot}
use Rattle.um_laws.proofs.SumLaws.{sum_of-same, sum_of-*ℤ}
use Rattle.um_laws.proofs.Polynomials.{Polynomial, term, number, ◌⊕◌, ◌⊗◌, same, at_most, at_most_of, below}
use Rattle.um_model.specs.Values.{DeckValue, ColumnValue, SetValue, PointValue}
use Rattle.um_model.specs.Feasible.{part, Between, Feasible, coefficient, linear_sum, is_arc_of, square_sum, row_times, RowHolds, SetRule, IsNonzeroAt, IsMultipleOf, member_parts}
use Rattle.um_model.specs.Objective.{cost_sum, objective_times, objective_over, objective, Beats}
use Rattle.um_model.specs.Boxes.{BoxValue, InBox, ends_at}
use Rattle.um_soundness.specs.Laws.{scaled, ScalingLaw}
use Rattle.um_model.specs.declared.deck.Row.{Row}
use Rattle.um_model.specs.declared.deck.Member.{Member}
use Rattle.um_model.specs.declared.deck.SetKind.{SetKind}
use Rattle.um_model.specs.declared.deck.SetKind.TheVariants.{S1, S2}
use Rattle.um_model.specs.declared.deck.Arc.{Arc}
use Rattle.um_laws.proofs.Places.{length-map}
use Rattle.um_soundness.proofs.Moving.{ten_up}

-- ---- a common factor above 0
pub up_product : (a b : ℤ) → pos 1 ≤ℤ a → pos 1 ≤ℤ b → pos 1 ≤ℤ (a *ℤ b)
up_product a b h g = let m = *ℤ-mono a (pos 1) b (omega (arith, ints)) g in omega (arith, ints, m)

pub cancel_le : (k a b : ℤ) → pos 1 ≤ℤ k → (k *ℤ a) ≤ℤ (k *ℤ b) → a ≤ℤ b
cancel_le k a b h l = by_lt_z b a (λ (g : b <ℤ a). absurd (let m = *ℤ-mono k (b +ℤ pos 1) a (omega (arith, ints)) (omega (arith, ints)) in
    omega (arith, at_most_of (term k ⊗ (term b ⊕ number 1)) (term k ⊗ term a) m, at_most_of (term k ⊗ term a) (term k ⊗ term b) l, at_most_of (number 1) (term k) h))) (λ (g : a ≤ℤ b). g)

times_lt : (k a b : ℤ) → pos 1 ≤ℤ k → a <ℤ b → (k *ℤ a) <ℤ (k *ℤ b)
times_lt k a b h l = let m = *ℤ-mono k (a +ℤ pos 1) b (omega (arith, ints)) (omega (arith, ints)) in
    below (term k ⊗ term a) (term k ⊗ term b) (omega (arith, at_most_of (term k ⊗ (term a ⊕ number 1)) (term k ⊗ term b) m, at_most_of (number 1) (term k) h))

cancel_lt : (k a b : ℤ) → pos 1 ≤ℤ k → (k *ℤ a) <ℤ (k *ℤ b) → a <ℤ b
cancel_lt k a b h l = by_lt_z a b (λ (g : a <ℤ b). g) (λ (g : b ≤ℤ a). absurd (let m = *ℤ-mono k b a (omega (arith, ints)) g in omega (arith, ints, m)))

cancel : (k a b : ℤ) → pos 1 ≤ℤ k → k *ℤ a ≡ k *ℤ b → a ≡ b
cancel k a b h e = let l = cancel_le k a b h (omega (arith, ints)) in let g = cancel_le k b a h (omega (arith, ints)) in omega (arith, ints)

cancel_zero : (k a : ℤ) → pos 1 ≤ℤ k → k *ℤ a ≡ pos 0 → a ≡ pos 0
cancel_zero k a h e = cancel k a (pos 0) h (omega (arith, ints))

times_zero : (k a : ℤ) → a ≡ pos 0 → k *ℤ a ≡ pos 0
times_zero k a e = rw e (omega (arith, ints))

-- ---- numbers between ends
between_up : (low high : Option ℤ) (k q x : ℤ) → pos 1 ≤ℤ k → Between low high q x → Between low high (k *ℤ q) (k *ℤ x)
between_up low high k q x h b = record {
  above = λ l e. let m = *ℤ-mono k (l *ℤ q) x (omega (arith, ints)) (b.above l e) in at_most (term l ⊗ (term k ⊗ term q)) (term k ⊗ term x) (omega (arith, at_most_of (term k ⊗ (term l ⊗ term q)) (term k ⊗ term x) m));
  below = λ g e. let m = *ℤ-mono k x (g *ℤ q) (omega (arith, ints)) (b.below g e) in at_most (term k ⊗ term x) (term g ⊗ (term k ⊗ term q)) (omega (arith, at_most_of (term k ⊗ term x) (term k ⊗ (term g ⊗ term q)) m));
}

between_down : (low high : Option ℤ) (k q x : ℤ) → pos 1 ≤ℤ k → Between low high (k *ℤ q) (k *ℤ x) → Between low high q x
between_down low high k q x h b = record {
  above = λ l e. cancel_le k (l *ℤ q) x h (at_most (term k ⊗ (term l ⊗ term q)) (term k ⊗ term x) (omega (arith, at_most_of (term l ⊗ (term k ⊗ term q)) (term k ⊗ term x) (b.above l e))));
  below = λ g e. cancel_le k x (g *ℤ q) h (at_most (term k ⊗ term x) (term k ⊗ (term g ⊗ term q)) (omega (arith, at_most_of (term k ⊗ term x) (term g ⊗ (term k ⊗ term q)) (b.below g e))));
}

-- ---- sums of parts
part-scaled : (k : ℤ) (xs : List ℤ) (i : ℕ) → part (map (λ x. k *ℤ x) xs) i ≡ k *ℤ part xs i
part-scaled k [] i = omega (arith, ints)
part-scaled k (x ∷ xs) zero = refl
part-scaled k (x ∷ xs) (suc i) = part-scaled k xs i

dot-scaled : {A : Type 0} (f : A → ℤ) (cs : List A) (k : ℤ) (xs : List ℤ) → dot f cs (map (λ x. k *ℤ x) xs) ≡ k *ℤ dot f cs xs
dot-scaled f [] k xs = omega (arith, ints)
dot-scaled f (c ∷ cs) k [] = omega (arith, ints)
dot-scaled f (c ∷ cs) k (x ∷ xs) = rw (dot-scaled f cs k xs) (same (term (f c) ⊗ (term k ⊗ term x) ⊕ term k ⊗ term (dot f cs xs)) (term k ⊗ (term (f c) ⊗ term x ⊕ term (dot f cs xs))) (omega arith))

square-scaled : (d : DeckValue) (row : Option ℕ) (k : ℤ) (xs : List ℤ) → square_sum d row (map (λ x. k *ℤ x) xs) ≡ (k *ℤ k) *ℤ square_sum d row xs
square-scaled d row k xs = sum_of-same _ _ d.arcs (λ a. each (is_arc_of row a) a.value (part xs a.column) (part (map (λ x. k *ℤ x) xs) a.column) (part-scaled k xs a.column)) ∙ sum_of-*ℤ (k *ℤ k) (λ (a : Arc). if is_arc_of row a then a.value *ℤ (part xs a.column *ℤ part xs a.column) else pos 0) d.arcs
  where
    each : (t : Bool) (v x y : ℤ) → y ≡ k *ℤ x → (if t then v *ℤ (y *ℤ y) else pos 0) ≡ (k *ℤ k) *ℤ (if t then v *ℤ (x *ℤ x) else pos 0)
    each true v x y e = rw e (same (term v ⊗ (term k ⊗ term x ⊗ (term k ⊗ term x))) ((term k ⊗ term k) ⊗ (term v ⊗ (term x ⊗ term x))) (omega arith))
    each false v x y e = omega (arith, ints)

-- ---- parts that are 0
abbrev SameZeros : List ℤ → List ℤ → Type 0
SameZeros xs ys = (i : ℕ) → IsNonzeroAt ys i → IsNonzeroAt xs i

rule_of : (kind : SetKind) (xs ys : List ℤ) → SameZeros xs ys → SetRule kind xs → SetRule kind ys
rule_of S1 xs ys z r = λ i j l a b. r i j l (z i a) (z j b)
rule_of S2 xs ys z r = λ i j l a b. r i j l (z i a) (z j b)

member-scaled : (k : ℤ) (p : PointValue) (s : SetValue) (i : ℕ) → part (member_parts (scaled k p) s) i ≡ k *ℤ part (member_parts p s) i
member-scaled k p s i = go s.members i
  where
    go : (ms : List Member) (i : ℕ) → part (map (λ (m : Member). part (map (λ x. k *ℤ x) p.parts) m.column) ms) i ≡ k *ℤ part (map (λ (m : Member). part p.parts m.column) ms) i
    go [] i = omega (arith, ints)
    go (m ∷ ms) zero = part-scaled k p.parts m.column
    go (m ∷ ms) (suc i) = go ms i

-- ---- a fraction with a common factor
is_times : (x : Rational) (n : ℤ) (d m : ℕ) → Is x n d → Is x (pos m *ℤ n) (m * d)
is_times x n d m h =
    ap (λ (z : ℤ). x.num *ℤ z) (sym (pos-*ℤ-pos m d)) ∙ same (term x.num ⊗ (term (pos m) ⊗ term (pos d))) (term (pos m) ⊗ (term x.num ⊗ term (pos d))) (omega arith)
    ∙ ap (λ (z : ℤ). pos m *ℤ z) h ∙ same (term (pos m) ⊗ (term n ⊗ term (pos x.den))) (term (pos m) ⊗ term n ⊗ term (pos x.den)) (omega arith)

pub reduce_common : (n : ℤ) (d m : ℕ) → 0 < d → 0 < m → reduce (pos m *ℤ n) (m * d) ≡ reduce n d
reduce_common n d m hd hm = same_value (reduce (pos m *ℤ n) (m * d)) (reduce n d) (pos m *ℤ n) (m * d) (times_pos m d hm hd) (is_reduce (pos m *ℤ n) (m * d) (times_pos m d hm hd)) (is_times (reduce n d) n d m (is_reduce n d hd))

pub square_abs : (k : ℤ) → pos 1 ≤ℤ k → pos (unsigned_abs k * unsigned_abs k) ≡ k *ℤ k
square_abs (pos n) h = sym (pos-*ℤ-pos n n)
square_abs (negsuc n) h = absurd (omega (arith, ints))

pub abs_up : (k : ℤ) → pos 1 ≤ℤ k → 0 < unsigned_abs k
abs_up (pos n) h = omega (arith, ints)
abs_up (negsuc n) h = absurd (omega (arith, ints))

regroup : (a b c : ℕ) → (a * b) * (a * b) * c ≡ (a * a) * (b * b * c)
regroup a b c = omega arith

module _ (d : DeckValue) (p : PointValue) (k : ℤ) (den : pos 1 ≤ℤ p.den) (one : pos 1 ≤ℤ k) where
  zeros_up : (s : SetValue) → SameZeros (member_parts p s) (member_parts (scaled k p) s)
  zeros_up s i n e = n (member-scaled k p s i ∙ times_zero k (part (member_parts p s) i) e)

  zeros_down : (s : SetValue) → SameZeros (member_parts (scaled k p) s) (member_parts p s)
  zeros_down s i n e = n (cancel_zero k (part (member_parts p s) i) one (sym (member-scaled k p s i) ∙ e))

  up_square : pos 1 ≤ℤ (k *ℤ k)
  up_square = up_product k k one one

  wide_is : (k *ℤ p.den) *ℤ (k *ℤ p.den) ≡ (k *ℤ k) *ℤ (p.den *ℤ p.den)
  wide_is = same ((term k ⊗ term p.den) ⊗ (term k ⊗ term p.den)) ((term k ⊗ term k) ⊗ (term p.den ⊗ term p.den)) (omega arith)

  row_is : (i : ℕ) → row_times d (scaled k p) i ≡ (k *ℤ k) *ℤ row_times d p i
  row_is i =
      let L : Polynomial = term (linear_sum d i p.parts) in
      let S : Polynomial = term (square_sum d (Some i) p.parts) in
      let K : Polynomial = term k in
      let Q : Polynomial = term p.den in
      rw (dot-scaled (coefficient i) d.columns k p.parts) (rw (square-scaled d (Some i) k p.parts) (same ((K ⊗ Q) ⊗ (K ⊗ L) ⊕ (K ⊗ K) ⊗ S) ((K ⊗ K) ⊗ (Q ⊗ L ⊕ S)) (omega arith)))

  objective_is : objective_times d (scaled k p) ≡ (k *ℤ k) *ℤ objective_times d p
  objective_is =
      let C : Polynomial = term (cost_sum d p.parts) in
      let S : Polynomial = term (square_sum d None p.parts) in
      let N : Polynomial = term d.constant in
      let K : Polynomial = term k in
      let Q : Polynomial = term p.den in
      rw (dot-scaled (λ (c : ColumnValue). c.cost) d.columns k p.parts) (rw (square-scaled d None k p.parts) (same ((K ⊗ Q) ⊗ (K ⊗ C) ⊕ (K ⊗ K) ⊗ S ⊕ N ⊗ ((K ⊗ Q) ⊗ (K ⊗ Q))) ((K ⊗ K) ⊗ (Q ⊗ C ⊕ S ⊕ N ⊗ (Q ⊗ Q))) (omega arith)))

  over_is : objective_over d (scaled k p) ≡ (k *ℤ k) *ℤ objective_over d p
  over_is = same (((term k ⊗ term p.den) ⊗ (term k ⊗ term p.den)) ⊗ term (pos (10 ^ d.scale))) ((term k ⊗ term k) ⊗ (term p.den ⊗ term p.den ⊗ term (pos (10 ^ d.scale)))) (omega arith)

  ends_is : (j : ℕ) → pos 1000 *ℤ part (map (λ x. k *ℤ x) p.parts) j ≡ k *ℤ (pos 1000 *ℤ part p.parts j)
  ends_is j = rw (part-scaled k p.parts j) (same (number 1000 ⊗ (term k ⊗ term (part p.parts j))) (term k ⊗ (number 1000 ⊗ term (part p.parts j))) (omega arith))

  ends_up : (low high : Option ℤ) (j : ℕ) → Between low high p.den (pos 1000 *ℤ part p.parts j) → Between low high (k *ℤ p.den) (pos 1000 *ℤ part (map (λ x. k *ℤ x) p.parts) j)
  ends_up low high j b = subst (Between low high (k *ℤ p.den)) (sym (ends_is j)) (between_up low high k p.den (pos 1000 *ℤ part p.parts j) one b)

  ends_down : (low high : Option ℤ) (j : ℕ) → Between low high (k *ℤ p.den) (pos 1000 *ℤ part (map (λ x. k *ℤ x) p.parts) j) → Between low high p.den (pos 1000 *ℤ part p.parts j)
  ends_down low high j b = between_down low high k p.den (pos 1000 *ℤ part p.parts j) one (subst (Between low high (k *ℤ p.den)) (ends_is j) b)

  row_up : (i : ℕ) (r : Row) → RowHolds d p i r → RowHolds d (scaled k p) i r
  row_up i r b = subst (λ (w : ℤ). Between r.low r.high w (row_times d (scaled k p) i)) (sym wide_is) (subst (Between r.low r.high ((k *ℤ k) *ℤ (p.den *ℤ p.den))) (sym (row_is i)) (between_up r.low r.high (k *ℤ k) (p.den *ℤ p.den) (row_times d p i) up_square b))

  row_down : (i : ℕ) (r : Row) → RowHolds d (scaled k p) i r → RowHolds d p i r
  row_down i r b = between_down r.low r.high (k *ℤ k) (p.den *ℤ p.den) (row_times d p i) up_square (subst (Between r.low r.high ((k *ℤ k) *ℤ (p.den *ℤ p.den))) (row_is i) (subst (λ (w : ℤ). Between r.low r.high w (row_times d (scaled k p) i)) wide_is b))

  multiple_up : (j : ℕ) → IsMultipleOf p.den (part p.parts j) → IsMultipleOf (k *ℤ p.den) (part (map (λ x. k *ℤ x) p.parts) j)
  multiple_up j m = (m.0, part-scaled k p.parts j ∙ ap (λ (x : ℤ). k *ℤ x) m.1 ∙ same (term k ⊗ (term p.den ⊗ term m.0)) (term k ⊗ term p.den ⊗ term m.0) (omega arith))

  multiple_down : (j : ℕ) → IsMultipleOf (k *ℤ p.den) (part (map (λ x. k *ℤ x) p.parts) j) → IsMultipleOf p.den (part p.parts j)
  multiple_down j m = (m.0, cancel k (part p.parts j) (p.den *ℤ m.0) one (sym (part-scaled k p.parts j) ∙ m.1 ∙ same (term k ⊗ term p.den ⊗ term m.0) (term k ⊗ (term p.den ⊗ term m.0)) (omega arith)))

  semi_up : (s : ℤ) (j : ℕ) → (part p.parts j ≡ pos 0) ⊎ ((s *ℤ p.den) ≤ℤ (pos 1000 *ℤ part p.parts j)) → (part (map (λ x. k *ℤ x) p.parts) j ≡ pos 0) ⊎ ((s *ℤ (k *ℤ p.den)) ≤ℤ (pos 1000 *ℤ part (map (λ x. k *ℤ x) p.parts) j))
  semi_up s j o = elim o [ inl e ↦ inl (part-scaled k p.parts j ∙ times_zero k (part p.parts j) e) | inr l ↦ inr ((ends_up (Some s) None j (record { above = λ x e. subst (λ (z : ℤ). (z *ℤ p.den) ≤ℤ (pos 1000 *ℤ part p.parts j)) (let g : s ≡ x = cc in g) l; below = λ x e. absurd (cc) })).above s refl) ]

  semi_down : (s : ℤ) (j : ℕ) → (part (map (λ x. k *ℤ x) p.parts) j ≡ pos 0) ⊎ ((s *ℤ (k *ℤ p.den)) ≤ℤ (pos 1000 *ℤ part (map (λ x. k *ℤ x) p.parts) j)) → (part p.parts j ≡ pos 0) ⊎ ((s *ℤ p.den) ≤ℤ (pos 1000 *ℤ part p.parts j))
  semi_down s j o = elim o [ inl e ↦ inl (cancel_zero k (part p.parts j) one (sym (part-scaled k p.parts j) ∙ e)) | inr l ↦ inr ((ends_down (Some s) None j (record { above = λ x e. subst (λ (z : ℤ). (z *ℤ (k *ℤ p.den)) ≤ℤ (pos 1000 *ℤ part (map (λ x. k *ℤ x) p.parts) j)) (let g : s ≡ x = cc in g) l; below = λ x e. absurd (cc) })).above s refl) ]

  feasible_up : Feasible d p → Feasible d (scaled k p)
  feasible_up f = record {
    den = up_product k p.den one den;
    parts = length-map (λ x. k *ℤ x) p.parts ∙ f.parts;
    rows = λ i default h. row_up i (slice_index_or d.rows i default) (f.rows i default h);
    ends = λ j default h. ends_up (slice_index_or d.columns j default).low (slice_index_or d.columns j default).high j (f.ends j default h);
    integers = λ j default h e. multiple_up j (f.integers j default h e);
    semis = λ j default h s e. semi_up s j (f.semis j default h s e);
    sets = λ i default h. rule_of (slice_index_or d.sets i default).kind _ _ (zeros_up (slice_index_or d.sets i default)) (f.sets i default h);
  }

  feasible_down : Feasible d (scaled k p) → Feasible d p
  feasible_down f = record {
    den = den;
    parts = sym (length-map (λ x. k *ℤ x) p.parts) ∙ f.parts;
    rows = λ i default h. row_down i (slice_index_or d.rows i default) (f.rows i default h);
    ends = λ j default h. ends_down (slice_index_or d.columns j default).low (slice_index_or d.columns j default).high j (f.ends j default h);
    integers = λ j default h e. multiple_down j (f.integers j default h e);
    semis = λ j default h s e. semi_down s j (f.semis j default h s e);
    sets = λ i default h. rule_of (slice_index_or d.sets i default).kind _ _ (zeros_down (slice_index_or d.sets i default)) (f.sets i default h);
  }

  box_up : (b : BoxValue) → InBox d b p → InBox d b (scaled k p)
  box_up b inside = record {
    ends = λ j h. ends_up (ends_at b j).low (ends_at b j).high j (inside.ends j h);
    spans = λ i default h position out. member-scaled k p (slice_index_or d.sets i default) position ∙ times_zero k _ (inside.spans i default h position out);
  }

  box_down : (b : BoxValue) → InBox d b (scaled k p) → InBox d b p
  box_down b inside = record {
    ends = λ j h. ends_down (ends_at b j).low (ends_at b j).high j (inside.ends j h);
    spans = λ i default h position out. cancel_zero k _ one (sym (member-scaled k p (slice_index_or d.sets i default) position) ∙ inside.spans i default h position out);
  }

  beats_is : (v : Rational) (t : ℤ) → Beats d (scaled k p) v t ↔ Beats d p v t
  beats_is v t =
      let A : ℤ = pos 1000 *ℤ objective_times d p *ℤ pos v.den in
      let B : ℤ = (pos 1000 *ℤ v.num -ℤ t *ℤ pos v.den) *ℤ objective_over d p in
      let G : ℤ = pos 1000 *ℤ v.num -ℤ t *ℤ pos v.den in
      let a : pos 1000 *ℤ objective_times d (scaled k p) *ℤ pos v.den ≡ (k *ℤ k) *ℤ (pos 1000 *ℤ objective_times d p *ℤ pos v.den) =
      rw objective_is (same (number 1000 ⊗ ((term k ⊗ term k) ⊗ term (objective_times d p)) ⊗ term (pos v.den)) ((term k ⊗ term k) ⊗ (number 1000 ⊗ term (objective_times d p) ⊗ term (pos v.den))) (omega arith)) in
      let b : G *ℤ objective_over d (scaled k p) ≡ (k *ℤ k) *ℤ (G *ℤ objective_over d p) =
      rw over_is (same (term G ⊗ ((term k ⊗ term k) ⊗ term (objective_over d p))) ((term k ⊗ term k) ⊗ (term G ⊗ term (objective_over d p))) (omega arith)) in (
        λ l. cancel_lt (k *ℤ k) A B up_square (subst (λ (x : ℤ). x <ℤ ((k *ℤ k) *ℤ B)) a (subst (λ (x : ℤ). (pos 1000 *ℤ objective_times d (scaled k p) *ℤ pos v.den) <ℤ x) b l)),
        λ l. subst (λ (x : ℤ). x <ℤ (G *ℤ objective_over d (scaled k p))) (sym a) (subst (λ (x : ℤ). ((k *ℤ k) *ℤ A) <ℤ x) (sym b) (times_lt (k *ℤ k) A B up_square l)),
      )

  same_objective : objective d (scaled k p) ≡ objective d p
  same_objective =
      let K : ℕ = unsigned_abs k in
      let Q : ℕ = unsigned_abs p.den in
      let S : ℕ = 10 ^ d.scale in
      let over : unsigned_abs (k *ℤ p.den) * unsigned_abs (k *ℤ p.den) * S ≡ (K * K) * (Q * Q * S) = ap (λ (n : ℕ). n * n * S) (unsigned_abs-mul k p.den) ∙ regroup K Q S in
      let times : objective_times d (scaled k p) ≡ pos (K * K) *ℤ objective_times d p = objective_is ∙ ap (λ (z : ℤ). z *ℤ objective_times d p) (sym (square_abs k one)) in
      ap (λ (n : ℕ). reduce (objective_times d (scaled k p)) n) over ∙ ap (λ (z : ℤ). reduce z ((K * K) * (Q * Q * S))) times
      ∙ reduce_common (objective_times d p) (Q * Q * S) (K * K) (times_pos (Q * Q) S (times_pos Q Q (abs_up p.den den) (abs_up p.den den)) (ten_up d.scale)) (times_pos K K (abs_up k one) (abs_up k one))

pub scaling-law : ScalingLaw
scaling-law d p k den one = record {
  feasible = (feasible_down d p k den one, feasible_up d p k den one);
  box = λ b. (box_down d p k den one b, box_up d p k den one b);
  same_objective = same_objective d p k den one;
  beats = beats_is d p k den one;
}
