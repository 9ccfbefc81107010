-- A void box has no feasible point; and a point of a box lies within the ends that the box gives.
use Rattle.std.proofs.Common.{◌≡◌, ℕ, ◌+◌, ◌<◌, suc, ℤ, pos, ◌+ℤ◌, ◌*ℤ◌, ◌≤ℤ◌, ◌<ℤ◌, Bool, true, false, ◌||◌, ◌&&◌, nat_lt, ◌==◌, ◌⊎◌, inl, inr, List, [], ◌∷◌, length, slice_index_or, Option, Some, None, refl, sym, ◌∙◌, subst, ap, arith, if◌then◌else◌, eqb-true}
use Rattle.std.specs.List.{list_any, enumerate_from}
use Rattle.std.specs.Option.{IsSomeAnd}
use Rattle.std.proofs.lemmas.Int.{ints}
use Rattle.std.proofs.lemmas.Bool.Decides.{nat_tests}
use Rattle.um_laws.proofs.Polynomials.{term, number, ◌⊕◌, ◌⊗◌, same}
use Rattle.um_laws.proofs.WholeLaws.{*ℤ-mono, *ℤ_comm}
use Rattle.um_model.specs.Values.{DeckValue, SetValue, PointValue}
use Rattle.um_model.specs.Feasible.{part, Between, member_parts}
use Rattle.um_model.specs.Boxes.{BoxValue, Ends, Span, InBox, IsOutside, ZeroOutside, ends_at, span_at, ends_of, is_outside, is_shut_out}
use Rattle.um_soundness.specs.Laws.{VoidBoxLaw}
use Rattle.um_model.specs.declared.deck.Member.{Member}
use Rattle.um_laws.proofs.Places.{at_map, item_at}

-- ---- an item that passes, and its place
pub record IsPassed {X : Type 0} (test : ℕ × X → Bool) (from : ℕ) (xs : List X) : Type 0 where
  pub place : ℕ
  pub inside : place < length xs
  pub passes : (default : X) → test (from + place, slice_index_or xs place default) ≡ true

pub passed : {X : Type 0} (test : ℕ × X → Bool) (from : ℕ) (xs : List X) → list_any test (enumerate_from from xs) ≡ true → IsPassed test from xs
passed test from [] e = absurd (cc)
passed {X} test from (x ∷ xs) e = go (test (from, x)) refl (λ h. passed test (from + 1) xs h) e
  where
    go : (b : Bool) → test (from, x) ≡ b → (list_any test (enumerate_from (from + 1) xs) ≡ true → IsPassed test (from + 1) xs) → (b || list_any test (enumerate_from (from + 1) xs)) ≡ true → IsPassed test from (x ∷ xs)
    go true h rest e = record { place = 0; inside = omega arith; passes = λ default. subst (λ (n : ℕ). test (n, x) ≡ true) (let z : from ≡ from + 0 = omega arith in z) h }
    go false h rest e =
        let r = rest e in
        record { place = suc r.place; inside = let i = r.inside in omega arith; passes = λ default. subst (λ (n : ℕ). test (n, slice_index_or xs r.place default) ≡ true) (let z : from + 1 + r.place ≡ from + suc r.place = omega arith in z) (r.passes default) }

-- ---- a member outside its set's interval is 0
both_true : (a b : Bool) → (a && b) ≡ true → (a ≡ true) × (b ≡ true)
both_true true b e = (refl, e)
both_true false b e = absurd (cc)

one_true : (a b : Bool) → (a || b) ≡ true → (a ≡ true) ⊎ (b ≡ true)
one_true true b e = inl refl
one_true false b e = inr e

below_is : (m n : ℕ) → nat_lt m n ≡ true → m < n
below_is m n e = grind (arith, nat_tests)

pub outside_is : (span : Span) (position : ℕ) → (nat_lt position span.first || nat_lt span.last position) ≡ true → IsOutside span position
outside_is span position e = elim (one_true (nat_lt position span.first) (nat_lt span.last position) e)
    [ inl l ↦ inl (below_is position span.first l) | inr l ↦ inr (below_is span.last position l) ]

pub zero_where_outside : (p : PointValue) (span : Span) (s : SetValue) (column : ℕ) → ZeroOutside p span s → is_outside span s column ≡ true → part p.parts column ≡ pos 0
zero_where_outside p span s column zero_outside e =
    let r = passed (λ (m : ℕ × Member). (m.1.column == column) && (nat_lt m.0 span.first || nat_lt span.last m.0)) 0 s.members e in
    let d : Member = record { column = 0; weight = pos 0 } in
    let m : Member = slice_index_or s.members r.place d in
    let t = both_true (m.column == column) (nat_lt (0 + r.place) span.first || nat_lt span.last (0 + r.place)) (r.passes d) in
    let out : IsOutside span r.place = subst (λ (n : ℕ). IsOutside span n) (let z : 0 + r.place ≡ r.place = omega arith in z) (outside_is span (0 + r.place) t.1) in
    let at : part (member_parts p s) r.place ≡ part p.parts m.column = at_map (λ (m : Member). part p.parts m.column) s.members r.place d (pos 0) r.inside in
    ap (part p.parts) (sym (eqb-true m.column column t.0)) ∙ sym at ∙ zero_outside r.place out

pub zero_where_shut_out : (d : DeckValue) (b : BoxValue) (p : PointValue) (column : ℕ) → InBox d b p → is_shut_out d b column ≡ true → part p.parts column ≡ pos 0
zero_where_shut_out d b p column inside e =
    let r = passed (λ (s : ℕ × SetValue). is_outside (span_at b s.0) s.1 column) 0 d.sets e in
    let none : SetValue = (item_at d.sets r.place r.inside).0 in
    zero_where_outside p (span_at b r.place) (slice_index_or d.sets r.place none) column (inside.spans r.place none r.inside)
    (subst (λ (n : ℕ). is_outside (span_at b n) (slice_index_or d.sets r.place none) column ≡ true) (let z : 0 + r.place ≡ r.place = omega arith in z) (r.passes none))

-- ---- the ends that a box gives
within : (e : Ends) (q x : ℤ) (out : Bool) → (out ≡ true → x ≡ pos 0) → Between e.low e.high q (pos 1000 *ℤ x)
    → Between (if out then record { low = e.low; high = Some (pos 0) } else e).low (if out then record { low = e.low; high = Some (pos 0) } else e).high q (pos 1000 *ℤ x)
within e q x true z b = record { above = b.above; below = λ h g. let k : h ≡ pos 0 = cc in rw (k, z refl) (omega (arith, ints)) }
within e q x false z b = b

pub in_ends_of : (d : DeckValue) (b : BoxValue) (p : PointValue) (column : ℕ) → InBox d b p → column < length d.columns
    → Between (ends_of d b column).low (ends_of d b column).high p.den (pos 1000 *ℤ part p.parts column)
in_ends_of d b p column inside h = within (ends_at b column) p.den (part p.parts column) (is_shut_out d b column) (zero_where_shut_out d b p column inside) (inside.ends column h)

-- ---- crossed ends
spread : (q h : ℤ) → q *ℤ (h +ℤ pos 1) ≡ h *ℤ q +ℤ q
spread q h = same (term q ⊗ (term h ⊕ number 1)) (term h ⊗ term q ⊕ term q) (omega arith)

crossed : (e : Ends) (q x : ℤ) → pos 1 ≤ℤ q → IsSomeAnd e.low (λ l. IsSomeAnd e.high (λ h. h <ℤ l)) → Between e.low e.high q x → ⊥
crossed e q x one c b = go e.low e.high refl refl c
  where
    go : (low high : Option ℤ) → e.low ≡ low → e.high ≡ high → IsSomeAnd low (λ l. IsSomeAnd high (λ h. h <ℤ l)) → ⊥
    go None high f g c = c
    go (Some l) None f g c = c
    go (Some l) (Some h) f g c =
        let m = *ℤ-mono q (h +ℤ pos 1) l (omega (arith, ints)) (omega (arith, ints)) in
        omega (arith, ints, b.above l f, b.below h g, m, *ℤ_comm q l, spread q h)

pub void-box-law : VoidBoxLaw
void-box-law d b p void f inside = crossed (ends_of d b void.0) p.den _ f.den void.2 (in_ends_of d b p void.0 inside void.1)
