-- The two children of a box hold each feasible point of the box, and the root box holds each feasible point.
use Rattle.std.proofs.Common.{◌≡◌, ℕ, ◌+◌, ◌-◌, ◌<◌, ℤ, pos, ◌+ℤ◌, ◌*ℤ◌, ◌≤ℤ◌, ◌<ℤ◌, ◌⊎◌, inl, inr, length, slice_get, slice_index_or, Option, Some, None, refl, sym, ◌∙◌, subst, ap, arith}
use Rattle.std.specs.Option.{option_map}
use Rattle.std.proofs.lemmas.Int.{ints, by_lt_z}
use Rattle.um_laws.proofs.WholeLaws.{*ℤ-mono}
use Rattle.um_laws.proofs.Polynomials.{term, number, ◌⊕◌, ◌⊗◌, at_most, at_most_of}
use Rattle.um_model.specs.Values.{DeckValue, ColumnValue, SetValue, PointValue}
use Rattle.um_model.specs.Feasible.{part, Between, Feasible, member_parts, SetRule, IsMultipleOf}
use Rattle.um_model.specs.Boxes.{BoxValue, Ends, Span, InBox, ZeroOutside, root, ends_at, with_ends, span_at, with_span, free}
use Rattle.um_model.specs.Branches.{threshold_of, FitsInt, FitsCut, FitsSemi, FitsOne, FitsTwo, left, right}
use Rattle.um_soundness.specs.Laws.{CoverLaw, RootLaw}
use Rattle.um_model.specs.declared.deck.Member.{Member}
use Rattle.um_model.specs.declared.deck.Kind.TheVariants.{Integer, Semi}
use Rattle.um_model.specs.declared.deck.SetKind.{SetKind}
use Rattle.um_model.specs.declared.deck.SetKind.TheVariants.{S1, S2}
use Rattle.um_model.specs.declared.branch.Branch.TheVariants.{Int, Cut, Semi as OnSemi, One, Two}
use Rattle.um_laws.proofs.Places.{item_of, item_at, get_of, after_set, past_end, at_map, length-map, zero_if}
use Rattle.um_soundness.proofs.Nonzero.{behind}

-- ---- what stands under an option
pub found : {X Y : Type 0} (f : X → Y) (o : Option X) (y : Y) → option_map f o ≡ Some y → (x : X) × (o ≡ Some x) × (f x ≡ y)
found f None y e = absurd (cc)
found f (Some x) y e = (x, refl, cc)

-- ---- boxes with one thing changed
abbrev WithinAt : PointValue → ℕ → Ends → Type 0
WithinAt p j e = Between e.low e.high p.den (pos 1000 *ℤ part p.parts j)

pub in_with_ends : (d : DeckValue) (b : BoxValue) (p : PointValue) (column : ℕ) (e : Ends) → InBox d b p → Between e.low e.high p.den (pos 1000 *ℤ part p.parts column) → InBox d (with_ends b column e) p
in_with_ends d b p column e inside here = record { ends = each; spans = inside.spans }
  where
    each : (j : ℕ) → j < length d.columns → Between (ends_at (with_ends b column e) j).low (ends_at (with_ends b column e) j).high p.den (pos 1000 *ℤ part p.parts j)
    each j h = elim (after_set b.ends column j e free) [
      | inl r ↦ subst (WithinAt p j) (sym r.0) (subst (λ (i : ℕ). WithinAt p i e) (sym r.1) here)
      | inr r ↦ subst (WithinAt p j) (sym r) (inside.ends j h)
    ]

pub in_with_span : (d : DeckValue) (b : BoxValue) (p : PointValue) (set : ℕ) (span : Span) → InBox d b p → ((s : SetValue) → slice_get d.sets set ≡ Some s → ZeroOutside p span s) → InBox d (with_span b set span) p
in_with_span d b p set span inside here = record { ends = inside.ends; spans = each }
  where
    each : (i : ℕ) (default : SetValue) → i < length d.sets → ZeroOutside p (span_at (with_span b set span) i) (slice_index_or d.sets i default)
    each i default h = elim (after_set b.spans set i span (record { first = 0; last = 0 })) [
      | inl r ↦ subst (λ (s : Span). ZeroOutside p s (slice_index_or d.sets i default)) (sym r.0) (here (slice_index_or d.sets i default) (subst (λ (j : ℕ). slice_get d.sets j ≡ Some (slice_index_or d.sets i default)) r.1 (get_of d.sets i default h)))
      | inr r ↦ subst (λ (s : Span). ZeroOutside p s (slice_index_or d.sets i default)) (sym r) (inside.spans i default h)
    ]

-- ---- one column
cover_int : (d : DeckValue) (b : BoxValue) (p : PointValue) (column : ℕ) (below : ℤ) → FitsInt d b column below → Feasible d p → InBox d b p
    → InBox d (left d b (Int column below)) p ⊎ InBox d (right d b (Int column below)) p
cover_int d b p column below fits f inside =
    let c = found (λ (c : ColumnValue). c.kind) (slice_get d.columns column) Integer fits.kind in
    let i = item_of d.columns column c.0 c.1 in
    let old = inside.ends column i.inside in
    let m : IsMultipleOf p.den (part p.parts column) = f.integers column c.0 i.inside (ap (λ (x : ColumnValue). x.kind) (i.is c.0) ∙ c.2) in
    by_lt_z below m.0
    (λ (l : below <ℤ m.0). inr (in_with_ends d b p column (record { low = Some (pos 1000 *ℤ (below +ℤ pos 1)); high = (ends_at b column).high }) inside (record {
      above = λ x e. let g : x ≡ pos 1000 *ℤ (below +ℤ pos 1) = cc in rw (g, m.1) (at_least p.den below m.0 f.den l);
      below = old.below;
    })))
    (λ (l : m.0 ≤ℤ below). inl (in_with_ends d b p column (record { low = (ends_at b column).low; high = Some (pos 1000 *ℤ below) }) inside (record {
      above = old.above;
      below = λ x e. let g : x ≡ pos 1000 *ℤ below = cc in rw (g, m.1) (at_most_below p.den below m.0 f.den l);
    })))
  where
    at_least : (q k n : ℤ) → pos 1 ≤ℤ q → k <ℤ n → (pos 1000 *ℤ (k +ℤ pos 1) *ℤ q) ≤ℤ (pos 1000 *ℤ (q *ℤ n))
    at_least q k n h l = let m = *ℤ-mono q (k +ℤ pos 1) n (omega (arith, ints)) (omega (arith, ints)) in
        at_most (number 1000 ⊗ (term k ⊕ number 1) ⊗ term q) (number 1000 ⊗ (term q ⊗ term n)) (omega (arith, at_most_of (term q ⊗ (term k ⊕ number 1)) (term q ⊗ term n) m))

    at_most_below : (q k n : ℤ) → pos 1 ≤ℤ q → n ≤ℤ k → (pos 1000 *ℤ (q *ℤ n)) ≤ℤ (pos 1000 *ℤ k *ℤ q)
    at_most_below q k n h l = let m = *ℤ-mono q n k (omega (arith, ints)) l in
        at_most (number 1000 ⊗ (term q ⊗ term n)) (number 1000 ⊗ term k ⊗ term q) (omega (arith, at_most_of (term q ⊗ term n) (term q ⊗ term k) m))

cover_cut : (d : DeckValue) (b : BoxValue) (p : PointValue) (column : ℕ) (at : ℤ) → FitsCut d b column at → InBox d b p
    → InBox d (left d b (Cut column at)) p ⊎ InBox d (right d b (Cut column at)) p
cover_cut d b p column at fits inside =
    let old = inside.ends column fits.inside in
    by_lt_z (at *ℤ p.den) (pos 1000 *ℤ part p.parts column)
    (λ (l : (at *ℤ p.den) <ℤ (pos 1000 *ℤ part p.parts column)). inr (in_with_ends d b p column (record { low = Some at; high = (ends_at b column).high }) inside (record {
      above = λ x e. let g : x ≡ at = cc in rw g (omega (arith, ints));
      below = old.below;
    })))
    (λ (l : (pos 1000 *ℤ part p.parts column) ≤ℤ (at *ℤ p.den)). inl (in_with_ends d b p column (record { low = (ends_at b column).low; high = Some at }) inside (record {
      above = old.above;
      below = λ x e. let g : x ≡ at = cc in rw g l;
    })))

cover_semi : (d : DeckValue) (b : BoxValue) (p : PointValue) (column : ℕ) → FitsSemi d b column → Feasible d p → InBox d b p
    → InBox d (left d b (OnSemi column)) p ⊎ InBox d (right d b (OnSemi column)) p
cover_semi d b p column fits f inside =
    let t : ℤ = threshold_of d column in
    let c = found (λ (c : ColumnValue). c.kind) (slice_get d.columns column) (Semi t) fits.kind in
    let i = item_of d.columns column c.0 c.1 in
    let old = inside.ends column i.inside in
    elim (f.semis column c.0 i.inside t (ap (λ (x : ColumnValue). x.kind) (i.is c.0) ∙ c.2)) [
      | inl z ↦ inl (in_with_ends d b p column (record { low = Some (pos 0); high = Some (pos 0) }) inside (record {
        above = λ x e. let g : x ≡ pos 0 = cc in rw (g, z) (omega (arith, ints));
        below = λ x e. let g : x ≡ pos 0 = cc in rw (g, z) (omega (arith, ints));
      }))
      | inr l ↦ inr (in_with_ends d b p column (record { low = Some t; high = (ends_at b column).high }) inside (record {
        above = λ x e. let g : x ≡ t = cc in rw g l;
        below = old.below;
      }))
    ]

-- ---- one set
-- the rule of a set of this kind, and what the box says of it
at_set_of : (d : DeckValue) (b : BoxValue) (p : PointValue) (set : ℕ) (kind : SetKind) (s : SetValue) → slice_get d.sets set ≡ Some s → s.kind ≡ kind → Feasible d p → InBox d b p
    → SetRule kind (member_parts p s) × ZeroOutside p (span_at b set) s
at_set_of d b p set kind s g e f inside =
    let i = item_of d.sets set s g in
    (subst (λ (k : SetKind). SetRule k (member_parts p s)) e (subst (λ (x : SetValue). SetRule x.kind (member_parts p x)) (i.is s) (f.sets set s i.inside)), subst (λ (x : SetValue). ZeroOutside p (span_at b set) x) (i.is s) (inside.spans set s i.inside))

same_set : {X : Type 0} (o : Option X) (x y : X) → o ≡ Some x → o ≡ Some y → x ≡ y
same_set o x y e g = cc

cover_one : (d : DeckValue) (b : BoxValue) (p : PointValue) (set at : ℕ) → FitsOne d b set at → Feasible d p → InBox d b p
    → InBox d (left d b (One set at)) p ⊎ InBox d (right d b (One set at)) p
cover_one d b p set at fits f inside =
    let s = found (λ (s : SetValue). s.kind) (slice_get d.sets set) S1 fits.kind in
    let h = at_set_of d b p set S1 s.0 s.1 s.2 f inside in
    elim (behind (member_parts p s.0) at) [
      | inl zero_behind ↦ inl (in_with_span d b p set (record { first = (span_at b set).first; last = at }) inside (λ x e. subst (λ (y : SetValue). ZeroOutside p (record { first = (span_at b set).first; last = at }) y) (same_set _ s.0 x s.1 e) (λ k out. elim out [ inl l ↦ h.1 k (inl l) | inr l ↦ zero_behind k l ])))
      | inr k ↦ inr (in_with_span d b p set (record { first = at + 1; last = (span_at b set).last }) inside (λ x e. subst (λ (y : SetValue). ZeroOutside p (record { first = at + 1; last = (span_at b set).last }) y) (same_set _ s.0 x s.1 e) (λ j out. elim out [ inl l ↦ zero_if _ (λ n. h.0 j k.0 (let l' = k.1 in omega arith) n k.2) | inr l ↦ h.1 j (inr l) ])))
    ]

cover_two : (d : DeckValue) (b : BoxValue) (p : PointValue) (set at : ℕ) → FitsTwo d b set at → Feasible d p → InBox d b p
    → InBox d (left d b (Two set at)) p ⊎ InBox d (right d b (Two set at)) p
cover_two d b p set at fits f inside =
    let s = found (λ (s : SetValue). s.kind) (slice_get d.sets set) S2 fits.kind in
    let h = at_set_of d b p set S2 s.0 s.1 s.2 f inside in
    elim (behind (member_parts p s.0) at) [
      | inl zero_behind ↦ inl (in_with_span d b p set (record { first = (span_at b set).first; last = at }) inside (λ x e. subst (λ (y : SetValue). ZeroOutside p (record { first = (span_at b set).first; last = at }) y) (same_set _ s.0 x s.1 e) (λ k out. elim out [ inl l ↦ h.1 k (inl l) | inr l ↦ zero_behind k l ])))
      | inr k ↦ inr (in_with_span d b p set (record { first = at; last = (span_at b set).last }) inside (λ x e. subst (λ (y : SetValue). ZeroOutside p (record { first = at; last = (span_at b set).last }) y) (same_set _ s.0 x s.1 e) (λ j out. elim out [ inl l ↦ zero_if _ (λ n. let l' = k.1 in absurd (omega (arith, h.0 j k.0 (omega arith) n k.2))) | inr l ↦ h.1 j (inr l) ])))
    ]

pub cover-law : CoverLaw
cover-law d b (Int column below) p fits f inside = cover_int d b p column below fits f inside
cover-law d b (Cut column at) p fits f inside = cover_cut d b p column at fits inside
cover-law d b (OnSemi column) p fits f inside = cover_semi d b p column fits f inside
cover-law d b (One set at) p fits f inside = cover_one d b p set at fits f inside
cover-law d b (Two set at) p fits f inside = cover_two d b p set at fits f inside

pub root-law : RootLaw
root-law d p f = record { ends = ends; spans = spans }
  where
    ends : (column : ℕ) → column < length d.columns → Between (ends_at (root d) column).low (ends_at (root d) column).high p.den (pos 1000 *ℤ part p.parts column)
    ends column h = let c = (item_at d.columns column h).0 in subst (WithinAt p column) (sym (at_map (λ (x : ColumnValue). record { low = x.low; high = x.high }) d.columns column c free h)) (f.ends column c h)

    spans : (i : ℕ) (default : SetValue) → i < length d.sets → ZeroOutside p (span_at (root d) i) (slice_index_or d.sets i default)
    spans i default h =
        let s : SetValue = slice_index_or d.sets i default in
        subst (λ (span : Span). ZeroOutside p span s) (sym (at_map (λ (x : SetValue). record { first = 0; last = length x.members - 1 }) d.sets i default _ h))
        (λ k out. elim out [ inl l ↦ absurd (omega arith) | inr l ↦ past_end (member_parts p s) k (pos 0) (omega (arith, length-map (λ (m : Member). part p.parts m.column) s.members)) ])
