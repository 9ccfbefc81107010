-- Boxes whose ends lie within those of the root box, which is not void.
use Rattle.std.proofs.Common.{◌≡◌, ◌∙◌, ℕ, ◌<◌, ℤ, pos, ◌+ℤ◌, ◌*ℤ◌, ◌≤ℤ◌, ◌<ℤ◌, Bool, true, false, inl, inr, length, Option, Some, None, refl, sym, ap, subst, arith}
use Rattle.std.specs.Prelude.{if◌then◌else◌, IsSome, IsSomeAnd}
use Rattle.std.proofs.lemmas.Int.{ints}
use Rattle.um_laws.proofs.Places.{item_of, item_at, after_set}
use Rattle.um_model.specs.Values.{DeckValue, ColumnValue}
use Rattle.um_model.specs.WellFormed.{AtPlace, InOrder, IsDeck, IsColumn}
use Rattle.um_model.specs.Boxes.{BoxValue, Ends, root, free, ends_at, with_ends, ends_of, is_shut_out}
use Rattle.um_model.specs.Branches.{Fits, threshold_of, child}
use Rattle.um_model.specs.declared.branch.Branch.{Branch}
use Rattle.um_model.specs.declared.branch.Branch.TheVariants.{Int, Cut, Semi as OnSemi, One, Two}
use Rattle.um_model.specs.declared.branch.Side.{Side}
use Rattle.um_model.specs.declared.branch.Side.TheVariants.{Left, Right}
use Rattle.um_deck.proofs.ListParts.{all_at}
use Rattle.um_soundness.proofs.Loops.{root_ends}
use Rattle.um_solving.specs.Laws.{FullRootLaw, RootWithinLaw, ChildWithinLaw}
use Rattle.um_solving.specs.RootBoxes.{AreWithin, IsWithinRoot}
use Rattle.um_soundness.proofs.HeldColumns.{held, none_shut_out}
use Rattle.um_solving.proofs.HeldMembers.{member_high, member_ends}

-- the root box has the own ends of a column
pub own_ends : (d : DeckValue) (column : ℕ) (c : ColumnValue) → AtPlace d.columns column c → ends_at (root d) column ≡ record { low = c.low; high = c.high }
own_ends d column c at = let i = item_of d.columns column c at in root_ends d column c i.inside ∙ ap (λ (x : ColumnValue). record { low = x.low; high = x.high }) (i.is c)

-- ---- no column of the root box has crossed ends

abbrev AreCrossed : Ends → Type 0
AreCrossed e = IsSomeAnd e.low (λ l. IsSomeAnd e.high (λ h. h <ℤ l))

not_crossed : (low high : Option ℤ) → InOrder low high → ¬ AreCrossed (record { low = low; high = high })
not_crossed None high order h = h
not_crossed (Some l) None order h = h
not_crossed (Some l) (Some h) order crossed = let le = order l refl h refl in omega (arith, ints, le, crossed)

pub full-root-law : FullRootLaw
full-root-law d formed (column, inside, crossed) =
    let c = item_at d.columns column inside in
    let own : IsColumn (length d.rows) c.0 = all_at (IsColumn (length d.rows)) d.columns column c.0 formed.columns c.1 in
    let given : ends_of d (root d) column ≡ ends_at (root d) column = ap (λ (out : Bool). if out then record { low = (ends_at (root d) column).low; high = Some (pos 0) } else ends_at (root d) column) (none_shut_out d column) in
    not_crossed c.0.low c.0.high own.order (subst AreCrossed (given ∙ own_ends d column c.0 c.1) crossed)

-- ---- ends that lie within others

-- an end that is there is not missing
pub some_none : (o : Option ℤ) → o ≡ None → ¬ IsSome o
some_none None none some = absurd (cc)
some_none (Some x) none some = absurd (cc)

and_none : (P : ℤ → Type 0) (o : Option ℤ) → o ≡ None → ¬ IsSomeAnd o P
and_none P o none and = subst (λ (x : Option ℤ). IsSomeAnd x P) none and

-- what is above a number that is not below the outer end is not below that
above : (inner : Option ℤ) (outer x : ℤ) → IsSomeAnd inner (λ m. outer ≤ℤ m) → IsSomeAnd inner (λ m. m <ℤ x) → outer ≤ℤ x
above None outer x a b = absurd a
above (Some m) outer x a b = omega (arith, ints, a, b)

below : (inner : Option ℤ) (outer x : ℤ) → IsSomeAnd inner (λ m. m ≤ℤ outer) → IsSomeAnd inner (λ m. x <ℤ m) → x ≤ℤ outer
below None outer x a b = absurd a
below (Some m) outer x a b = omega (arith, ints, a, b)

at_most_self : (x : ℤ) → x ≤ℤ x
at_most_self x = omega (arith, ints)

pub root-within-law : RootWithinLaw
root-within-law d column inside = record {
  low = λ l is. subst (λ (o : Option ℤ). IsSomeAnd o (λ m. l ≤ℤ m)) (sym is) (at_most_self l);
  high = λ h is. subst (λ (o : Option ℤ). IsSomeAnd o (λ m. m ≤ℤ h)) (sym is) (at_most_self h);
  no_low = λ e. e;
  no_high = λ e. e;
}

-- whether a set holds the column at 0 or not
by_shut : (out : Bool) (outer e : Ends) → AreWithin outer e → (out ≡ true → IsSome outer.high) → (out ≡ true → (h : ℤ) → outer.high ≡ Some h → pos 0 ≤ℤ h)
    → AreWithin outer (if out then record { low = e.low; high = Some (pos 0) } else e)
by_shut true outer e within some from = record { low = within.low; high = from refl; no_low = within.no_low; no_high = λ none. absurd (some_none outer.high none (some refl)) }
by_shut false outer e within some from = within

-- the ends that the box gives lie within those of the root box, too
pub given_within : (d : DeckValue) (b : BoxValue) (column : ℕ) → IsDeck d → IsWithinRoot d b → column < length d.columns → AreWithin (ends_at (root d) column) (ends_of d b column)
given_within d b column formed within inside =
    let c = item_at d.columns column inside in
    let high_is = ap (λ (e : Ends). e.high) (own_ends d column c.0 c.1) in
    by_shut (is_shut_out d b column) (ends_at (root d) column) (ends_at b column) (within column inside) (λ out. subst (λ (o : Option ℤ). IsSome o) (sym high_is) (member_ends d b column c.0 formed c.1 (held d b column out))) (λ out h is. member_high d b column c.0 h formed c.1 (held d b column out) (sym high_is ∙ is))

-- ---- the children

module _ (d : DeckValue) (b : BoxValue) (formed : IsDeck d) (within : IsWithinRoot d b) where
  -- other ends for a column
  put_within : (column : ℕ) (e : Ends) → (column < length d.columns → AreWithin (ends_at (root d) column) e) → IsWithinRoot d (with_ends b column e)
  put_within column e here j inside = elim (after_set b.ends column j e free) [
    | inl r ↦ subst (AreWithin (ends_at (root d) j)) (sym r.0) (subst (λ (i : ℕ). AreWithin (ends_at (root d) i) e) (sym r.1) (here (omega (arith, r.1, inside))))
    | inr r ↦ subst (AreWithin (ends_at (root d) j)) (sym r) (within j inside)
  ]

  -- a high end below that which the box gives
  low_part : (column : ℕ) (at : ℤ) → IsSomeAnd (ends_of d b column).high (λ h. at <ℤ h) → IsWithinRoot d (with_ends b column (record { low = (ends_at b column).low; high = Some at }))
  low_part column at less = put_within column (record { low = (ends_at b column).low; high = Some at })
      (λ inside. record {
        low = (within column inside).low;
        high = λ h is. below (ends_of d b column).high h at ((given_within d b column formed within inside).high h is) less;
        no_low = (within column inside).no_low;
        no_high = λ e. absurd (and_none (λ h. at <ℤ h) (ends_of d b column).high ((given_within d b column formed within inside).no_high e) less);
      })

  -- a low end above that which the box gives
  high_part : (column : ℕ) (at : ℤ) → IsSomeAnd (ends_of d b column).low (λ l. l <ℤ at) → IsWithinRoot d (with_ends b column (record { low = Some at; high = (ends_at b column).high }))
  high_part column at more = put_within column (record { low = Some at; high = (ends_at b column).high })
      (λ inside. record {
        low = λ l is. above (ends_of d b column).low l at ((given_within d b column formed within inside).low l is) more;
        high = (within column inside).high;
        no_low = λ e. absurd (and_none (λ l. l <ℤ at) (ends_of d b column).low ((given_within d b column formed within inside).no_low e) more);
        no_high = (within column inside).no_high;
      })

  -- 0 alone, where that is the low end that the box gives
  nought : (column : ℕ) → (ends_of d b column).low ≡ Some (pos 0) → IsSomeAnd (ends_of d b column).high (λ h. pos 0 <ℤ h) → IsWithinRoot d (with_ends b column (record { low = Some (pos 0); high = Some (pos 0) }))
  nought column low_is less = put_within column (record { low = Some (pos 0); high = Some (pos 0) })
      (λ inside. record {
        low = λ l is. subst (λ (o : Option ℤ). IsSomeAnd o (λ m. l ≤ℤ m)) low_is ((given_within d b column formed within inside).low l is);
        high = λ h is. below (ends_of d b column).high h (pos 0) ((given_within d b column formed within inside).high h is) less;
        no_low = λ e. (let none = (given_within d b column formed within inside).no_low e in absurd (cc));
        no_high = λ e. absurd (and_none (λ h. pos 0 <ℤ h) (ends_of d b column).high ((given_within d b column formed within inside).no_high e) less);
      })

  child_within : (branch : Branch) (side : Side) → Fits d b branch → IsWithinRoot d (child d b branch side)
  child_within (Int column below) Left fits = low_part column (pos 1000 *ℤ below) fits.high
  child_within (Int column below) Right fits = high_part column (pos 1000 *ℤ (below +ℤ pos 1)) fits.low
  child_within (Cut column at) Left fits = low_part column at fits.high
  child_within (Cut column at) Right fits = high_part column at fits.low
  child_within (OnSemi column) Left fits = nought column fits.low fits.high
  child_within (OnSemi column) Right fits = high_part column (threshold_of d column) (subst (λ (o : Option ℤ). IsSomeAnd o (λ l. l <ℤ threshold_of d column)) (sym fits.low) fits.threshold)
  child_within (One set at) Left fits = within
  child_within (One set at) Right fits = within
  child_within (Two set at) Left fits = within
  child_within (Two set at) Right fits = within

pub child-within-law : ChildWithinLaw
child-within-law d b branch side formed fits within = child_within d b formed within branch side fits
