-- Where a node may be begun: what reduced costs want of the root box, of boxes within it, and of the box of a run.
use Rattle.std.proofs.Common.{◌≡◌, ◌≢◌, ◌∙◌, ℕ, ◌+◌, ◌-◌, ◌<◌, ◌≤◌, inl, inr, ℤ, pos, ◌≤ℤ◌, ◌<ℤ◌, Bool, length, Option, Some, None, refl, sym, ap, subst, arith}
use Rattle.std.specs.Prelude.{IsSome, IsSomeAnd, if◌then◌else◌}
use Rattle.std.proofs.lemmas.Int.{ints}
use Rattle.um_laws.proofs.Places.{below_or, item_of}
use Rattle.um_laws.specs.Rational.{Rational, whole}
use Rattle.um_model.specs.Values.{DeckValue}
use Rattle.um_model.specs.WellFormed.{HasTwoEnds, KindFits, IsDeck, IsColumn}
use Rattle.um_model.specs.Boxes.{BoxValue, Ends, root, ends_at, ends_of}
use Rattle.um_model.specs.declared.deck.Kind.{Kind}
use Rattle.um_model.specs.declared.deck.Kind.TheVariants.{Continuous, Integer, Semi}
use Rattle.um_deck.proofs.ListParts.{all_at}
use Rattle.um_lp.specs.States.{at_of, reduced_of, state_ends_of}
use Rattle.um_lp.specs.Boards.{IsWantedEndFinite}
use Rattle.um_lp.specs.declared.board.At.{At}
use Rattle.um_lp.proofs.Orders.{whole_num}
use Rattle.um_lp.proofs.Resets.{no_costs}
use Rattle.um_duality.specs.Boxed.{ends_on}
use Rattle.um_duality.proofs.LeafBridge.{ends-column, ends-slack}
use Rattle.um_solving.specs.Laws.{DiscreteEndsLaw, WithinLaw, NoCostsBeginLaw, NextLaw}
use Rattle.um_solving.specs.RootBoxes.{AreWithin, IsWithinRoot}
use Rattle.um_soundness.proofs.HeldColumns.{none_shut_out}
use Rattle.um_solving.proofs.RootBoxes.{own_ends, given_within, some_none}
use Rattle.um_relax.proofs.Runs.{run_stands}

-- ---- the ends that are there

-- each end that is there in the one is there in the other
pub record EndsMatch (outer inner : Option ℤ × Option ℤ) : Type 0 where
  pub low : IsSome outer.0 → IsSome inner.0
  pub high : IsSome outer.1 → IsSome inner.1
  pub outer_low : IsSome inner.0 → IsSome outer.0
  pub outer_high : IsSome inner.1 → IsSome outer.1

and_some : (P : ℤ → Type 0) (o : Option ℤ) → IsSomeAnd o P → IsSome o
and_some P None h = absurd h
and_some P (Some x) h = refl

inward : (R : ℤ → ℤ → Type 0) (outer inner : Option ℤ) → ((l : ℤ) → outer ≡ Some l → IsSomeAnd inner (R l)) → IsSome outer → IsSome inner
inward R None inner within some = absurd (cc)
inward R (Some l) inner within some = and_some (R l) inner (within l refl)

outward : (outer inner : Option ℤ) → (outer ≡ None → inner ≡ None) → IsSome inner → IsSome outer
outward None inner none some = absurd (some_none inner (none refl) some)
outward (Some l) inner none some = refl

ends_within : (outer inner : Ends) → AreWithin outer inner → EndsMatch (outer.low, outer.high) (inner.low, inner.high)
ends_within outer inner w = record {
  low = inward (λ l m. l ≤ℤ m) outer.low inner.low w.low;
  high = inward (λ h m. m ≤ℤ h) outer.high inner.high w.high;
  outer_low = outward outer.low inner.low w.no_low;
  outer_high = outward outer.high inner.high w.no_high;
}

same_ends : (outer inner : Option ℤ × Option ℤ) → outer ≡ inner → EndsMatch outer inner
same_ends outer inner e = record {
  low = subst (λ (x : Option ℤ × Option ℤ). IsSome outer.0 → IsSome x.0) e (λ h. h);
  high = subst (λ (x : Option ℤ × Option ℤ). IsSome outer.1 → IsSome x.1) e (λ h. h);
  outer_low = subst (λ (x : Option ℤ × Option ℤ). IsSome x.0 → IsSome outer.0) e (λ h. h);
  outer_high = subst (λ (x : Option ℤ × Option ℤ). IsSome x.1 → IsSome outer.1) e (λ h. h);
}

-- the root box gives its own ends
root_given : (d : DeckValue) (column : ℕ) → ends_of d (root d) column ≡ ends_at (root d) column
root_given d column = ap (λ (out : Bool). if out then record { low = (ends_at (root d) column).low; high = Some (pos 0) } else ends_at (root d) column) (none_shut_out d column)

-- a box within the root box has an end just where that has one
ends_match : (d : DeckValue) (b : BoxValue) (j : ℕ) → IsDeck d → IsWithinRoot d b → EndsMatch (ends_on d (root d) j) (ends_on d b j)
ends_match d b j formed within = elim (below_or j (length d.columns)) [ inl l ↦ of_column l | inr r ↦ of_slack r ]
  where
    of_column : j < length d.columns → EndsMatch (ends_on d (root d) j) (ends_on d b j)
    of_column l =
        subst (λ (x : Option ℤ × Option ℤ). EndsMatch (ends_on d (root d) j) x) (sym (ends-column d b j l))
        (subst (λ (x : Option ℤ × Option ℤ). EndsMatch x ((ends_of d b j).low, (ends_of d b j).high)) (sym (ends-column d (root d) j l ∙ ap (λ (e : Ends). (e.low, e.high)) (root_given d j)))
        (ends_within (ends_at (root d) j) (ends_of d b j) (given_within d b j formed within l)))

    of_slack : length d.columns ≤ j → EndsMatch (ends_on d (root d) j) (ends_on d b j)
    of_slack r =
        let i : ℕ = j - length d.columns in
        let e : length d.columns + i ≡ j = omega arith in
        subst (λ (n : ℕ). EndsMatch (ends_on d (root d) n) (ends_on d b n)) e
        (same_ends (ends_on d (root d) (length d.columns + i)) (ends_on d b (length d.columns + i)) (ends-slack d (root d) i ∙ sym (ends-slack d b i)))

-- ---- boxes within the root box

wants_inward : (at : At) (reduced : Rational) (outer inner : Option ℤ × Option ℤ) → EndsMatch outer inner → IsWantedEndFinite at reduced outer → IsWantedEndFinite at reduced inner
wants_inward at reduced outer inner k h = record { low = λ ne p. k.low (h.low ne p); high = λ ne p. k.high (h.high ne p) }

pub within-law : WithinLaw
within-law d b s formed within wants column inside =
    wants_inward (at_of s column) (reduced_of s column) (ends_on d (root d) column) (ends_on d b column) (ends_match d b column formed within) (wants column inside)

pub discrete-ends-law : DiscreteEndsLaw
discrete-ends-law d b column c formed within at discrete =
    let inside = inside_of in
    let match = ends_within (ends_at (root d) column) (ends_of d b column) (given_within d b column formed within inside) in
    let own : HasTwoEnds (ends_at (root d) column).low (ends_at (root d) column).high = subst (λ (e : Ends). HasTwoEnds e.low e.high) (sym (own_ends d column c at)) (two c.kind discrete is_column.kind) in
    record { low = match.low own.low; high = match.high own.high }
  where
    inside_of : column < length d.columns
    inside_of = (item_of d.columns column c at).inside

    is_column : IsColumn (length d.rows) c
    is_column = all_at (IsColumn (length d.rows)) d.columns column c formed.columns at

    two : (k : Kind) → k ≢ Continuous → KindFits k c.low c.high → HasTwoEnds c.low c.high
    two Continuous other fits = absurd (other refl)
    two Integer other fits = fits
    two (Semi threshold) other fits = record { low = subst (λ (o : Option ℤ). IsSome o) (sym fits.0) refl; high = fits.1 }

-- ---- the next node

pub no-costs-begin-law : NoCostsBeginLaw
no-costs-begin-law d s board stands none = record {
  board = board;
  stands = stands;
  wants = λ column inside.
      let zero_cost : reduced_of s column ≡ whole (pos 0) = no_costs s board none column inside in
      record {
        low = λ other up. absurd (let e : (reduced_of s column).num ≡ (whole (pos 0)).num = ap (λ (x : Rational). x.num) zero_cost in not_above e up);
        high = λ other down. absurd (let e : (reduced_of s column).num ≡ (whole (pos 0)).num = ap (λ (x : Rational). x.num) zero_cost in not_below e down);
      };
}
  where
    not_above : {z : ℤ} → z ≡ (whole (pos 0)).num → ¬ (pos 0 <ℤ z)
    not_above {z} e h = let same : z ≡ pos 0 = e ∙ whole_num (pos 0) in omega (arith, ints, same, h)

    not_below : {z : ℤ} → z ≡ (whole (pos 0)).num → ¬ (z <ℤ pos 0)
    not_below {z} e h = let same : z ≡ pos 0 = e ∙ whole_num (pos 0) in omega (arith, ints, same, h)

pub next-law : NextLaw
next-law d b before pivots s formed within stands run = record {
  board = run.board;
  stands = run_stands d b before pivots s stands run;
  wants = λ column inside.
      let feasible = run.feasible column inside in
      let ends : state_ends_of s column ≡ ends_on d b column = run.on column inside in
      let match = ends_match d b column formed within in
      record {
        low = λ other up. match.outer_low (subst (λ (e : Option ℤ × Option ℤ). IsSome e.0) ends (feasible.lower (feasible.positive other up)));
        high = λ other down. match.outer_high (subst (λ (e : Option ℤ × Option ℤ). IsSome e.1) ends (feasible.upper (feasible.negative other down)));
      };
}
