-- Columns that have got the ends of a box, by rising index: what that leaves, and that it is dual feasible.
use Rattle.std.proofs.Common.{◌≡◌, ◌≢◌, ℕ, zero, suc, ◌+◌, ◌<◌, ◌≤◌, List, length, get_or, arith, sym, ap, ◌∙◌, subst, refl, inl, inr, ◌⊎◌, Option, None, Some, IsSome, length-set, add-one}
use Rattle.std.specs.Prelude.{ℤ, pos, negsuc, ◌<ℤ◌}
use Rattle.std.proofs.lemmas.Int.{ints}
use Rattle.std.proofs.lemmas.List.{get_or-set_same, get_or-set_other}
use Rattle.um_laws.specs.Rational.{Rational}
use Rattle.um_model.specs.Values.{DeckValue}
use Rattle.um_model.specs.Boxes.{BoxValue}
use Rattle.um_num.specs.NumberLists.{number_at}
use Rattle.um_lp.specs.States.{State, width, at_of, state_ends_of, reduced_of}
use Rattle.um_lp.specs.Boards.{IsShaped, IsRebox, StandsAt, AreOrdered, IsWantedEndFinite, resting}
use Rattle.um_lp.specs.DualSteps.{IsDualFeasibleAt}
use Rattle.um_lp.specs.declared.board.At.{At}
use Rattle.um_lp.specs.declared.board.At.TheVariants.{Lower, Upper, Zero, Basic}
use Rattle.um_relax.specs.Reboxings.{AreReboxed, BoxedWhole, WantsFiniteEnds}
use Rattle.um_duality.specs.Boxed.{ends_on}

-- ---- what the columns below n have got, and what has stayed
pub record HasGot (d : DeckValue) (b : BoxValue) (s t : State) (j : ℕ) : Type 0 where
  pub ends : state_ends_of t j ≡ ends_on d b j
  pub stands : StandsAt (at_of s j) (at_of t j) (reduced_of s j) (ends_on d b j)

pub record IsPartly (d : DeckValue) (b : BoxValue) (n : ℕ) (s t : State) : Type 0 where
  pub frame : t.frame ≡ s.frame
  pub reduced : t.reduced ≡ s.reduced
  pub at : length t.at ≡ length s.at
  pub ends : length t.ends ≡ length s.ends
  pub rest : (j : ℕ) → n ≤ j → at_of t j ≡ at_of s j
  pub got : (j : ℕ) → j < n → HasGot d b s t j

-- a column up to this one is this one or comes before
same_or_less : (j n : ℕ) → j < suc n → (j ≡ n) ⊎ (j < n)
same_or_less j n l = grind arith

-- before the first column nothing has changed
nothing_yet : (d : DeckValue) (b : BoxValue) (s : State) → IsPartly d b 0 s s
nothing_yet d b s = record { frame = refl; reduced = refl; at = refl; ends = refl; rest = λ j l. refl; got = λ j l. absurd (omega arith) }

-- a column other than the one that gets ends
other_at : (n : ℕ) (given : Option ℤ × Option ℤ) (u t : State) (j : ℕ) → IsRebox n given u t → j ≢ n → at_of t j ≡ at_of u j
other_at n given u t j h ne = ap (λ (l : List At). get_or l j Zero) h.at ∙ get_or-set_other u.at n j (at_of t n) Zero ne

-- nor do its ends change
other_ends : (n : ℕ) (given : Option ℤ × Option ℤ) (u t : State) (j : ℕ) → IsRebox n given u t → j ≢ n → state_ends_of t j ≡ state_ends_of u j
other_ends n given u t j h ne = ap (λ (l : List (Option ℤ × Option ℤ)). get_or l j (None, None)) h.ends ∙ get_or-set_other u.ends n j given (None, None) ne

-- the column has its new ends
own_ends : (n : ℕ) (given : Option ℤ × Option ℤ) (u t : State) → IsRebox n given u t → n < length u.ends → state_ends_of t n ≡ given
own_ends n given u t h l = ap (λ (l : List (Option ℤ × Option ℤ)). get_or l n (None, None)) h.ends ∙ get_or-set_same u.ends n given (None, None) l

-- one column more
partly_next : (d : DeckValue) (b : BoxValue) (n : ℕ) (s u t : State) → n < length s.ends → IsPartly d b n s u → IsRebox n (ends_on d b n) u t → IsPartly d b (suc n) s t
partly_next d b n s u t l k h = record {
  frame = h.same.frame ∙ k.frame;
  reduced = h.reduced ∙ k.reduced;
  at = ap length h.at ∙ length-set u.at n (at_of t n) ∙ k.at;
  ends = ap length h.ends ∙ length-set u.ends n (ends_on d b n) ∙ k.ends;
  rest = λ j l. other_at n (ends_on d b n) u t j h (λ e. absurd (omega arith)) ∙ k.rest j (omega arith);
  got = λ j lj.
      elim (same_or_less j n lj) [
        | inl e ↦ subst (λ (i : ℕ). HasGot d b s t i) (sym e) own
        | inr e ↦ let ne : j ≢ n = omega arith in record {
          ends = other_ends n (ends_on d b n) u t j h ne ∙ (k.got j e).ends;
          stands = subst (λ (a : At). StandsAt (at_of s j) a (reduced_of s j) (ends_on d b j)) (sym (other_at n (ends_on d b n) u t j h ne)) (k.got j e).stands;
        }
      ];
}
  where
    own : HasGot d b s t n
    own = record {
      ends = own_ends n (ends_on d b n) u t h (let e = k.ends in omega arith);
      stands =
          subst (λ (a : At). StandsAt a (at_of t n) (reduced_of s n) (ends_on d b n)) (k.rest n (omega arith))
          (subst (λ (r : Rational). StandsAt (at_of u n) (at_of t n) r (ends_on d b n)) (ap (λ (l : List Rational). number_at l n) k.reduced) h.stands);
    }

-- this holds after any number of columns
pub partly : (d : DeckValue) (b : BoxValue) (n : ℕ) (s t : State) → IsShaped s → n ≤ width s.frame → AreReboxed d b n s t → IsPartly d b n s t
partly d b zero s t shape l h = subst (λ (u : State). IsPartly d b 0 s u) (sym h) (nothing_yet d b s)
partly d b (suc n) s t shape l h = partly_next d b n s h.0 t (let e = shape.ends in omega arith) (partly d b n s h.0 shape (omega arith) h.1) h.2

-- ---- the next column
pub next_within : (d : DeckValue) (b : BoxValue) (n : ℕ) (s t : State) → IsShaped s → n < width s.frame → AreReboxed d b n s t → n < width t.frame
next_within d b n s t shape l h = rw (partly d b n s t shape (omega arith) h).frame l

-- the end that its reduced cost wants is finite, as neither place nor reduced cost has changed
pub next_wanted : (d : DeckValue) (b : BoxValue) (n : ℕ) (s t : State) (ends : Option ℤ × Option ℤ) → IsShaped s → WantsFiniteEnds d b s → n < width s.frame → AreReboxed d b n s t → ends ≡ ends_on d b n
    → IsWantedEndFinite (at_of t n) (reduced_of t n) ends
next_wanted d b n s t ends shape wants l h e =
    let k = partly d b n s t shape (omega arith) h in
    subst (λ (x : Option ℤ × Option ℤ). IsWantedEndFinite (at_of t n) (reduced_of t n) x) (sym e)
    (subst (λ (a : At). IsWantedEndFinite a (reduced_of t n) (ends_on d b n)) (sym (k.rest n (omega arith)))
    (subst (λ (r : Rational). IsWantedEndFinite (at_of s n) r (ends_on d b n)) (sym (ap (λ (l : List Rational). number_at l n) k.reduced)) (wants n l)))

-- one column more is reboxed
pub one_more : (d : DeckValue) (b : BoxValue) (n : ℕ) (s u t : State) (ends : Option ℤ × Option ℤ) → ends ≡ ends_on d b n → AreReboxed d b n s u → IsRebox n ends u t → AreReboxed d b (n + 1) s t
one_more d b n s u t ends e h r = subst (λ (k : ℕ). AreReboxed d b k s t) (sym (add-one n)) (u, h, subst (λ (x : Option ℤ × Option ℤ). IsRebox n x u t) e r)

-- ---- dual feasible
record IsRight (at : At) (reduced : Rational) (ends : Option ℤ × Option ℤ) : Type 0 where
  ordered : AreOrdered ends
  positive : at ≢ Basic → pos 0 <ℤ reduced.num → at ≡ Lower
  negative : at ≢ Basic → reduced.num <ℤ pos 0 → at ≡ Upper
  lower : at ≡ Lower → IsSome ends.0
  upper : at ≡ Upper → IsSome ends.1
  free : at ≡ Zero → ends ≡ (None, None)

-- where a column rests with a reduced cost of 0
rest_low : (at : At) (low high : Option ℤ) → resting at (low, high) ≡ Lower → IsSome low
rest_low Lower (Some l) high e = refl
rest_low Lower None (Some h) e = cc
rest_low Lower None None e = cc
rest_low Upper low (Some h) e = cc
rest_low Upper (Some l) None e = refl
rest_low Upper None None e = cc
rest_low Zero (Some l) high e = refl
rest_low Zero None (Some h) e = cc
rest_low Zero None None e = cc
rest_low Basic (Some l) high e = refl
rest_low Basic None (Some h) e = cc
rest_low Basic None None e = cc

-- the same of the high end
rest_high : (at : At) (low high : Option ℤ) → resting at (low, high) ≡ Upper → IsSome high
rest_high Lower (Some l) high e = cc
rest_high Lower None (Some h) e = refl
rest_high Lower None None e = cc
rest_high Upper low (Some h) e = refl
rest_high Upper (Some l) None e = cc
rest_high Upper None None e = cc
rest_high Zero (Some l) high e = cc
rest_high Zero None (Some h) e = refl
rest_high Zero None None e = cc
rest_high Basic (Some l) high e = cc
rest_high Basic None (Some h) e = refl
rest_high Basic None None e = cc

-- and at 0 there is none
rest_free : (at : At) (low high : Option ℤ) → resting at (low, high) ≡ Zero → ◌≡◌ {A = Option ℤ × Option ℤ} (low, high) (None, None)
rest_free Lower (Some l) high e = cc
rest_free Lower None (Some h) e = cc
rest_free Lower None None e = refl
rest_free Upper low (Some h) e = cc
rest_free Upper (Some l) None e = cc
rest_free Upper None None e = refl
rest_free Zero (Some l) high e = cc
rest_free Zero None (Some h) e = cc
rest_free Zero None None e = refl
rest_free Basic (Some l) high e = cc
rest_free Basic None (Some h) e = cc
rest_free Basic None None e = refl

-- a column that got its ends stands right
is_right : (before after : At) (reduced : Rational) (ends : Option ℤ × Option ℤ) → StandsAt before after reduced ends → IsWantedEndFinite before reduced ends → AreOrdered ends → IsRight after reduced ends
is_right before after reduced ends stands wanted ordered = by before refl
  where
    at_zero : before ≢ Basic → reduced.num ≡ pos 0 → IsRight after reduced ends
    at_zero ne z =
        let e = stands.none ne z in
        record {
          ordered = ordered;
          positive = λ f p. absurd (omega (arith, ints));
          negative = λ f p. absurd (omega (arith, ints));
          lower = λ f. rest_low before ends.0 ends.1 (sym e ∙ f);
          upper = λ f. rest_high before ends.0 ends.1 (sym e ∙ f);
          free = λ f. rest_free before ends.0 ends.1 (sym e ∙ f);
        }

    at_positive : before ≢ Basic → pos 0 <ℤ reduced.num → IsRight after reduced ends
    at_positive ne p = let e = stands.positive ne p in record { ordered = ordered; positive = λ f q. e; negative = λ f q. absurd (omega (arith, ints)); lower = λ f. wanted.low ne p; upper = λ f. cc; free = λ f. cc }

    at_negative : before ≢ Basic → reduced.num <ℤ pos 0 → IsRight after reduced ends
    at_negative ne p = let e = stands.negative ne p in record { ordered = ordered; positive = λ f q. absurd (omega (arith, ints)); negative = λ f q. e; lower = λ f. cc; upper = λ f. wanted.high ne p; free = λ f. cc }

    by_sign : (n : ℤ) → reduced.num ≡ n → before ≢ Basic → IsRight after reduced ends
    by_sign (pos zero) e ne = at_zero ne e
    by_sign (pos (suc n)) e ne = at_positive ne (omega (arith, ints))
    by_sign (negsuc n) e ne = at_negative ne (omega (arith, ints))

    by : (a : At) → before ≡ a → IsRight after reduced ends
    by Lower e = by_sign reduced.num refl (λ f. cc)
    by Upper e = by_sign reduced.num refl (λ f. cc)
    by Zero e = by_sign reduced.num refl (λ f. cc)
    by Basic e =
        let f = stands.basic e in
        record { ordered = ordered; positive = λ ne p. absurd (ne f); negative = λ ne p. absurd (ne f); lower = λ h. cc; upper = λ h. cc; free = λ h. cc }

-- what stands right is dual feasible
right_feasible : (t : State) (j : ℕ) → IsRight (at_of t j) (reduced_of t j) (state_ends_of t j) → IsDualFeasibleAt t j
right_feasible t j h = record { ordered = h.ordered; positive = h.positive; negative = h.negative; lower = h.lower; upper = h.upper; free = h.free }

-- each column that has got its ends is dual feasible
feasible_at : (d : DeckValue) (b : BoxValue) (n : ℕ) (s t : State) (j : ℕ) → IsPartly d b n s t → WantsFiniteEnds d b s → AreOrdered (ends_on d b j) → j < n → j < width s.frame → IsDualFeasibleAt t j
feasible_at d b n s t j k wants ordered l lw =
    right_feasible t j
    (subst (λ (x : Option ℤ × Option ℤ). IsRight (at_of t j) (reduced_of t j) x) (sym (k.got j l).ends)
    (subst (λ (r : Rational). IsRight (at_of t j) r (ends_on d b j)) (sym (ap (λ (l : List Rational). number_at l j) k.reduced))
    (is_right (at_of s j) (at_of t j) (reduced_of s j) (ends_on d b j) (k.got j l).stands (wants j lw) ordered)))

-- ---- the end
pub boxed_whole : (d : DeckValue) (b : BoxValue) (n : ℕ) (s t : State) → IsShaped s → WantsFiniteEnds d b s → n ≡ width s.frame → AreReboxed d b n s t → ((j : ℕ) → j < n → AreOrdered (ends_on d b j)) → BoxedWhole d b s t
boxed_whole d b n s t shape wants e h ordered =
    let k = partly d b n s t shape (omega arith) h in
    let same : width t.frame ≡ n = ap width k.frame ∙ sym e in
    record {
      done = subst (λ (m : ℕ). AreReboxed d b m s t) e h;
      boxed = λ j l. (k.got j (omega arith)).ends;
      feasible = λ j l. feasible_at d b n s t j k wants (ordered j (omega arith)) (omega arith) (omega arith);
    }

-- the ends of one column more are in order
pub ordered_more : (d : DeckValue) (b : BoxValue) (n : ℕ) (ends : Option ℤ × Option ℤ) → ends ≡ ends_on d b n → ((j : ℕ) → j < n → AreOrdered (ends_on d b j)) → AreOrdered ends → (j : ℕ) → j < n + 1 → AreOrdered (ends_on d b j)
ordered_more d b n ends e before own j l =
    elim (same_or_less j n (omega arith)) [
      | inl f ↦ subst (λ (i : ℕ). AreOrdered (ends_on d b i)) (sym f) (subst AreOrdered e own)
      | inr f ↦ before j f
    ]
