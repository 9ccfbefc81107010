-- The values of basic columns, one after another.
use Rattle.std.proofs.Common.{◌≡◌, ◌≢◌, ℕ, ◌+◌, ◌<◌, List, [], ◌∷◌, length, slice_set, slice_index_or, arith, sym, ◌∙◌, ap, refl, below_more}
use Rattle.std.specs.Prelude.{pos, slice_index}
use Rattle.std.proofs.lemmas.List.{get_or_default, get_or-set_same, get_or-set_other, length-set}
use Rattle.um_laws.proofs.Ring.{var, nought, ◌⊕◌, ◌⊗◌}
use Rattle.um_laws.specs.Rational.{Rational, whole, add, mul}
use Rattle.um_num.specs.NumberLists.{number_at}
use Rattle.um_laws.proofs.RationalEquations.{by_ring}
use Rattle.um_tableau.specs.Rows.{AreBelow, AreDistinct}

-- what is 0 times a number adds nothing
pub unmoved : (value entry change : Rational) → entry ≡ whole (pos 0) → value ≡ add value (mul entry change)
unmoved value entry change e = by_ring (value ∷ change ∷ []) (var 0) (var 0 ⊕ nought ⊗ var 1) refl ∙ ap (λ (x : Rational). add value (mul x change)) (sym e)

-- and so does a number times 0
pub at_rest : (value entry change : Rational) → change ≡ whole (pos 0) → value ≡ add value (mul entry change)
at_rest value entry change e = by_ring (value ∷ entry ∷ []) (var 0) (var 0 ⊕ var 1 ⊗ nought) refl ∙ ap (λ (x : Rational). add value (mul entry x)) (sym e)

-- a number that is read
pub number_read : (xs : List Rational) (j : ℕ) (v : Rational) → j < length xs → v ≡ slice_index_or xs j v → v ≡ number_at xs j
number_read xs j v l e = e ∙ sym (get_or_default xs j (whole (pos 0)) v l)

-- one more number is written
pub number_step : (xs : List Rational) (i : ℕ) (v : Rational) (g : ℕ → Rational) → i < length xs → ((k : ℕ) → k < i → number_at xs k ≡ g k) → v ≡ g i → (k : ℕ) → k < i + 1 → number_at (slice_set xs i v) k ≡ g k
number_step xs i v g l below here = below_more _ i (λ k p. get_or-set_other xs i k v (whole (pos 0)) (let n : k ≢ i = omega arith in n) ∙ below k p) (get_or-set_same xs i v (whole (pos 0)) l ∙ here)

-- the columns that the list names below i have the values of `moved`, and all others their old ones
pub record Settled (i : ℕ) (basic : List ℕ) (moved values old : List Rational) : Type 0 where
  pub long : length values ≡ length old
  pub done : (k : ℕ) → k < i → number_at values (slice_index basic k) ≡ number_at moved k
  pub rest : (j : ℕ) → ((k : ℕ) → k < i → slice_index basic k ≢ j) → number_at values j ≡ number_at old j

pub settled_none : (basic : List ℕ) (moved old : List Rational) → Settled 0 basic moved old old
settled_none basic moved old = record { long = refl; done = λ k l. absurd (omega arith); rest = λ j h. refl }

pub settled_step : (i : ℕ) (basic : List ℕ) (moved values old : List Rational) (v : Rational) → Settled i basic moved values old → i < length basic → AreBelow (length old) basic → AreDistinct basic → v ≡ number_at moved i
    → Settled (i + 1) basic moved (slice_set values (slice_index basic i) v) old
settled_step i basic moved values old v h l below distinct e =
    let place : ℕ = slice_index basic i in
    let fits : place < length values = let b : slice_index basic i < length old = below i l in omega (arith, h.long) in
    record {
      long = length-set values place v ∙ h.long;
      done = below_more _ i
          (λ k p. get_or-set_other values place (slice_index basic k) v (whole (pos 0)) (distinct k i (omega arith) l (let n : k ≢ i = omega arith in n)) ∙ h.done k p)
          (get_or-set_same values place v (whole (pos 0)) fits ∙ e);
      rest = λ j apart. get_or-set_other values place j v (whole (pos 0)) (λ q. apart i (omega arith) (sym q)) ∙ h.rest j (λ k p. apart k (omega arith));
    }
