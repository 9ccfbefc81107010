-- A point of a box within the root box is feasible where the columns and sets keep their rules.
use Rattle.std.proofs.Common.{ℤ, pos, ◌*ℤ◌, ◌≤ℤ◌, Option, Some, None, refl, subst, arith}
use Rattle.std.specs.Prelude.{IsSomeAnd}
use Rattle.std.specs.Option.{ForSome}
use Rattle.std.proofs.lemmas.Int.{ints}
use Rattle.um_laws.proofs.WholeLaws.{*ℤ-mono, *ℤ_comm}
use Rattle.um_model.specs.Feasible.{part, Between}
use Rattle.um_model.specs.Boxes.{Ends, ends_of, ends_at, root}
use Rattle.um_soundness.proofs.Loops.{root_ends}
use Rattle.um_solving.specs.Laws.{FeasibleLaw}
use Rattle.um_solving.specs.RootBoxes.{AreWithin}
use Rattle.um_solving.proofs.RootBoxes.{given_within}

-- what is not below the inner end is not below the outer one
above : (inner : Option ℤ) (outer q x : ℤ) → pos 1 ≤ℤ q → IsSomeAnd inner (λ m. outer ≤ℤ m) → ForSome inner (λ m. (m *ℤ q) ≤ℤ x) → (outer *ℤ q) ≤ℤ x
above None outer q x den a b = absurd a
above (Some m) outer q x den a b =
    let more = *ℤ-mono q outer m (omega (arith, ints)) a in
    let here = b m refl in
    omega (arith, ints, more, here, *ℤ_comm q outer, *ℤ_comm q m)

below : (inner : Option ℤ) (outer q x : ℤ) → pos 1 ≤ℤ q → IsSomeAnd inner (λ m. m ≤ℤ outer) → ForSome inner (λ m. x ≤ℤ (m *ℤ q)) → x ≤ℤ (outer *ℤ q)
below None outer q x den a b = absurd a
below (Some m) outer q x den a b =
    let more = *ℤ-mono q m outer (omega (arith, ints)) a in
    let here = b m refl in
    omega (arith, ints, more, here, *ℤ_comm q outer, *ℤ_comm q m)

-- what lies between the inner ends lies between the outer ones
pub between_outer : (outer inner : Ends) (q x : ℤ) → pos 1 ≤ℤ q → AreWithin outer inner → Between inner.low inner.high q x → Between outer.low outer.high q x
between_outer outer inner q x den within b = record {
  above = λ l is. above inner.low l q x den (within.low l is) b.above;
  below = λ h is. below inner.high h q x den (within.high h is) b.below;
}

pub feasible-law : FeasibleLaw
feasible-law d b p formed within holds integers semis sets = record {
  den = holds.den;
  parts = holds.parts;
  rows = holds.rows;
  ends = λ column default inside.
      subst (λ (e : Ends). Between e.low e.high p.den (pos 1000 *ℤ part p.parts column)) (root_ends d column default inside)
      (between_outer (ends_at (root d) column) (ends_of d b column) p.den (pos 1000 *ℤ part p.parts column) holds.den (given_within d b column formed within inside) (holds.ends column inside));
  integers = integers;
  semis = semis;
  sets = sets;
}
