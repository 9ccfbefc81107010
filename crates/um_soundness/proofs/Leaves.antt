-- What a closed leaf and an empty leaf say of the feasible points of their boxes.
use Rattle.std.proofs.Common.{◌^◌, ℤ, pos, ◌+ℤ◌, ◌-ℤ◌, ◌*ℤ◌, ◌≤ℤ◌, ◌<ℤ◌, subst, arith}
use Rattle.std.proofs.lemmas.Int.{ints}
use Rattle.um_laws.proofs.WholeLaws.{*ℤ-mono}
use Rattle.um_laws.proofs.Polynomials.{Polynomial, term, number, ◌⊕◌, ◌⊗◌, at_most_of, below_of}
use Rattle.um_model.specs.Objective.{objective_times}
use Rattle.um_soundness.specs.Laws.{ClosedLeafLaw, EmptyLeafLaw}
use Rattle.um_soundness.proofs.Curves.{square_up}
use Rattle.um_soundness.proofs.Duality.{bound-law}

-- w: the value; o: the objective times qq; s: 10 ^ scale; g: 1000 * v less t; qq: den * den; e: the denominator of v
apart : (y w o s g qq e : ℤ) → pos 0 <ℤ y → pos 0 <ℤ e → pos 0 ≤ℤ qq → (w *ℤ qq) ≤ℤ (pos 1000 *ℤ y *ℤ o) → (y *ℤ s *ℤ g) ≤ℤ (w *ℤ e)
    → (pos 1000 *ℤ o *ℤ e) <ℤ (g *ℤ (qq *ℤ s)) → ⊥
apart y w o s g qq e hy he hq law reach beats =
    let a = *ℤ-mono e (w *ℤ qq) (pos 1000 *ℤ y *ℤ o) (omega (arith, ints)) law in
    let b = *ℤ-mono qq (y *ℤ s *ℤ g) (w *ℤ e) hq reach in
    let k = *ℤ-mono y (pos 1000 *ℤ o *ℤ e +ℤ pos 1) (g *ℤ (qq *ℤ s)) (omega (arith, ints)) (omega (arith, ints)) in
    let Y : Polynomial = term y in
    let W : Polynomial = term w in
    let O : Polynomial = number 1000 ⊗ term o in
    let S : Polynomial = term s in
    let G : Polynomial = term g in
    let Q : Polynomial = term qq in
    let E : Polynomial = term e in
    omega (arith, at_most_of (E ⊗ (W ⊗ Q)) (E ⊗ (number 1000 ⊗ Y ⊗ term o)) a, at_most_of (Q ⊗ (Y ⊗ S ⊗ G)) (Q ⊗ (W ⊗ E)) b, at_most_of (Y ⊗ (O ⊗ E ⊕ number 1)) (Y ⊗ (G ⊗ (Q ⊗ S))) k, below_of (number 0) Y hy)

pub closed-leaf-law : ClosedLeafLaw
closed-leaf-law d b y v t p closes f inside beats =
    let den : pos 0 <ℤ pos v.den = let h = v.positive in omega (arith, ints) in
    apart y.y0 closes.value (objective_times d p) (pos (10 ^ d.scale)) (pos 1000 *ℤ v.num -ℤ t *ℤ pos v.den) (p.den *ℤ p.den) (pos v.den) closes.y0 den (square_up p.den)
    (bound-law d b y closes.value p (let h = closes.y0 in omega (arith, ints)) closes.value_is f inside) closes.reaches beats

positive_times : (w q o : ℤ) → pos 0 <ℤ w → pos 1 ≤ℤ q → (w *ℤ (q *ℤ q)) ≤ℤ (pos 1000 *ℤ pos 0 *ℤ o) → ⊥
positive_times w q o hw hq h =
    let a = *ℤ-mono q (pos 1) q (omega (arith, ints)) hq in
    let b = *ℤ-mono w (pos 1) (q *ℤ q) (omega (arith, ints)) (omega (arith, ints, a)) in
    omega (arith, ints, b, h)

pub empty-leaf-law : EmptyLeafLaw
empty-leaf-law d b y p empties f inside =
    let law = bound-law d b y empties.value p (let h = empties.y0 in rw h (omega (arith, ints))) empties.value_is f inside in
    positive_times empties.value p.den (objective_times d p) empties.above f.den (subst (λ (z : ℤ). (empties.value *ℤ (p.den *ℤ p.den)) ≤ℤ (pos 1000 *ℤ z *ℤ objective_times d p)) empties.y0 law)
