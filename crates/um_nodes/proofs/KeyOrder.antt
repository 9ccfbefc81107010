-- The order of keys is one: of two keys one may come before the other, and what comes before stays so along a chain.
use Rattle.std.proofs.Common.{◌≡◌, ℤ, pos, ◌+ℤ◌, ◌*ℤ◌, ◌≤ℤ◌, ◌<ℤ◌, inl, inr, arith, Ordering, Less, Equal, Greater, ◌∙◌, to_z, of_z}
use Rattle.std.specs.Ordering.{MatchOrdering, int_cmp}
use Rattle.std.specs.Cmp.{int_ranked}
use Rattle.std.specs.Int.{w128}
use Rattle.std.proofs.lemmas.Int.{ints, by_lt_z, to_z-of_z, fits_signed_from_abs}
use Rattle.um_laws.proofs.WholeLaws.{*ℤ-mono}
use Rattle.um_num.specs.Numbers.{IsInRange}
use Rattle.um_laws.proofs.Polynomials.{Polynomial, term, number, ◌⊕◌, ◌⊗◌, at_most, at_most_of}
use Rattle.um_nodes.specs.Keys.{IsKey, Allows, Leads, Ties, Precedes}
use Rattle.um_nodes.specs.declared.open_nodes.Key.{Key}

-- ---- numbers
cancel_up : (k a b : ℤ) → pos 1 ≤ℤ k → (k *ℤ a) ≤ℤ (k *ℤ b) → a ≤ℤ b
cancel_up k a b h l = by_lt_z b a (λ (g : b <ℤ a). absurd (let m = *ℤ-mono k (b +ℤ pos 1) a (omega (arith, ints)) (omega (arith, ints)) in
    omega (arith, at_most_of (term k ⊗ (term b ⊕ number 1)) (term k ⊗ term a) m, at_most_of (term k ⊗ term a) (term k ⊗ term b) l, at_most_of (number 1) (term k) h))) (λ (g : a ≤ℤ b). g)

-- fractions x / e, y / f and z / g over numbers from 1 on
chain : (x e y f z g : ℤ) → pos 1 ≤ℤ e → pos 1 ≤ℤ f → pos 1 ≤ℤ g → (x *ℤ f) ≤ℤ (y *ℤ e) → (y *ℤ g) ≤ℤ (z *ℤ f) → (x *ℤ g) ≤ℤ (z *ℤ e)
chain x e y f z g ep fp gp a b =
    let X : Polynomial = term x in
    let Y : Polynomial = term y in
    let Z : Polynomial = term z in
    let E : Polynomial = term e in
    let F : Polynomial = term f in
    let G : Polynomial = term g in
    let l = *ℤ-mono g (x *ℤ f) (y *ℤ e) (omega (arith, ints)) a in
    let r = *ℤ-mono e (y *ℤ g) (z *ℤ f) (omega (arith, ints)) b in
    cancel_up f (x *ℤ g) (z *ℤ e) fp
    (at_most (F ⊗ (X ⊗ G)) (F ⊗ (Z ⊗ E)) (omega (arith, at_most_of (G ⊗ (X ⊗ F)) (G ⊗ (Y ⊗ E)) l, at_most_of (E ⊗ (Y ⊗ G)) (E ⊗ (Z ⊗ F)) r)))

-- ---- keys
from_one : (k : Key) → IsKey k → ¬ (k.y0 ≡ pos 0) → pos 1 ≤ℤ k.y0
from_one k i some = let h = i.y0 in by_lt_z k.y0 (pos 1) (λ (g : k.y0 <ℤ pos 1). absurd (some (omega (arith, ints)))) (λ (g : pos 1 ≤ℤ k.y0). g)

pub allows_chain : (a b c : Key) → IsKey a → IsKey b → IsKey c → Allows a b → Allows b c → Allows a c
allows_chain a b c ia ib ic (inl none) q = inl none
allows_chain a b c ia ib ic (inr p) (inl none) = absurd (p.right none)
allows_chain a b c ia ib ic (inr p) (inr q) = inr (record {
  left = p.left;
  right = q.right;
  cross = chain a.value a.y0 b.value b.y0 c.value c.y0 (from_one a ia p.left) (from_one b ib p.right) (from_one c ic q.right) p.cross q.cross;
})

pub precedes_chain : (a b c : Key) → IsKey a → IsKey b → IsKey c → Precedes a b → Precedes b c → Precedes a c
precedes_chain a b c ia ib ic p q = record {
  allows = allows_chain a b c ia ib ic p.allows q.allows;
  ties = λ back.
      let r = q.ties (allows_chain c a b ic ia ib back p.allows) in
      let l = p.ties (allows_chain b c a ib ic ia q.allows back) in
      omega arith;
}

pub precedes_itself : (a : Key) → IsKey a → Precedes a a
precedes_itself a i = record { allows = by_lt_z a.y0 (pos 1) (λ (g : a.y0 <ℤ pos 1). inl (let h = i.y0 in omega (arith, ints))) (λ (g : pos 1 ≤ℤ a.y0). inr (record { left = λ e. omega (arith, ints); right = λ e. omega (arith, ints); cross = omega (arith, ints) })); ties = λ back. omega arith }

-- two keys with bounds stand as their fractions do
pub stands : (a b : Key) → ¬ (a.y0 ≡ pos 0) → ¬ (b.y0 ≡ pos 0) → (r : Ordering) → r ≡ int_cmp (a.value *ℤ b.y0) (b.value *ℤ a.y0) → MatchOrdering r (Leads a b) (Ties a b) (Leads b a)
stands a b some other r is = by r (int_ranked (a.value *ℤ b.y0) (b.value *ℤ a.y0) r is)
  where
    may : (x y : Key) → ¬ (x.y0 ≡ pos 0) → ¬ (y.y0 ≡ pos 0) → (x.value *ℤ y.y0) ≤ℤ (y.value *ℤ x.y0) → Allows x y
    may x y f g h = inr (record { left = f; right = g; cross = h })

    may_not : (x y : Key) → ¬ (x.y0 ≡ pos 0) → (y.value *ℤ x.y0) <ℤ (x.value *ℤ y.y0) → ¬ Allows x y
    may_not x y f h (inl e) = f e
    may_not x y f h (inr n) = let c = n.cross in omega (arith, ints)

    by : (r : Ordering) → MatchOrdering r ((a.value *ℤ b.y0) <ℤ (b.value *ℤ a.y0)) (a.value *ℤ b.y0 ≡ b.value *ℤ a.y0) ((b.value *ℤ a.y0) <ℤ (a.value *ℤ b.y0)) → MatchOrdering r (Leads a b) (Ties a b) (Leads b a)
    by Less h = record { allows = may a b some other (omega (arith, ints)); refuses = may_not b a other h }
    by Equal h = record { allows = may a b some other (omega (arith, ints)); allowed = may b a other some (omega (arith, ints)) }
    by Greater h = record { allows = may b a other some (omega (arith, ints)); refuses = may_not a b some h }

-- the same of numbers as the machine holds them
abbrev held : ℤ → ℤ
held z = to_z w128 (of_z w128 z)

held_is : (z : ℤ) → IsInRange z → held z ≡ z
held_is z h = to_z-of_z w128 z (fits_signed_from_abs w128 z (omega arith))

pub stands_held : (a b : Key) → IsKey a → IsKey b → ¬ (a.y0 ≡ pos 0) → ¬ (b.y0 ≡ pos 0) → (r : Ordering) → r ≡ int_cmp (held a.value *ℤ held b.y0) (held b.value *ℤ held a.y0) → MatchOrdering r (Leads a b) (Ties a b) (Leads b a)
stands_held a b ia ib some other r is =
    stands a b some other r (is ∙ (λ i. int_cmp (held_is a.value ia.value_in i *ℤ held_is b.y0 ib.y0_in i) (held_is b.value ib.value_in i *ℤ held_is a.y0 ia.y0_in i)))
