-- A point that breaks a part first is not feasible, and it breaks no other part first.
use Rattle.std.proofs.Common.{◌≡◌, ℕ, List, ap, arith, inl, inr}
use Rattle.um_model.specs.Values.{DeckValue, PointValue}
use Rattle.um_model.specs.Feasible.{AllPlaces, Feasible}
use Rattle.um_model.specs.FirstBroken.{IsFirstFailure, IsFirstBroken}
use Rattle.um_soundness.specs.Laws.{BrokenLaw}
use Rattle.um_model.specs.declared.point.Broken.{Broken}
use Rattle.um_model.specs.declared.point.Broken.TheVariants.{Row, Bound, Integer, Semi, Set}
use Rattle.um_laws.proofs.Places.{item_at, below_or}

failing : {X : Type 0} (P : ℕ → X → Type 0) (xs : List X) (place : ℕ) → IsFirstFailure P xs place → AllPlaces P xs → ⊥
failing P xs place f all = let x = (item_at xs place f.inside).0 in f.fails x (all place x f.inside)

broken : (d : DeckValue) (p : PointValue) (one : Broken) → IsFirstBroken d p one → ¬ Feasible d p
broken d p (Row i) b f = failing _ d.rows i b f.rows
broken d p (Bound j) b f = failing _ d.columns j b.1 f.ends
broken d p (Integer j) b f = failing _ d.columns j b.2 f.integers
broken d p (Semi j) b f = failing _ d.columns j b.3 f.semis
broken d p (Set s) b f = failing _ d.sets s b.4 f.sets

same_place : {X : Type 0} (P : ℕ → X → Type 0) (xs : List X) (i k : ℕ) → IsFirstFailure P xs i → IsFirstFailure P xs k → i ≡ k
same_place P xs i k f g = elim (below_or i k) [
  | inl l ↦ let x = (item_at xs i f.inside).0 in absurd (f.fails x (g.before i x l))
  | inr n ↦ elim (below_or k i) [ inl l ↦ let x = (item_at xs k g.inside).0 in absurd (g.fails x (f.before k x l)) | inr m ↦ omega arith ]
]

only : (d : DeckValue) (p : PointValue) (one other : Broken) → IsFirstBroken d p one → IsFirstBroken d p other → one ≡ other
only d p (Row i) (Row k) f g = ap Row (same_place _ d.rows i k f g)
only d p (Row i) (Bound k) f g = absurd (failing _ d.rows i f g.0)
only d p (Row i) (Integer k) f g = absurd (failing _ d.rows i f g.0)
only d p (Row i) (Semi k) f g = absurd (failing _ d.rows i f g.0)
only d p (Row i) (Set k) f g = absurd (failing _ d.rows i f g.0)
only d p (Bound i) (Row k) f g = absurd (failing _ d.rows k g f.0)
only d p (Bound i) (Bound k) f g = ap Bound (same_place _ d.columns i k f.1 g.1)
only d p (Bound i) (Integer k) f g = absurd (failing _ d.columns i f.1 g.1)
only d p (Bound i) (Semi k) f g = absurd (failing _ d.columns i f.1 g.1)
only d p (Bound i) (Set k) f g = absurd (failing _ d.columns i f.1 g.1)
only d p (Integer i) (Row k) f g = absurd (failing _ d.rows k g f.0)
only d p (Integer i) (Bound k) f g = absurd (failing _ d.columns k g.1 f.1)
only d p (Integer i) (Integer k) f g = ap Integer (same_place _ d.columns i k f.2 g.2)
only d p (Integer i) (Semi k) f g = absurd (failing _ d.columns i f.2 g.2)
only d p (Integer i) (Set k) f g = absurd (failing _ d.columns i f.2 g.2)
only d p (Semi i) (Row k) f g = absurd (failing _ d.rows k g f.0)
only d p (Semi i) (Bound k) f g = absurd (failing _ d.columns k g.1 f.1)
only d p (Semi i) (Integer k) f g = absurd (failing _ d.columns k g.2 f.2)
only d p (Semi i) (Semi k) f g = ap Semi (same_place _ d.columns i k f.3 g.3)
only d p (Semi i) (Set k) f g = absurd (failing _ d.columns i f.3 g.3)
only d p (Set i) (Row k) f g = absurd (failing _ d.rows k g f.0)
only d p (Set i) (Bound k) f g = absurd (failing _ d.columns k g.1 f.1)
only d p (Set i) (Integer k) f g = absurd (failing _ d.columns k g.2 f.2)
only d p (Set i) (Semi k) f g = absurd (failing _ d.columns k g.3 f.3)
only d p (Set i) (Set k) f g = ap Set (same_place _ d.sets i k f.4 g.4)

pub broken-law : BrokenLaw
broken-law d p one b = (broken d p one b, λ other c. only d p one other b c)
