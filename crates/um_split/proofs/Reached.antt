-- Where the average weight of members lies: from the first nonzero position on, and before the last.
use Rattle.std.proofs.Common.{◌≡◌, ◌≢◌, ℕ, zero, suc, ◌+◌, ◌<◌, ◌≤◌, ℤ, pos, negsuc, ◌+ℤ◌, ◌*ℤ◌, ◌≤ℤ◌, ◌<ℤ◌, List, [], ◌∷◌, length, get_or, arith, inl, inr, refl, AllPairs}
use Rattle.std.proofs.lemmas.Int.{ints}
use Rattle.um_laws.specs.Sums.{sum_of, dot}
use Rattle.um_laws.proofs.Places.{at_map, past_end, zero_or_not, below_or}
use Rattle.um_laws.proofs.WholeLaws.{*ℤ-mono, *ℤ-+ℤ, *ℤ_comm}
use Rattle.um_model.specs.Feasible.{part, IsNonzeroAt, SetRule}
use Rattle.um_model.specs.AverageSplit.{IsFirstNonzero, IsLastNonzero}
use Rattle.um_model.specs.declared.deck.Member.{Member}
use Rattle.um_model.specs.declared.deck.SetKind.{SetKind}
use Rattle.um_model.specs.declared.deck.SetKind.TheVariants.{S1, S2}
use Rattle.um_point.specs.MemberParts.{parts_of}
use Rattle.um_point.proofs.SetRules.{same_length}
use Rattle.um_split.specs.LastReached.{weight_at, IsLastReached}
use Rattle.um_split.proofs.MemberSums.{sum-same_factor, sum-at_most, sum-below}

-- ---- products with a part that is at least 0

part_at_most : (a b x : ℤ) → pos 0 ≤ℤ x → (x ≢ pos 0 → a ≤ℤ b) → (a *ℤ x) ≤ℤ (b *ℤ x)
part_at_most a b x up le = elim (zero_or_not x) [
  | inl e ↦ rw e (omega (arith, ints))
  | inr n ↦ omega (arith, ints, *ℤ-mono x a b up (le n), *ℤ_comm x a, *ℤ_comm x b)
]

pub from_one : (x : ℤ) → pos 0 ≤ℤ x → x ≢ pos 0 → pos 1 ≤ℤ x
from_one (pos zero) up n = absurd (n refl)
from_one (pos (suc x)) up n = omega (arith, ints)
from_one (negsuc x) up n = absurd (omega (arith, ints))

part_below : (a b x : ℤ) → pos 0 ≤ℤ x → x ≢ pos 0 → a <ℤ b → (a *ℤ x) <ℤ (b *ℤ x)
part_below a b x up n lt =
    omega (arith, ints, from_one x up n, *ℤ-mono x (a +ℤ pos 1) b up (omega (arith, ints)), *ℤ-+ℤ x a (pos 1), *ℤ_comm x a, *ℤ_comm x b)

pub above : (a b : ℤ) → ¬ a ≤ℤ b → b <ℤ a
above a b n = grind (arith, ints)

pub part_sum-up : (ys : List ℤ) → ((k : ℕ) → pos 0 ≤ℤ part ys k) → pos 0 ≤ℤ sum_of (λ (y : ℤ). y) ys
part_sum-up [] h = omega (arith, ints)
part_sum-up (y ∷ ys) h = omega (arith, ints, h 0, part_sum-up ys (λ k. h (suc k)))

-- ---- members by rising weight

abbrev Rises : List Member → Type 0
Rises members = AllPairs (λ (a : Member) (b : Member). a.weight <ℤ b.weight) members

pub weight_is : (members : List Member) (k : ℕ) (d : Member) → k < length members → weight_at members k ≡ (get_or members k d).weight
weight_is members k d l = at_map (λ (m : Member). m.weight) members k d (pos 0) l

rise_to : (members : List Member) → Rises members → (j k : ℕ) (d : Member) → j ≤ k → k < length members → (get_or members j d).weight ≤ℤ (get_or members k d).weight
rise_to members rise j k d le l = elim (below_or j k) [ inl b ↦ omega (arith, ints, rise j k d b l) | inr g ↦ let same : j ≡ k = omega arith in rw same (omega (arith, ints)) ]

-- a position is the last that is reached where the next one is not
pub last-from_next : (members : List Member) → Rises members → (weighted total : ℤ) → pos 0 ≤ℤ total → (k next : ℕ) (d : Member) → k + 1 ≡ next → next < length members
    → (weight_at members k *ℤ total) ≤ℤ weighted → weighted <ℤ ((get_or members next d).weight *ℤ total) → IsLastReached members weighted total k
last-from_next members rise weighted total up k next d e l reached beyond = record {
  inside = omega arith;
  at_most = reached;
  behind = λ later h inside.
      let heavier = *ℤ-mono total (get_or members next d).weight (get_or members later d).weight up (rise_to members rise next later d (omega arith) inside) in
      rw (weight_is members later d inside) (omega (arith, ints, beyond, heavier, *ℤ_comm total (get_or members next d).weight, *ℤ_comm total (get_or members later d).weight));
}

module _ (members : List Member) (parts : List ℤ) (rise : Rises members) (up : (k : ℕ) → pos 0 ≤ℤ part (parts_of parts members) k) where
  abbrev xs : List ℤ
  xs = parts_of parts members

  abbrev weight : Member → ℤ
  weight m = m.weight

  as_long : length xs ≡ length members
  as_long = same_length parts members

  -- a nonzero position is there
  pub is_there : (k : ℕ) → IsNonzeroAt xs k → k < length members
  is_there k n = elim (below_or k (length members)) [ inl l ↦ l | inr g ↦ absurd (n (past_end xs k (pos 0) (omega (arith, as_long)))) ]

  module _ (first : ℕ) (first_is : IsFirstNonzero xs first) where
    not_before : (k : ℕ) → IsNonzeroAt xs k → first ≤ k
    not_before k n = elim (below_or k first) [ inl l ↦ absurd (n (first_is.before k l)) | inr g ↦ g ]

    -- the average is at least the weight of the first nonzero position
    pub first-is_reached : (weight_at members first *ℤ sum_of (λ (x : ℤ). x) xs) ≤ℤ dot weight members xs
    first-is_reached =
        let c = weight_at members first in
        let each : (k : ℕ) (d : Member) → k < length members → (c *ℤ part xs k) ≤ℤ ((get_or members k d).weight *ℤ part xs k) =
        λ k d l. part_at_most c (get_or members k d).weight (part xs k) (up k) (λ n. let le = not_before k n in omega (arith, ints, weight_is members first d (omega arith), rise_to members rise first k d le l)) in
        omega (arith, ints, sum-same_factor c members xs as_long, sum-at_most (λ (m : Member). c) weight members xs each)

    module _ (last : ℕ) (last_is : IsLastNonzero xs last) where
      not_behind : (k : ℕ) → IsNonzeroAt xs k → k ≤ last
      not_behind k n = elim (below_or last k) [ inl l ↦ absurd (n (last_is.behind k l)) | inr g ↦ g ]

      -- with one nonzero position no rule is broken
      one_holds : (kind : SetKind) → last ≤ first → SetRule kind xs
      one_holds S1 le = λ i j l here there. absurd (omega (arith, l, le, not_before i here, not_behind j there))
      one_holds S2 le = λ i j l here there. absurd (omega (arith, l, le, not_before i here, not_behind j there))

      pub apart : (kind : SetKind) → ¬ SetRule kind xs → first < last
      apart kind broken = elim (below_or first last) [ inl l ↦ l | inr g ↦ absurd (broken (one_holds kind g)) ]

      -- the average is below the weight of the last nonzero position
      pub last-is_beyond : first < last → dot weight members xs <ℤ (weight_at members last *ℤ sum_of (λ (x : ℤ). x) xs)
      last-is_beyond order =
          let c = weight_at members last in
          let inside = is_there last last_is.nonzero in
          let each : (k : ℕ) (d : Member) → k < length members → ((get_or members k d).weight *ℤ part xs k) ≤ℤ (c *ℤ part xs k) =
          λ k d l. part_at_most (get_or members k d).weight c (part xs k) (up k) (λ n. omega (arith, ints, weight_is members last d inside, rise_to members rise k last d (not_behind k n) inside)) in
          let here : (d : Member) → ((get_or members first d).weight *ℤ part xs first) <ℤ (c *ℤ part xs first) =
          λ d. part_below (get_or members first d).weight c (part xs first) (up first) first_is.nonzero (omega (arith, ints, weight_is members last d inside, rise first last d order inside)) in
          omega (arith, ints, sum-same_factor c members xs as_long, sum-below weight (λ (m : Member). c) members xs each first (omega arith) (omega (arith, as_long)) here)
