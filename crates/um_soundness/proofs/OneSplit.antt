-- A set has one average split at a point.
use Rattle.std.proofs.Common.{◌≡◌, ℕ, ℤ, List, sym, ◌∙◌, subst, ap, arith, inl, inr}
use Rattle.std.proofs.lemmas.Int.{ints}
use Rattle.um_model.specs.Values.{SetValue}
use Rattle.um_model.specs.Feasible.{member_parts}
use Rattle.um_model.specs.AverageSplit.{IsFirstNonzero, IsAveragePosition, split_at}
use Rattle.um_soundness.specs.Laws.{OneSplitLaw}
use Rattle.um_laws.proofs.Places.{below_or}

same_first : (xs : List ℤ) (i k : ℕ) → IsFirstNonzero xs i → IsFirstNonzero xs k → i ≡ k
same_first xs i k f g = elim (below_or i k) [
  | inl l ↦ absurd (f.nonzero (g.before i l))
  | inr n ↦ elim (below_or k i) [ inl l ↦ absurd (g.nonzero (f.before k l)) | inr m ↦ omega arith ]
]

same_average : (s : SetValue) (xs : List ℤ) (i k : ℕ) → IsAveragePosition s xs i → IsAveragePosition s xs k → i ≡ k
same_average s xs i k f g = elim (below_or i k) [
  | inl l ↦ absurd (let a = f.behind k l g.inside in let b = g.at_most in omega (arith, ints))
  | inr n ↦ elim (below_or k i) [ inl l ↦ absurd (let a = g.behind i l f.inside in let b = f.at_most in omega (arith, ints)) | inr m ↦ omega arith ]
]

pub one-split-law : OneSplitLaw
one-split-law d set p one other f g =
    let same : g.chosen ≡ f.chosen = let a = f.place in let b = g.place in cc in
    let first = same_first (member_parts p f.chosen) f.first g.first f.first_is (subst (λ (s : SetValue). IsFirstNonzero (member_parts p s) g.first) same g.first_is) in
    let average = same_average f.chosen (member_parts p f.chosen) f.average g.average f.average_is (subst (λ (s : SetValue). IsAveragePosition s (member_parts p s) g.average) same g.average_is) in
    f.branch_is ∙ ap (λ (n : ℕ). split_at f.chosen.kind set n f.average) first ∙ ap (λ (n : ℕ). split_at f.chosen.kind set g.first n) average
    ∙ ap (λ (s : SetValue). split_at s.kind set g.first g.average) (sym same) ∙ sym g.branch_is
