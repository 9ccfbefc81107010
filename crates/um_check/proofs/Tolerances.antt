-- A tolerance that a deck allows is one with which a leaf may be compared.
use Rattle.std.proofs.Common.{◌≡◌, ◌≢◌, ◌∙◌, sym, refl, ℕ, zero, suc, ◌^◌, ℤ, pos, negsuc, ◌≤ℤ◌, List, [], ◌∷◌, arith}
use Rattle.std.proofs.lemmas.Int.{ints}
use Rattle.um_laws.specs.Sums.{sum_of}
use Rattle.um_model.specs.Values.{DeckValue}
use Rattle.um_model.specs.Rounding.{ceil_div}
use Rattle.um_model.specs.Tolerance.{arc_size, least_tolerance_for}
use Rattle.um_model.specs.Accepted.{ToleranceHolds}
use Rattle.um_model.specs.declared.deck.Arc.{Arc}
use Rattle.um_check.specs.Judging.{IsTolerance}

sizes_up : (d : DeckValue) (arcs : List Arc) → pos 0 ≤ℤ sum_of (arc_size d) arcs
sizes_up d [] = omega (arith, ints)
sizes_up d (a ∷ arcs) = let rest = sizes_up d arcs in omega (arith, ints, rest)

ceil_up : (z : ℤ) (n : ℕ) → pos 0 ≤ℤ z → pos 0 ≤ℤ ceil_div z n
ceil_up (pos zero) n h = omega (arith, ints)
ceil_up (pos (suc k)) n h = omega (arith, ints)
ceil_up (negsuc k) n h = absurd (omega (arith, ints))

least_up : (d : DeckValue) (arcs : List Arc) → pos 0 ≤ℤ least_tolerance_for d arcs
least_up d [] = omega (arith, ints)
least_up d (a ∷ arcs) = let up = ceil_up (sum_of (arc_size d) (a ∷ arcs)) (10 ^ 9) (sizes_up d (a ∷ arcs)) in omega (arith, ints, up)

some_arcs : (a : Arc) (arcs : List Arc) → (a ∷ arcs) ≢ []
some_arcs a arcs e = cc

pub tolerance_is : (d : DeckValue) (t : ℤ) → ToleranceHolds d t → IsTolerance t
tolerance_is d t h = go d.arcs refl
  where
    go : (arcs : List Arc) → d.arcs ≡ arcs → IsTolerance t
    go [] e = let zero_is = h.without_arcs e in record { least = omega (arith, ints, zero_is); most = omega (arith, ints, zero_is) }
    go (a ∷ arcs) e =
        let some : d.arcs ≢ [] = λ none. some_arcs a arcs (sym e ∙ none) in
        let up = least_up d d.arcs in
        let least = h.least some in
        record { least = omega (arith, ints, up, least); most = h.most some }
