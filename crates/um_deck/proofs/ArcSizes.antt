-- The sizes of arcs, and the least tolerance that they make.
use Rattle.std.proofs.Common.{◌≡◌, ◌≢◌, ◌-◌, ◌*◌, ◌^◌, ℤ, pos, ◌+ℤ◌, unsigned_abs, List, [], ◌∷◌, get_or, refl, sym, ap, ◌∙◌, false, length, true≢false}
use Rattle.std.specs.Prelude.{All, None, ◌==◌}
use Rattle.um_laws.specs.Sums.{sum_of}
use Rattle.um_laws.proofs.SumLaws.{sum_of-same_in}
use Rattle.um_model.specs.Values.{DeckValue}
use Rattle.um_model.specs.Rounding.{ceil_div}
use Rattle.um_model.specs.Tolerance.{arc_scale, arc_size, least_tolerance_for, least_tolerance}
use Rattle.um_model.specs.declared.deck.Arc.{Arc}
use Rattle.um_deck.specs.Decks.{IsDeckNow}

-- arcs of the objective have its scale
objective_sizes : (d : DeckValue) (arcs : List Arc) → All (λ (a : Arc). a.row ≡ None) arcs
    → sum_of (λ (a : Arc). pos (unsigned_abs a.value * 10 ^ (6 - d.scale))) arcs ≡ sum_of (arc_size d) arcs
objective_sizes d arcs all =
    sum_of-same_in (λ (a : Arc). pos (unsigned_abs a.value * 10 ^ (6 - d.scale))) (arc_size d) arcs
    (λ k a within. ap (λ row. pos (unsigned_abs (get_or arcs k a).value * 10 ^ (6 - arc_scale d row))) (sym (all k a within)))

-- with arcs, the least tolerance is one above the sum
tolerance_of_some : (d : DeckValue) (arcs : List Arc) → arcs ≢ [] → least_tolerance_for d arcs ≡ pos 1 +ℤ ceil_div (sum_of (arc_size d) arcs) (10 ^ 9)
tolerance_of_some d [] some = absurd (some refl)
tolerance_of_some d (a ∷ arcs) some = refl

-- what is rounded up of the sum of some arcs is the least tolerance of their deck
pub tolerance_is : (d : DeckValue) (arcs : List Arc) (sum : ℤ) → IsDeckNow d → arcs ≡ d.arcs → false ≡ (length arcs == 0)
    → sum ≡ sum_of (λ (a : Arc). pos (unsigned_abs a.value * 10 ^ (6 - d.scale))) arcs → pos 1 +ℤ ceil_div sum (10 ^ 9) ≡ least_tolerance d
tolerance_is d arcs sum h same some e =
    let some_of : d.arcs ≢ [] = λ none. true≢false (sym (some ∙ ap (λ (as_ : List Arc). length as_ == 0) (same ∙ none))) in
    let sized : sum ≡ sum_of (arc_size d) d.arcs = e ∙ (ap (sum_of (λ (a : Arc). pos (unsigned_abs a.value * 10 ^ (6 - d.scale)))) same ∙ objective_sizes d d.arcs h.objective_arcs) in
    ap (λ z. pos 1 +ℤ ceil_div z (10 ^ 9)) sized ∙ sym (tolerance_of_some d d.arcs some_of)
