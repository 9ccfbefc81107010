-- How many arcs a deck of the program has.
use Rattle.std.proofs.Common.{[], ◌∷◌, ◌≡◌, ℕ, ◌<◌, ◌≤◌, pos, List, length, map, get_or, refl, sym, ◌∙◌, inl, inr, arith, Bool, true, false, eqb, eqb-true}
use Rattle.std.specs.Prelude.{All, None, ◌||◌, ◌⊎◌}
use Rattle.std.specs.List.{list_any, IsDistinct}
use Rattle.std.proofs.lemmas.Bool.{false≢true, ne_eqb}
use Rattle.std.proofs.lemmas.List.{get_or-map, length-map}
use Rattle.std.proofs.lemmas.Map.Keys.{IsDistinct-from_apart}
use Rattle.std.proofs.lemmas.Map.Steps.{length-le_from_distinct_below}
use Rattle.std.proofs.lemmas.List.Elements.{All-head, All-tail}
use Rattle.um_model.specs.Values.{DeckValue}
use Rattle.um_model.specs.declared.deck.Arc.{Arc}
use Rattle.um_deck.specs.Decks.{IsDeckNow}

one_of : (b c : Bool) → (b || c) ≡ true → (b ≡ true) ⊎ (c ≡ true)
one_of true c h = inl refl
one_of false c h = inr h

below_each : (n : ℕ) (arcs : List Arc) → All (λ (a : Arc). a.column < n) arcs → (q : ℕ) → list_any (eqb q) (map (λ (a : Arc). a.column) arcs) ≡ true → q < n
below_each n [] all q h = absurd (false≢true h)
below_each n (a ∷ arcs) all q h =
    elim (one_of (eqb q a.column) (list_any (eqb q) (map (λ (b : Arc). b.column) arcs)) h) [
      | inl here ↦ let same : q ≡ a.column = eqb-true q a.column here in omega (arith, same, All-head (λ (b : Arc). b.column < n) a arcs all)
      | inr there ↦ below_each n arcs (All-tail (λ (b : Arc). b.column < n) a arcs all) q there
    ]

-- arcs of the objective are on different columns, and so no more than there are columns
pub few_arcs : (d : DeckValue) → IsDeckNow d → length d.arcs ≤ length d.columns
few_arcs d h =
    let columns : List ℕ = map (λ (a : Arc). a.column) d.arcs in
    let none : Arc = record { row = None; column = 0; value = pos 0 } in
    let long : length columns ≡ length d.arcs = length-map d.arcs (λ (a : Arc). a.column) in
    let apart : IsDistinct eqb columns =
    IsDistinct-from_apart eqb columns (λ i j n below within.
    let second : j < length d.arcs = omega (arith, within, long) in
    let first : i < length d.arcs = omega (arith, below, second) in
    let at_first : get_or columns i n ≡ (get_or d.arcs i none).column = get_or-map (λ (a : Arc). a.column) d.arcs i none n first in
    let at_second : get_or columns j n ≡ (get_or d.arcs j none).column = get_or-map (λ (a : Arc). a.column) d.arcs j none n second in
    let rows : (get_or d.arcs i none).row ≡ (get_or d.arcs j none).row = h.objective_arcs i none first ∙ sym (h.objective_arcs j none second) in
    ne_eqb (get_or columns i n) (get_or columns j n) (λ e. h.formed.distinct_arcs i j none below second rows (sym at_first ∙ e ∙ at_second))) in
    omega (arith, long, length-le_from_distinct_below columns (length d.columns) apart (below_each (length d.columns) d.arcs (λ k a within. (h.formed.arcs k a within).column)))
