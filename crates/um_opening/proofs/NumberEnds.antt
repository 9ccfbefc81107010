-- What the solving of a number led to, from what its parts did.
use Rattle.std.proofs.Common.{◌≡◌, ℕ, ◌-◌, ◌≤◌, inl, List, Some, None, refl, sym, subst, arith}
use Rattle.std.specs.Prelude.{ℤ}
use Rattle.um_model.specs.Values.{DeckValue}
use Rattle.um_model.specs.Boxes.{BoxValue}
use Rattle.um_lp.specs.States.{State}
use Rattle.um_solving.specs.Endings.{EndedAs}
use Rattle.um_opening.specs.Openings.{IsOpenWithCosts, IsOpenWithout}
use Rattle.um_opening.specs.Numbers.{Begins, WithCosts, WithoutCosts, NumberEndedAs, parts_of}
use Rattle.um_opening.specs.declared.numbers.NumberEnd.{NumberEnd}

-- a deck that is the same
pub with_costs : (d e : DeckValue) (number : ℕ) (before : State) (early : ℕ) (begun : State) → e ≡ d → number ≡ 1 → IsOpenWithCosts d before early begun → Begins e number before early None begun
with_costs d e number before early begun same first h = subst (λ (x : DeckValue). Begins x number before early None begun) (sym same) (WithCosts first refl h)

pub with_ray : (d e : DeckValue) (number : ℕ) (before : State) (early : ℕ) (ray : List ℤ) (begun : State) → e ≡ d → number ≡ 1 → IsOpenWithout d before early ray begun → Begins e number before early (Some ray) begun
with_ray d e number before early ray begun same first h = subst (λ (x : DeckValue). Begins x number before early (Some ray) begun) (sym same) (WithoutCosts first ray refl h)

-- the node was solved from where its box was put on the board
pub ran : (d : DeckValue) (b : BoxValue) (before begun after : State) (left open_left rest number : ℕ) (e : NumberEnd) → open_left ≤ left → rest ≤ open_left → Begins d number before (left - open_left) (parts_of e.ray) begun
    → EndedAs d b begun (left - open_left) (open_left - rest) open_left number e.end after → NumberEndedAs d b before (left - rest) left number e after
ran d b before begun after left open_left rest number e first then begins ended = inl (record {
  begun = begun;
  early = left - open_left;
  steps = open_left - rest;
  begins = begins;
  adds = omega (arith, first, then);
  holds =
      let same : open_left ≡ left - (left - open_left) = omega (arith, first) in
      subst (λ (n : ℕ). EndedAs d b begun (left - open_left) (open_left - rest) n number e.end after) same ended;
})
