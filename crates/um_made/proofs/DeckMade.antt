-- A deck whose parts are made one by one is the deck of the statements.
use Rattle.std.proofs.Common.{◌≡◌, neg_ℤ, pos, [], map, filter_map}
use Rattle.um_model.specs.Values.{DeckValue}
use Rattle.um_statements.specs.Said.{Said}
use Rattle.um_statements.specs.Made.{deck_value, of_objective, objective_scale, for_minimising, side_at, row_made, sided_rows, column_made, set_made, arc_made}

-- each part of a deck is what the statements make of it
pub record IsMade (s : Said) (d : DeckValue) : Type 0 where
  pub name : d.name ≡ s.name
  pub objective_name : d.objective_name ≡ of_objective s (λ place r. r.name) []
  pub maximise : d.maximise ≡ s.maximise
  pub scale : d.scale ≡ objective_scale s
  pub constant : d.constant ≡ for_minimising s.maximise (neg_ℤ (of_objective s (λ place r. side_at r (objective_scale s)) (pos 0)))
  pub rows : d.rows ≡ map (row_made s) (sided_rows s)
  pub columns : d.columns ≡ map (column_made s) s.columns
  pub sets : d.sets ≡ map (set_made s) s.sets
  pub arcs : d.arcs ≡ filter_map (arc_made s) s.arcs

pub deck_made : (s : Said) (d : DeckValue) → IsMade s d → d ≡ deck_value s
unfolding deck_value
deck_made s d made = λ i. record {
  name = made.name i;
  objective_name = made.objective_name i;
  maximise = made.maximise i;
  scale = made.scale i;
  constant = made.constant i;
  rows = made.rows i;
  columns = made.columns i;
  sets = made.sets i;
  arcs = made.arcs i;
}
