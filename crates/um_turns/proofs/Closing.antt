-- The multipliers of a vertex close its node at each value that is at most the objective of the vertex.
use Rattle.std.proofs.Common.{pos, sym, subst, arith}
use Rattle.std.proofs.lemmas.Int.{ints}
use Rattle.um_model.specs.Accepted.{IsAtMost}
use Rattle.um_model.specs.LeafValue.{leaf_bound}
use Rattle.um_soundness.proofs.Objectives.{bound_reaches, reaches_below}
use Rattle.um_turns.specs.Laws.{VertexClosesLaw}

pub vertex_closes : VertexClosesLaw
vertex_closes d b p y v says below = record {
  y0 = says.positive;
  value = says.value;
  value_is = says.value_is;
  reaches = let positive = says.positive in reaches_below d y.y0 says.value (pos 0) v (leaf_bound d y.y0 says.value) (omega (arith, ints)) (bound_reaches d y.y0 says.value says.positive) (subst (IsAtMost v) (sym says.bound_is) below);
}
