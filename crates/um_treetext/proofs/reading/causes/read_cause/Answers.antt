use Rattle.std.proofs.Common.{refl}
use Rattle.um_treetext.specs.Words.{taking}
use Rattle.um_treetext.specs.FrontLines.{place_said, step_said}
use Rattle.um_treetext.proofs.Takes.{fails}
use Rattle.um_treetext.proofs.reading.causes.read_cause.Goals as goal

pub returns-in_err-number-in-Pivot : goal.returns-in_err-number-in-Pivot
unfolding step_said
returns-in_err-number-in-Pivot c = fails _ c.in_err-number-in-Pivot.field-0.0 _ _ c.from_residual.ensures.1 (rw (c.in-Pivot.is, c.in_err-number-in-Pivot.ensures) refl)

pub returns-in_err-wide-in-Pivot : goal.returns-in_err-wide-in-Pivot
unfolding step_said
returns-in_err-wide-in-Pivot c = fails _ c.in_err-wide-in-Pivot.field-0.0 _ _ c.from_residual-in_err-wide-in-Pivot.ensures.1 (rw (c.in-Pivot.is, c.in_ok-number-in-Pivot.ensures, c.in_err-wide-in-Pivot.ensures) refl)

pub returns-in_ok-wide-in-Pivot : goal.returns-in_ok-wide-in-Pivot
unfolding step_said
returns-in_ok-wide-in-Pivot c = rw (c.in-Pivot.is, c.in_ok-number-in-Pivot.ensures, c.in_ok-wide-in-Pivot.ensures) refl

pub returns-in_err-number-in-Value : goal.returns-in_err-number-in-Value
unfolding step_said
returns-in_err-number-in-Value c = fails _ c.in_err-number-in-Value.field-0.0 _ _ c.from_residual-in_err-number-in-Value.ensures.1 (rw (c.in-Value.is, c.in_err-number-in-Value.ensures) refl)

pub returns-in_err-wide-in-Value : goal.returns-in_err-wide-in-Value
unfolding step_said
returns-in_err-wide-in-Value c = fails _ c.in_err-wide-in-Value.field-0.0 _ _ c.from_residual-in_err-wide-in-Value.ensures.1 (rw (c.in-Value.is, c.in_ok-number-in-Value.ensures, c.in_err-wide-in-Value.ensures) refl)

pub returns-in_ok-wide-in-Value : goal.returns-in_ok-wide-in-Value
unfolding step_said
returns-in_ok-wide-in-Value c = rw (c.in-Value.is, c.in_ok-number-in-Value.ensures, c.in_ok-wide-in-Value.ensures) refl

pub returns-in_err-word-in-Points : goal.returns-in_err-word-in-Points
unfolding place_said taking
returns-in_err-word-in-Points c = fails _ c.in_err-word-in-Points.field-0.0 _ _ c.from_residual-in_err-word-in-Points.ensures.1 (rw (c.in-Points.is, c.in_err-word-in-Points.ensures) refl)

pub returns-in_err-column-in-Points : goal.returns-in_err-column-in-Points
unfolding place_said taking
returns-in_err-column-in-Points c = fails _ c.in_err-column-in-Points.field-0.0 _ _ c.from_residual-in_err-column-in-Points.ensures.1 (rw (c.in-Points.is, c.in_ok-word-in-Points.ensures, ← c.in_err-column-in-Points.ensures) refl)

pub returns-in_ok-column-in-Points : goal.returns-in_ok-column-in-Points
unfolding place_said taking
returns-in_ok-column-in-Points c = rw (c.in-Points.is, c.in_ok-word-in-Points.ensures, ← c.in_ok-column-in-Points.ensures) refl

pub returns-in_err-word-in-Grid : goal.returns-in_err-word-in-Grid
unfolding place_said taking
returns-in_err-word-in-Grid c = fails _ c.in_err-word-in-Grid.field-0.0 _ _ c.from_residual-in_err-word-in-Grid.ensures.1 (rw (c.in-Grid.is, c.in_err-word-in-Grid.ensures) refl)

pub returns-in_err-number-in-Grid : goal.returns-in_err-number-in-Grid
unfolding place_said taking
returns-in_err-number-in-Grid c = fails _ c.in_err-number-in-Grid.field-0.0 _ _ c.from_residual-in_err-number-in-Grid.ensures.1 (rw (c.in-Grid.is, c.in_ok-word-in-Grid.ensures, ← c.in_err-number-in-Grid.ensures) refl)

pub returns-in_ok-number-in-Grid : goal.returns-in_ok-number-in-Grid
unfolding place_said taking
returns-in_ok-number-in-Grid c = rw (c.in-Grid.is, c.in_ok-word-in-Grid.ensures, ← c.in_ok-number-in-Grid.ensures) refl

pub returns-in_err-word-in-Leaf : goal.returns-in_err-word-in-Leaf
unfolding place_said taking
returns-in_err-word-in-Leaf c = fails _ c.in_err-word-in-Leaf.field-0.0 _ _ c.from_residual-in_err-word-in-Leaf.ensures.1 (rw (c.in-Leaf.is, c.in_err-word-in-Leaf.ensures) refl)

pub returns-in_err-number-in-Leaf : goal.returns-in_err-number-in-Leaf
unfolding place_said taking
returns-in_err-number-in-Leaf c = fails _ c.in_err-number-in-Leaf.field-0.0 _ _ c.from_residual-in_err-number-in-Leaf.ensures.1 (rw (c.in-Leaf.is, c.in_ok-word-in-Leaf.ensures, ← c.in_err-number-in-Leaf.ensures) refl)

pub returns-in_ok-number-in-Leaf : goal.returns-in_ok-number-in-Leaf
unfolding place_said taking
returns-in_ok-number-in-Leaf c = rw (c.in-Leaf.is, c.in_ok-word-in-Leaf.ensures, ← c.in_ok-number-in-Leaf.ensures) refl

pub returns-in_err-word-in-Vertex : goal.returns-in_err-word-in-Vertex
unfolding place_said taking
returns-in_err-word-in-Vertex c = fails _ c.in_err-word-in-Vertex.field-0.0 _ _ c.from_residual-in_err-word-in-Vertex.ensures.1 (rw (c.in-Vertex.is, c.in_err-word-in-Vertex.ensures) refl)

pub returns-in_err-number-in-Vertex : goal.returns-in_err-number-in-Vertex
unfolding place_said taking
returns-in_err-number-in-Vertex c = fails _ c.in_err-number-in-Vertex.field-0.0 _ _ c.from_residual-in_err-number-in-Vertex.ensures.1 (rw (c.in-Vertex.is, c.in_ok-word-in-Vertex.ensures, ← c.in_err-number-in-Vertex.ensures) refl)

pub returns-in_ok-number-in-Vertex : goal.returns-in_ok-number-in-Vertex
unfolding place_said taking
returns-in_ok-number-in-Vertex c = rw (c.in-Vertex.is, c.in_ok-word-in-Vertex.ensures, ← c.in_ok-number-in-Vertex.ensures) refl
