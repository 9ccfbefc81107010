use Rattle.std.proofs.Common.{refl}
use Rattle.um_model.specs.LeafValue.{leaf_bound}
use Rattle.um_progress.proofs.KeyBounds.{counts_some}
use Rattle.um_progress.proofs.laws.bound_count_law.Goals as goal

pub returns : goal.returns
returns c = λ d leaf y0 k endless least least' is some lesser. counts_some d leaf y0 k is endless least (leaf_bound d k.y0 k.value) least' k.y0 k.value some refl refl refl lesser
