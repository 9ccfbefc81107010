-- The branches of a tree whose nodes hold fit.
use Rattle.std.proofs.Common.{ℤ, Option, subst}
use Rattle.um_laws.specs.Rational.{Rational}
use Rattle.um_model.specs.Values.{DeckValue}
use Rattle.um_model.specs.AnswerValues.{WhatValue}
use Rattle.um_tree.specs.Growths.{GrowthValue}
use Rattle.um_cover.specs.Descents.{SplitsFit}
use Rattle.um_cover.specs.Nodes.{NodeIs, NodesAre}
use Rattle.um_cover.specs.Sites.{box_at}

module _ (d : DeckValue) (incumbent : Option Rational) (tolerance : ℤ) (g : GrowthValue) (nodes : NodesAre d incumbent tolerance g) where
  -- the branch of each split fits
  pub splits_fit : SplitsFit d g
  splits_fit id branch inside e = subst (λ (w : WhatValue). NodeIs d incumbent tolerance (box_at d g id) w) e (nodes id inside)
