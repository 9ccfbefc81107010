-- The links of a tree that grows.
use Rattle.std.specs.Prelude.{◌≡◌, ℕ, List, [], ◌∷◌, length, slice_index_or, Option, Some, None}
use Rattle.um_tree.specs.Growths.{GrowthValue, IsPreorder, IsGrowth}

-- each id links to the next, the first is this one, and the last links to none
abbrev pub AreLinked : Option ℕ → List (Option ℕ) → List ℕ → Type 0
AreLinked first nexts [] = first ≡ None
AreLinked first nexts (id ∷ ids) = (first ≡ Some id) × AreLinked (slice_index_or nexts id None) nexts ids

-- the links run through all nodes in preorder
pub record IsGrowing (g : GrowthValue) (nexts : List (Option ℕ)) : Type 0 where
  pub growth : IsGrowth g
  pub links : length nexts ≡ length g.nodes
  pub ids : List ℕ
  pub is : IsPreorder g ids
  pub linked : AreLinked (Some 0) nexts ids
