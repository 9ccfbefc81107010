-- Numbers rise from parents to children: of a growing tree by id, and of a list of nodes in preorder.
use Rattle.std.specs.Prelude.{◌≡◌, ℕ, ◌<◌, List, length, All, Option, Some, None, IsSome, IfSome, option_map}
use Rattle.std.specs.Option.{ForSome}
use Rattle.um_model.specs.declared.branch.Branch.{Branch}
use Rattle.um_model.specs.AnswerValues.{NodeValue, Split}
use Rattle.um_model.specs.declared.tree.Solved.{Solved}
use Rattle.um_tree.specs.declared.growing.Origin.{Origin}
use Rattle.um_tree.specs.Growths.{GrowthValue, origin_at, node_at, what_at}
use Rattle.um_cover.specs.Handing.{Handing, Site, sites_of}

-- the number of a node that was solved
abbrev pub number_of : NodeValue → Option ℕ
number_of n = option_map (λ (s : Solved). s.number) n.solved

-- ---- of a list in preorder, for the reader

-- each node is handed its parent's number
abbrev pub parent_numbers : Handing (Option ℕ)
parent_numbers = record { first = None; child = λ has n branch side. number_of n }

-- the number of a node, if it has one, is above that of its parent, if that has one
abbrev pub IsAboveParent : Site (Option ℕ) → Type 0
IsAboveParent s = ForSome (number_of s.node) (λ n. IfSome s.has (λ p. p < n))

-- so it is of each node of the list
abbrev pub NumbersRise : List NodeValue → Type 0
NumbersRise ns = All IsAboveParent (sites_of parent_numbers ns)

-- ---- of a growing tree by id, for the loop

-- each split has a number, and a node's number is above that of its parent
pub record IsLineage (g : GrowthValue) : Type 0 where
  pub splits : (id : ℕ) (branch : Branch) → id < length g.nodes → what_at g id ≡ Split branch → IsSome (number_of (node_at g id))
  pub above : (id : ℕ) (o : Origin) (p n : ℕ) → id < length g.nodes → origin_at g id ≡ Some o → number_of (node_at g o.parent) ≡ Some p → number_of (node_at g id) ≡ Some n → p < n
