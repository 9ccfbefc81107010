-- Which answers have a text for a deck.
use Rattle.std.specs.Prelude.{◌≡◌, ℕ, ◌<◌, ◌≤◌, ◌^◌, true, ℤ, pos, ◌≤ℤ◌, List, length, All, Option, Some, None, IfSome, ⊤}
use Rattle.std.specs.List.{list_all}
use Rattle.um_laws.specs.Rational.{Rational}
use Rattle.um_num.specs.Numbers.{IsInRange}
use Rattle.um_num.specs.declared.exact.Wide.{Wide}
use Rattle.um_multipliers.specs.NormalForm.{HasRisingRows, IsNormal}
use Rattle.um_multipliers.specs.PlainMultipliers.{MultipliersValue}
use Rattle.um_multipliers.specs.declared.multipliers.Price.{Price}
use Rattle.um_model.specs.Values.{DeckValue, PointValue}
use Rattle.um_model.specs.declared.answer.Why.{Why}
use Rattle.um_model.specs.declared.answer.Why.TheVariants as why
use Rattle.um_model.specs.declared.branch.Branch.{Branch}
use Rattle.um_model.specs.declared.branch.Branch.TheVariants as branch
use Rattle.um_model.specs.declared.tree.Solved.{Solved}
use Rattle.um_model.specs.AnswerValues.{AnswerValue, NodeValue, WhatValue, Split, Bounded, Empty, Void, OpenLeaf}
use Rattle.um_model.specs.declared.limits.TheConstants.{MOST_NODES}
use Rattle.um_treetext.specs.Words.{is_short}
use Rattle.um_treetext.specs.FrontLines.{is_name_byte}

-- the deck's name is one word, and its counts are numbers
pub record IsNamed (d : DeckValue) : Type 0 where
  pub name : list_all is_name_byte d.name ≡ true
  pub rows : length d.rows < 2 ^ 127
  pub columns : length d.columns < 2 ^ 127
  pub sets : length d.sets < 2 ^ 127
  pub arcs : length d.arcs < 2 ^ 127

-- ---- the answer's parts

-- the number of a node, a step, and the numbers of an operation
pub record IsStep (node count : ℕ) (wide : Wide) : Type 0 where
  pub number : node < 2 ^ 32
  pub step : count < 2 ^ 64
  pub left : IsInRange wide.left
  pub right : IsInRange wide.right

abbrev pub IsWritableWhy : Why → Type 0
IsWritableWhy (why.Points column) = column < 2 ^ 32
IsWritableWhy (why.Grid number) = number < 2 ^ 32
IsWritableWhy (why.Pivot number step wide) = IsStep number step wide
IsWritableWhy (why.Value number step wide) = IsStep number step wide
IsWritableWhy (why.Leaf number) = number < 2 ^ 32
IsWritableWhy (why.Vertex number) = number < 2 ^ 32
IsWritableWhy other = ⊤

pub record IsWritableFraction (x : Rational) : Type 0 where
  pub num : IsInRange x.num
  pub den : x.den < 2 ^ 127

-- a part in range for each column
pub record AreParts (d : DeckValue) (parts : List ℤ) : Type 0 where
  pub count : length parts ≡ length d.columns
  pub range : All IsInRange parts

pub record IsWritablePoint (d : DeckValue) (p : PointValue) : Type 0 where
  pub den : pos 1 ≤ℤ p.den
  pub range : IsInRange p.den
  pub parts : AreParts d p.parts

-- a ray is there only where the deck has a column
pub record IsWritableRay (d : DeckValue) (ray : List ℤ) : Type 0 where
  pub some : 0 < length d.columns
  pub parts : AreParts d ray

-- ---- nodes

pub record IsWritableSolved (s : Solved) : Type 0 where
  pub number : s.number < 2 ^ 32
  pub pivots : s.pivots < 2 ^ 64

pub record IsWritablePrice (p : Price) : Type 0 where
  pub row : p.row < 2 ^ 32
  pub value : IsInRange p.value

-- the first number is from 0 on, the rows rise and are of the deck, and no other number is 0
pub record IsWritableList (d : DeckValue) (y : MultipliersValue) : Type 0 where
  pub first : pos 0 ≤ℤ y.y0
  pub range : IsInRange y.y0
  pub rows : HasRisingRows (length d.rows) y.rows
  pub normal : IsNormal y.rows
  pub prices : All IsWritablePrice y.rows

pub record IsWritableEmpty (d : DeckValue) (y : MultipliersValue) : Type 0 where
  pub multipliers : IsWritableList d y
  pub zero : y.y0 ≡ pos 0

-- an index, and a number of 64 bits
pub record IsCutAt (place : ℕ) (end : ℤ) : Type 0 where
  pub index : place < 2 ^ 32
  pub at : is_short end ≡ true

abbrev pub IsWritableBranch : Branch → Type 0
IsWritableBranch (branch.Int column below) = IsCutAt column below
IsWritableBranch (branch.Cut column at) = IsCutAt column at
IsWritableBranch (branch.Semi column) = column < 2 ^ 32
IsWritableBranch (branch.One set at) = (set < 2 ^ 32) × (at < 2 ^ 32)
IsWritableBranch (branch.Two set at) = (set < 2 ^ 32) × (at < 2 ^ 32)

abbrev pub IsWritableWhat : DeckValue → WhatValue → Type 0
IsWritableWhat d (Split b) = IsWritableBranch b
IsWritableWhat d (Bounded y) = IsWritableList d y
IsWritableWhat d (Empty y) = IsWritableEmpty d y
IsWritableWhat d (Void column) = (column < 2 ^ 32) × (column < length d.columns)
IsWritableWhat d (OpenLeaf y) = IsWritableList d y

pub record IsWritableNode (d : DeckValue) (n : NodeValue) : Type 0 where
  pub solved : IfSome n.solved IsWritableSolved
  pub what : IsWritableWhat d n.what

-- ---- the answer

pub record IsWritable (d : DeckValue) (a : AnswerValue) : Type 0 where
  pub deck : IsNamed d
  pub low : pos 0 ≤ℤ a.tolerance
  pub short : is_short a.tolerance ≡ true
  pub why : IfSome a.why IsWritableWhy
  pub objective : IfSome a.objective IsWritableFraction
  pub bound : IfSome a.bound IsWritableFraction
  pub point : IfSome a.point (IsWritablePoint d)
  pub ray : IfSome a.ray (IsWritableRay d)
  pub count : length a.tree ≤ MOST_NODES
  pub nodes : All (IsWritableNode d) a.tree
