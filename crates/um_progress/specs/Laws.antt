-- How a search begins, what each act keeps of it, and the answers that follow. Here nothing more is told of a number than
-- its node and its pivots; the lemmas hold for whatever is told.
use Rattle.std.specs.Prelude.{◌≡◌, ◌≢◌, ℕ, suc, ◌+◌, ◌<◌, ◌≤◌, ℤ, pos, ◌<ℤ◌, Bool, true, false, List, [], ◌∷◌, ◌++◌, length, Option, Some, None}
use Rattle.um_laws.specs.Rational.{Rational}
use Rattle.um_multipliers.specs.PlainMultipliers.{MultipliersValue, plain_multipliers}
use Rattle.um_model.specs.Values.{DeckValue}
use Rattle.um_model.specs.Boxes.{BoxValue, root}
use Rattle.um_model.specs.Branches.{Fits, left, right}
use Rattle.um_model.specs.LeafValue.{leaf_value, leaf_bound}
use Rattle.um_model.specs.Accepted.{ToleranceHolds, IsAccepted, bound_in}
use Rattle.um_model.specs.AnswerValues.{NodeValue, OpenLeaf, kind_of_stop}
use Rattle.um_model.specs.declared.answer.AnswerKind.{AnswerKind}
use Rattle.um_model.specs.declared.answer.Why.{Why}
use Rattle.um_model.specs.declared.branch.Branch.{Branch}
use Rattle.um_model.specs.declared.leaf.Leaf.{Leaf}
use Rattle.um_model.specs.declared.tree.Solved.{Solved}
use Rattle.um_model.specs.declared.limits.TheConstants.{MOST_NODES, MOST_NUMBERS}
use Rattle.um_tree.specs.Growths.{GrowthValue, IsGrowth, IsLeaf, IsTold, parted, settled}
use Rattle.um_cover.specs.Sites.{box_at}
use Rattle.um_cover.specs.Nodes.{NodeIs, OpenIs, IsImproved}
use Rattle.um_nodes.specs.Keys.{IsKey}
use Rattle.um_nodes.specs.Taking.{IsTaken}
use Rattle.um_nodes.specs.declared.open_nodes.Key.{Key}
use Rattle.um_nodes.specs.declared.open_nodes.OpenNode.{OpenNode}
use Rattle.um_progress.specs.declared.incumbent.Incumbent.{Incumbent}
use Rattle.um_progress.specs.Waits.{IsFresh, KeyIs, WaitsIn}
use Rattle.um_progress.specs.Numbers.{Number, IsNumbered, IsNext}
use Rattle.um_progress.specs.Searches.{IsSearch, IsIncumbent, IsBounded, IsEntryOf, ChildIs, Settles, IsLesser}
use Rattle.um_progress.specs.Incumbents.{objective_of}
use Rattle.um_progress.specs.Stops.{Counts, IsStopping, bound_of}
use Rattle.um_progress.specs.Ends.{rooted, optimal, infeasible, stopped}
use Rattle.um_progress.specs.Lineage.{number_of, NumbersRise, IsLineage}

-- a history in which nothing more is told
abbrev pub PlainHistory : Type 0
PlainHistory = List (Number (Unit {0}))

-- ---- the acts

-- The root alone, which waits with multipliers that bound its box, is a search.
abbrev pub BeginningLaw : Type 0
BeginningLaw = (d : DeckValue) (t : ℤ) (y : MultipliersValue) (w : OpenNode) → OpenIs d (root d) y → IsEntryOf d (root d) 0 w → IsSearch (Unit {0}) d t [] None (rooted y) (w ∷ []) None None

-- The node that comes first is taken: it is in hand then, and what was known of it as one that waits still holds.
abbrev pub TakingLaw : Type 0
TakingLaw =
    (d : DeckValue) (t : ℤ) (history : PlainHistory) (g : GrowthValue) (incumbent : Option Incumbent) (least : Option Rational) (before after : List OpenNode) (w : OpenNode) → IsTaken before w after
    → IsSearch (Unit {0}) d t history None g before incumbent least → IsSearch (Unit {0}) d t history (Some w.node) g after incumbent least × WaitsIn d g w

-- The node in hand is put back behind those that wait.
abbrev pub PuttingBackLaw : Type 0
PuttingBackLaw =
    (d : DeckValue) (t : ℤ) (history : PlainHistory) (g : GrowthValue) (incumbent : Option Incumbent) (least : Option Rational) (ws : List OpenNode) (w : OpenNode) → WaitsIn d g w
    → IsSearch (Unit {0}) d t history (Some w.node) g ws incumbent least → IsSearch (Unit {0}) d t history None g (ws ++ w ∷ []) incumbent least

-- The node in hand becomes a leaf that is not open, with the next number or without one.
abbrev pub SettlingLaw : Type 0
SettlingLaw =
    (d : DeckValue) (t : ℤ) (history history' : PlainHistory) (id : ℕ) (g : GrowthValue) (ws : List OpenNode) (incumbent : Option Incumbent) (least least' : Option Rational) (node : NodeValue)
    → IsSearch (Unit {0}) d t history (Some id) g ws incumbent least → NodeIs d (objective_of incumbent) t (box_at d g id) node.what
    → Settles d (box_at d g id) node.what least least' → IsNext history id node.solved history'
    → IsSearch (Unit {0}) d t history' None (settled g id node) ws incumbent least'

-- The node in hand becomes a split with the next number, and its open children wait behind the others.
abbrev pub PartingLaw : Type 0
PartingLaw =
    (d : DeckValue) (t : ℤ) (history : PlainHistory) (id : ℕ) (g : GrowthValue) (ws : List OpenNode) (incumbent : Option Incumbent) (least : Option Rational) (n : Number (Unit {0})) (branch : Branch) (l r : NodeValue) (more_left more_right : List OpenNode)
    → IsSearch (Unit {0}) d t history (Some id) g ws incumbent least → n.id ≡ id → length history < MOST_NUMBERS → Fits d (box_at d g id) branch
    → ChildIs d (objective_of incumbent) t (left d (box_at d g id) branch) (length g.nodes) l more_left
    → ChildIs d (objective_of incumbent) t (right d (box_at d g id) branch) (suc (length g.nodes)) r more_right
    → IsSearch (Unit {0}) d t (history ++ n ∷ []) None (parted g id (Some (record { number = suc (length history); pivots = n.pivots })) branch l r) ((ws ++ more_left) ++ more_right) incumbent least

-- With fewer than 100,000 numbers the tree has room for two nodes more.
abbrev pub RoomLaw : Type 0
RoomLaw =
    (d : DeckValue) (t : ℤ) (history : PlainHistory) (hand : Option ℕ) (g : GrowthValue) (ws : List OpenNode) (incumbent : Option Incumbent) (least : Option Rational)
    → IsSearch (Unit {0}) d t history hand g ws incumbent least → length history < MOST_NUMBERS → length g.nodes + 2 ≤ MOST_NODES

-- A better point is found.
abbrev pub ImprovingLaw : Type 0
ImprovingLaw =
    (d : DeckValue) (t : ℤ) (history : PlainHistory) (hand : Option ℕ) (g : GrowthValue) (ws : List OpenNode) (old : Option Incumbent) (new : Incumbent) (least : Option Rational)
    → IsIncumbent d new → IsImproved (objective_of old) (Some new.objective) → IsSearch (Unit {0}) d t history hand g ws old least → IsSearch (Unit {0}) d t history hand g ws (Some new) least

-- What waits has a key in order.
abbrev pub WaitingKeyLaw : Type 0
WaitingKeyLaw = (d : DeckValue) (g : GrowthValue) (w : OpenNode) → WaitsIn d g w → IsKey w.key

-- The entry of an open child has a key in order.
abbrev pub EntryKeyLaw : Type 0
EntryKeyLaw = (d : DeckValue) (b : BoxValue) (id : ℕ) (w : OpenNode) → IsEntryOf d b id w → IsKey w.key

-- ---- the end where nothing waits

-- With a point and a least bound the answer Optimal is accepted.
abbrev pub OptimalLaw : Type 0
OptimalLaw =
    (d : DeckValue) (t : ℤ) (history : PlainHistory) (g : GrowthValue) (i : Incumbent) (x : Rational) (tree : List NodeValue)
    → IsSearch (Unit {0}) d t history None g [] (Some i) (Some x) → ToleranceHolds d t → IsTold g tree → IsAccepted d (optimal t i x tree)

-- Without a point the answer Infeasible is accepted.
abbrev pub InfeasibleLaw : Type 0
InfeasibleLaw =
    (d : DeckValue) (t : ℤ) (history : PlainHistory) (g : GrowthValue) (least : Option Rational) (tree : List NodeValue)
    → IsSearch (Unit {0}) d t history None g [] None least → ToleranceHolds d t → IsTold g tree → IsAccepted d (infeasible t tree)

-- ---- the end of a search that stopped

-- It stops with no node in hand.
abbrev pub StoppingLaw : Type 0
StoppingLaw =
    (d : DeckValue) (t : ℤ) (history : PlainHistory) (g : GrowthValue) (ws : List OpenNode) (incumbent : Option Incumbent) (least : Option Rational)
    → IsSearch (Unit {0}) d t history None g ws incumbent least → IsStopping (Unit {0}) d t history g ws incumbent false least

-- It stops with a node in hand, which becomes an open leaf with multipliers that bound its box, with the next number or without one.
abbrev pub StoppingInHandLaw : Type 0
StoppingInHandLaw =
    (d : DeckValue) (t : ℤ) (history history' : PlainHistory) (id : ℕ) (g : GrowthValue) (ws : List OpenNode) (incumbent : Option Incumbent) (least least' : Option Rational) (endless : Bool) (solved : Option Solved) (y : MultipliersValue)
    → IsSearch (Unit {0}) d t history (Some id) g ws incumbent least → OpenIs d (box_at d g id) y
    → Counts false least (bound_in d y.y0 (leaf_value d (box_at d g id) y)) endless least' → IsNext history id solved history'
    → IsStopping (Unit {0}) d t history' (settled g id (record { solved = solved; what = OpenLeaf y })) ws incumbent endless least'

-- The last of those that wait becomes an open leaf with the multipliers that it was handed.
abbrev pub DrainingLaw : Type 0
DrainingLaw =
    (d : DeckValue) (t : ℤ) (history : PlainHistory) (g : GrowthValue) (ws : List OpenNode) (w : OpenNode) (incumbent : Option Incumbent) (endless endless' : Bool) (least least' : Option Rational)
    → IsStopping (Unit {0}) d t history g (ws ++ w ∷ []) incumbent endless least
    → Counts endless least (bound_in d w.y.y0 (leaf_value d (box_at d g w.node) (plain_multipliers w.y))) endless' least'
    → IsStopping (Unit {0}) d t history (settled g w.node (record { solved = None; what = OpenLeaf (plain_multipliers w.y) })) ws incumbent endless' least'

-- Where nothing waits any more the answer Limit or Overflow, by its cause, is accepted.
abbrev pub StoppedLaw : Type 0
StoppedLaw =
    (d : DeckValue) (t : ℤ) (history : PlainHistory) (g : GrowthValue) (incumbent : Option Incumbent) (endless : Bool) (least : Option Rational) (kind : AnswerKind) (why : Why) (tree : List NodeValue)
    → IsStopping (Unit {0}) d t history g [] incumbent endless least → ToleranceHolds d t → kind ≡ kind_of_stop why → IsTold g tree → IsAccepted d (stopped kind why t incumbent (bound_of endless least) tree)

-- A key without a bound makes the bounds endless, as the multipliers do that it goes with.
abbrev pub EndlessCountLaw : Type 0
EndlessCountLaw = (d : DeckValue) (leaf : Leaf) (y0 : ℤ) (k : Key) (endless : Bool) (least : Option Rational) → KeyIs leaf y0 k → pos 0 <ℤ y0 → k.y0 ≡ pos 0 → Counts endless least (bound_in d y0 leaf) true least

-- A key with a bound counts by it, as the multipliers do that it goes with.
abbrev pub BoundCountLaw : Type 0
BoundCountLaw =
    (d : DeckValue) (leaf : Leaf) (y0 : ℤ) (k : Key) (endless : Bool) (least least' : Option Rational) → KeyIs leaf y0 k → k.y0 ≢ pos 0 → IsLesser least (leaf_bound d k.y0 k.value) least'
    → Counts endless least (bound_in d y0 leaf) endless least'

-- ---- numbers rise from parents to children

-- A leaf keeps it, with the next number or without one.
abbrev pub SettlingLineageLaw : Type 0
SettlingLineageLaw =
    (d : DeckValue) (g : GrowthValue) (history : PlainHistory) (id : ℕ) (node : NodeValue) → IsGrowth g → IsNumbered (Unit {0}) g history → IsFresh g id → IsLeaf node.what → ((n : ℕ) → number_of node ≡ Some n → n ≡ suc (length history))
    → IsLineage g → IsLineage (settled g id node)

-- A split with the next number keeps it.
abbrev pub PartingLineageLaw : Type 0
PartingLineageLaw =
    (d : DeckValue) (g : GrowthValue) (history : PlainHistory) (id pivots : ℕ) (branch : Branch) (l r : NodeValue) → IsGrowth g → IsNumbered (Unit {0}) g history → IsFresh g id
    → l.solved ≡ None → r.solved ≡ None → IsLeaf l.what → IsLeaf r.what → ¬ IsBounded l.what → ¬ IsBounded r.what
    → IsLineage g → IsLineage (parted g id (Some (record { number = suc (length history); pivots = pivots })) branch l r)

-- The list that the tree tells has it, too.
abbrev pub RisingLaw : Type 0
RisingLaw = (g : GrowthValue) (tree : List NodeValue) → IsGrowth g → IsLineage g → IsTold g tree → NumbersRise tree
