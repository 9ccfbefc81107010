-- What the parts of a new child are.
use Rattle.std.proofs.Common.{◌≡◌, ℕ, pos, List, [], ◌∷◌, Option, Some, None, subst}
use Rattle.std.specs.Prelude.{IfSome}
use Rattle.um_multipliers.specs.PlainMultipliers.{MultipliersValue, plain_multipliers}
use Rattle.um_model.specs.Values.{DeckValue}
use Rattle.um_model.specs.Boxes.{BoxValue}
use Rattle.um_model.specs.AnswerValues.{NodeValue, WhatValue, Split, Bounded, Empty, Void, OpenLeaf, plain_node}
use Rattle.um_tree.specs.Growths.{IsLeaf}
use Rattle.um_nodes.specs.Keys.{IsKey}
use Rattle.um_nodes.specs.declared.open_nodes.OpenNode.{OpenNode}
use Rattle.um_progress.specs.Waits.{Every}
use Rattle.um_progress.specs.Searches.{ChildWaits}
use Rattle.um_progress.proofs.KeyBounds.{entry_key}
use Rattle.um_turns.specs.NextTurns.{AreUnder}
use Rattle.um_turns.proofs.Lists.{every_map}
use Rattle.um_children.specs.declared.children.Child.{Child}
use Rattle.um_children.specs.NewChildren.{IsChild, IsEntryUnder, IsNewWhat, IsNewNode, entries_of}

-- its node is a leaf
new_what : (d : DeckValue) (b : BoxValue) (w : WhatValue) → IsNewWhat d b w → IsLeaf w
new_what d b (Split branch) h = absurd h
new_what d b (Bounded y) h = tt
new_what d b (Empty y) h = tt
new_what d b (Void column) h = tt
new_what d b (OpenLeaf y) h = tt

pub new_leaf : (d : DeckValue) (b : BoxValue) (n : NodeValue) → IsNewNode d b n → IsLeaf n.what
new_leaf d b n h = new_what d b n.what h

-- its entry, if it has one, has a key in order
one_key : (d : DeckValue) (b : BoxValue) (id : ℕ) (w : WhatValue) (v : OpenNode) → ChildWaits d b id w (v ∷ []) → IsKey v.key
one_key d b id (Split branch) v c = absurd c
one_key d b id (Bounded y) v c = absurd c
one_key d b id (Empty y) v c = absurd c
one_key d b id (Void column) v c = absurd (cc)
one_key d b id (OpenLeaf y) v c = let same : c.0 ≡ v = cc in subst (λ (x : OpenNode). IsKey x.key) same (entry_key d b id c.0 c.2)

key_of_entry : (d : DeckValue) (b : BoxValue) (id : ℕ) (w : WhatValue) (entry : Option OpenNode) → ChildWaits d b id w (entries_of entry) → IfSome entry (λ (v : OpenNode). IsKey v.key)
key_of_entry d b id w None c = tt
key_of_entry d b id w (Some v) c = one_key d b id w v c

pub child_key : (d : DeckValue) (b : BoxValue) (id : ℕ) (c : Child) → IsChild d b id c → IfSome c.entry (λ (v : OpenNode). IsKey v.key)
child_key d b id c is = let h = is None (pos 0) in key_of_entry d b id (plain_node c.node).what c.entry h.waits

-- and waits under the multipliers that it was handed, with its id and depth
pub child_handed : (id depth : ℕ) (y : MultipliersValue) (entry : Option OpenNode) → IfSome entry (IsEntryUnder id depth y) → Every (IsEntryUnder id depth y) (entries_of entry)
child_handed id depth y None h = tt
child_handed id depth y (Some w) h = (h, tt)

pub handed_under : (id depth : ℕ) (y : MultipliersValue) (more : List OpenNode) → Every (IsEntryUnder id depth y) more → AreUnder y more
handed_under id depth y more all = every_map (IsEntryUnder id depth y) (λ (w : OpenNode). plain_multipliers w.y ≡ y) more (λ w h. h.multipliers) all
