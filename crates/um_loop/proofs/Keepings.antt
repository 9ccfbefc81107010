-- What becomes of a node in hand keeps that the nodes of the tree speak of rows and columns that the deck has, and how many numbers are counted.
use Rattle.std.proofs.Common.{◌≡◌, ℕ, ◌+◌, ◌<◌, length, inl, inr, Option, Some, None, refl, sym, subst}
use Rattle.std.specs.Prelude.{option_map, Result, IfOk}
use Rattle.um_num.specs.declared.Memory.{Memory}
use Rattle.um_multipliers.specs.PlainMultipliers.{MultipliersValue, plain_multipliers}
use Rattle.um_model.specs.Values.{DeckValue, PointValue, plain_point}
use Rattle.um_model.specs.Boxes.{BoxValue}
use Rattle.um_model.specs.Branches.{left, right}
use Rattle.um_model.specs.AnswerValues.{NodeValue, WhatValue, Split, Bounded, Empty, Void, OpenLeaf}
use Rattle.um_model.specs.Checkable.{IsCheckableWhat}
use Rattle.um_model.specs.declared.answer.Why.{Why}
use Rattle.um_model.specs.declared.branch.Branch.{Branch}
use Rattle.um_model.specs.declared.tree.Solved.{Solved}
use Rattle.um_laws.specs.Rational.{Rational}
use Rattle.um_nodes.specs.declared.open_nodes.Key.{Key}
use Rattle.um_nodes.specs.declared.open_nodes.OpenNode.{OpenNode}
use Rattle.um_solving.specs.declared.node.NodeEnd.{NodeEnd}
use Rattle.um_solving.specs.declared.node.NodeEnd.TheVariants as end
use Rattle.um_children.specs.NewChildren.{IsNewWhat}
use Rattle.um_loop.specs.declared.search.Search.{Search}
use Rattle.um_loop.specs.declared.search.Halt.{Halt}
use Rattle.um_loop.specs.declared.search.Ending.{Ending}
use Rattle.um_loop.specs.declared.search.Ending.TheVariants as ending
use Rattle.um_loop.specs.Checkables.{AreCheckable}
use Rattle.um_loop.specs.Steps.{HasClosed, HasBranched, VertexLed, VertexSettled, StoppedWith, EndSays, HasSettled, with_best}
use Rattle.um_loop.proofs.Checkables.{checkable_on, checkable_parted}
use Rattle.um_loop.proofs.Results.{ok_map}
use Rattle.um_loop.proofs.Rising.{Rises, none_rises}

-- the nodes of the second search can be checked, and it counts as many numbers as the first
abbrev pub Keeps : DeckValue → Search → Search → Type 0
Keeps d before after = AreCheckable d after.growth × (after.solved ≡ before.solved)

-- a new child can be checked
new_checkable : (d : DeckValue) (b : BoxValue) (w : WhatValue) → IsNewWhat d b w → IsCheckableWhat d w
new_checkable d b (Split branch) h = absurd h
new_checkable d b (Bounded y) h = absurd h
new_checkable d b (Empty y) h = absurd h
new_checkable d b (Void column) h = h.inside
new_checkable d b (OpenLeaf y) h = none_rises d y h

pub closed_keeps : (d : DeckValue) (before : Search) (id : ℕ) (solved : Option Solved) (y : MultipliersValue) (bound : Rational) (after : Search) → Rises d y → AreCheckable d before.growth → HasClosed before id solved y bound after → Keeps d before after
closed_keeps d before id solved y bound after rises all c =
    let node : NodeValue = record { solved = solved; what = Bounded y } in
    subst (Keeps d before) (sym c.after_is) (checkable_on d before.growth id node rises all, refl)

branched_keeps : (d : DeckValue) (b : BoxValue) (before : Search) (id depth : ℕ) (solved : Solved) (branch : Branch) (y : MultipliersValue) (after : Search) → id < length before.growth.nodes → AreCheckable d before.growth → HasBranched d b before id depth solved branch y after → Keeps d before after
branched_keeps d b before id depth solved branch y after inside all c =
    let first = new_checkable d (left d b branch) c.first.what c.first_new in
    let second = new_checkable d (right d b branch) c.second.what c.second_new in
    subst (Keeps d before) (sym c.after_is) (checkable_parted d before.growth id (Some solved) branch c.first c.second inside first second all, refl)

led_keeps : (d : DeckValue) (b : BoxValue) (before : Search) (taken : OpenNode) (solved : Solved) (asked : Option Branch) (y : MultipliersValue) (k : Key) (halt : Option Halt) (after : Search) → taken.node < length before.growth.nodes → Rises d y → AreCheckable d before.growth → VertexLed d b before taken solved asked y k halt after → Keeps d before after
led_keeps d b before taken solved asked y k None after inside rises all (inl c) = closed_keeps d before taken.node (Some solved) y c.bound after rises all c.closed
led_keeps d b before taken solved asked y k None after inside rises all (inr c) = branched_keeps d b before taken.node (taken.key.depth + 1) solved c.branch y after inside all c.branched
led_keeps d b before taken solved asked y k (Some halt) after inside rises all c = subst (Keeps d before) (sym c.same) (all, refl)

stopped_keeps : (d : DeckValue) (b : BoxValue) (before : Search) (taken : OpenNode) (solved : Solved) (cause : Why) (own : Option MultipliersValue) (led : Option Ending) (after : Search) → AreCheckable d before.growth → StoppedWith d b before taken solved cause own led after → Keeps d before after
stopped_keeps d b before taken solved cause own None after all c = absurd c
stopped_keeps d b before taken solved cause own (Some (ending.Halted halt)) after all c = subst (Keeps d before) (sym c.1) (all, refl)
stopped_keeps d b before taken solved cause own (Some (ending.Found point)) after all c = absurd c

vertex_keeps : (d : DeckValue) (b : BoxValue) (before : Search) (taken : OpenNode) (solved : Solved) (p : PointValue) (y : MultipliersValue) (led : Option Ending) (after : Search) → taken.node < length before.growth.nodes → Rises d y → AreCheckable d before.growth → VertexSettled d b before taken solved p y led after → Keeps d before after
vertex_keeps d b before taken solved p y None after inside rises all n = let c = n.led in led_keeps d b (with_best before c.best) taken solved c.asked y c.key None after inside rises all c.led
vertex_keeps d b before taken solved p y (Some (ending.Halted halt)) after inside rises all n = let c = n.led in led_keeps d b (with_best before c.best) taken solved c.asked y c.key (Some halt) after inside rises all c.led
vertex_keeps d b before taken solved p y (Some (ending.Found point)) after inside rises all f = subst (Keeps d before) (sym f.after_is) (all, refl)

-- however the node ended
settled_keeps : (d : DeckValue) (b : BoxValue) (before : Search) (taken : OpenNode) (solved : Solved) (e : NodeEnd) (led : Option Ending) (after : Search) → taken.node < length before.growth.nodes → EndSays d b before.ray e → AreCheckable d before.growth → HasSettled d b before taken solved e led after → Keeps d before after
settled_keeps d b before taken solved (end.Vertex point y) led after inside says all c = vertex_keeps d b before taken solved (plain_point point) (plain_multipliers y) led after inside says.0.says.rising all c
settled_keeps d b before taken solved (end.Empty y) led after inside says all c =
    let node : NodeValue = record { solved = Some solved; what = Empty (plain_multipliers y) } in
    subst (Keeps d before) (sym c.1) (checkable_on d before.growth taken.node node says.1.rising all, refl)
settled_keeps d b before taken solved (end.Stopped cause own) led after inside says all c = stopped_keeps d b before taken solved cause (option_map plain_multipliers own) led after all c

pub all_keep : (d : DeckValue) (b : BoxValue) (before : Search) (taken : OpenNode) (solved : Solved) (e : NodeEnd) (r : Result (Option Ending) Memory) (after : Search) → taken.node < length before.growth.nodes → EndSays d b before.ray e → AreCheckable d before.growth → IfOk r (λ led. HasSettled d b before taken solved e led after) → IfOk r (λ led. Keeps d before after)
all_keep d b before taken solved e r after inside says all c = ok_map (λ (led : Option Ending). HasSettled d b before taken solved e led after) (λ (led : Option Ending). Keeps d before after) r (λ led h. settled_keeps d b before taken solved e led after inside says all h) c
