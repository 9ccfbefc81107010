use Rattle.std.proofs.Common.{◌≡◌, [], map, option_map, rules}
use Rattle.um_model.specs.AnswerValues.{plain_node}
use Rattle.um_model.specs.Values.{plain_point}
use Rattle.um_search.proofs.OpenLeaves.{hand_waits, hand_left, entry_waits, entry_left}
use Rattle.um_search.proofs.FinalAnswers.{stop_answered}
use Rattle.um_search.proofs.ends.stop.Goals as goal

pub leave_open-bounds-requires : goal.leave_open-bounds-requires
leave_open-bounds-requires g c = hand_waits c.args.deck.now c.requires.1.0 g.budget c.args.search c.args.halt c.requires.1.1.1.1.0 c.requires.1.1.1.1.1 c.requires.1.1.0

pub entries-init : goal.entries-init
entries-init g c =
    let left = c.leave_open-bounds in
    hand_left c.args.deck.now c.requires.1.0 g.budget c.args.search c.args.halt c.requires.1.1.1.1.0 c.requires.1.1.1.1.1 c.requires.1.1.0 left.new.growth left.result.endless left.result.least left.ensures.left left.ensures.counts

pub leave_open-bounds-requires-in-Some : goal.leave_open-bounds-requires-in-Some
leave_open-bounds-requires-in-Some g c = entry_waits c.args.deck.now g.budget c.args.halt.why c.args.search.incumbent c.entries.growth c.entries.open c.pop.new.self c.in-Some.entry c.entries.bounds.endless c.entries.bounds.least c.in-Some.ensures.taken c.entries.invariant

pub entries-preserved : goal.entries-preserved
entries-preserved g c =
    let left = c.leave_open-bounds-in-Some in
    entry_left c.args.deck.now g.budget c.args.halt.why c.args.search.incumbent c.entries.growth c.entries.open c.pop.new.self c.in-Some.entry c.entries.bounds.endless c.entries.bounds.least c.in-Some.ensures.taken c.entries.invariant left.new.growth left.result.endless left.result.least left.ensures.left left.ensures.counts

pub returns-clause-accepted : goal.returns-clause-accepted
returns-clause-accepted g c =
    let b = c.entries.bounds in
    let none : c.entries.open ≡ [] = search rules in
    (stop_answered c.args.deck.now c.requires.0 c.requires.1.0 g.budget c.args.halt.why c.args.search.incumbent c.entries.growth c.entries.open b.endless b.least none c.requires.1.1.1.0 c.entries.invariant (map plain_node c.in_ok-tree.tree) c.in_ok-tree.ensures c.kind.result c.parts-objective.result.0 c.bound_of_all-bound.result (option_map plain_point c.parts-objective.result.1) c.kind.ensures c.parts-objective.ensures.objective c.bound_of_all-bound.ensures c.parts-objective.ensures.point).accepted

pub returns-clause-right : goal.returns-clause-right
returns-clause-right g c =
    let b = c.entries.bounds in
    let none : c.entries.open ≡ [] = search rules in
    (stop_answered c.args.deck.now c.requires.0 c.requires.1.0 g.budget c.args.halt.why c.args.search.incumbent c.entries.growth c.entries.open b.endless b.least none c.requires.1.1.1.0 c.entries.invariant (map plain_node c.in_ok-tree.tree) c.in_ok-tree.ensures c.kind.result c.parts-objective.result.0 c.bound_of_all-bound.result (option_map plain_point c.parts-objective.result.1) c.kind.ensures c.parts-objective.ensures.objective c.bound_of_all-bound.ensures c.parts-objective.ensures.point).right

pub returns-clause-checkable : goal.returns-clause-checkable
returns-clause-checkable g c =
    let b = c.entries.bounds in
    let none : c.entries.open ≡ [] = search rules in
    (stop_answered c.args.deck.now c.requires.0 c.requires.1.0 g.budget c.args.halt.why c.args.search.incumbent c.entries.growth c.entries.open b.endless b.least none c.requires.1.1.1.0 c.entries.invariant (map plain_node c.in_ok-tree.tree) c.in_ok-tree.ensures c.kind.result c.parts-objective.result.0 c.bound_of_all-bound.result (option_map plain_point c.parts-objective.result.1) c.kind.ensures c.parts-objective.ensures.objective c.bound_of_all-bound.ensures c.parts-objective.ensures.point).checkable

pub returns-clause-tells : goal.returns-clause-tells
returns-clause-tells g c =
    let b = c.entries.bounds in
    let none : c.entries.open ≡ [] = search rules in
    (stop_answered c.args.deck.now c.requires.0 c.requires.1.0 g.budget c.args.halt.why c.args.search.incumbent c.entries.growth c.entries.open b.endless b.least none c.requires.1.1.1.0 c.entries.invariant (map plain_node c.in_ok-tree.tree) c.in_ok-tree.ensures c.kind.result c.parts-objective.result.0 c.bound_of_all-bound.result (option_map plain_point c.parts-objective.result.1) c.kind.ensures c.parts-objective.ensures.objective c.bound_of_all-bound.ensures c.parts-objective.ensures.point).tells
