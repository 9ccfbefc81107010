-- The verdict on an answer, by what was found before the tree and by the tree.
use Rattle.std.proofs.Common.{◌≢◌, List, [], ◌∷◌, map, Some, None, refl, inl}
use Rattle.std.specs.Prelude.{All}
use Rattle.std.proofs.lemmas.List.Elements.{All-nil, All-cons, All-head, All-tail}
use Rattle.um_model.specs.Values.{DeckValue}
use Rattle.um_model.specs.AnswerValues.{AnswerValue, NodeValue, plain_node, plain_what}
use Rattle.um_model.specs.Boxes.{root}
use Rattle.um_model.specs.Checkable.{IsCheckableWhat}
use Rattle.um_model.specs.Accepted.{NodesVerdict, TreeVerdict, IsVerdict, by_answer}
use Rattle.um_model.specs.declared.answer.AnswerKind.{AnswerKind}
use Rattle.um_model.specs.declared.answer.AnswerKind.TheVariants.{Optimal, Infeasible as HasNone, Unbounded, Limit, Overflow}
use Rattle.um_model.specs.declared.tree.Node.{Node}
use Rattle.um_model.specs.declared.verdict.Reason.{Reason}
use Rattle.um_model.specs.declared.verdict.Verdict.{Verdict}
use Rattle.um_model.specs.declared.verdict.Verdict.TheVariants.{Yes}
use Rattle.um_check.specs.Judging.{BeforeTree, FromBound}
use Rattle.um_check.proofs.NodeSteps.{passes, no_yes, on_left}

-- ---- the kinds of answers

-- but for an unbounded answer the tree decides
tree_of_kind : (d : DeckValue) (a : AnswerValue) (v : Verdict) (k : AnswerKind) → k ≢ Unbounded → NodesVerdict d a (root d ∷ []) 0 a.tree (FromBound d a) v → TreeVerdict k d a v
tree_of_kind d a v Optimal other h = h
tree_of_kind d a v HasNone other h = h
tree_of_kind d a v Unbounded other h = absurd (other refl)
tree_of_kind d a v Limit other h = h
tree_of_kind d a v Overflow other h = h

-- nothing is left to look at in an unbounded one
no_tree : (d : DeckValue) (a : AnswerValue) (k : AnswerKind) → ¬ (k ≢ Unbounded) → TreeVerdict k d a Yes
no_tree d a Optimal other = absurd (other (λ e. cc))
no_tree d a HasNone other = absurd (other (λ e. cc))
no_tree d a Unbounded other = refl
no_tree d a Limit other = absurd (other (λ e. cc))
no_tree d a Overflow other = absurd (other (λ e. cc))

-- ---- the whole answer

pub before_stops : (d : DeckValue) (a : AnswerValue) (why : Reason) → BeforeTree d a (Some why) → IsVerdict d a (by_answer why)
before_stops d a why h =
    on_left h (λ p. (p.0, on_left p.1 (λ q. (q.0, on_left q.1 (λ r. (r.0, on_left r.1 (λ s. (s.0, on_left s.1 (λ t. (t.0, on_left t.1 (λ u. (u.0, absurd (no_yes u.1)))))))))))))

from_tree : (d : DeckValue) (a : AnswerValue) (v : Verdict) → BeforeTree d a None → TreeVerdict a.kind d a v → IsVerdict d a v
from_tree d a v h tree =
    let tolerance = passes h in
    let fields = passes tolerance.1 in
    let small = passes fields.1 in
    let point = passes small.1 in
    let objective = passes point.1 in
    let ray = passes objective.1 in
    inl (tolerance.0, inl (fields.0, inl (small.0, inl (point.0, inl (objective.0, inl (ray.0, tree))))))

pub tree_decides : (d : DeckValue) (a : AnswerValue) (v : Verdict) → BeforeTree d a None → a.kind ≢ Unbounded → NodesVerdict d a (root d ∷ []) 0 a.tree (FromBound d a) v → IsVerdict d a v
tree_decides d a v h kind nodes = from_tree d a v h (tree_of_kind d a v a.kind kind nodes)

pub ray_decides : (d : DeckValue) (a : AnswerValue) → BeforeTree d a None → ¬ (a.kind ≢ Unbounded) → IsVerdict d a Yes
ray_decides d a h kind = from_tree d a Yes h (no_tree d a a.kind kind)

pub nodes_checkable : (d : DeckValue) (ns : List Node) → All (λ (n : NodeValue). IsCheckableWhat d n.what) (map plain_node ns) → All (λ (n : Node). IsCheckableWhat d (plain_what n.what)) ns
nodes_checkable d [] h = All-nil (λ (n : Node). IsCheckableWhat d (plain_what n.what))
nodes_checkable d (n ∷ ns) h =
    All-cons (λ (m : Node). IsCheckableWhat d (plain_what m.what)) n ns (All-head (λ (m : NodeValue). IsCheckableWhat d m.what) (plain_node n) (map plain_node ns) h)
    (nodes_checkable d ns (All-tail (λ (m : NodeValue). IsCheckableWhat d m.what) (plain_node n) (map plain_node ns) h))
