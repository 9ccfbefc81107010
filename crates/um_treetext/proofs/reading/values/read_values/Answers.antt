use Rattle.std.proofs.Common.{ℕ, List, Option, refl, sym, ap, ◌∙◌, length, codes, option_map}
use Rattle.std.proofs.lemmas.List.{length-map}
use Rattle.um_laws.specs.Rational.{Rational}
use Rattle.um_model.specs.Values.{plain_point, plain_column}
use Rattle.um_model.specs.AnswerValues.{plain_ray}
use Rattle.um_treetext.specs.FrontLines.{point_line, ray_line, nodes_line}
use Rattle.um_treetext.specs.Reading.{values_read}
use Rattle.um_treetext.specs.Words.{Words, Says, fraction_or_none_said, labelled, sole}
use Rattle.um_treetext.proofs.LineSteps.{reads_fails, said_ok}
use Rattle.um_treetext.proofs.FaultSteps.{hands_on_at}
use Rattle.um_treetext.proofs.MemoryFaults.{for_whole, tells, line_missing, line_read, line_broken}
use Rattle.um_treetext.proofs.reading.values.read_values.Goals as goal

-- a fraction or `none`, behind its label
abbrev fraction_line : List ℕ → Words → Says (Option Rational)
fraction_line label = labelled label (sole fraction_or_none_said)

pub returns-in_err-next-clause-values : goal.returns-in_err-next-clause-values
unfolding values_read
returns-in_err-next-clause-values c =
    reads_fails _ c.in_err-next.field-0.0 _ _ c.from_residual.ensures.1 (rw (line_missing (fraction_line (codes "OBJECTIVE")) 5 _ c.in_err-next.field-0.0 c.in_err-next.ensures) refl)

pub returns-in_err-objective-clause-values : goal.returns-in_err-objective-clause-values
unfolding values_read
returns-in_err-objective-clause-values c =
    hands_on_at _ c.in_err-objective.field-0.0 _ _ c.from_residual-in_err-objective.ensures.1
    (for_whole (line_broken (λ x. x) (fraction_line (codes "OBJECTIVE")) 5 _ _ _ c.read_fraction.result c.at_line.result _ c.in_ok-next.ensures (tells _ _ c.read_fraction.ensures) c.at_line.ensures c.in_err-objective.was) (λ e. rw e refl))

pub returns-in_err-next-2-clause-values : goal.returns-in_err-next-2-clause-values
unfolding values_read
returns-in_err-next-2-clause-values c =
    let objective = line_read (λ x. x) (fraction_line (codes "OBJECTIVE")) 5 _ _ _ c.read_fraction.result c.at_line.result _ c.in_ok-next.ensures (tells _ _ c.read_fraction.ensures) c.at_line.ensures c.in_ok-objective.was in
    reads_fails _ c.in_err-next-2.field-0.0 _ _ c.from_residual-in_err-next-2.ensures.1 (rw (objective, line_missing (fraction_line (codes "BOUND")) 6 _ c.in_err-next-2.field-0.0 c.in_err-next-2.ensures) refl)

pub returns-in_err-bound-clause-values : goal.returns-in_err-bound-clause-values
unfolding values_read
returns-in_err-bound-clause-values c =
    let objective = line_read (λ x. x) (fraction_line (codes "OBJECTIVE")) 5 _ _ _ c.read_fraction.result c.at_line.result _ c.in_ok-next.ensures (tells _ _ c.read_fraction.ensures) c.at_line.ensures c.in_ok-objective.was in
    hands_on_at _ c.in_err-bound.field-0.0 _ _ c.from_residual-in_err-bound.ensures.1
    (for_whole (line_broken (λ x. x) (fraction_line (codes "BOUND")) 6 _ _ _ c.read_fraction-2.result c.at_line-2.result _ c.in_ok-next-2.ensures (tells _ _ c.read_fraction-2.ensures) c.at_line-2.ensures c.in_err-bound.was) (λ e. rw (objective, e) refl))

pub returns-in_err-next-3-clause-values : goal.returns-in_err-next-3-clause-values
unfolding values_read
returns-in_err-next-3-clause-values c =
    let objective = line_read (λ x. x) (fraction_line (codes "OBJECTIVE")) 5 _ _ _ c.read_fraction.result c.at_line.result _ c.in_ok-next.ensures (tells _ _ c.read_fraction.ensures) c.at_line.ensures c.in_ok-objective.was in
    let bound = line_read (λ x. x) (fraction_line (codes "BOUND")) 6 _ _ _ c.read_fraction-2.result c.at_line-2.result _ c.in_ok-next-2.ensures (tells _ _ c.read_fraction-2.ensures) c.at_line-2.ensures c.in_ok-bound.was in
    reads_fails _ c.in_err-next-3.field-0.0 _ _ c.from_residual-in_err-next-3.ensures.1 (rw (objective, bound, line_missing (point_line (length c.args.deck.now.columns)) 7 _ c.in_err-next-3.field-0.0 c.in_err-next-3.ensures) refl)

pub returns-in_err-point-clause-values : goal.returns-in_err-point-clause-values
unfolding values_read
returns-in_err-point-clause-values c =
    let columns = sym (length-map c.columns-columns.result.now plain_column) ∙ ap length c.columns-columns.ensures in
    let objective = line_read (λ x. x) (fraction_line (codes "OBJECTIVE")) 5 _ _ _ c.read_fraction.result c.at_line.result _ c.in_ok-next.ensures (tells _ _ c.read_fraction.ensures) c.at_line.ensures c.in_ok-objective.was in
    let bound = line_read (λ x. x) (fraction_line (codes "BOUND")) 6 _ _ _ c.read_fraction-2.result c.at_line-2.result _ c.in_ok-next-2.ensures (tells _ _ c.read_fraction-2.ensures) c.at_line-2.ensures c.in_ok-bound.was in
    hands_on_at _ c.in_err-point.field-0.0 _ _ c.from_residual-in_err-point.ensures.1
    (for_whole (line_broken (option_map plain_point) (point_line (length c.args.deck.now.columns)) 7 _ _ _ c.read_point.result c.at_line-3.result _ c.in_ok-next-3.ensures (rw columns at c.read_point.ensures) c.at_line-3.ensures c.in_err-point.was) (λ e. rw (objective, bound, e) refl))

pub returns-in_err-next-4-clause-values : goal.returns-in_err-next-4-clause-values
unfolding values_read
returns-in_err-next-4-clause-values c =
    let columns = sym (length-map c.columns-columns.result.now plain_column) ∙ ap length c.columns-columns.ensures in
    let objective = line_read (λ x. x) (fraction_line (codes "OBJECTIVE")) 5 _ _ _ c.read_fraction.result c.at_line.result _ c.in_ok-next.ensures (tells _ _ c.read_fraction.ensures) c.at_line.ensures c.in_ok-objective.was in
    let bound = line_read (λ x. x) (fraction_line (codes "BOUND")) 6 _ _ _ c.read_fraction-2.result c.at_line-2.result _ c.in_ok-next-2.ensures (tells _ _ c.read_fraction-2.ensures) c.at_line-2.ensures c.in_ok-bound.was in
    let point = line_read (option_map plain_point) (point_line (length c.args.deck.now.columns)) 7 _ _ _ c.read_point.result c.at_line-3.result _ c.in_ok-next-3.ensures (rw columns at c.read_point.ensures) c.at_line-3.ensures c.in_ok-point.was in
    reads_fails _ c.in_err-next-4.field-0.0 _ _ c.from_residual-in_err-next-4.ensures.1 (rw (objective, bound, point, line_missing (ray_line (length c.args.deck.now.columns)) 8 _ c.in_err-next-4.field-0.0 c.in_err-next-4.ensures) refl)

pub returns-in_err-ray-clause-values : goal.returns-in_err-ray-clause-values
unfolding values_read
returns-in_err-ray-clause-values c =
    let columns = sym (length-map c.columns-columns.result.now plain_column) ∙ ap length c.columns-columns.ensures in
    let objective = line_read (λ x. x) (fraction_line (codes "OBJECTIVE")) 5 _ _ _ c.read_fraction.result c.at_line.result _ c.in_ok-next.ensures (tells _ _ c.read_fraction.ensures) c.at_line.ensures c.in_ok-objective.was in
    let bound = line_read (λ x. x) (fraction_line (codes "BOUND")) 6 _ _ _ c.read_fraction-2.result c.at_line-2.result _ c.in_ok-next-2.ensures (tells _ _ c.read_fraction-2.ensures) c.at_line-2.ensures c.in_ok-bound.was in
    let point = line_read (option_map plain_point) (point_line (length c.args.deck.now.columns)) 7 _ _ _ c.read_point.result c.at_line-3.result _ c.in_ok-next-3.ensures (rw columns at c.read_point.ensures) c.at_line-3.ensures c.in_ok-point.was in
    hands_on_at _ c.in_err-ray.field-0.0 _ _ c.from_residual-in_err-ray.ensures.1
    (for_whole (line_broken (option_map plain_ray) (ray_line (length c.args.deck.now.columns)) 8 _ _ _ c.read_ray.result c.at_line-4.result _ c.in_ok-next-4.ensures (rw columns at c.read_ray.ensures) c.at_line-4.ensures c.in_err-ray.was) (λ e. rw (objective, bound, point, e) refl))

pub returns-in_err-next-5-clause-values : goal.returns-in_err-next-5-clause-values
unfolding values_read
returns-in_err-next-5-clause-values c =
    let columns = sym (length-map c.columns-columns.result.now plain_column) ∙ ap length c.columns-columns.ensures in
    let objective = line_read (λ x. x) (fraction_line (codes "OBJECTIVE")) 5 _ _ _ c.read_fraction.result c.at_line.result _ c.in_ok-next.ensures (tells _ _ c.read_fraction.ensures) c.at_line.ensures c.in_ok-objective.was in
    let bound = line_read (λ x. x) (fraction_line (codes "BOUND")) 6 _ _ _ c.read_fraction-2.result c.at_line-2.result _ c.in_ok-next-2.ensures (tells _ _ c.read_fraction-2.ensures) c.at_line-2.ensures c.in_ok-bound.was in
    let point = line_read (option_map plain_point) (point_line (length c.args.deck.now.columns)) 7 _ _ _ c.read_point.result c.at_line-3.result _ c.in_ok-next-3.ensures (rw columns at c.read_point.ensures) c.at_line-3.ensures c.in_ok-point.was in
    let ray = line_read (option_map plain_ray) (ray_line (length c.args.deck.now.columns)) 8 _ _ _ c.read_ray.result c.at_line-4.result _ c.in_ok-next-4.ensures (rw columns at c.read_ray.ensures) c.at_line-4.ensures c.in_ok-ray.was in
    reads_fails _ c.in_err-next-5.field-0.0 _ _ c.from_residual-in_err-next-5.ensures.1 (rw (objective, bound, point, ray, line_missing nodes_line 9 _ c.in_err-next-5.field-0.0 c.in_err-next-5.ensures) refl)

pub returns-in_err-nodes-clause-values : goal.returns-in_err-nodes-clause-values
unfolding values_read
returns-in_err-nodes-clause-values c =
    let columns = sym (length-map c.columns-columns.result.now plain_column) ∙ ap length c.columns-columns.ensures in
    let objective = line_read (λ x. x) (fraction_line (codes "OBJECTIVE")) 5 _ _ _ c.read_fraction.result c.at_line.result _ c.in_ok-next.ensures (tells _ _ c.read_fraction.ensures) c.at_line.ensures c.in_ok-objective.was in
    let bound = line_read (λ x. x) (fraction_line (codes "BOUND")) 6 _ _ _ c.read_fraction-2.result c.at_line-2.result _ c.in_ok-next-2.ensures (tells _ _ c.read_fraction-2.ensures) c.at_line-2.ensures c.in_ok-bound.was in
    let point = line_read (option_map plain_point) (point_line (length c.args.deck.now.columns)) 7 _ _ _ c.read_point.result c.at_line-3.result _ c.in_ok-next-3.ensures (rw columns at c.read_point.ensures) c.at_line-3.ensures c.in_ok-point.was in
    let ray = line_read (option_map plain_ray) (ray_line (length c.args.deck.now.columns)) 8 _ _ _ c.read_ray.result c.at_line-4.result _ c.in_ok-next-4.ensures (rw columns at c.read_ray.ensures) c.at_line-4.ensures c.in_ok-ray.was in
    hands_on_at _ c.in_err-nodes.field-0.0 _ _ c.from_residual-in_err-nodes.ensures.1
    (for_whole (line_broken (λ x. x) nodes_line 9 _ _ _ c.read_count.result c.at_line-5.result _ c.in_ok-next-5.ensures (tells _ _ c.read_count.ensures.value) c.at_line-5.ensures c.in_err-nodes.was) (λ e. rw (objective, bound, point, ray, e) refl))

pub returns-clause-values : goal.returns-clause-values
unfolding values_read
returns-clause-values c =
    let columns = sym (length-map c.columns-columns.result.now plain_column) ∙ ap length c.columns-columns.ensures in
    let objective = line_read (λ x. x) (fraction_line (codes "OBJECTIVE")) 5 _ _ _ c.read_fraction.result c.at_line.result _ c.in_ok-next.ensures (tells _ _ c.read_fraction.ensures) c.at_line.ensures c.in_ok-objective.was in
    let bound = line_read (λ x. x) (fraction_line (codes "BOUND")) 6 _ _ _ c.read_fraction-2.result c.at_line-2.result _ c.in_ok-next-2.ensures (tells _ _ c.read_fraction-2.ensures) c.at_line-2.ensures c.in_ok-bound.was in
    let point = line_read (option_map plain_point) (point_line (length c.args.deck.now.columns)) 7 _ _ _ c.read_point.result c.at_line-3.result _ c.in_ok-next-3.ensures (rw columns at c.read_point.ensures) c.at_line-3.ensures c.in_ok-point.was in
    let ray = line_read (option_map plain_ray) (ray_line (length c.args.deck.now.columns)) 8 _ _ _ c.read_ray.result c.at_line-4.result _ c.in_ok-next-4.ensures (rw columns at c.read_ray.ensures) c.at_line-4.ensures c.in_ok-ray.was in
    let nodes = line_read (λ x. x) nodes_line 9 _ _ _ c.read_count.result c.at_line-5.result _ c.in_ok-next-5.ensures (tells _ _ c.read_count.ensures.value) c.at_line-5.ensures c.in_ok-nodes.was in
    rw (objective, bound, point, ray, nodes) refl

pub returns-clause-within : goal.returns-clause-within
returns-clause-within c =
    let is = said_ok _ c.read_count.result c.at_line-5.result _ c.at_line-5.ensures c.in_ok-nodes.was in
    rw is at c.read_count.ensures.within
