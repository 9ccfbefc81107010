use Rattle.std.proofs.Common.{◌^◌, ◌<◌, length, sym, ◌∙◌, arith}
use Rattle.std.specs.Prelude.{pos}
use Rattle.std.proofs.lemmas.Int.{ints}
use Rattle.um_deck.proofs.BoundedSums.{one_more}
use Rattle.um_model.specs.declared.deck.Member.{Member}
use Rattle.um_point.specs.MemberParts.{parts_of}
use Rattle.um_point.proofs.SetRules.{same_length}
use Rattle.um_split.proofs.MemberSums.{sum-before, sum-behind, sum-same_factor, sum-more}
use Rattle.um_split.proofs.averages.average_of.Goals as goal

pub loop-position-init : goal.loop-position-init
loop-position-init c =
    let xs = parts_of c.args.parts.now c.args.members.now in record {
      weighted = record { value = sym (sum-before (λ (m : Member). m.weight) c.args.members.now xs c.args.start c.requires.before); size = omega arith };
      total = record { value = sym (sum-before (λ (m : Member). pos 1) c.args.members.now xs c.args.start c.requires.before); size = omega arith };
    }

pub loop-position-preserved : goal.loop-position-preserved
loop-position-preserved c =
    let members = c.args.members.now in
    let few = c.requires.few in
    let end = c.requires.inside in
    let i = c.loop-position.position in
    let l : i < length members = omega (arith, end, c.loop-position-test.true) in
    let d : Member = record { column = 0; weight = pos 0 } in
    record {
      weighted = one_more 4096 (2 ^ 87) (omega arith) _ _ i _ c.weighted_part-weighted.result (omega (arith, few, l)) c.loop-position.invariant.weighted
          (sum-more (λ (m : Member). m.weight) members c.args.parts.now i d c.weighted_part-weighted.result l c.weighted_part-weighted.ensures.value) c.weighted_part-weighted.ensures.size;
      total = one_more 4096 (2 ^ 36) (omega arith) _ _ i _ c.part_of-total.result (omega (arith, few, l)) c.loop-position.invariant.total
          (sum-more (λ (m : Member). pos 1) members c.args.parts.now i d c.part_of-total.result l (omega (arith, ints, c.part_of-total.ensures.value))) c.part_of-total.ensures.size;
    }

pub returns-clause-weighted : goal.returns-clause-weighted
returns-clause-weighted c =
    c.loop-position.invariant.weighted.value
    ∙ sum-behind (λ (m : Member). m.weight) c.args.members.now (parts_of c.args.parts.now c.args.members.now) c.loop-position.position (λ k le. c.requires.behind k (omega (arith, le, c.loop-position-test.false)))

pub returns-clause-total : goal.returns-clause-total
returns-clause-total c =
    let members = c.args.members.now in
    let xs = parts_of c.args.parts.now members in
    let sum = c.loop-position.invariant.total.value
    ∙ sum-behind (λ (m : Member). pos 1) members xs c.loop-position.position (λ k le. c.requires.behind k (omega (arith, le, c.loop-position-test.false)))
    ∙ sum-same_factor (pos 1) members xs (same_length c.args.parts.now members) in
    omega (arith, ints, sum)

pub returns-clause-total_size : goal.returns-clause-total_size
returns-clause-total_size c = omega (arith, c.loop-position.invariant.total.size, c.requires.order, c.requires.inside, c.requires.few)
