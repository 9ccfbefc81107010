use Rattle.std.proofs.Common.{refl, sym, ◌<◌, length, arith}
use Rattle.std.proofs.lemmas.Bool.{false≢true}
use Rattle.um_model.specs.Values.{plain_point}
use Rattle.um_model.specs.Feasible.{SetHolds}
use Rattle.um_point.proofs.PlaceLemmas.{holds_more, first_failure, not_all}
use Rattle.um_split.proofs.branching.broken_set.Goals as goal

pub returns-in-Some-clause-none : goal.returns-in-Some-clause-none
returns-in-Some-clause-none c =
    let inside : c.loop-set.set < length c.args.deck.now.sets = omega (arith, c.loop-set-test.true, c.set_count-set-end.ensures) in (
      λ h. absurd (false≢true (sym h)),
      λ all. absurd (not_all (SetHolds (plain_point c.args.point.now)) c.args.deck.now.sets c.loop-set.set inside (λ h. false≢true (sym (c.in-Some.ensures.holds.1 h))) all),
    )

pub returns-in-Some-clause-branch : goal.returns-in-Some-clause-branch
returns-in-Some-clause-branch c =
    let inside : c.loop-set.set < length c.args.deck.now.sets = omega (arith, c.loop-set-test.true, c.set_count-set-end.ensures) in
    record {
      set = c.loop-set.set;
      first = first_failure (SetHolds (plain_point c.args.point.now)) c.args.deck.now.sets c.loop-set.set inside c.loop-set.invariant (λ h. false≢true (sym (c.in-Some.ensures.holds.1 h)));
      split = c.in-Some.ensures.split;
    }

pub loop-set-preserved : goal.loop-set-preserved
loop-set-preserved c = holds_more (SetHolds (plain_point c.args.point.now)) c.args.deck.now.sets c.loop-set.set c.loop-set.invariant (c.in_default.ensures.holds.0 refl)
