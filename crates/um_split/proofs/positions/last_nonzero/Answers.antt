use Rattle.std.proofs.Common.{◌+◌, ◌<◌, length, pos, arith, refl}
use Rattle.std.proofs.lemmas.Bool.{false≢true}
use Rattle.um_model.specs.declared.deck.Member.{Member}
use Rattle.um_point.proofs.SetRules.{nonzero_at, zeros_more}
use Rattle.um_split.proofs.positions.last_nonzero.Goals.{then-is_nonzero, else-is_nonzero}
use Rattle.um_split.proofs.positions.last_nonzero.Goals as goal

pub loop-position-preserved : goal.loop-position-preserved
loop-position-preserved c =
    let inside : c.loop-position.position < length c.args.members.now = omega (arith, c.requires.stretch.inside, c.loop-position-test.true) in
    let d : Member = record { column = 0; weight = pos 0 } in
    elim c.if-is_nonzero.branch [
      | then-is_nonzero w ↦ record {
        nonzero = rw w.last-is (nonzero_at c.args.parts.now c.args.members.now c.loop-position.position d inside (w.if-is_nonzero.ensures.0 refl));
        behind = λ k h q. absurd (omega (arith, h, q, w.last-is));
        order = omega (arith, w.last-is, c.loop-position.auto.position);
        inside = omega (arith, w.last-is, inside);
      }
      | else-is_nonzero w ↦ record {
        nonzero = rw w.last-is c.loop-position.invariant.nonzero;
        behind = λ k h q.
            zeros_more c.args.parts.now c.args.members.now c.loop-position.position d inside (c.loop-position.last + 1) (λ n s r. c.loop-position.invariant.behind n (omega (arith, s)) r)
            (λ there. false≢true (w.if-is_nonzero.ensures.1 there)) k (omega (arith, h, w.last-is)) q;
        order = omega (arith, w.last-is, c.loop-position.invariant.order);
        inside = omega (arith, w.last-is, c.loop-position.invariant.inside);
      }
    ]
