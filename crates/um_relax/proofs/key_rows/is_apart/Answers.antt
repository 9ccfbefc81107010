use Rattle.std.proofs.Common.{arith, refl}
use Rattle.std.specs.Prelude.{Contains}
use Rattle.um_model.specs.declared.deck.Entry.{Entry}
use Rattle.um_relax.proofs.KeyParts.{refused, is_not, more_at, not_at}
use Rattle.um_relax.proofs.key_rows.is_apart.Goals as goal

pub returns-then-is_listed : goal.returns-then-is_listed
returns-then-is_listed c =
    refused (not_at (λ (e : Entry). ¬ Contains c.args.keys.now e.row) c.args.entries.now c.loop-entry.entry-index _ c.loop-entry-test.true (λ apart. apart (c.if-is_listed.ensures.0 refl)))

pub loop-entry-preserved : goal.loop-entry-preserved
loop-entry-preserved c = more_at (λ (e : Entry). ¬ Contains c.args.keys.now e.row) c.args.entries.now c.loop-entry.entry-index _ c.loop-entry-test.true (is_not c.if-is_listed.ensures) c.loop-entry.invariant

pub returns : goal.returns
returns c = (λ h k d l. c.loop-entry.invariant k d (omega (arith, c.loop-entry-test.false)), λ h. refl)
