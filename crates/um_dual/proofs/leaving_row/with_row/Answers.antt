use Rattle.std.proofs.Common.{inr, subst, ℕ}
use Rattle.um_dual.specs.Choices.{IsThereBefore}
use Rattle.um_dual.proofs.Firsts.{leaves_same}
use Rattle.um_dual.proofs.leaving_row.with_row.Goals as goal

pub returns-then-comes_before-clause-first : goal.returns-then-comes_before-clause-first
returns-then-comes_before-clause-first g c =
    leaves_same (g.B.Board.state c.args.board.now) c.args.row c.args.first c.requires.first
    (inr (subst (λ (n : ℕ). IsThereBefore c.args.first n) c.basic-column.ensures (c.comes_before.ensures.0 c.if-comes_before.true)))
