use Rattle.std.proofs.Common.{Option, subst}
use Rattle.um_laws.specs.Rational.{Rational}
use Rattle.um_dual.specs.Choices.{IsRatio}
use Rattle.um_dual.proofs.Firsts.{enters_same, enters_next}
use Rattle.um_dual.proofs.entering_column.with_column.Goals as goal

pub returns-in-Some-clause-first : goal.returns-in-Some-clause-first
returns-in-Some-clause-first g c =
    let s = g.B.Board.state c.args.board.now in
    let found = subst (λ (r : Option Rational). IsRatio s c.args.row c.args.to c.args.column r) c.in-Some.is c.in_ok-ratio.ensures.ratio in
    enters_next s c.args.row c.args.to c.args.column c.in-Some.ratio c.args.first c.earlier.result c.requires.first found.0 found.1 c.earlier.ensures

pub returns-in-None-clause-first : goal.returns-in-None-clause-first
returns-in-None-clause-first g c =
    let s = g.B.Board.state c.args.board.now in
    enters_same s c.args.row c.args.to c.args.column c.args.first c.requires.first
    (subst (λ (r : Option Rational). IsRatio s c.args.row c.args.to c.args.column r) c.in-None.is c.in_ok-ratio.ensures.ratio)
