use Rattle.um_relax.proofs.SmallNumbers.{thousand_small}
use Rattle.std.proofs.Common.{sym, subst}
use Rattle.um_num.specs.Sizes.{IsSmall}
use Rattle.um_lp.proofs.RefusedReads.{refused_at, quotient_fits, value_small}
use Rattle.um_relax.proofs.Readings.{not_zero_thousand, natural_is}
use Rattle.um_relax.proofs.point.natural_value.Goals as goal

pub div-requires : goal.div-requires
div-requires g c = not_zero_thousand c.new.result c.new.ensures

pub returns-clause-value : goal.returns-clause-value
returns-clause-value g c = natural_is c.div.result c.in_ok-value.value _ c.new.result c.new.ensures c.in_ok-value.ensures.value c.div.ensures.value

pub returns-clause-wide : goal.returns-clause-wide
returns-clause-wide g c =
    let s = g.B.Board.state c.args.board.now in
    let board = g.met.B.Board.belongs c.args.board.now in
    refused_at s c.div.result c.div.ensures.refused
    (λ h. c.div.ensures.taken (quotient_fits c.in_ok-value.value c.new.result
    (subst IsSmall (sym c.in_ok-value.ensures.value) (value_small s c.args.column board c.requires h))
    (thousand_small c.new.result c.new.ensures)))
